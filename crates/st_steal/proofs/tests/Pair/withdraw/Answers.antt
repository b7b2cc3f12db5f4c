use Rattle.std.proofs.Common.{refl, sym, arith, true}
use Rattle.st_words.specs.Plain.{Exact, view_at}
use Rattle.st_steal.proofs.Trying.{asker_is, asks_withdraw, withdraw_has, request_leaves, answerer_stays}
use Rattle.st_steal.proofs.tests.Pair.withdraw.Goals as goal

pub withdraw-answer-requires : goal.withdraw-answer-requires
withdraw-answer-requires c =
    let s = c.args.self.now in
    let v = view_at s.board.kept.views 0 in
    let u = view_at s.board.kept.views 1 in
    record { may = record { serves = omega (arith, s.serves); may = asks_withdraw (Exact s.board.words s.board.kept.cargoes 0) v s.asker.quiet s.asker.given s.asker.taken (asker_is v s.asker.asks s.asker.quiet s.asker.given s.asker.taken true s.asker.quiet s.asker.given s.asker.taken c.requires refl refl refl s.asker_has) } }

pub invariant_of-self : goal.invariant_of-self
invariant_of-self c =
    let s = c.args.self.now in
    let v = view_at s.board.kept.views 0 in
    let u = view_at s.board.kept.views 1 in
    let b = c.withdraw-answer.new.board in
    let v2 = view_at b.kept.views 0 in
    let u2 = view_at b.kept.views 1 in
    let made = c.withdraw-answer.ensures.made.1 in
    let others = made.others 1 (λ e. omega (arith, e)) (s.serves) in
    record {
      serves = others.0;
      asker_has = asker_is v2 _ s.asker.quiet s.asker.given s.asker.taken _ s.asker.quiet s.asker.given s.asker.taken (sym c.is_err-self.ensures.value) refl refl refl (withdraw_has v v2 s.asker.quiet s.asker.given s.asker.taken c.withdraw-answer.ensures.made.0 c.withdraw-answer.result (asker_is v s.asker.asks s.asker.quiet s.asker.given s.asker.taken true s.asker.quiet s.asker.given s.asker.taken c.requires refl refl refl s.asker_has) c.withdraw-answer.ensures.made.2 made.view);
      answerer_has = answerer_stays u u2 s.answerer.begun s.answerer.put s.answerer.told s.answerer.ended others.1 s.answerer_has;
      mail_has = request_leaves s.board.words b.words 0 1 1 0 c.withdraw-answer.ensures.made.0 s.full made.did.words s.mail_has;
    }
