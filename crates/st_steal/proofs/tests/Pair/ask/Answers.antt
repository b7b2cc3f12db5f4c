use Rattle.std.proofs.Common.{refl, sym, arith, true, false}
use Rattle.st_words.specs.Plain.{Exact, view_at}
use Rattle.st_steal.proofs.Trying.{asker_is, asks_ask, ask_has, request_leaves, answerer_stays}
use Rattle.st_steal.proofs.tests.Pair.ask.Goals as goal

pub ask-answer-requires : goal.ask-answer-requires
ask-answer-requires c =
    let s = c.args.self.now in
    let v = view_at s.board.kept.views 0 in
    let u = view_at s.board.kept.views 1 in
    record { may = record { serves = omega (arith, s.serves); may = asks_ask (Exact s.board.words s.board.kept.cargoes 0) v s.asker.taken (asker_is v s.asker.asks s.asker.quiet s.asker.given s.asker.taken false true false s.asker.taken c.requires.asks c.requires.quiet c.requires.given refl s.asker_has) } }

pub invariant_of-self : goal.invariant_of-self
invariant_of-self c =
    let s = c.args.self.now in
    let v = view_at s.board.kept.views 0 in
    let u = view_at s.board.kept.views 1 in
    let b = c.ask-answer.new.board in
    let v2 = view_at b.kept.views 0 in
    let u2 = view_at b.kept.views 1 in
    let made = c.ask-answer.ensures.made.1 in
    let others = made.others 1 (λ e. omega (arith, e)) (s.serves) in
    record {
      serves = others.0;
      asker_has = asker_is v2 _ true false s.asker.taken _ s.asker.quiet s.asker.given s.asker.taken (sym c.is_ok-self.ensures.value) (sym c.requires.quiet) (sym c.requires.given) refl (ask_has v v2 s.asker.taken c.ask-answer.ensures.made.0 c.ask-answer.result (asker_is v s.asker.asks s.asker.quiet s.asker.given s.asker.taken false true false s.asker.taken c.requires.asks c.requires.quiet c.requires.given refl s.asker_has) c.ask-answer.ensures.made.2 made.view);
      answerer_has = answerer_stays u u2 s.answerer.begun s.answerer.put s.answerer.told s.answerer.ended others.1 s.answerer_has;
      mail_has = request_leaves s.board.words b.words 0 1 0 1 c.ask-answer.ensures.made.0 s.full made.did.words s.mail_has;
    }
