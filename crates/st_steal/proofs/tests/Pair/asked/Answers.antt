use Rattle.std.proofs.Common.{arith}
use Rattle.st_words.specs.Plain.{Exact, view_at}
use Rattle.st_steal.proofs.Trying.{asks_asked, asked_has, asked_leaves, asker_stays}
use Rattle.st_steal.proofs.tests.Pair.asked.Goals as goal

pub asked-requires : goal.asked-requires
asked-requires c =
    let s = c.args.self.now in
    let v = view_at s.board.kept.views 0 in
    let u = view_at s.board.kept.views 1 in
    record { may = record { serves = s.serves; may = asks_asked (Exact s.board.words s.board.kept.cargoes 1) u s.answerer.begun s.answerer.put s.answerer.told s.answerer.ended s.answerer_has } }

pub invariant_of-self : goal.invariant_of-self
invariant_of-self c =
    let s = c.args.self.now in
    let v = view_at s.board.kept.views 0 in
    let u = view_at s.board.kept.views 1 in
    let b = c.asked.new.board in
    let v2 = view_at b.kept.views 0 in
    let u2 = view_at b.kept.views 1 in
    let made = c.asked.ensures.made.1 in
    let others = made.others 0 (λ e. omega (arith, e)) (omega (arith, s.serves)) in
    record {
      serves = made.serves;
      asker_has = asker_stays v v2 s.asker.asks s.asker.quiet s.asker.given s.asker.taken others.1 s.asker_has;
      answerer_has = asked_has u u2 s.answerer.begun s.answerer.put s.answerer.told s.answerer.ended c.asked.ensures.made.0 s.answerer_has made.view;
      mail_has = asked_leaves s.board.words b.words 1 1 c.asked.ensures.made.0 s.full made.did.words s.mail_has;
    }
