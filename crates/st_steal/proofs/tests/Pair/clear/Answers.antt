use Rattle.std.proofs.Common.{refl, sym, arith, true, false}
use Rattle.st_words.specs.Plain.{Exact, view_at}
use Rattle.st_steal.proofs.Trying.{answerer_is, asks_clear, clear_has, request_leaves, asker_stays}
use Rattle.st_steal.proofs.tests.Pair.clear.Goals as goal

pub clear-requires : goal.clear-requires
clear-requires c =
    let s = c.args.self.now in
    let v = view_at s.board.kept.views 0 in
    let u = view_at s.board.kept.views 1 in
    record { may = record { serves = s.serves; may = asks_clear (Exact s.board.words s.board.kept.cargoes 1) u s.answerer.put (answerer_is u s.answerer.begun s.answerer.put s.answerer.told s.answerer.ended true s.answerer.put true false c.requires.begun refl c.requires.told c.requires.ended s.answerer_has) } }

pub invariant_of-self : goal.invariant_of-self
invariant_of-self c =
    let s = c.args.self.now in
    let v = view_at s.board.kept.views 0 in
    let u = view_at s.board.kept.views 1 in
    let b = c.clear.new.board in
    let v2 = view_at b.kept.views 0 in
    let u2 = view_at b.kept.views 1 in
    let made = c.clear.ensures.made.1 in
    let others = made.others 0 (λ e. omega (arith, e)) (omega (arith, s.serves)) in
    record {
      serves = made.serves;
      asker_has = asker_stays v v2 s.asker.asks s.asker.quiet s.asker.given s.asker.taken others.1 s.asker_has;
      answerer_has = answerer_is u2 false s.answerer.put true true false s.answerer.put s.answerer.told true refl refl (sym c.requires.told) refl (clear_has u u2 true s.answerer.put true c.clear.ensures.made.0 (answerer_is u s.answerer.begun s.answerer.put s.answerer.told s.answerer.ended true s.answerer.put true false c.requires.begun refl c.requires.told c.requires.ended s.answerer_has) made.view);
      mail_has = request_leaves s.board.words b.words 1 1 32 0 c.clear.ensures.made.0 s.full made.did.words s.mail_has;
    }
