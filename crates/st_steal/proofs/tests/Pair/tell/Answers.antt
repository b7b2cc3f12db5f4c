use Rattle.std.proofs.Common.{refl, sym, arith, true, false}
use Rattle.st_words.specs.Plain.{Exact, view_at}
use Rattle.st_steal.proofs.Trying.{answerer_is, asks_tell, tell_has, tell_leaves, asker_stays}
use Rattle.st_steal.proofs.tests.Pair.tell.Goals as goal

pub tell_mail-requires : goal.tell_mail-requires
tell_mail-requires c =
    let s = c.args.self.now in
    let v = view_at s.board.kept.views 0 in
    let u = view_at s.board.kept.views 1 in
    record { may = record { serves = s.serves; may = asks_tell (Exact s.board.words s.board.kept.cargoes 1) u s.answerer.put (answerer_is u s.answerer.begun s.answerer.put s.answerer.told s.answerer.ended true s.answerer.put false false c.requires.begun refl c.requires.told c.requires.ended s.answerer_has) } }

pub invariant_of-self : goal.invariant_of-self
invariant_of-self c =
    let s = c.args.self.now in
    let v = view_at s.board.kept.views 0 in
    let u = view_at s.board.kept.views 1 in
    let b = c.tell_mail.new.board in
    let v2 = view_at b.kept.views 0 in
    let u2 = view_at b.kept.views 1 in
    let made = c.tell_mail.ensures.made in
    let others = made.others 0 (λ e. omega (arith, e)) (omega (arith, s.serves)) in
    record {
      serves = made.serves;
      asker_has = asker_stays v v2 s.asker.asks s.asker.quiet s.asker.given s.asker.taken others.1 s.asker_has;
      answerer_has = answerer_is u2 true s.answerer.put true false s.answerer.begun s.answerer.put true s.answerer.ended (sym c.requires.begun) refl refl (sym c.requires.ended) (tell_has u u2 s.answerer.put _ (answerer_is u s.answerer.begun s.answerer.put s.answerer.told s.answerer.ended true s.answerer.put false false c.requires.begun refl c.requires.told c.requires.ended s.answerer_has) made.view);
      mail_has = tell_leaves s.board.words b.words 1 s.answerer.put s.full made.did.words s.mail_has;
    }
