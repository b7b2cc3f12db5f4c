use Rattle.std.proofs.Common.{refl, sym, arith, true, false}
use Rattle.st_words.specs.Plain.{Exact, view_at}
use Rattle.st_steal.proofs.Trying.{asker_is, asks_mail, mail_has, mail_leaves, answerer_stays}
use Rattle.st_steal.proofs.tests.Pair.read.Goals as goal

pub mail-found-requires : goal.mail-found-requires
mail-found-requires c =
    let s = c.args.self.now in
    let v = view_at s.board.kept.views 0 in
    let u = view_at s.board.kept.views 1 in
    record { may = record { serves = omega (arith, s.serves); may = asks_mail (Exact s.board.words s.board.kept.cargoes 0) v } }

pub invariant_of-self : goal.invariant_of-self
invariant_of-self c =
    let s = c.args.self.now in
    let v = view_at s.board.kept.views 0 in
    let u = view_at s.board.kept.views 1 in
    let b = c.mail-found.new.board in
    let v2 = view_at b.kept.views 0 in
    let u2 = view_at b.kept.views 1 in
    let made = c.mail-found.ensures.made.1 in
    let others = made.others 1 (λ e. omega (arith, e)) (s.serves) in
    record {
      serves = others.0;
      asker_has = asker_is v2 _ _ _ s.asker.taken _ _ _ s.asker.taken (sym c.waits_on-waits.ensures) (sym c.waits_on-waits.ensures) (sym c.gives-self.ensures) refl (mail_has v v2 s.asker.quiet s.asker.taken c.mail-found.ensures.made.0 c.mail-found.result (asker_is v s.asker.asks s.asker.quiet s.asker.given s.asker.taken true s.asker.quiet false s.asker.taken c.requires.asks refl c.requires.given refl s.asker_has) (s.mail_has.word c.mail-found.ensures.made.0 made.said) c.mail-found.ensures.made.2 made.view);
      answerer_has = answerer_stays u u2 s.answerer.begun s.answerer.put s.answerer.told s.answerer.ended others.1 s.answerer_has;
      mail_has = mail_leaves s.board.words b.words 0 c.mail-found.ensures.made.0 s.full made.did.words s.mail_has;
    }
