use Rattle.std.proofs.Common.{refl, sym, arith, true, false}
use Rattle.st_words.specs.Plain.{Exact, view_at}
use Rattle.st_steal.proofs.Trying.{asker_is, asks_set, set_has, set_leaves, answerer_stays}
use Rattle.st_steal.proofs.tests.Pair.set.Goals as goal

pub set_mail-requires : goal.set_mail-requires
set_mail-requires c =
    let s = c.args.self.now in
    let v = view_at s.board.kept.views 0 in
    let u = view_at s.board.kept.views 1 in
    record { may = record { serves = omega (arith, s.serves); may = asks_set (Exact s.board.words s.board.kept.cargoes 0) v s.asker.quiet s.asker.taken c.args.waiting (asker_is v s.asker.asks s.asker.quiet s.asker.given s.asker.taken false s.asker.quiet false s.asker.taken c.requires.asks refl c.requires.given refl s.asker_has) } }

pub invariant_of-self : goal.invariant_of-self
invariant_of-self c =
    let s = c.args.self.now in
    let v = view_at s.board.kept.views 0 in
    let u = view_at s.board.kept.views 1 in
    let b = c.set_mail.new.board in
    let v2 = view_at b.kept.views 0 in
    let u2 = view_at b.kept.views 1 in
    let made = c.set_mail.ensures.made in
    let others = made.others 1 (λ e. omega (arith, e)) (s.serves) in
    record {
      serves = others.0;
      asker_has = asker_is v2 false true false s.asker.taken s.asker.asks true s.asker.given s.asker.taken (sym c.requires.asks) refl (sym c.requires.given) refl (set_has v v2 s.asker.quiet s.asker.taken c.args.waiting (asker_is v s.asker.asks s.asker.quiet s.asker.given s.asker.taken false s.asker.quiet false s.asker.taken c.requires.asks refl c.requires.given refl s.asker_has) made.view);
      answerer_has = answerer_stays u u2 s.answerer.begun s.answerer.put s.answerer.told s.answerer.ended others.1 s.answerer_has;
      mail_has = set_leaves s.board.words b.words 0 c.args.waiting s.full made.did.words s.mail_has;
    }
