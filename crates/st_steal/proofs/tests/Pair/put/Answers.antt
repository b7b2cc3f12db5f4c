use Rattle.std.proofs.Common.{refl, sym, arith, true, false}
use Rattle.st_words.specs.Plain.{Exact, view_at}
use Rattle.st_steal.proofs.Trying.{answerer_is, asks_put, put_has, put_leaves, asker_stays}
use Rattle.st_steal.proofs.tests.Pair.put.Goals as goal

pub put_mail-requires : goal.put_mail-requires
put_mail-requires c =
    let s = c.args.self.now in
    let v = view_at s.board.kept.views 0 in
    let u = view_at s.board.kept.views 1 in
    record { may = record { serves = s.serves; may = asks_put (Exact s.board.words s.board.kept.cargoes 1) u c.chain.result c.chain.ensures (answerer_is u s.answerer.begun s.answerer.put s.answerer.told s.answerer.ended true false false false c.requires.begun c.requires.put c.requires.told c.requires.ended s.answerer_has) } }

pub invariant_of-self : goal.invariant_of-self
invariant_of-self c =
    let s = c.args.self.now in
    let v = view_at s.board.kept.views 0 in
    let u = view_at s.board.kept.views 1 in
    let b = c.put_mail.new.board in
    let v2 = view_at b.kept.views 0 in
    let u2 = view_at b.kept.views 1 in
    let made = c.put_mail.ensures.made in
    let others = made.others 0 (λ e. omega (arith, e)) (omega (arith, s.serves)) in
    record {
      serves = made.serves;
      asker_has = asker_stays v v2 s.asker.asks s.asker.quiet s.asker.given s.asker.taken others.1 s.asker_has;
      answerer_has = answerer_is u2 true true false false s.answerer.begun true s.answerer.told s.answerer.ended (sym c.requires.begun) refl (sym c.requires.told) (sym c.requires.ended) (put_has u u2 c.chain.result (answerer_is u s.answerer.begun s.answerer.put s.answerer.told s.answerer.ended true false false false c.requires.begun c.requires.put c.requires.told c.requires.ended s.answerer_has) made.view);
      mail_has = put_leaves s.board.words b.words 1 c.chain.result _ s.full made.did.words s.mail_has;
    }
