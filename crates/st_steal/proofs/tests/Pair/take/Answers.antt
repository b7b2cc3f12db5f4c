use Rattle.std.proofs.Common.{refl, arith, true, false}
use Rattle.st_words.specs.Plain.{Exact, view_at}
use Rattle.st_steal.proofs.Trying.{asker_is, mail_is, asks_take, is_there, take_has, take_leaves, answerer_stays}
use Rattle.st_steal.proofs.tests.Pair.take.Goals as goal

pub take_mail-chain-requires : goal.take_mail-chain-requires
take_mail-chain-requires c =
    let s = c.args.self.now in
    let v = view_at s.board.kept.views 0 in
    let u = view_at s.board.kept.views 1 in
    record { may = record { serves = omega (arith, s.serves); may = asks_take (Exact s.board.words s.board.kept.cargoes 0) v s.asker.asks s.asker.quiet (asker_is v s.asker.asks s.asker.quiet s.asker.given s.asker.taken s.asker.asks s.asker.quiet true false refl refl c.requires.given c.requires.taken s.asker_has) }; there = is_there s.board.words s.board.kept.cargoes (mail_is s.board.words s.full true c.requires.full s.mail_has) }

pub invariant_of-self : goal.invariant_of-self
invariant_of-self c =
    let s = c.args.self.now in
    let v = view_at s.board.kept.views 0 in
    let u = view_at s.board.kept.views 1 in
    let b = c.take_mail-chain.new.board in
    let v2 = view_at b.kept.views 0 in
    let u2 = view_at b.kept.views 1 in
    let made = c.take_mail-chain.ensures.told.1 in
    let others = made.others 1 (λ e. omega (arith, e)) (s.serves) in
    record {
      serves = others.0;
      asker_has = take_has v v2 s.asker.asks s.asker.quiet c.take_mail-chain.result c.take_mail-chain.ensures.told.0 (asker_is v s.asker.asks s.asker.quiet s.asker.given s.asker.taken s.asker.asks s.asker.quiet true false refl refl c.requires.given c.requires.taken s.asker_has) made.view;
      answerer_has = answerer_stays u u2 s.answerer.begun s.answerer.put s.answerer.told s.answerer.ended others.1 s.answerer_has;
      mail_has = take_leaves s.board.words b.words 0 _ s.full made.did.words s.mail_has;
    }
