use Rattle.std.proofs.Common.{refl, sym, arith, false}
use Rattle.st_words.specs.Plain.{Exact, view_at}
use Rattle.st_steal.proofs.Trying.{answerer_is, asks_begin, begin_has, request_leaves, asker_stays}
use Rattle.st_steal.proofs.tests.Pair.begin.Goals as goal

pub begin_answer-answer-requires : goal.begin_answer-answer-requires
begin_answer-answer-requires c =
    let s = c.args.self.now in
    let v = view_at s.board.kept.views 0 in
    let u = view_at s.board.kept.views 1 in
    record { may = record { serves = s.serves; may = asks_begin (Exact s.board.words s.board.kept.cargoes 1) u s.answerer.put s.answerer.told (answerer_is u s.answerer.begun s.answerer.put s.answerer.told s.answerer.ended false s.answerer.put s.answerer.told false c.requires.begun refl refl c.requires.ended s.answerer_has) } }

pub invariant_of-self : goal.invariant_of-self
invariant_of-self c =
    let s = c.args.self.now in
    let v = view_at s.board.kept.views 0 in
    let u = view_at s.board.kept.views 1 in
    let b = c.begin_answer-answer.new.board in
    let v2 = view_at b.kept.views 0 in
    let u2 = view_at b.kept.views 1 in
    let made = c.begin_answer-answer.ensures.made.1 in
    let others = made.others 0 (λ e. omega (arith, e)) (omega (arith, s.serves)) in
    record {
      serves = made.serves;
      asker_has = asker_stays v v2 s.asker.asks s.asker.quiet s.asker.given s.asker.taken others.1 s.asker_has;
      answerer_has = answerer_is u2 _ false false false _ false false false (sym c.is_ok-begun.ensures.value) refl refl refl (begin_has u u2 s.answerer.put s.answerer.told c.begin_answer-answer.ensures.made.0 c.begin_answer-answer.result (answerer_is u s.answerer.begun s.answerer.put s.answerer.told s.answerer.ended false s.answerer.put s.answerer.told false c.requires.begun refl refl c.requires.ended s.answerer_has) c.begin_answer-answer.ensures.made.2 made.view);
      mail_has = request_leaves s.board.words b.words 1 1 1 32 c.begin_answer-answer.ensures.made.0 s.full made.did.words s.mail_has;
    }
