use Rattle.std.proofs.Common.{◌≡◌, sym, subst, arith, ◌<◌, ◌≤◌}
use Rattle.std.specs.Prelude.{◌%◌}
use Rattle.st_words.specs.Made.{Asked}
use Rattle.st_words.specs.Steps.{Look}
use Rattle.st_stack.specs.FrameLaw.{FrameLaw}
use Rattle.st_stack.proofs.Laws.{limit_of_lowest, taken_keeps, done_keeps}
use Rattle.st_stack.proofs.Frames.{places}
use Rattle.st_stack.proofs.stack.PhysStack.shrink_step.Goals as goal

pub return_place-requires : goal.return_place-requires
return_place-requires g c =
    let f = c.in-Some.f in
    let on = c.in-Some.ensures.on f c.in-Some.ensures.some.there in
    let from : c.args.self.now.lo ≤ f.low = on.from in
    let some : f.low < f.base = on.some in
    let even : f.low % 16 ≡ 0 = on.low_even in
    let base : f.base % 16 ≡ 0 = on.base_even in
    let to : f.base ≤ c.args.self.now.hi = on.to in
    places c.args.w c.args.self.now.lo c.args.self.now.hi c.requires.stack c.in-Some.ensures.range f.low f.base from some even base to

pub look-requires : goal.look-requires
look-requires g c =
    let b = c.args.board.now in
    let f = c.in-Some.f in
    let on = c.in-Some.ensures.on f c.in-Some.ensures.some.there in
    record {
      may = subst (λ p. Asked g.B.Board.view g.B.Board.serves g.B.Board.says g.B.Board.forward g.B.Board.moves g.N.NamesView.after b c.args.w (Look p)) (sym c.return_place.ensures) (c.requires.may f c.in-Some.ensures.some on);
    }

pub returns-then-look-eq0-clause-law : goal.returns-then-look-eq0-clause-law
returns-then-look-eq0-clause-law g c =
    let s = c.args.self.now in
    λ is_zero live own law top f lowest less zero.
    let on = c.in-Some.ensures.on f lowest.there in
    let some : f.low < f.base = on.some in
    let to : f.base ≤ s.hi = on.to in
    let low : c.args.sp ≤ f.low = law.limit f.low (limit_of_lowest s.hi s.exported f lowest) in
    taken_keeps is_zero s.hi c.args.sp s.exported _ live own f (omega arith) some lowest less zero law

pub returns-clause-law : goal.returns-clause-law
returns-clause-law g c =
    let s = c.args.self.now in
    λ is_zero live own law top.
    subst (λ n. FrameLaw is_zero s.hi n s.exported live own × (c.args.sp ≤ n)) (sym c.lesser.ensures) (done_keeps is_zero s.hi c.args.sp c.limit.result s.exported live own c.args.top c.limit.ensures top law)
