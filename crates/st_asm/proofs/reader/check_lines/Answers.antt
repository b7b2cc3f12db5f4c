use Rattle.std.proofs.Common.{◌∙◌, sym, ◌<◌, length, arith}
use Rattle.st_asm.specs.Reading.{seen}
use Rattle.st_asm.proofs.LineSteps.{checked_lines-fails, checked_lines-goes_on, fails_along}
use Rattle.st_asm.proofs.reader.check_lines.Goals as goal

pub returns-in-Err : goal.returns-in-Err
returns-in-Err c = λ ds tells.
    let inside : c.loop-located.located-index < length c.args.lines.now = omega arith in
    fails_along _ _ _ (c.loop-located.invariant.rest ds tells) (checked_lines-fails _ ds (seen c.loop-located.assembled) c.args.lines.now c.loop-located.located-index _ inside (c.in-Err.ensures.made ds tells))

pub loop-located-preserved : goal.loop-located-preserved
loop-located-preserved c = record {
  rest = λ ds tells.
      let inside : c.loop-located.located-index < length c.args.lines.now = omega arith in
      sym (checked_lines-goes_on ds (seen c.loop-located.assembled) _ c.args.lines.now c.loop-located.located-index _ inside (c.in-Ok.ensures.made ds tells)) ∙ c.loop-located.invariant.rest ds tells;
  small = c.in-Ok.ensures.small;
}
