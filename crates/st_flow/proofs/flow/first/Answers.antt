use Rattle.std.proofs.Common.{arith}
use Rattle.st_flow.proofs.Hits.{passed_some, passed_none, first_all, none_all, bad_found}
use Rattle.st_flow.proofs.flow.first.Goals as goal
use Rattle.st_flow.proofs.flow.first.Goals.{in-Some, in_default}

pub loop-g-preserved : goal.loop-g-preserved
loop-g-preserved c =
    elim c.match-branch-2.branch [
      | in-Some w ↦
          passed_some c.args.program.now c.args.function.now c.loop-g.best c.match-branch-2.best c.in_ok-hit.field-0 c.loop-g.limit c.match-branch-2.limit c.loop-g.g w.in-Some.hit c.loop-g.invariant w.in-Some.is w.best-is w.limit-is c.in_ok-hit.ensures.bad c.in_ok-hit.ensures.first
      | in_default w ↦
          passed_none c.args.program.now c.args.function.now c.loop-g.best c.match-branch-2.best c.in_ok-hit.field-0 c.loop-g.limit c.match-branch-2.limit c.loop-g.g c.loop-g.invariant w.in_default.is w.best-is w.limit-is c.in_ok-hit.ensures.none
    ]

pub returns-clause-bad : goal.returns-clause-bad
returns-clause-bad c = bad_found c.args.program.now c.args.function.now c.loop-g.best c.loop-g.limit c.loop-g.invariant.bad

pub returns-clause-first : goal.returns-clause-first
returns-clause-first c =
    first_all c.args.program.now c.args.function.now c.loop-g.best c.loop-g.limit c.places_end.result c.loop-g.g c.requires.formed c.places_end.ensures.frame c.places_end.ensures.arguments (omega arith) c.loop-g.invariant.bad c.loop-g.invariant.passed

pub returns-clause-none : goal.returns-clause-none
returns-clause-none c =
    none_all c.args.program.now c.args.function.now c.loop-g.best c.loop-g.limit c.places_end.result c.loop-g.g c.requires.formed c.places_end.ensures.frame c.places_end.ensures.arguments (omega arith) c.loop-g.invariant.all c.loop-g.invariant.passed
