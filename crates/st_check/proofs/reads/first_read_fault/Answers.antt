use Rattle.std.proofs.Common.{subst}
use Rattle.std.specs.Prelude.{IfSome, IfNone}
use Rattle.st_model.specs.Flow.{UndefinedRead}
use Rattle.st_check.specs.Reads.{IsToldOf}
use Rattle.st_check.proofs.ReadFaults.{below-more, below-end, function-at}
use Rattle.st_check.proofs.reads.first_read_fault.Goals as goal

pub read_fault-requires : goal.read_fault-requires
read_fault-requires c =
    c.requires c.loop-function.function-index c.function-item.result (function-at c.args.program.now.functions _ c.loop-function.function-index c.function-item.result c.as_slice-functions.ensures c.loop-function-test.true c.function-item.is)

pub returns-in-Some-clause-told : goal.returns-in-Some-clause-told
returns-in-Some-clause-told c = record {
  f = c.loop-function.function-index;
  function = c.function-item.result;
  there = function-at c.args.program.now.functions _ c.loop-function.function-index c.function-item.result c.as_slice-functions.ensures c.loop-function-test.true c.function-item.is;
  below = c.loop-function.invariant;
  told = subst (λ o. IfSome o (IsToldOf c.args.program.now c.function-item.result)) c.in-Some.is c.in_ok-fault.ensures.told;
}

pub loop-function-preserved : goal.loop-function-preserved
loop-function-preserved c =
    below-more c.args.program.now c.loop-function.function-index c.function-item.result
    (function-at c.args.program.now.functions _ c.loop-function.function-index c.function-item.result c.as_slice-functions.ensures c.loop-function-test.true c.function-item.is)
    (subst (λ o. IfNone o (UndefinedRead c.args.program.now c.function-item.result → ⊥)) c.in_default.is c.in_ok-fault.ensures.none) c.loop-function.invariant

pub returns-clause-none : goal.returns-clause-none
returns-clause-none c = below-end c.args.program.now _ c.loop-function.function-index c.as_slice-functions.ensures c.loop-function-test.false c.loop-function.invariant
