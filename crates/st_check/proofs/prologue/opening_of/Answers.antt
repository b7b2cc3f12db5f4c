use Rattle.std.proofs.Common.{◌≡◌, ◌∙◌, sym, Some, arith}
use Rattle.std.specs.Prelude.{neg_ℤ}
use Rattle.st_check.specs.Shape.{frame_of}
use Rattle.st_check.proofs.Prologues.{opening_of-read}
use Rattle.st_check.proofs.prologue.opening_of.Goals as goal

pub returns-in_ok-opening-in-Some-clause-value : goal.returns-in_ok-opening-in-Some-clause-value
returns-in_ok-opening-in-Some-clause-value c =
    let frame : frame_of c.index-items-0.result.ins ≡ Some (neg_ℤ c.in-Some.first.now.imm) = c.in-Some.ensures in
    c.in_ok-opening-in-Some.ensures.value c.index-items-0.result.line ∙ sym (opening_of-read c.args.label c.args.items.now c.index-items-0.result _ (omega arith) c.index-items-0.is frame)
