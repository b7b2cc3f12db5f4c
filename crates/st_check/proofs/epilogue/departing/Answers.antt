use Rattle.std.proofs.Common.{◌∙◌, sym, arith}
use Rattle.std.specs.Prelude.{neg_ℤ}
use Rattle.st_check.proofs.Epilogues.{departing-ends}
use Rattle.st_check.proofs.epilogue.departing.Goals as goal

pub returns-then-k-lines : goal.returns-then-k-lines
returns-then-k-lines c =
    sym (c.loop-k.invariant ∙ departing-ends (neg_ℤ c.args.first.now.imm) c.loop-k.last c.args.form.now c.args.lines.now c.loop-k.k (omega arith) (omega arith))
