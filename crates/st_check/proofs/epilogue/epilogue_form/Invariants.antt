use Rattle.std.proofs.Common.{◌≡◌, ◌++◌, drop}
use Rattle.std.specs.Prelude.{neg_ℤ}
use Rattle.st_check.specs.Shape.{restores}
use Rattle.st_check.specs.Views.{tests_of}
use Rattle.st_check.proofs.Epilogues.{pops_before}
use Rattle.st_check.proofs.epilogue.epilogue_form.Given as goal

abbrev pub invariant-loop-k : goal.invariant-loop-k
invariant-loop-k l = tests_of (neg_ℤ l.first.imm) l.form.items ++ restores (neg_ℤ l.first.imm) l.k (drop l.k l.saved) ≡ pops_before (neg_ℤ l.first.imm) (restores (neg_ℤ l.first.imm) 0 l.saved)
