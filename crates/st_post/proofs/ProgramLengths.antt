-- A unit's program has as many functions as the unit (same_length).
use Rattle.std.proofs.Common.{◌≡◌, ◌∙◌, ap, List, length}
use Rattle.std.proofs.lemmas.List.{length-map}
use Rattle.std.proofs.Math.Logic.{∥∥₁_elim}
use Rattle.std.proofs.Math.Nat.{ℕ_set}
use Rattle.st_asm.specs.declared.unit.Function.{Function}
use Rattle.st_model.specs.declared.program.Program.{Program}
use Rattle.st_check.specs.Programs.{program_function, program_of}

length-program_of : (functions : List Function) → length (program_of functions).functions ≡ length functions
unfolding program_of
length-program_of functions = length-map functions (program_function functions)

pub same_length : (functions : List Function) (p : Program) → ∥ p ≡ program_of functions ∥₁ → length p.functions ≡ length functions
same_length functions p is =
    ∥∥₁_elim is (ℕ_set _ _) (λ e. ap (λ (q : Program). length q.functions) e ∙ length-program_of functions)
