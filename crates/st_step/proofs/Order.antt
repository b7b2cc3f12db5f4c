-- A register may be written before or after the machine goes on: written_placed, written_going.
use Rattle.std.proofs.Common.{◌≡◌, ℕ, Bool, true, false, List, refl, ◌==◌, if◌then◌else◌}
use Rattle.std.specs.Prelude.{slice_set}
use Rattle.st_base.specs.declared.reg.Reg.{Reg}
use Rattle.st_base.specs.Reg.{reg_number}
use Rattle.st_step.specs.declared.state.State.{State}
use Rattle.st_step.specs.Moves.{at_place, goes_on, results, written}

placed_where : (b : Bool) (pc : ℕ) (m : State) (xs : List ℕ) → (if b then at_place pc m else record (at_place pc m) { registers = xs }) ≡ at_place pc (if b then m else record m { registers = xs })
placed_where true pc m xs = refl
placed_where false pc m xs = refl

pub written_placed : (pc : ℕ) (m : State) (r : Reg) (n : ℕ) → written (at_place pc m) r n ≡ at_place pc (written m r n)
written_placed pc m r n = placed_where (reg_number r == 0) pc m (slice_set m.registers (reg_number r) n)

going_where : (b : Bool) (m : State) (xs : List ℕ) → (if b then goes_on m else record (goes_on m) { registers = xs }) ≡ goes_on (if b then m else record m { registers = xs })
going_where true m xs = refl
going_where false m xs = refl

pub written_going : (m : State) (r : Reg) (n : ℕ) → written (goes_on m) r n ≡ results m r n
written_going m r n = going_where (reg_number r == 0) m (slice_set m.registers (reg_number r) n)
