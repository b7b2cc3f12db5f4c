-- Writes to the registers of the machine: what a register has after a write (register-written_same, register-written_other), that a write
-- and a jump may be exchanged (written-at_place), writes to one register (written-written) and to two (written-apart), that a register
-- which isn't 0 is there (register-within), that zero stays (zero-written), and that registers stay below 2 ^ 64 (values-written).
use Rattle.std.proofs.Common.{nat_lt, ◌≤◌, ◌≡◌, ◌≢◌, ℕ, ◌<◌, Bool, true, false, ◌==◌, length, refl, ap, sym, ◌^◌, ◌∙◌, arith, List, slice_set, slice_index, if◌then◌else◌}
use Rattle.std.proofs.lemmas.List.{length-set, get_or-set_same, get_or-set_other, set-set, set_comm, set_past, get_or_past}
use Rattle.std.proofs.lemmas.Bool.{eqb-false, ltb-true, ltb-false}
use Rattle.st_base.specs.declared.reg.Reg.{Reg}
use Rattle.st_base.specs.declared.reg.Reg.TheVariants as registers
use Rattle.st_base.specs.Reg.{reg_number}
use Rattle.st_step.specs.declared.state.State.{State}
use Rattle.st_step.specs.Moves.{register, written, at_place}
use Rattle.st_step.specs.Runs.{AreValues}

-- a write to the k-th register, unless it is zero
abbrev put : Bool → State → ℕ → ℕ → State
put b m k n = if b then m else record m { registers = slice_set m.registers k n }

put-at_place : (b : Bool) (p q k n : ℕ) (m : State) → at_place q (put b (at_place p m) k n) ≡ at_place q (put b m k n)
put-at_place true p q k n m = refl
put-at_place false p q k n m = refl

put-put : (b : Bool) (k x y : ℕ) (m : State) → put b (put b m k x) k y ≡ put b m k y
put-put true k x y m = refl
put-put false k x y m = ap (λ (l : List ℕ). record m { registers = l }) (set-set m.registers k x y)

put-apart : (b c : Bool) (j k x y : ℕ) (m : State) → j ≢ k → put c (put b m j x) k y ≡ put b (put c m k y) j x
put-apart true true j k x y m apart = refl
put-apart true false j k x y m apart = refl
put-apart false true j k x y m apart = refl
put-apart false false j k x y m apart = ap (λ (l : List ℕ). record m { registers = l }) (set_comm m.registers j k x y apart)

put-length : (b : Bool) (k n : ℕ) (m : State) → length (put b m k n).registers ≡ length m.registers
put-length true k n m = refl
put-length false k n m = length-set m.registers k n

put-lo : (b : Bool) (k n : ℕ) (m : State) → (put b m k n).lo ≡ m.lo
put-lo true k n m = refl
put-lo false k n m = refl

put-hi : (b : Bool) (k n : ℕ) (m : State) → (put b m k n).hi ≡ m.hi
put-hi true k n m = refl
put-hi false k n m = refl

put-pc : (b : Bool) (k n : ℕ) (m : State) → (put b m k n).pc ≡ m.pc
put-pc true k n m = refl
put-pc false k n m = refl

put-zero : (b : Bool) (k n : ℕ) (m : State) → (b ≡ false → k ≢ 0) → slice_index (put b m k n).registers 0 ≡ slice_index m.registers 0
put-zero true k n m other = refl
put-zero false k n m other = get_or-set_other m.registers k 0 n 0 (λ e. other refl (sym e))

-- a list with another number at a place has that number or its own at each
set_below : (l : List ℕ) (k n x : ℕ) → slice_index l x < 2 ^ 64 → n < 2 ^ 64 → slice_index (slice_set l k n) x < 2 ^ 64
set_below l k n x own less = grind (arith, get_or-set_same, get_or-set_other, set_past)

put-values : (b : Bool) (k n : ℕ) (m : State) → AreValues m → n < 2 ^ 64 → AreValues (put b m k n)
put-values true k n m values less = values
put-values false k n m values less = λ x. set_below m.registers k n x (values x) less

put-other : (b : Bool) (j k n : ℕ) (m : State) → j ≢ k → slice_index (put b m k n).registers j ≡ slice_index m.registers j
put-other true j k n m other = refl
put-other false j k n m other = get_or-set_other m.registers k j n 0 other

put-same : (b : Bool) (k n : ℕ) (m : State) → b ≡ false → k < length m.registers → slice_index (put b m k n).registers k ≡ n
put-same b k n m e within = ap (λ (x : Bool). slice_index (put x m k n).registers k) e ∙ get_or-set_same m.registers k n 0 within

pub written-at_place : (p q : ℕ) (m : State) (r : Reg) (n : ℕ) → at_place q (written (at_place p m) r n) ≡ at_place q (written m r n)
written-at_place p q m r n = put-at_place (reg_number r == 0) p q (reg_number r) n m

pub written-written : (m : State) (r : Reg) (x y : ℕ) → written (written m r x) r y ≡ written m r y
written-written m r x y = put-put (reg_number r == 0) (reg_number r) x y m

-- writes to two registers may be exchanged
pub written-apart : (m : State) (q r : Reg) (x y : ℕ) → reg_number q ≢ reg_number r → written (written m q x) r y ≡ written (written m r y) q x
written-apart m q r x y apart = put-apart (reg_number q == 0) (reg_number r == 0) (reg_number q) (reg_number r) x y m apart

pub length-written : (m : State) (r : Reg) (n : ℕ) → length (written m r n).registers ≡ length m.registers
length-written m r n = put-length (reg_number r == 0) (reg_number r) n m

pub lo-written : (m : State) (r : Reg) (n : ℕ) → (written m r n).lo ≡ m.lo
lo-written m r n = put-lo (reg_number r == 0) (reg_number r) n m

pub hi-written : (m : State) (r : Reg) (n : ℕ) → (written m r n).hi ≡ m.hi
hi-written m r n = put-hi (reg_number r == 0) (reg_number r) n m

pub pc-written : (m : State) (r : Reg) (n : ℕ) → (written m r n).pc ≡ m.pc
pc-written m r n = put-pc (reg_number r == 0) (reg_number r) n m

pub zero-written : (m : State) (r : Reg) (n : ℕ) → register (written m r n) registers.Zero ≡ register m registers.Zero
zero-written m r n = put-zero (reg_number r == 0) (reg_number r) n m (eqb-false (reg_number r) 0)

pub values-written : (m : State) (r : Reg) (n : ℕ) → AreValues m → n < 2 ^ 64 → AreValues (written m r n)
values-written m r n values less = put-values (reg_number r == 0) (reg_number r) n m values less

pub register-written_other : (m : State) (r q : Reg) (n : ℕ) → reg_number q ≢ reg_number r → register (written m r n) q ≡ register m q
register-written_other m r q n other = put-other (reg_number r == 0) (reg_number q) (reg_number r) n m other

pub register-written_same : (m : State) (r : Reg) (n : ℕ) → reg_number r < length m.registers → (reg_number r == 0) ≡ false → register (written m r n) r ≡ n
register-written_same m r n within other = put-same (reg_number r == 0) (reg_number r) n m other within

-- a register that isn't 0 is there
within_when : (b : Bool) (l : List ℕ) (k : ℕ) → (b ≡ true → k < length l) → (b ≡ false → length l ≤ k) → 0 < slice_index l k → k < length l
within_when true l k yes_less no_less some = yes_less refl
within_when false l k yes_less no_less some = let past = get_or_past l k 0 (no_less refl) in absurd (omega arith)

pub register-within : (m : State) (r : Reg) → 0 < register m r → reg_number r < length m.registers
register-within m r some = within_when (nat_lt (reg_number r) (length m.registers)) m.registers (reg_number r) (ltb-true (reg_number r) (length m.registers)) (ltb-false (reg_number r) (length m.registers)) some
