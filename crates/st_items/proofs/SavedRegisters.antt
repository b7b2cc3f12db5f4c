-- The registers of the machine, by their numbers: after a write (value-written_other, value-written_same), and after an epilogue has loaded
-- the saved ones (restored_value). The saved registers of a function ascend, and a call keeps them (saved_rising); there are at most 11
-- (saved_few).
use Rattle.std.proofs.Common.{◌≡◌, ◌≢◌, ℕ, suc, ◌+◌, ◌<◌, ◌≤◌, Bool, true, false, ◌==◌, List, [], ◌∷◌, length, slice_set, slice_index, refl, ap, sym, ◌∙◌, arith, if◌then◌else◌}
use Rattle.std.proofs.lemmas.List.{get_or-set_other}
use Rattle.std.proofs.lemmas.Bool.{eqb-true, eqb-false, ne_eqb}
use Rattle.std.specs.Int.{bit_at}
use Rattle.st_base.specs.declared.reg.Reg.{Reg}
use Rattle.st_base.specs.Reg.{reg_number}
use Rattle.st_model.specs.declared.program.ProgramFunction.{ProgramFunction}
use Rattle.st_model.specs.Layout.{saveable, saved_among, saved_of}
use Rattle.st_step.specs.declared.state.State.{State as MachineState}
use Rattle.st_step.specs.Moves.{written}
use Rattle.st_step.specs.Runs.{saved_word, restored}
use Rattle.st_model.proofs.Places.{number_below}
use Rattle.st_step.proofs.Writes.{length-written, register-written_same}
use Rattle.st_step.specs.Frames.{value_in, is_kept, with_saved_values}

-- ---- writes

pub not_zero : (r : Reg) → 0 < reg_number r → (reg_number r == 0) ≡ false
not_zero r some = ne_eqb (reg_number r) 0 (λ e. absurd (omega (arith, e)))

put-other : (b : Bool) (k n x : ℕ) (m : MachineState) → x ≢ k → slice_index (if b then m else record m { registers = slice_set m.registers k n }).registers x ≡ slice_index m.registers x
put-other true k n x m other = refl
put-other false k n x m other = get_or-set_other m.registers k x n 0 other

pub value-written_other : (m : MachineState) (r : Reg) (n x : ℕ) → x ≢ reg_number r → value_in (written m r n) x ≡ value_in m x
value-written_other m r n x other = put-other (reg_number r == 0) (reg_number r) n x m other

pub value-written_same : (m : MachineState) (r : Reg) (n : ℕ) → length m.registers ≡ 32 → (reg_number r == 0) ≡ false → value_in (written m r n) (reg_number r) ≡ n
value-written_same m r n count other = let small = number_below r in register-written_same m r n (omega arith) other

-- ---- the saved registers ascend

abbrev pub AreRising : ℕ → List Reg → Type 0
AreRising n [] = Prim.Unit
AreRising n (r ∷ rs) = (n < reg_number r) × (is_kept (reg_number r) ≡ true) × AreRising (reg_number r) rs

rising_sooner : (n k : ℕ) (rs : List Reg) → n < k → AreRising k rs → AreRising n rs
rising_sooner n k [] less rising = tt
rising_sooner n k (r ∷ rs) less rising = let first = rising.0 in (omega arith, rising.1, rising.2)

rising_when : (b : Bool) (n : ℕ) (r : Reg) (rs : List Reg) → n < reg_number r → is_kept (reg_number r) ≡ true → AreRising (reg_number r) rs → AreRising n (if b then r ∷ rs else rs)
rising_when true n r rs less kept rising = (less, kept, rising)
rising_when false n r rs less kept rising = rising_sooner n (reg_number r) rs less rising

rising_among : (bits k n : ℕ) (rs : List Reg) → AreRising n rs → AreRising n (saved_among bits k rs)
rising_among bits k n [] rising = tt
rising_among bits k n (r ∷ rs) rising = rising_when (bit_at bits k == 1) n r (saved_among bits (k + 1) rs) rising.0 rising.1 (rising_among bits (k + 1) (reg_number r) rs rising.2)

all_rising : AreRising 8 saveable
all_rising = search arith depth 40

pub saved_rising : (function : ProgramFunction) → AreRising 8 (saved_of function)
saved_rising function = rising_among function.saved 0 8 saveable all_rising

few_when : (b : Bool) (r : Reg) (rs : List Reg) (n : ℕ) → length rs ≤ n → length (if b then r ∷ rs else rs) ≤ suc n
few_when true r rs n few = omega arith
few_when false r rs n few = omega arith

few_among : (bits k : ℕ) (rs : List Reg) → length (saved_among bits k rs) ≤ length rs
few_among bits k [] = omega arith
few_among bits k (r ∷ rs) = few_when (bit_at bits k == 1) r (saved_among bits (k + 1) rs) (length rs) (few_among bits (k + 1) rs)

pub saved_few : (function : ProgramFunction) → length (saved_of function) ≤ 11
saved_few function = few_among function.saved 0 saveable

-- ---- what an epilogue restores

either_is : (b : Bool) (n m v : ℕ) → (b ≡ true → v ≡ n) → (b ≡ false → v ≡ m) → v ≡ (if b then n else m)
either_is true n m v first second = first refl
either_is false n m v first second = second refl

pub saved_same : (word : ℕ → ℕ) (b k : ℕ) (rs : List Reg) (value value' : ℕ → ℕ) (x : ℕ) → value x ≡ value' x → with_saved_values word b k rs value x ≡ with_saved_values word b k rs value' x
saved_same word b k [] value value' x same = same
saved_same word b k (r ∷ rs) value value' x same = ap (λ (n : ℕ). if reg_number r == x then word (saved_word b k) else n) (saved_same word b (k + 1) rs value value' x same)

either_not : (b : Bool) (n m v : ℕ) → (b ≡ true → ⊥) → m ≡ v → (if b then n else m) ≡ v
either_not true n m v never same = absurd (never refl)
either_not false n m v never same = same

saved_below : (word : ℕ → ℕ) (b k n : ℕ) (rs : List Reg) (value : ℕ → ℕ) (x : ℕ) → AreRising n rs → x ≤ n → with_saved_values word b k rs value x ≡ value x
saved_below word b k n [] value x rising low = refl
saved_below word b k n (r ∷ rs) value x rising low =
    let first = rising.0 in
    either_not (reg_number r == x) (word (saved_word b k)) (with_saved_values word b (k + 1) rs value x) (value x)
    (λ e. let same = eqb-true (reg_number r) x e in let never : ⊥ = omega arith in never)
    (saved_below word b (k + 1) (reg_number r) rs value x rising.2 (omega arith))

pub saved_unkept : (word : ℕ → ℕ) (b k n : ℕ) (rs : List Reg) (value : ℕ → ℕ) (x : ℕ) → AreRising n rs → is_kept x ≡ false → with_saved_values word b k rs value x ≡ value x
saved_unkept word b k n [] value x rising other = refl
saved_unkept word b k n (r ∷ rs) value x rising other =
    either_not (reg_number r == x) (word (saved_word b k)) (with_saved_values word b (k + 1) rs value x) (value x)
    (λ e. let same = ap is_kept (eqb-true (reg_number r) x e) in let kept = rising.1 in let never : ⊥ = cc in never)
    (saved_unkept word b (k + 1) (reg_number r) rs value x rising.2 other)

pub restored_value : (word : ℕ → ℕ) (b k n : ℕ) (rs : List Reg) (m : MachineState) (x : ℕ) → AreRising n rs → length m.registers ≡ 32 → value_in (restored word b k rs m) x ≡ with_saved_values word b k rs (value_in m) x
restored_value word b k n [] m x rising count = refl
restored_value word b k n (r ∷ rs) m x rising count =
    let v = word (saved_word b k) in
    let first = rising.0 in
    restored_value word b (k + 1) (reg_number r) rs (written m r v) x rising.2 (length-written m r v ∙ count)
    ∙ either_is (reg_number r == x) v (with_saved_values word b (k + 1) rs (value_in m) x) (with_saved_values word b (k + 1) rs (value_in (written m r v)) x)
    (λ e. let same = eqb-true (reg_number r) x e in
    saved_below word b (k + 1) (reg_number r) rs (value_in (written m r v)) x rising.2 (omega arith) ∙ ap (λ (y : ℕ). value_in (written m r v) y) (sym same) ∙ value-written_same m r v count (not_zero r (omega arith)))
    (λ e. saved_same word b (k + 1) rs (value_in (written m r v)) (value_in m) x (value-written_other m r v x (λ (same : x ≡ reg_number r). eqb-false (reg_number r) x e (sym same))))
