-- Registers that the instructions of a function's body name: they are none of ra, sp, gp and s0 (body_apart). A write to one of them is the same
-- to the file and to the machine (file_written, frameless_written), and a kept one that a function may write is among those that it saves,
-- so that its callers see no change (kept_written).
use Rattle.std.proofs.Common.{◌≡◌, ◌≢◌, ◌⊎◌, inl, inr, ℕ, zero, suc, ◌+◌, ◌<◌, ◌≤◌, ◌==◌, Bool, true, false, cond, List, [], ◌∷◌, length, Some, None, slice_get, slice_set, slice_index, slice_index_or, refl, ap, sym, ◌∙◌, subst, arith, if◌then◌else◌}
use Rattle.std.specs.Int.{bit_at}
use Rattle.std.proofs.lemmas.Bool.{eq-eqb, cases_eq}
use Rattle.std.proofs.lemmas.List.{length-set, get_or-set_same, get_or-set_other}
use Rattle.st_base.specs.declared.reg.Reg.{Reg}
use Rattle.st_base.specs.declared.reg.Reg.TheVariants as registers
use Rattle.st_base.specs.Reg.{reg_number}
use Rattle.st_base.specs.declared.thread.Held.{Held}
use Rattle.st_base.specs.Registers.{write_register}
use Rattle.st_model.proofs.Places.{number_below}
use Rattle.st_model.specs.declared.program.ProgramFunction.{ProgramFunction}
use Rattle.st_model.specs.Accepted.{is_int, IsInt, IsHandle, MayWrite}
use Rattle.st_model.specs.Effect.{File, is_handle, is_frame}
use Rattle.st_model.specs.Flow.{between}
use Rattle.st_model.specs.Layout.{saveable, saved_among, saved_of}
use Rattle.st_step.specs.declared.state.State.{State as MachineState}
use Rattle.st_step.specs.Moves.{is_stack, written}
use Rattle.st_step.specs.Runs.{saved_word, HasRegisters}
use Rattle.st_step.specs.Frames.{Naming, IsHeldAs, value_in, HasFile, IsFrameless, is_kept, with_saved_values}
use Rattle.st_items.proofs.SavedRegisters.{saved_same, value-written_other}

-- ---- classes

-- a register that a body's instructions may name
abbrev pub IsOfBody : Reg → Type 0
IsOfBody r = IsInt r ⊎ IsHandle r

-- it is none of ra, sp, gp and s0
pub record IsApart (r : Reg) : Type 0 where
  pub ra : reg_number r ≢ 1
  pub sp : reg_number r ≢ 2
  pub fp : reg_number r ≢ 8
  pub gp : reg_number r ≢ 3

other_number : (x y : ℕ) → is_int x ≡ true → is_int y ≡ false → x ≢ y
other_number x y int other same = let e : true ≡ false = sym int ∙ ap is_int same ∙ other in cc

handle_high : (r : Reg) → IsHandle r → 16 ≤ reg_number r
handle_high registers.A6 is = omega arith
handle_high registers.A7 is = omega arith
handle_high registers.S8 is = omega arith
handle_high registers.S9 is = omega arith
handle_high registers.S10 is = omega arith
handle_high registers.S11 is = omega arith
handle_high _ is = absurd (let never : ⊥ = cc in never)

pub body_apart : (r : Reg) → IsOfBody r → IsApart r
body_apart r (inl is) = record { ra = other_number (reg_number r) 1 is refl; sp = other_number (reg_number r) 2 is refl; fp = other_number (reg_number r) 8 is refl; gp = other_number (reg_number r) 3 is refl }
body_apart r (inr is) = let high = handle_high r is in record { ra = λ e. omega arith; sp = λ e. omega arith; fp = λ e. omega arith; gp = λ e. omega arith }

-- those that a fork may name
pub fork_handle : (r : Reg) → between 24 28 (reg_number r) ≡ true → IsHandle r
fork_handle registers.S8 is = refl
fork_handle registers.S9 is = refl
fork_handle registers.S10 is = refl
fork_handle registers.S11 is = refl
fork_handle _ is = absurd (let never : ⊥ = cc in never)

pub int_no_handle : (r : Reg) → IsInt r → is_handle r ≡ false
int_no_handle registers.A6 is = absurd (let never : ⊥ = cc in never)
int_no_handle registers.A7 is = absurd (let never : ⊥ = cc in never)
int_no_handle registers.S8 is = absurd (let never : ⊥ = cc in never)
int_no_handle registers.S9 is = absurd (let never : ⊥ = cc in never)
int_no_handle registers.S10 is = absurd (let never : ⊥ = cc in never)
int_no_handle registers.S11 is = absurd (let never : ⊥ = cc in never)
int_no_handle _ is = refl

pub int_no_stack : (r : Reg) → IsInt r → is_stack r ≡ false
int_no_stack registers.S0 is = absurd (let never : ⊥ = cc in never)
int_no_stack registers.Sp is = absurd (let never : ⊥ = cc in never)
int_no_stack registers.Tp is = absurd (let never : ⊥ = cc in never)
int_no_stack _ is = refl

pub frame_is : (r : Reg) → is_frame r ≡ true → r ≡ registers.S0
frame_is registers.S0 is = refl
frame_is _ is = absurd (let never : ⊥ = cc in never)

-- ---- writes

-- with a list for the registers, of which zero isn't written
file_put : (b : Bool) (names : Naming) (file : File) (m : MachineState) (k n : ℕ) (held : Held) → k < length file → k < length m.registers → HasFile names file (value_in m) → IsHeldAs names held n
    → HasFile names (cond b file (slice_set file k (Some held))) (value_in (if b then m else record m { registers = slice_set m.registers k n }))
file_put true names file m k n held in_file in_machine has holds = has
file_put false names file m k n held in_file in_machine has holds = λ x h there. choose x h there (cases_eq x k)
  where
    choose : (x : ℕ) (h : Held) → slice_index_or (slice_set file k (Some held)) x None ≡ Some h → (x ≡ k) ⊎ (x ≡ k → ⊥) → IsHeldAs names h (slice_index (slice_set m.registers k n) x)
    choose x h there (inl same) =
        let found : slice_index_or (slice_set file k (Some held)) x None ≡ Some held = ap (λ (y : ℕ). slice_index_or (slice_set file k (Some held)) y None) same ∙ get_or-set_same file k (Some held) None in_file in
        let held_is : held ≡ h = cc in
        let value : n ≡ slice_index (slice_set m.registers k n) x = sym (ap (slice_index (slice_set m.registers k n)) same ∙ get_or-set_same m.registers k n 0 in_machine) in
        subst (λ (y : ℕ). IsHeldAs names h y) value (subst (λ (y : Held). IsHeldAs names y n) held_is holds)
    choose x h there (inr other) =
        let value : slice_index m.registers x ≡ slice_index (slice_set m.registers k n) x = sym (get_or-set_other m.registers k x n 0 other) in
        subst (λ (y : ℕ). IsHeldAs names h y) value (has x h (sym (get_or-set_other file k x (Some held) None other) ∙ there))

pub file_written : (names : Naming) (file : File) (m : MachineState) (r : Reg) (n : ℕ) (held : Held) → length file ≡ 32 → HasRegisters m → HasFile names file (value_in m) → IsHeldAs names held n → HasFile names (write_register file r held) (value_in (written m r n))
file_written names file m r n held long has_registers has holds =
    let less = number_below r in
    let count = has_registers.count in
    file_put (reg_number r == 0) names file m (reg_number r) n held (omega arith) (omega arith) has holds

put_long : (b : Bool) (file : File) (k : ℕ) (held : Held) → length (cond b file (slice_set file k (Some held))) ≡ length file
put_long true file k held = refl
put_long false file k held = length-set file k (Some held)

put_other : (b : Bool) (file : File) (k : ℕ) (held : Held) (x : ℕ) → x ≢ k → slice_index_or (cond b file (slice_set file k (Some held))) x None ≡ slice_index_or file x None
put_other true file k held x other = refl
put_other false file k held x other = get_or-set_other file k x (Some held) None other

pub frameless_written : (file : File) (r : Reg) (held : Held) → IsApart r → IsFrameless file → IsFrameless (write_register file r held)
frameless_written file r held apart frameless = record {
  long = put_long (reg_number r == 0) file (reg_number r) held ∙ frameless.long;
  ra = put_other (reg_number r == 0) file (reg_number r) held 1 (λ e. apart.ra (sym e)) ∙ frameless.ra;
  sp = put_other (reg_number r == 0) file (reg_number r) held 2 (λ e. apart.sp (sym e)) ∙ frameless.sp;
  fp = put_other (reg_number r == 0) file (reg_number r) held 8 (λ e. apart.fp (sym e)) ∙ frameless.fp;
}

-- ---- saved registers

-- one of these registers has this number
abbrev Among : ℕ → List Reg → Type 0
Among x [] = ⊥
Among x (r ∷ rs) = (reg_number r ≡ x) ⊎ Among x rs

among_more : (b : Bool) (x : ℕ) (r : Reg) (rs : List Reg) → Among x rs → Among x (if b then r ∷ rs else rs)
among_more true x r rs among = inr among
among_more false x r rs among = among

among_first : (b : Bool) (r : Reg) (rs : List Reg) → b ≡ true → Among (reg_number r) (if b then r ∷ rs else rs)
among_first true r rs set = inl refl
among_first false r rs set = absurd (let never : ⊥ = cc in never)

-- the j-th of some registers, whose bit is set
saved_at : (bits k j : ℕ) (rs : List Reg) (r : Reg) → slice_get rs j ≡ Some r → bit_at bits (k + j) ≡ 1 → Among (reg_number r) (saved_among bits k rs)
saved_at bits k j [] r there bit = absurd (let never : ⊥ = cc in never)
saved_at bits k zero (q ∷ rs) r there bit =
    let same : q ≡ r = cc in
    let first : bit_at bits k ≡ 1 = ap (bit_at bits) (let e : k ≡ k + 0 = omega arith in e) ∙ bit in
    subst (λ (x : Reg). Among (reg_number x) (saved_among bits k (q ∷ rs))) same (among_first (bit_at bits k == 1) q (saved_among bits (k + 1) rs) (eq-eqb (bit_at bits k) 1 first))
saved_at bits k (suc j) (q ∷ rs) r there bit =
    let later : bit_at bits (k + 1 + j) ≡ 1 = ap (bit_at bits) (let e : k + 1 + j ≡ k + suc j = omega arith in e) ∙ bit in
    among_more (bit_at bits k == 1) (reg_number r) q (saved_among bits (k + 1) rs) (saved_at bits (k + 1) j rs r there later)

-- a kept register that a function may write is one that it saves
saves : (function : ProgramFunction) (r : Reg) → MayWrite function r → is_kept (reg_number r) ≡ true → reg_number r ≢ 0 → Among (reg_number r) (saved_of function)
saves function registers.S1 may kept other = saved_at function.saved 0 0 saveable registers.S1 refl (may.0 refl)
saves function registers.S2 may kept other = saved_at function.saved 0 1 saveable registers.S2 refl (may.1 refl)
saves function registers.S3 may kept other = saved_at function.saved 0 2 saveable registers.S3 refl (may.1 refl)
saves function registers.S4 may kept other = saved_at function.saved 0 3 saveable registers.S4 refl (may.1 refl)
saves function registers.S5 may kept other = saved_at function.saved 0 4 saveable registers.S5 refl (may.1 refl)
saves function registers.S6 may kept other = saved_at function.saved 0 5 saveable registers.S6 refl (may.1 refl)
saves function registers.S7 may kept other = saved_at function.saved 0 6 saveable registers.S7 refl (may.1 refl)
saves function registers.S8 may kept other = saved_at function.saved 0 7 saveable registers.S8 refl (may.1 refl)
saves function registers.S9 may kept other = saved_at function.saved 0 8 saveable registers.S9 refl (may.1 refl)
saves function registers.S10 may kept other = saved_at function.saved 0 9 saveable registers.S10 refl (may.1 refl)
saves function registers.S11 may kept other = saved_at function.saved 0 10 saveable registers.S11 refl (may.1 refl)
saves function registers.Zero may kept other = absurd (other refl)
saves function _ may kept other = absurd (let never : ⊥ = cc in never)

-- what a saved register has isn't seen
hides : (word : ℕ → ℕ) (b k : ℕ) (rs : List Reg) (value value' : ℕ → ℕ) (x : ℕ) → Among x rs → with_saved_values word b k rs value x ≡ with_saved_values word b k rs value' x
hides word b k [] value value' x among = absurd among
hides word b k (r ∷ rs) value value' x (inl here) =
    let e = eq-eqb (reg_number r) x here in
    ap (λ (t : Bool). if t then word (saved_word b k) else with_saved_values word b (k + 1) rs value x) e ∙ sym (ap (λ (t : Bool). if t then word (saved_word b k) else with_saved_values word b (k + 1) rs value' x) e)
hides word b k (r ∷ rs) value value' x (inr later) = ap (λ (n : ℕ). if reg_number r == x then word (saved_word b k) else n) (hides word b (k + 1) rs value value' x later)

-- callers see no write of a register that the function may write
pub kept_written : (function : ProgramFunction) (word : ℕ → ℕ) (b : ℕ) (m : MachineState) (r : Reg) (n x : ℕ) → MayWrite function r → is_kept x ≡ true
    → with_saved_values word b 0 (saved_of function) (value_in m) x ≡ with_saved_values word b 0 (saved_of function) (value_in (written m r n)) x
kept_written function word b m r n x may kept = choose (cases_eq x (reg_number r)) (cases_eq (reg_number r) 0)
  where
    choose : (x ≡ reg_number r) ⊎ (x ≡ reg_number r → ⊥) → (reg_number r ≡ 0) ⊎ (reg_number r ≡ 0 → ⊥) → with_saved_values word b 0 (saved_of function) (value_in m) x ≡ with_saved_values word b 0 (saved_of function) (value_in (written m r n)) x
    choose (inr other) zero_or = saved_same word b 0 (saved_of function) (value_in m) (value_in (written m r n)) x (sym (value-written_other m r n x other))
    choose (inl same) (inl none) = ap (λ (t : Bool). with_saved_values word b 0 (saved_of function) (value_in (if t then m else record m { registers = slice_set m.registers (reg_number r) n })) x) (sym (eq-eqb (reg_number r) 0 none))
    choose (inl same) (inr some) =
        let among = saves function r may (ap is_kept (sym same) ∙ kept) some in
        hides word b 0 (saved_of function) (value_in m) (value_in (written m r n)) x (subst (λ (y : ℕ). Among y (saved_of function)) (sym same) among)
