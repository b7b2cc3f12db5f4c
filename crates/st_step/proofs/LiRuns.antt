-- The words of `li` give its value (li_law): the high part and the low one make it, modulo 2 ^ 32 (parts_make), and its low 32 bits give
-- all of it (value_of_low).
use Rattle.std.proofs.Common.{◌≡◌, ◌⊎◌, ℕ, zero, suc, ◌+◌, ◌-◌, ◌*◌, ◌/◌, ◌%◌, ◌^◌, ◌<◌, ◌≤◌, ℤ, pos, negsuc, ◌-ℤ◌, int_lt, Bool, true, false, not, cond, ◌&&◌, ◌==◌, List, [], ◌∷◌, length, Option, Some, refl, ap, sym, ◌∙◌, arith, inl, inr, nat_lt, slice_set, if◌then◌else◌, FitsSigned}
use Rattle.std.proofs.lemmas.Bool.{ltb-true, ltb-false, lt-ltb}
use Rattle.std.proofs.Math.Bool.{and-false}
use Rattle.std.proofs.Math.Nat.{mod-eq_of_lt}
use Rattle.std.proofs.lemmas.Int.{ints, to_z-of_z}
use Rattle.std.specs.Int.{w32, cast_unsigned}
use Rattle.st_base.specs.declared.reg.Reg.{Reg}
use Rattle.st_base.specs.declared.reg.Reg.TheVariants as registers
use Rattle.st_base.specs.Reg.{reg_number}
use Rattle.st_rv.specs.declared.ins.Op.TheVariants as ops
use Rattle.st_rv.specs.declared.ins.Ins.{Ins}
use Rattle.st_rv.specs.Fields.{sign_extended}
use Rattle.st_rv.specs.Results.{word_of, alu, extended_low, upper, sum_low}
use Rattle.st_model.proofs.Places.{number_below}
use Rattle.st_model.specs.Memory.{Data}
use Rattle.st_model.specs.declared.code.PostedIns.{PostedIns}
use Rattle.st_model.specs.declared.code.PostedIns.TheVariants as posted
use Rattle.st_model.specs.Layout.{immediate_ins, upper_ins, addi, below, is_short, low_part, high_part, with_low_part, IsWordValue}
use Rattle.st_step.specs.declared.state.State.{State}
use Rattle.st_step.specs.Moves.{makes_frame, register, written, at_place}
use Rattle.st_step.specs.Runs.{Situation, HasRegisters, RunsStretch, HasCode, RunsLi}
use Rattle.st_step.proofs.ResultBounds.{word_small}
use Rattle.st_step.proofs.Writes.{written-at_place, written-written, register-written_same}
use Rattle.st_step.proofs.Paths.{cut, has-cut, stretch}
use Rattle.st_step.proofs.Straight.{plain_code, step, stays, after, adds, uppers, low_adds}

-- ---- numbers

-- the low 32 bits of a value's word are its 32 bits
low_bits : (z : ℤ) → IsWordValue z → word_of z % 2 ^ 32 ≡ cast_unsigned w32 z
low_bits (pos n) is = let lt : n < 2 ^ 31 = omega (arith, ints, is.1) in mod-eq_of_lt (omega arith)
low_bits (negsuc n) is = let lt : n < 2 ^ 31 = omega (arith, ints, is.0) in omega arith

fits : (z : ℤ) → IsWordValue z → FitsSigned w32 z
fits (pos n) is = let lt : n < 2 ^ 31 = omega (arith, ints, is.1) in record { sfits = lt }
fits (negsuc n) is = let lt : n < 2 ^ 31 = omega (arith, ints, is.0) in record { sfits = lt }

pub value_of_low : (z : ℤ) → IsWordValue z → extended_low (word_of z % 2 ^ 32) ≡ word_of z
value_of_low z is = ap extended_low (low_bits z is) ∙ ap word_of (to_z-of_z w32 z (fits z is))

extended_cases : (b : Bool) (x : ℕ) → (b ≡ false → 2 ^ 31 ≤ x) → x < 2 ^ 32 → word_of (cond b (pos x) (negsuc (2 ^ 32 - suc x))) % 2 ^ 32 ≡ x
extended_cases true x high less = mod-eq_of_lt less
extended_cases false x high less = let h = high refl in omega arith

-- a number of 32 bits stays in the low half of its word
extended_mod : (x : ℕ) → x < 2 ^ 32 → extended_low x % 2 ^ 32 ≡ x
extended_mod x less = extended_cases (nat_lt x (2 ^ 31)) x (ltb-false x (2 ^ 31)) less

-- the word of a low part
less_word : (z : ℤ) (l : ℕ) → z ≡ pos l -ℤ pos 4096 → l < 4096 → word_of z ≡ 2 ^ 64 - (4096 - l)
less_word (pos n) l is less = absurd (omega (arith, ints))
less_word (negsuc n) l is less = let e : suc n + l ≡ 4096 = omega (arith, ints) in omega arith

abbrev LowWord : ℕ → ℕ → Type 0
LowWord l w = ((l < 2048) × (w ≡ l)) ⊎ ((2048 ≤ l) × (w ≡ 2 ^ 64 - (4096 - l)))

low_cases : (b : Bool) (l : ℕ) → (b ≡ true → l < 2048) → (b ≡ false → 2048 ≤ l) → l < 4096 → LowWord l (word_of (if b then pos l else pos l -ℤ pos 4096))
low_cases true l yes_low no_low less = inl (yes_low refl, refl)
low_cases false l yes_low no_low less = inr (no_low refl, less_word (pos l -ℤ pos 4096) l refl less)

low_word_of : (l : ℕ) → l < 4096 → LowWord l (word_of (sign_extended (2 ^ 11) l))
low_word_of l less = low_cases (nat_lt l 2048) l (ltb-true l 2048) (ltb-false l 2048) less

-- it is 0 where neither test finds it below or above 0
is_zero : (z : ℤ) → not (int_lt z (pos 0)) && not (int_lt (pos 0) z) ≡ true → z ≡ pos 0
is_zero (pos zero) e = refl
is_zero (pos (suc n)) e = let p = lt-ltb 0 (suc n) (omega arith) in let q : true ≡ false = sym e ∙ ap (λ (b : Bool). not (nat_lt (suc n) 0) && not b) p ∙ and-false (not (nat_lt (suc n) 0)) in cc
is_zero (negsuc n) e = cc

no_low_part : (z : ℤ) (l : ℕ) → z ≡ pos 0 → l < 4096 → LowWord l (word_of z) → l ≡ 0
no_low_part z l e less word =
    let w : word_of z ≡ 0 = ap word_of e in
    elim word [ inl a ↦ (let x = a.1 in omega arith) | inr a ↦ (let x = a.1 in omega arith) ]

-- the high part, in the upper 20 of 32 bits
abbrev high_bits : ℤ → ℕ
high_bits z = high_part z * 2 ^ 12 % 2 ^ 32

high_small : (z : ℤ) → high_bits z < 2 ^ 32
high_small z = omega arith

sum_of_parts : (w h e l lw : ℕ) → h ≡ (w + 2048) % 2 ^ 32 / 4096 * 4096 % 2 ^ 32 → e % 2 ^ 32 ≡ h → l ≡ w % 4096 → LowWord l lw → (e + lw) % 2 ^ 32 ≡ w % 2 ^ 32
sum_of_parts w h e l lw high same low word = elim word [ inl a ↦ (let x = a.0 in let y = a.1 in omega arith) | inr a ↦ (let x = a.0 in let y = a.1 in omega arith) ]

whole_high : (w h l : ℕ) → h ≡ (w + 2048) % 2 ^ 32 / 4096 * 4096 % 2 ^ 32 → l ≡ w % 4096 → l ≡ 0 → h ≡ w % 2 ^ 32
whole_high w h l high low none = omega arith

pub parts_make : (z : ℤ) → IsWordValue z → sum_low (upper (high_part z)) (word_of (low_part z)) ≡ word_of z
parts_make z is =
    let less : word_of z % 2 ^ 12 < 4096 = omega arith in
    let s = sum_of_parts (word_of z) (high_bits z) (upper (high_part z)) (word_of z % 2 ^ 12) (word_of (low_part z)) refl (extended_mod (high_bits z) (high_small z)) refl (low_word_of (word_of z % 2 ^ 12) less) in
    ap extended_low s ∙ value_of_low z is

pub high_makes : (z : ℤ) → IsWordValue z → low_part z ≡ pos 0 → upper (high_part z) ≡ word_of z
high_makes z is none =
    let less : word_of z % 2 ^ 12 < 4096 = omega arith in
    let l = no_low_part (low_part z) (word_of z % 2 ^ 12) none less (low_word_of (word_of z % 2 ^ 12) less) in
    ap extended_low (whole_high (word_of z) (high_bits z) (word_of z % 2 ^ 12) refl refl l) ∙ value_of_low z is

-- ---- runs

abbrev Gives : Data → (ℕ → Option Ins) → (ℕ → Bool) → Situation → Reg → ℤ → List PostedIns → Type 0
Gives d code held s rd value is = RunsStretch d code held (length is) (length is) s (record { state = at_place (s.state.pc + 4 * length is) (written s.state rd (word_of value)); word = s.word })

no_frame : (r : Reg) (imm : ℤ) → makes_frame (immediate_ins ops.Addi r registers.Zero imm) ≡ false
no_frame r imm = ap (λ (b : Bool). b && int_lt imm (pos 0)) (and-false (reg_number r == 2))

zero_sum : (n : ℕ) → n < 2 ^ 64 → (0 + n) % 2 ^ 64 ≡ n
zero_sum n small = omega arith

short_runs : (d : Data) (code : ℕ → Option Ins) (held : ℕ → Bool) (s : Situation) (at : ℕ) (rd : Reg) (value : ℤ) → HasRegisters s.state → IsWordValue value → HasCode code s.state.pc at (addi rd registers.Zero value ∷ []) → s.state.pc + 4 < 2 ^ 32 → Gives d code held s rd value (addi rd registers.Zero value ∷ [])
short_runs d code held s at rd value has_registers is has low =
    let small = word_small value is.1 in
    stretch d code held 1 0 0 1 s (after s rd (word_of value)) (after s rd (word_of value)) _ refl refl
    (plain_code code s.state.pc _ has.0)
    (adds d held s rd registers.Zero value (word_of value) (no_frame rd value) (ap (λ (n : ℕ). (n + word_of value) % 2 ^ 64) has_registers.origin ∙ zero_sum (word_of value) small) low)
    (stays d (cut code (s.state.pc + 4) 0) held (after s rd (word_of value)))

-- a number that is not written matters not
put_same : (b : Bool) (m : State) (k x y : ℕ) → (b ≡ false → x ≡ y) → (if b then m else record m { registers = slice_set m.registers k x }) ≡ (if b then m else record m { registers = slice_set m.registers k y })
put_same true m k x y same = refl
put_same false m k x y same = ap (λ (n : ℕ). record m { registers = slice_set m.registers k n }) (same refl)

written_same : (m : State) (r : Reg) (x y : ℕ) → ((reg_number r == 0) ≡ false → x ≡ y) → written m r x ≡ written m r y
written_same m r x y same = put_same (reg_number r == 0) m (reg_number r) x y same

-- the high part and then the low one
two_written : (s : Situation) (rd : Reg) (value : ℤ) → HasRegisters s.state → IsWordValue value
    → after (after s rd (upper (high_part value))) rd (sum_low (register (after s rd (upper (high_part value))).state rd) (word_of (low_part value)))
    ≡ record { state = at_place (s.state.pc + 8) (written s.state rd (word_of value)); word = s.word }
two_written s rd value has_registers is =
    let x = upper (high_part value) in
    let v = sum_low (register (written s.state rd x) rd) (word_of (low_part value)) in
    let pc : s.state.pc + 4 + 4 ≡ s.state.pc + 8 = omega arith in
    let number = number_below rd in
    let count = has_registers.count in
    let within : reg_number rd < length s.state.registers = omega arith in
    let same = λ (other : (reg_number rd == 0) ≡ false). ap (λ (n : ℕ). sum_low n (word_of (low_part value))) (register-written_same s.state rd x within other) ∙ parts_make value is in
    ap (λ (m : State). record { state = m; word = s.word })
    (written-at_place (s.state.pc + 4) (s.state.pc + 4 + 4) (written s.state rd x) rd v
    ∙ ap (at_place (s.state.pc + 4 + 4)) (written-written s.state rd x v ∙ written_same s.state rd v (word_of value) same)
    ∙ ap (λ (k : ℕ). at_place k (written s.state rd (word_of value))) pc)

long_runs : (d : Data) (code : ℕ → Option Ins) (held : ℕ → Bool) (s : Situation) (at : ℕ) (rd : Reg) (value : ℤ) (b : Bool) → (b ≡ true → low_part value ≡ pos 0) → HasRegisters s.state → IsWordValue value
    → HasCode code s.state.pc at (posted.Plain (upper_ins ops.Lui rd (pos (high_part value))) ∷ (if b then [] else posted.Plain (immediate_ins ops.Addiw rd rd (low_part value)) ∷ []))
    → s.state.pc + 4 * length (posted.Plain (upper_ins ops.Lui rd (pos (high_part value))) ∷ (if b then [] else posted.Plain (immediate_ins ops.Addiw rd rd (low_part value)) ∷ [])) < 2 ^ 32
    → Gives d code held s rd value (posted.Plain (upper_ins ops.Lui rd (pos (high_part value))) ∷ (if b then [] else posted.Plain (immediate_ins ops.Addiw rd rd (low_part value)) ∷ []))
unfolding alu
long_runs d code held s at rd value true none has_registers is has low =
    stretch d code held 1 0 0 1 s (after s rd (word_of value)) (after s rd (word_of value)) _ refl refl
    (plain_code code s.state.pc _ has.0)
    (uppers d held s rd (pos (high_part value)) (word_of value) (high_makes value is (none refl)) low)
    (stays d (cut code (s.state.pc + 4) 0) held (after s rd (word_of value)))
long_runs d code held s at rd value false none has_registers is has low =
    let x = upper (high_part value) in
    let t = after s rd x in
    let one : s.state.pc + 4 < 2 ^ 32 = omega arith in
    let two : s.state.pc + 4 + 4 < 2 ^ 32 = omega arith in
    let rest = cut code (s.state.pc + 4) 1 in
    let behind = has-cut code (s.state.pc + 4) 1 (s.state.pc + 4) (at + 1) (posted.Plain (immediate_ins ops.Addiw rd rd (low_part value)) ∷ []) 0 (omega arith) (omega arith) has.1 in
    stretch d code held 2 1 1 2 s t _ _ refl refl
    (plain_code code s.state.pc _ has.0)
    (uppers d held s rd (pos (high_part value)) x refl one)
    (step d rest held t _ _ _ 0 1 refl
    (plain_code rest (s.state.pc + 4) _ behind.0)
    (low_adds d held t rd rd (low_part value) (sum_low (register t.state rd) (word_of (low_part value))) refl two)
    (stays d rest held _ ∙ ap (λ (u : Situation). Some u) (two_written s rd value has_registers is)))

pub li_law : RunsLi
li_law d code held s at rd value has_registers is has stretched = go (is_short value) has stretched.below
  where
    go : (b : Bool) → HasCode code s.state.pc at (if b then addi rd registers.Zero value ∷ [] else posted.Plain (upper_ins ops.Lui rd (pos (high_part value))) ∷ with_low_part rd (low_part value))
        → s.state.pc + 4 * length (if b then addi rd registers.Zero value ∷ [] else posted.Plain (upper_ins ops.Lui rd (pos (high_part value))) ∷ with_low_part rd (low_part value)) < 2 ^ 32
        → Gives d code held s rd value (if b then addi rd registers.Zero value ∷ [] else posted.Plain (upper_ins ops.Lui rd (pos (high_part value))) ∷ with_low_part rd (low_part value))
    go true code_is below = short_runs d code held s at rd value has_registers is code_is below
    go false code_is below = long_runs d code held s at rd value (not (int_lt (low_part value) (pos 0)) && not (int_lt (pos 0) (low_part value))) (is_zero (low_part value)) has_registers is code_is below
