-- The saved registers of a function: each has a number above that of s0, so that it is none of zero, ra, sp, gp, tp and s0 (saved_above),
-- they are at most as many as the bits that are set (saved_counted), and the frame has room for them (saved_fit).
use Rattle.std.proofs.Common.{◌≡◌, ℕ, ◌+◌, ◌*◌, ◌/◌, ◌^◌, ◌<◌, ◌≤◌, Bool, true, false, ◌==◌, List, [], ◌∷◌, length, refl, ap, sym, ◌∙◌, subst, arith, count_ones, if◌then◌else◌}
use Rattle.std.proofs.lemmas.Bool.{eqb-true}
use Rattle.std.specs.Int.{bit_at}
use Rattle.std.specs.Int.Count.{ones_step}
use Rattle.std.proofs.Math.Nat.{div-one, div-div-eq-div-mul}
use Rattle.std.proofs.lemmas.Nat.{pow-add}
use Rattle.st_base.specs.declared.reg.Reg.{Reg}
use Rattle.st_base.specs.Reg.{reg_number}
use Rattle.st_model.specs.declared.program.ProgramFunction.{ProgramFunction}
use Rattle.st_model.specs.Accepted.{HasFrame}
use Rattle.st_model.specs.Layout.{saveable, saved_among, saved_of}

abbrev pub AreAbove : List Reg → Type 0
AreAbove [] = Unit {0}
AreAbove (r ∷ rs) = (8 < reg_number r) × AreAbove rs

above_when : (b : Bool) (r : Reg) (rs : List Reg) → 8 < reg_number r → AreAbove rs → AreAbove (if b then r ∷ rs else rs)
above_when true r rs one rest = (one, rest)
above_when false r rs one rest = rest

above_among : (bits k : ℕ) (rs : List Reg) → AreAbove rs → AreAbove (saved_among bits k rs)
above_among bits k [] above = tt
above_among bits k (r ∷ rs) above = above_when (bit_at bits k == 1) r (saved_among bits (k + 1) rs) above.0 (above_among bits (k + 1) rs above.1)

all_above : AreAbove saveable
all_above = search arith

pub saved_above : (function : ProgramFunction) → AreAbove (saved_of function)
saved_above function = above_among function.saved 0 saveable all_above

-- no more registers are among them than bits are set from the k-th on
few_when : (b : Bool) (r : Reg) (rs : List Reg) (bit rest ones : ℕ) → (b ≡ true → bit ≡ 1) → ones ≡ bit + rest → length rs ≤ rest → length (if b then r ∷ rs else rs) ≤ ones
few_when true r rs bit rest ones is sum few = let e = is refl in omega arith
few_when false r rs bit rest ones is sum few = omega arith

few_among : (bits k : ℕ) (rs : List Reg) → length (saved_among bits k rs) ≤ count_ones (bits / 2 ^ k)
few_among bits k [] = omega arith
few_among bits k (r ∷ rs) =
    let half : bits / 2 ^ (k + 1) ≡ bits / 2 ^ k / 2 = ap (λ (n : ℕ). bits / n) (pow-add 2 k 1) ∙ sym (div-div-eq-div-mul bits (2 ^ k) 2) in
    let rest = subst (λ (n : ℕ). length (saved_among bits (k + 1) rs) ≤ count_ones n) half (few_among bits (k + 1) rs) in
    few_when (bit_at bits k == 1) r (saved_among bits (k + 1) rs) (bit_at bits k) (count_ones (bits / 2 ^ k / 2)) (count_ones (bits / 2 ^ k)) (eqb-true (bit_at bits k) 1) (ones_step (bits / 2 ^ k)) rest

-- no more registers are saved than bits are set
pub saved_counted : (function : ProgramFunction) → length (saved_of function) ≤ count_ones function.saved
saved_counted function = subst (λ (n : ℕ). length (saved_of function) ≤ count_ones n) (div-one function.saved) (few_among function.saved 0 saveable)

fits : (n ones slots bytes : ℕ) → n ≤ ones → 16 + 8 * ones + 8 * slots ≤ bytes → 16 + 8 * n ≤ bytes
fits n ones slots bytes few room = omega arith

pub saved_fit : (function : ProgramFunction) → HasFrame function → 16 + 8 * length (saved_of function) ≤ function.frame_bytes
saved_fit function has =
    fits (length (saved_of function)) (count_ones function.saved) function.slots function.frame_bytes
    (saved_counted function)
    has.room
