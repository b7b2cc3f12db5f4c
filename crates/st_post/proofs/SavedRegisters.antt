-- At most eleven registers are saved (saved_few). How one register more is read from the bits (saved_among-skips, saved_among-takes,
-- saved_among-pushed).
use Rattle.std.proofs.Common.{◌≡◌, ℕ, ◌+◌, ◌≤◌, Bool, true, false, ◌==◌, ◌<◌, ◌∙◌, List, [], ◌∷◌, ◌++◌, append_assoc, ap, sym, drop, get_or, length, cond, arith}
use Rattle.std.specs.Int.{bit_at}
use Rattle.st_base.specs.declared.reg.Reg.{Reg}
use Rattle.st_base.specs.declared.reg.Reg.TheVariants as registers
use Rattle.std.proofs.lemmas.List.{get_or_default}
use Rattle.st_check.proofs.Drops.{drop-read}
use Rattle.st_model.specs.declared.program.ProgramFunction.{ProgramFunction}
use Rattle.st_model.specs.Layout.{saveable, saved_among, saved_of}

one-more : {A : Type 0} (n : ℕ) (b : Bool) (x : A) (xs ys : List A) → length xs ≤ n → length ys ≤ n → length (cond b (x ∷ xs) ys) ≤ n + 1
one-more n true x xs ys h k = omega arith
one-more n false x xs ys h k = omega arith

pub saved_among-few : (bits k : ℕ) (rs : List Reg) → length (saved_among bits k rs) ≤ length rs
saved_among-few bits k [] = omega arith
saved_among-few bits k (r ∷ rs) =
    let few : length (saved_among bits (k + 1) rs) ≤ length rs = saved_among-few bits (k + 1) rs in
    omega (arith, one-more (length rs) (bit_at bits k == 1) r (saved_among bits (k + 1) rs) (saved_among bits (k + 1) rs) few few)

pub saved_few : (function : ProgramFunction) → length (saved_of function) ≤ 11
saved_few function = saved_among-few function.saved 0 saveable

-- a register whose bit isn't set is left out
pub saved_among-skips : (bits k : ℕ) (rs : List Reg) → k < length rs → (bit_at bits k == 1) ≡ false → saved_among bits k (drop k rs) ≡ saved_among bits (k + 1) (drop (k + 1) rs)
saved_among-skips bits k rs inside unset =
    let r = get_or rs k registers.Zero in
    ap (saved_among bits k) (drop-read rs k r inside (get_or_default rs k registers.Zero r inside)) ∙ (λ j. cond (unset j) (r ∷ saved_among bits (k + 1) (drop (k + 1) rs)) (saved_among bits (k + 1) (drop (k + 1) rs)))

pub saved_among-takes : (bits k : ℕ) (rs : List Reg) (d : Reg) → k < length rs → (bit_at bits k == 1) ≡ true → saved_among bits k (drop k rs) ≡ get_or rs k d ∷ saved_among bits (k + 1) (drop (k + 1) rs)
saved_among-takes bits k rs d inside set =
    let r = get_or rs k d in
    ap (saved_among bits k) (drop-read rs k r inside (get_or_default rs k d r inside)) ∙ (λ j. cond (set j) (r ∷ saved_among bits (k + 1) (drop (k + 1) rs)) (saved_among bits (k + 1) (drop (k + 1) rs)))

-- an element is moved from what is left to what is taken
pub saved_among-pushed : {A : Type 0} (items taken : List A) (x : A) (left more whole : List A) → items ≡ taken ++ x ∷ [] → more ≡ x ∷ left → taken ++ more ≡ whole → items ++ left ≡ whole
saved_among-pushed items taken x left more whole e next before =
    (λ j. e j ++ left) ∙ append_assoc taken (x ∷ []) left ∙ ap (λ rs. taken ++ rs) (sym next) ∙ before
