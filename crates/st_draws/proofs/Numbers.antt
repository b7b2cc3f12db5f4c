-- How many of the drawn numbers are beyond the cells: beyond_near and beyond_case (of one number), all_most (of all workers).
use Rattle.std.proofs.Common.{◌≡◌, ◌⊎◌, inl, inr, ⊎_elim, ℕ, zero, suc, ◌+◌, ◌≤◌, ◌<◌, Bool, cond, List, [], ◌∷◌, ap, arith}
use Rattle.std.proofs.lemmas.Bool.{lt-leb}
use Rattle.std.proofs.lemmas.Bool.Decides.{leb_tells}
use Rattle.st_words.specs.declared.view.View.{View}
use Rattle.st_draws.specs.Drawing.{beyond, all_beyond}

pub beyond_near : (cells c : ℕ) → c < cells → beyond cells (c ∷ []) ≡ 0
beyond_near cells c l = ap (λ (b : Bool). cond b 1 0 + 0) (lt-leb cells c l)

pub beyond_case : (cells c : ℕ) → ((c < cells) × (beyond cells (c ∷ []) ≡ 0)) ⊎ (beyond cells (c ∷ []) ≡ 1)
beyond_case cells c = ⊎_elim (λ t. inr (ap (λ (b : Bool). cond b 1 0 + 0) t.0)) (λ f. inl (f.1, beyond_near cells c f.1)) (leb_tells cells c)

-- one at a time
beyond_most : (cells : ℕ) (drawn : List ℕ) → (drawn ≡ []) ⊎ ((c : ℕ) × (drawn ≡ c ∷ [])) → beyond cells drawn ≤ 1
beyond_most cells drawn (inl e) = let a : beyond cells drawn ≡ 0 = ap (beyond cells) e in omega (arith, a)
beyond_most cells drawn (inr h) =
    let a : beyond cells drawn ≡ beyond cells (h.0 ∷ []) = ap (beyond cells) h.1 in
    ⊎_elim (λ f. let z = f.1 in omega (arith, a, z)) (λ one. omega (arith, a, one)) (beyond_case cells h.0)

pub all_most : (cells : ℕ) (view : ℕ → View) → ((w : ℕ) → ((view w).drawn ≡ []) ⊎ ((c : ℕ) × ((view w).drawn ≡ c ∷ []))) → (n : ℕ) → all_beyond cells view n ≤ n
all_most cells view one zero = omega arith
all_most cells view one (suc n) =
    let a = all_most cells view one n in
    let b = beyond_most cells (view n).drawn (one n) in
    omega (arith, a, b)
