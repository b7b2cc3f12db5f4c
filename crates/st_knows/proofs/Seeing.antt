-- What a view tells of a cell: owner_case (the Owner word that it saw), kind_in (the name that it knows), has_contains. each_of is for lists with an element more.
use Rattle.std.proofs.Common.{◌≡◌, ◌≢◌, ◌⊎◌, inl, inr, ⊎_elim, ℕ, Bool, true, false, cond, ◌==◌, ◌||◌, List, [], ◌∷◌, Some, None, refl, sym, ap, ◌∙◌, subst, eq-eqb, ne_eqb}
use Rattle.std.specs.List.{Contains}
use mathlib.Core.Logic.{dite}
use native.Mathlib.Decide.{ℕ_discrete}
use Rattle.st_base.specs.declared.thread.Held.{Held}
use Rattle.st_words.specs.Views.{owner_seen, kind_of, kind_named, has_number}
use Rattle.st_words.proofs.Lists.{contains_here, contains_later, contains_case, contains_none, same_true}

-- what holds of one element and of each of the others
pub each_of : {X : Type 0} (P : X → Type 0) (x : X) (xs : List X) → P x → ((y : X) → Contains xs y → P y) → (y : X) → Contains (x ∷ xs) y → P y
each_of {X} P x xs here more y m = ⊎_elim (λ (s : x ≡ y). subst P s here) (more y) (contains_case y x xs m)

at_cell : (c : ℕ) (y : ℕ × ℕ) → y.0 ≡ c → y ≡ (c, y.1)
at_cell c y e = λ i. (e i, y.1)

-- an Owner word was seen, or none
pub owner_case : (c : ℕ) (owners : List (ℕ × ℕ)) → ((owner_seen c owners ≡ None) × ((n : ℕ) → Contains owners (c, n) → ⊥)) ⊎ ((n : ℕ) × (owner_seen c owners ≡ Some n) × Contains owners (c, n))
owner_case c [] = inl (refl, λ n m. contains_none (c, n) m)
owner_case c (y ∷ ys) = dite (ℕ_discrete y.0 c)
    (λ (e : y.0 ≡ c). inr (y.1, ap (λ (b : Bool). cond b (Some y.1) (owner_seen c ys)) (eq-eqb y.0 c e), subst (λ (z : ℕ × ℕ). Contains (y ∷ ys) z) (at_cell c y e) (contains_here y ys)))
    (λ (d : y.0 ≢ c). let s = ap (λ (b : Bool). cond b (Some y.1) (owner_seen c ys)) (ne_eqb y.0 c d) in ⊎_elim
    (λ r. inl (s ∙ r.0, λ n m. ⊎_elim (λ (z : y ≡ (c, n)). d (ap (λ (p : ℕ × ℕ). p.0) z)) (r.1 n) (contains_case (c, n) y ys m)))
    (λ r. inr (r.0, s ∙ r.1, contains_later (c, r.0) y ys r.2)) (owner_case c ys))

at_name : (c : ℕ) (y : Held × ℕ) → y.1 ≡ c → y ≡ (y.0, c)
at_name c y e = λ i. (y.0, e i)

-- a name tells what the cell is for
pub kind_in : (c : ℕ) (names : List (Held × ℕ)) (b : Bool) → kind_named c names ≡ Some b → (name : Held) × Contains names (name, c) × (kind_of name ≡ Some b)
kind_in c [] b e = let no : ⊥ = cc in absurd no
kind_in c (y ∷ ys) b e = dite (ℕ_discrete y.1 c)
    (λ (s : y.1 ≡ c). (y.0, subst (λ (z : Held × ℕ). Contains (y ∷ ys) z) (at_name c y s) (contains_here y ys), sym (ap (λ (t : Bool). cond t (kind_of y.0) (kind_named c ys)) (eq-eqb y.1 c s)) ∙ e))
    (λ (d : y.1 ≢ c). let r = kind_in c ys b (sym (ap (λ (t : Bool). cond t (kind_of y.0) (kind_named c ys)) (ne_eqb y.1 c d)) ∙ e) in (r.0, contains_later (r.0, c) y ys r.1, r.2))

has_at : (c d : ℕ) (ds : List ℕ) → (has_number ds c ≡ true → Contains ds c) → (b : Bool) → (d == c) ≡ b → (b || has_number ds c) ≡ true → Contains (d ∷ ds) c
has_at c d ds more true t e = subst (λ (k : ℕ). Contains (d ∷ ds) k) (same_true d c t) (contains_here d ds)
has_at c d ds more false t e = contains_later c d ds (more e)

pub has_contains : (c : ℕ) (ds : List ℕ) → has_number ds c ≡ true → Contains ds c
has_contains c [] e = let no : ⊥ = cc in absurd no
has_contains c (d ∷ ds) e = has_at c d ds (has_contains c ds) (d == c) refl e
