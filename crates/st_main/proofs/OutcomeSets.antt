-- Equations between outcomes have one proof at most (outcome-set), since outcomes are made of numbers: sums-set, lists-set.
use Rattle.std.proofs.Common.{◌≡◌, List, [], ◌∷◌, Option, refl, sym, ap, ◌∙◌, subst, ◌⊎◌, inl, inr}
use Rattle.std.proofs.Math.IntN.{ℤ_set}
use Rattle.std.proofs.Math.Nat.{ℕ_set}
use Rattle.std.proofs.Math.Path.{path_j, subst_refl}
use Rattle.st_main.specs.declared.outcome.Outcome.{Outcome}

-- ---- sums

module _ {A B : Type 0} where
  -- two values of a sum are equal by their parts
  abbrev SameSum : A ⊎ B → A ⊎ B → Type 0
  SameSum (inl a) (inl a') = a ≡ a'
  SameSum (inl a) (inr b) = ⊥
  SameSum (inr b) (inl a) = ⊥
  SameSum (inr b) (inr b') = b ≡ b'

  abbrev sum-refl : (x : A ⊎ B) → SameSum x x
  sum-refl (inl a) = refl
  sum-refl (inr b) = refl

  abbrev sum-parts : (x y : A ⊎ B) → x ≡ y → SameSum x y
  sum-parts x y e = subst (SameSum x) e (sum-refl x)

  abbrev sum-whole : (x y : A ⊎ B) → SameSum x y → x ≡ y
  sum-whole (inl a) (inl a') e = ap (λ z. inl z) e
  sum-whole (inl a) (inr b) e = absurd e
  sum-whole (inr b) (inl a) e = absurd e
  sum-whole (inr b) (inr b') e = ap (λ z. inr z) e

  sum-back-refl : (x : A ⊎ B) → sum-whole x x (sum-parts x x refl) ≡ refl
  sum-back-refl (inl a) = ap (sum-whole (inl a) (inl a)) (subst_refl (SameSum (inl a)) {x = inl a} (sum-refl (inl a)))
  sum-back-refl (inr b) = ap (sum-whole (inr b) (inr b)) (subst_refl (SameSum (inr b)) {x = inr b} (sum-refl (inr b)))

  sum-back : (x y : A ⊎ B) (e : x ≡ y) → sum-whole x y (sum-parts x y e) ≡ e
  sum-back x y e = path_j (λ z f. sum-whole x z (sum-parts x z f) ≡ f) (sum-back-refl x) e

  sum-prop : IsSet A → IsSet B → (x y : A ⊎ B) → IsProp (SameSum x y)
  sum-prop a b (inl x) (inl y) = a x y
  sum-prop a b (inl x) (inr y) = hlevel
  sum-prop a b (inr x) (inl y) = hlevel
  sum-prop a b (inr x) (inr y) = b x y

  pub sums-set : IsSet A → IsSet B → IsSet (A ⊎ B)
  sums-set a b x y e f = sym (sum-back x y e) ∙ ap (sum-whole x y) (sum-prop a b x y (sum-parts x y e) (sum-parts x y f)) ∙ sum-back x y f

-- ---- lists

module _ {A : Type 0} where
  -- two lists are equal by their parts
  abbrev SameList : List A → List A → Type 0
  SameList [] [] = Prim.Unit
  SameList [] (y ∷ ys) = ⊥
  SameList (x ∷ xs) [] = ⊥
  SameList (x ∷ xs) (y ∷ ys) = (x ≡ y) × SameList xs ys

  abbrev list-refl : (xs : List A) → SameList xs xs
  list-refl [] = tt
  list-refl (x ∷ xs) = (refl, list-refl xs)

  abbrev list-parts : (xs ys : List A) → xs ≡ ys → SameList xs ys
  list-parts xs ys e = subst (SameList xs) e (list-refl xs)

  abbrev list-whole : (xs ys : List A) → SameList xs ys → xs ≡ ys
  list-whole [] [] h = refl
  list-whole [] (y ∷ ys) h = absurd h
  list-whole (x ∷ xs) [] h = absurd h
  list-whole (x ∷ xs) (y ∷ ys) h = λ i. h.0 i ∷ list-whole xs ys h.1 i

  list-whole-refl : (xs : List A) → list-whole xs xs (list-refl xs) ≡ refl
  list-whole-refl [] = refl
  list-whole-refl (x ∷ xs) = ap {B = Path (List A) (x ∷ xs) (x ∷ xs)} (λ (e : xs ≡ xs). λ i. x ∷ e i) (list-whole-refl xs)

  list-back : (xs ys : List A) (e : xs ≡ ys) → list-whole xs ys (list-parts xs ys e) ≡ e
  list-back xs ys e =
      path_j (λ zs f. list-whole xs zs (list-parts xs zs f) ≡ f) (ap (list-whole xs xs) (subst_refl (SameList xs) {x = xs} (list-refl xs)) ∙ list-whole-refl xs) e

  list-prop : IsSet A → (xs ys : List A) → IsProp (SameList xs ys)
  list-prop a [] [] = hlevel
  list-prop a [] (y ∷ ys) = hlevel
  list-prop a (x ∷ xs) [] = hlevel
  list-prop a (x ∷ xs) (y ∷ ys) = let here = a x y in let later = list-prop a xs ys in hlevel (here, later)

  pub lists-set : IsSet A → IsSet (List A)
  lists-set a xs ys e f = sym (list-back xs ys e) ∙ ap (list-whole xs ys) (list-prop a xs ys (list-parts xs ys e) (list-parts xs ys f)) ∙ list-back xs ys f

pub outcome-set : IsSet (Option Outcome)
outcome-set = hlevel (ℕ_set, ℤ_set, sums-set, lists-set)
