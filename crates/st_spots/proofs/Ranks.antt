-- Which numbers are in the list of a cell, or behind an entry of a hand.
use Rattle.std.proofs.Common.{◌≡◌, ◌≢◌, ℕ, Bool, true, false, cond, ◌&&◌, Option, Some, None, refl, ap, ◌∙◌, eq-eqb, ne_eqb, ◌==◌}
use mathlib.Core.Logic.{dite}
use native.Mathlib.Decide.{ℕ_discrete}
use Rattle.st_spots.specs.Listing.{Spot, Nowhere, Listed, Held, Behind, Readied, Rooted}

abbrev pub some_if : Bool → ℕ → Option ℕ
some_if b k = cond b (Some k) None

abbrev pub listed_in : ℕ → Spot → Option ℕ
listed_in c (Listed e k) = some_if (e == c) k
listed_in c _ = None

some_of : (b : Bool) (k j : ℕ) → some_if b k ≡ Some j → k ≡ j
some_of true k j e = cc
some_of false k j e = let no : ⊥ = cc in absurd no

pub listed_here : (c k : ℕ) → listed_in c (Listed c k) ≡ Some k
listed_here c k = ap (λ (b : Bool). some_if b k) (eq-eqb c c refl)

listed_one : (c e j k : ℕ) → some_if (e == c) j ≡ Some k → Listed e j ≡ Listed c k
listed_one c e j k q = dite (ℕ_discrete e c)
    (λ (s : e ≡ c). let t = some_of (e == c) j k q in cc)
    (λ (d : e ≢ c). let f = ap (λ (b : Bool). some_if b j) (ne_eqb e c d) in let no : ⊥ = cc in absurd no)

pub listed_only : (c : ℕ) (s : Spot) (k : ℕ) → listed_in c s ≡ Some k → s ≡ Listed c k
listed_only c (Listed e j) k q = listed_one c e j k q
listed_only c Nowhere k q = let no : ⊥ = cc in absurd no
listed_only c (Held w) k q = let no : ⊥ = cc in absurd no
listed_only c (Behind w m n) k q = let no : ⊥ = cc in absurd no
listed_only c (Readied w) k q = let no : ⊥ = cc in absurd no
listed_only c (Rooted o) k q = let no : ⊥ = cc in absurd no

abbrev pub ranked : ℕ → ℕ → Spot → Option ℕ
ranked w c (Behind v e k) = some_if ((v == w) && (e == c)) k
ranked w c _ = None

pub ranked_here : (w c k : ℕ) → ranked w c (Behind w c k) ≡ Some k
ranked_here w c k = ap (λ (b : Bool). some_if (b && (c == c)) k) (eq-eqb w w refl) ∙ ap (λ (b : Bool). some_if b k) (eq-eqb c c refl)

ranked_one : (w c v e j k : ℕ) → some_if ((v == w) && (e == c)) j ≡ Some k → Behind v e j ≡ Behind w c k
ranked_one w c v e j k q = dite (ℕ_discrete v w)
    (λ (s : v ≡ w). dite (ℕ_discrete e c)
    (λ (r : e ≡ c). let t = some_of ((v == w) && (e == c)) j k q in cc)
    (λ (d : e ≢ c). let f = ap (λ (b : Bool). some_if (b && (e == c)) j) (eq-eqb v w s) in let g = ap (λ (b : Bool). some_if b j) (ne_eqb e c d) in let no : ⊥ = cc in absurd no))
    (λ (d : v ≢ w). let f = ap (λ (b : Bool). some_if (b && (e == c)) j) (ne_eqb v w d) in let no : ⊥ = cc in absurd no)

pub ranked_only : (w c : ℕ) (s : Spot) (k : ℕ) → ranked w c s ≡ Some k → s ≡ Behind w c k
ranked_only w c (Behind v e j) k q = ranked_one w c v e j k q
ranked_only w c Nowhere k q = let no : ⊥ = cc in absurd no
ranked_only w c (Held v) k q = let no : ⊥ = cc in absurd no
ranked_only w c (Listed m n) k q = let no : ⊥ = cc in absurd no
ranked_only w c (Readied v) k q = let no : ⊥ = cc in absurd no
ranked_only w c (Rooted o) k q = let no : ⊥ = cc in absurd no
