-- Numbers below n that are led to different numbers below m are at most m: few. So a list of numbers below m, each once, is at most as long as m (few_once), and shorter where a
-- number below m isn't in it (fewer_once).
use Rattle.std.proofs.Common.{◌≡◌, ◌≢◌, ⊎_elim, ℕ, zero, suc, ◌≤◌, ◌<◌, List, [], ◌∷◌, length, slice_index_or, refl, sym, ◌∙◌, ap, subst, arith}
use Rattle.std.specs.List.{Contains}
use mathlib.Core.Logic.{dite}
use native.Mathlib.Decide.{ℕ_discrete}
use Rattle.st_words.proofs.Lists.{contains_here, contains_later, contains_case}
use Rattle.st_world.specs.Functions.{put}
use Rattle.st_world.proofs.Functions.{put_here, put_other}
use Rattle.st_seats.specs.Placing.{AreOnce}

abbrev AreBelow : ℕ → ℕ → (ℕ → ℕ) → Type 0
AreBelow n m f = (k : ℕ) → k < n → f k < m

abbrev AreApart : ℕ → (ℕ → ℕ) → Type 0
AreApart n f = (j k : ℕ) → j < n → k < n → f j ≡ f k → j ≡ k

-- one fewer: what led to the last number below the bound leads to where the last one led
module _ (n m : ℕ) (f : ℕ → ℕ) (low : AreBelow (suc n) (suc m) f) (apart : AreApart (suc n) f) where
  abbrev fewer : ℕ → ℕ
  fewer k = put (λ (v : ℕ). v) m (f n) (f k)

  last : (k : ℕ) → f k ≡ m → fewer k ≡ f n
  last k e = (λ i. put (λ (v : ℕ). v) m (f n) (e i)) ∙ put_here (λ (v : ℕ). v) m (f n)

  other : (k : ℕ) → f k ≢ m → fewer k ≡ f k
  other k ne = put_other (λ (v : ℕ). v) m (f n) (f k) ne

  -- no other number is led to where the last one is
  alone : (k : ℕ) → k < n → f n ≡ f k → ⊥
  alone k l e = let same = apart n k (omega arith) (omega (arith, l)) e in omega (arith, same, l)

  fewer_low : AreBelow n m fewer
  fewer_low k l = dite (ℕ_discrete (f k) m)
      (λ (e : f k ≡ m).
      let a = last k e in
      let b = low n (omega arith) in
      let ne : f n ≢ m = λ s. alone k l (s ∙ sym e) in
      omega (arith, a, b, ne))
      (λ (ne : f k ≢ m).
      let a = other k ne in
      let b = low k (omega (arith, l)) in
      omega (arith, a, b, ne))

  fewer_apart : AreApart n fewer
  fewer_apart j k a b e = dite (ℕ_discrete (f j) m)
      (λ (x : f j ≡ m). dite (ℕ_discrete (f k) m)
      (λ (y : f k ≡ m). apart j k (omega (arith, a)) (omega (arith, b)) (x ∙ sym y))
      (λ (y : f k ≢ m). absurd (alone k b (sym (last j x) ∙ (e ∙ other k y)))))
      (λ (x : f j ≢ m). dite (ℕ_discrete (f k) m)
      (λ (y : f k ≡ m). absurd (alone j a (sym (last k y) ∙ (sym e ∙ other j x))))
      (λ (y : f k ≢ m). apart j k (omega (arith, a)) (omega (arith, b)) (sym (other j x) ∙ (e ∙ other k y))))

pub few : (n m : ℕ) (f : ℕ → ℕ) → AreBelow n m f → AreApart n f → n ≤ m
few zero m f low apart = omega arith
few (suc n) zero f low apart = let l = low n (omega arith) in let no : ⊥ = omega (arith, l) in absurd no
few (suc n) (suc m) f low apart = let less = few n m (fewer n m f low apart) (fewer_low n m f low apart) (fewer_apart n m f low apart) in omega (arith, less)

-- ---- lists of numbers

abbrev number_at : List ℕ → ℕ → ℕ
number_at ns k = slice_index_or ns k 0

number_in : (ns : List ℕ) (k : ℕ) → k < length ns → Contains ns (number_at ns k)
number_in [] k l = let no : ⊥ = omega (arith, l) in absurd no
number_in (n ∷ ns) zero l = contains_here n ns
number_in (n ∷ ns) (suc k) l = let within : suc k < suc (length ns) = l in contains_later (number_at ns k) n ns (number_in ns k (omega (arith, within)))

numbers_apart : (ns : List ℕ) → AreOnce ns → AreApart (length ns) (number_at ns)
numbers_apart [] once j k a b e = let no : ⊥ = omega (arith, a) in absurd no
numbers_apart (n ∷ ns) once zero zero a b e = refl
numbers_apart (n ∷ ns) once zero (suc k) a b e =
    let within : suc k < suc (length ns) = b in
    absurd (once.0 (subst (λ (c : ℕ). Contains ns c) (sym e) (number_in ns k (omega (arith, within)))))
numbers_apart (n ∷ ns) once (suc j) zero a b e =
    let within : suc j < suc (length ns) = a in
    absurd (once.0 (subst (λ (c : ℕ). Contains ns c) e (number_in ns j (omega (arith, within)))))
numbers_apart (n ∷ ns) once (suc j) (suc k) a b e =
    let first : suc j < suc (length ns) = a in
    let second : suc k < suc (length ns) = b in
    ap (λ (i : ℕ). suc i) (numbers_apart ns once.1 j k (omega (arith, first)) (omega (arith, second)) e)

pub few_once : (m : ℕ) (ns : List ℕ) → AreOnce ns → ((c : ℕ) → Contains ns c → c < m) → length ns ≤ m
few_once m ns once low = few (length ns) m (number_at ns) (λ k l. low (number_at ns k) (number_in ns k l)) (numbers_apart ns once)

pub fewer_once : (m c : ℕ) (ns : List ℕ) → AreOnce ns → ((d : ℕ) → Contains ns d → d < m) → c < m → (Contains ns c → ⊥) → length ns < m
fewer_once m c ns once low l out =
    let more = few_once m (c ∷ ns) (out, once) (λ d at. ⊎_elim (λ (e : c ≡ d). subst (λ (k : ℕ). k < m) e l) (λ (later : Contains ns d). low d later) (contains_case d c ns at)) in
    let all : suc (length ns) ≤ m = more in
    omega (arith, all)
