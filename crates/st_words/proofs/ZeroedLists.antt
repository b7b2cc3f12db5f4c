-- A list of words of which those behind the last that was stored are 0. Reach for one_zero_more (one more word that is 0 is put at the end) and
-- stored_behind (a store behind the words so far).
use Rattle.std.proofs.Common.{◌≡◌, ℕ, zero, suc, ◌+◌, ◌-◌, ◌<◌, ◌≤◌, List, [], ◌∷◌, ◌++◌, length, replicate, slice_set, refl, sym, ap, ◌∙◌, arith, append_assoc, length-append}
use Rattle.std.proofs.lemmas.List.{length-replicate, replicate_more, set-append_right}

-- the words, and zeros behind them, as many as are missing
abbrev pub zeroed : List ℕ → ℕ → List ℕ
zeroed words count = words ++ replicate (count - length words) 0

pub one_zero_more : (words : List ℕ) (i : ℕ) → length words ≤ i → zeroed words i ++ 0 ∷ [] ≡ zeroed words (i + 1)
one_zero_more words i l =
    let e : i - length words + 1 ≡ i + 1 - length words = omega arith in
    append_assoc words (replicate (i - length words) 0) (0 ∷ []) ∙ ap (λ zs. words ++ zs) (replicate_more {X = ℕ} (i - length words) 0 ∙ ap (λ k. replicate k 0) e)

pub zeroed_length : (words : List ℕ) (count : ℕ) → length words ≤ count → length (zeroed words count) ≡ count
zeroed_length words count l = omega (arith, length-append words (replicate (count - length words) 0), length-replicate {A = ℕ} (count - length words) 0)

-- so many zeros of which one is replaced
replaced : (i n value : ℕ) → i < n → slice_set (replicate n 0) i value ≡ replicate i 0 ++ value ∷ replicate (n - (i + 1)) 0
replaced zero zero value l = absurd (omega arith)
replaced zero (suc n) value l =
    let e : n ≡ suc n - (0 + 1) = omega arith in
    ap (λ k. value ∷ replicate k 0) e
replaced (suc i) zero value l = absurd (omega arith)
replaced (suc i) (suc n) value l =
    let m : i < n = omega arith in
    let e : n - (i + 1) ≡ suc n - (suc i + 1) = omega arith in
    ap (λ zs. 0 ∷ zs) (replaced i n value m) ∙ ap (λ k. 0 ∷ (replicate i 0 ++ value ∷ replicate k 0)) e

pub stored_behind : (words : List ℕ) (count at value : ℕ) → length words ≤ at → at < count → zeroed (zeroed words at ++ value ∷ []) count ≡ slice_set (zeroed words count) at value
stored_behind words count at value l m =
    let long : length (zeroed words at ++ value ∷ []) ≡ at + 1 = omega (arith, length-append (zeroed words at) (value ∷ []), zeroed_length words at l) in
    let inside : at - length words < count - length words = omega arith in
    let rest : count - length words - (at - length words + 1) ≡ count - (at + 1) = omega arith in
    let front = ap (λ k. (zeroed words at ++ value ∷ []) ++ replicate (count - k) 0) long in
    let out = append_assoc (zeroed words at) (value ∷ []) (replicate (count - (at + 1)) 0) in
    let again = append_assoc words (replicate (at - length words) 0) (value ∷ replicate (count - (at + 1)) 0) in
    let back = set-append_right words (replicate (count - length words) 0) (length words) at value refl l in
    let middle = replaced (at - length words) (count - length words) value inside ∙ ap (λ k. replicate (at - length words) 0 ++ value ∷ replicate k 0) rest in
    front ∙ out ∙ again ∙ sym (back ∙ ap (λ zs. words ++ zs) middle)
