-- Ranges don't tell an integer from the one that was read with a cap (in_range_capped, count_up_to_capped, word_in_capped), since they end
-- below the cap.
use Rattle.std.proofs.Common.{ℕ, suc, ◌≡◌, ◌∙◌, ◌⊎◌, inl, inr, if◌then◌else◌, ◌-◌, ◌<◌, ◌≤◌, ◌^◌, true, false, ℤ, pos, negsuc, neg_ℤ, Some, None, Ok, Err, refl, ap, sym, arith, min, nat_lt}
use Rattle.std.specs.Int.{w64}
use Rattle.std.specs.Int.RustNames.{FitsSigned}
use Rattle.st_rv.specs.Results.{word_of}
use Rattle.st_line.specs.declared.fault.AsmKind.TheVariants.{ImmRange}
use Rattle.st_line.specs.Operands.{within}
use Rattle.st_line.specs.Statement.{Range, is_in, in_range, count_up_to}
use Rattle.st_line.specs.Views.{capped, capped_magnitude, word_in}

-- a magnitude stays as it is, or is beyond the cap
small_or_huge : (n : ℕ) → (capped_magnitude n ≡ n) ⊎ ((2 ^ 64 ≤ n) × (capped_magnitude n ≡ 2 ^ 64))
small_or_huge n = (elim (nat_lt n (2 ^ 64)) as (λ b. nat_lt n (2 ^ 64) ≡ b → (capped_magnitude n ≡ n) ⊎ ((2 ^ 64 ≤ n) × (capped_magnitude n ≡ 2 ^ 64))) [
  | true ↦ λ e. let below : n < 2 ^ 64 = grind arith in inl (omega arith)
  | false ↦ λ e. let above : 2 ^ 64 ≤ n = grind arith in inr (above, omega arith)
]) refl

-- beyond the ends of a range
above : (low : ℤ) (high n : ℕ) → high < n → is_in (low, pos high) (pos n) ≡ false
above low high n h = grind arith

above_range : (low high : ℤ) (n : ℕ) → FitsSigned w64 high → 2 ^ 64 ≤ n → is_in (low, high) (pos n) ≡ false
above_range low (pos h) n fits k = let small : h < 2 ^ 63 = fits.sfits in above low h n (omega arith)
above_range low (negsuc h) n fits k = grind arith

below_range : (low high : ℤ) (n : ℕ) → FitsSigned w64 low → 2 ^ 64 ≤ suc n → is_in (low, high) (negsuc n) ≡ false
below_range (pos l) high n fits k = refl
below_range (negsuc l) high n fits k = let small : l < 2 ^ 63 = fits.sfits in let less : nat_lt l n ≡ true = grind arith in rw less refl

-- what a number in a range gives, by whether it is in the range
abbrev checked : {X : Type 0} → X → (ℤ → X) → Range → ℤ → X
checked out give range n = if is_in range n then give n else out

out_of : {X : Type 0} (out : X) (give : ℤ → X) (range : Range) (n : ℤ) → is_in range n ≡ false → checked out give range n ≡ out
out_of out give range n h = rw h refl

positive_capped : {X : Type 0} (out : X) (give : ℤ → X) (range : Range) (n : ℕ) → ((m : ℕ) → 2 ^ 64 ≤ m → is_in range (pos m) ≡ false) → checked out give range (capped (pos n)) ≡ checked out give range (pos n)
positive_capped out give range n far = elim (small_or_huge n) [
  | inl same ↦ ap (λ m. checked out give range (pos m)) same
  | inr huge ↦ ap (λ m. checked out give range (pos m)) huge.1 ∙ out_of out give range (pos (2 ^ 64)) (far (2 ^ 64) (omega arith)) ∙ sym (out_of out give range (pos n) (far n huge.0))
]

negative_capped : {X : Type 0} (out : X) (give : ℤ → X) (range : Range) (n : ℕ) → ((m : ℕ) → 2 ^ 64 ≤ suc m → is_in range (negsuc m) ≡ false) → checked out give range (capped (negsuc n)) ≡ checked out give range (negsuc n)
negative_capped out give range n far = elim (small_or_huge (suc n)) [
  | inl same ↦ ap (λ m. checked out give range (neg_ℤ (pos m))) same
  | inr huge ↦ ap (λ m. checked out give range (neg_ℤ (pos m))) huge.1 ∙ out_of out give range (negsuc (2 ^ 64 - 1)) (far (2 ^ 64 - 1) (omega arith)) ∙ sym (out_of out give range (negsuc n) (far n huge.0))
]

pub in_range_capped : (low high z : ℤ) → FitsSigned w64 low → FitsSigned w64 high → in_range (low, high) (capped z) ≡ in_range (low, high) z
in_range_capped low high (pos n) l h = positive_capped (Err ImmRange) Ok (low, high) n (λ m k. above_range low high m h k)
in_range_capped low high (negsuc n) l h = negative_capped (Err ImmRange) Ok (low, high) n (λ m k. below_range low high m l k)

pub word_in_capped : (low : ℤ) (high : ℕ) (z : ℤ) → FitsSigned w64 low → high < 2 ^ 64 → word_in (low, pos high) (capped z) ≡ word_in (low, pos high) z
word_in_capped low high (pos n) l h = positive_capped None (λ z. Some (word_of z)) (low, pos high) n (λ m k. above low high m (omega arith))
word_in_capped low high (negsuc n) l h = negative_capped None (λ z. Some (word_of z)) (low, pos high) n (λ m k. below_range low (pos high) m l k)

count_above : (most n : ℕ) → most < n → count_up_to most (pos n) ≡ Err ImmRange
count_above most n h = let out : within 0 most n ≡ false = grind arith in rw out refl

pub count_up_to_capped : (most : ℕ) (z : ℤ) → most < 2 ^ 32 → count_up_to most (capped z) ≡ count_up_to most z
count_up_to_capped most (pos n) h = elim (small_or_huge n) [
  | inl same ↦ ap (λ m. count_up_to most (pos m)) same
  | inr huge ↦ ap (λ m. count_up_to most (pos m)) huge.1 ∙ count_above most (2 ^ 64) (omega arith) ∙ sym (count_above most n (omega (arith, huge.0)))
]
count_up_to_capped most (negsuc n) h =
    let next : capped_magnitude (suc n) ≡ suc (min n (2 ^ 64 - 1)) = omega arith in
    ap (λ m. count_up_to most (neg_ℤ (pos m))) next
