-- Products of words, as the code computes them: in 128 bits for the upper half, from the low halves for the W form.
use Rattle.std.proofs.Common.{◌≡◌, ℕ, ℤ, pos, negsuc, ◌*ℤ◌, ◌*◌, ◌%◌, ◌-◌, ◌<◌, ◌≤◌, ◌^◌, ap, ◌∙◌, arith, w64, to_z, of_z, SFits}
use Rattle.std.specs.Int.{w128}
use Rattle.std.specs.Int.Signed.{shr_z, mag, nat_abs-le}
use Rattle.std.specs.Prelude.{unsigned_abs}
use Rattle.std.proofs.lemmas.Int.{to_z-of_z, fits_signed_mul}
use Rattle.std.proofs.lemmas.Nat.{mul-mod_first}
use Rattle.std.proofs.Math.Nat.{mul_comm}

shifted_below : (z : ℤ) → mag z < 2 ^ 127 → mag (shr_z z (2 ^ 64)) < 2 ^ 63
shifted_below (pos a) h = omega arith
shifted_below (negsuc a) h = omega arith

-- the upper half of a product of a number of 64 bits and a smaller one than 2 ^ 64 passes through all casts
pub high_half : (x y : ℤ) → SFits w64 x → unsigned_abs y ≤ 2 ^ 64 - 1 →
    of_z w64 (to_z w64 (of_z w64 (to_z w128 (of_z w128 (shr_z (to_z w128 (of_z w128 (x *ℤ y))) (2 ^ 64))))))
    ≡ of_z w64 (shr_z (x *ℤ y) (2 ^ 64))
high_half x y f g =
    let whole : SFits w128 (x *ℤ y) = fits_signed_mul w128 x y (2 ^ 63) (2 ^ 64 - 1) (nat_abs-le x f.sfits) g (omega arith) in
    let below = shifted_below (x *ℤ y) whole.sfits in
    let half : SFits w64 (shr_z (x *ℤ y) (2 ^ 64)) = record { sfits = below } in
    let wide : SFits w128 (shr_z (x *ℤ y) (2 ^ 64)) = record { sfits = omega arith } in
    rw (to_z-of_z w128 (x *ℤ y) whole, to_z-of_z w128 (shr_z (x *ℤ y) (2 ^ 64)) wide, to_z-of_z w64 (shr_z (x *ℤ y) (2 ^ 64)) half)

-- the low half of a product is that of the low halves
pub product_of_low : (a b : ℕ) → (a % 2 ^ 32) * (b % 2 ^ 32) % 2 ^ 32 ≡ a * b % 2 ^ 32
product_of_low a b =
    mul-mod_first a (b % 2 ^ 32) (2 ^ 32)
    ∙ ap (λ n. n % 2 ^ 32) (mul_comm a (b % 2 ^ 32))
    ∙ mul-mod_first b a (2 ^ 32)
    ∙ ap (λ n. n % 2 ^ 32) (mul_comm b a)
