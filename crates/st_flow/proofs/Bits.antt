-- The bits of a word under `|`, `&` and `!`. Reach for or_bit, and_bit, not_bit, which take a bit of the result apart, and for bit_left,
-- bit_right, both_bits, which give one.
use Rattle.std.proofs.Common.{◌≡◌, ◌≢◌, ℕ, zero, suc, ◌-◌, ◌<◌, Bool, true, false, ◌==◌, sym, ◌∙◌, refl, arith, ◌⊎◌, inl, inr}
use Rattle.std.specs.Prelude.{bit_and, bit_or, max, ◌↔◌}
use Rattle.std.specs.Int.{bit_at}
use Rattle.std.proofs.lemmas.Nat.Bits.{bit_at-lt, bit_at_or, bit_at_and, bit_at-zero}
use Rattle.std.proofs.lemmas.Bool.Decides.{Decides-eqb}

or_bit_of : (a b : ℕ) → a < 2 → b < 2 → max a b ≡ 1 → (a ≡ 1) ⊎ (b ≡ 1)
or_bit_of zero b x y e = inr (omega arith)
or_bit_of (suc a) b x y e = inl (omega arith)

pub or_bit : (a b k : ℕ) → bit_at (bit_or a b) k ≡ 1 → (bit_at a k ≡ 1) ⊎ (bit_at b k ≡ 1)
or_bit a b k e = or_bit_of (bit_at a k) (bit_at b k) (bit_at-lt a k) (bit_at-lt b k) (sym (bit_at_or a b k) ∙ e)

pub bit_left : (a b k : ℕ) → bit_at a k ≡ 1 → bit_at (bit_or a b) k ≡ 1
bit_left a b k e = let o = bit_at_or a b k in let l = bit_at-lt b k in omega arith

pub bit_right : (a b k : ℕ) → bit_at b k ≡ 1 → bit_at (bit_or a b) k ≡ 1
bit_right a b k e = let o = bit_at_or a b k in let l = bit_at-lt a k in omega arith

pub and_bit : (a b k : ℕ) → bit_at (bit_and a b) k ≡ 1 → (bit_at a k ≡ 1) × (bit_at b k ≡ 1)
and_bit a b k e =
    let o = bit_at_and a b k in
    let l = bit_at-lt a k in
    let m = bit_at-lt b k in
    (omega arith, omega arith)

pub both_bits : (a b k : ℕ) → bit_at a k ≡ 1 → bit_at b k ≡ 1 → bit_at (bit_and a b) k ≡ 1
both_bits a b k x y = let o = bit_at_and a b k in omega arith

pub zero_bit : (k : ℕ) → bit_at 0 k ≡ 1 → ⊥
zero_bit k e = let z = bit_at-zero k in absurd (omega arith)

is_one_of : (w : Bool) (x y : ℕ) → x == 1 ≡ w → y ≡ 1 - x → x < 2 → (x ≡ 1 → ⊥) → y ≡ 1
is_one_of true x y w e lt never = absurd (never ((Decides-eqb x 1).0 w))
is_one_of false x y w e lt never = let ne : x ≢ 1 = λ h. let t = (Decides-eqb x 1).1 h in cc in omega arith

flipped : (x y : ℕ) (t : Bool) → y ≡ 1 - x → x < 2 → (x ≡ 1) ↔ (t ≡ true) → (y ≡ 1) ↔ (t ≡ false)
flipped x y true e lt h = (λ o. let a = h.1 refl in absurd (omega arith), λ f. absurd (cc))
flipped x y false e lt h = (λ o. refl, λ f. is_one_of (x == 1) x y refl e lt (λ o. let t = h.0 o in absurd (cc)))

-- the bit of `!`, by what the bit stands for
pub not_bit : (m n k : ℕ) (t : Bool) → bit_at n k ≡ 1 - bit_at m k → (bit_at m k ≡ 1) ↔ (t ≡ true) → (bit_at n k ≡ 1) ↔ (t ≡ false)
not_bit m n k t e h = flipped (bit_at m k) (bit_at n k) t e (bit_at-lt m k) h
