-- Words of places under `|`, `&` and `!`, and ranges: word_or, word_and, word_not, and between_is, one_is, slot_is for the tests.
use Rattle.std.proofs.Common.{◌≡◌, ℕ, ◌+◌, ◌-◌, ◌*◌, ◌^◌, ◌%◌, ◌<◌, ◌≤◌, Bool, true, false, ◌==◌, refl, sym, ◌∙◌, arith, ◌⊎◌, inl, inr}
use Rattle.std.specs.Prelude.{bit_or, bit_and, nat_lt, not, min, ◌&&◌, ◌||◌}
use Rattle.std.specs.Int.{bit_at, bit_not, w64}
use Rattle.std.proofs.lemmas.Nat.Bits.{bit_at_not, bit_at_ones, bit_at_ones_above}
use Rattle.std.proofs.Math.Pow.{pow-lt}
use Rattle.std.proofs.lemmas.Nat.{or_lt}
use Rattle.std.proofs.lemmas.Bool.Decides.{Decides-ltb, nat_tests}
use Rattle.st_model.specs.Flow.{between}
use Rattle.st_flow.specs.Places.{IsWord}
use Rattle.st_flow.proofs.Bits.{or_bit, bit_left, bit_right, and_bit, both_bits, zero_bit, not_bit}

or_left : (a b : Bool) → a ≡ true → a || b ≡ true
or_left true b e = refl
or_left false b e = absurd (cc)

or_right : (a b : Bool) → b ≡ true → a || b ≡ true
or_right true b e = refl
or_right false b e = e

pub or_cases : (a b : Bool) → a || b ≡ true → (a ≡ true) ⊎ (b ≡ true)
or_cases true b e = inl refl
or_cases false b e = inr e

pub and_parts : (a b : Bool) → a && b ≡ true → (a ≡ true) × (b ≡ true)
and_parts true b e = (refl, e)
and_parts false b e = absurd (cc)

and_both : (a b : Bool) → a ≡ true → b ≡ true → a && b ≡ true
and_both true b e f = f
and_both false b e f = absurd (cc)

not_true : (b : Bool) → b ≡ false → not b ≡ true
not_true true e = absurd (cc)
not_true false e = refl

pub is_false : (b : Bool) → not b ≡ true → b ≡ false
is_false true e = absurd (cc)
is_false false e = refl

pub word_or : (f h : ℕ → Bool) (a b g : ℕ) → IsWord a g f → IsWord b g h → IsWord (bit_or a b) g (λ x. f x || h x)
word_or f h a b g x y k lt = (
  λ bit.
      elim (or_bit a b k bit) as (λ z. f (64 * g + k) || h (64 * g + k) ≡ true) [
        | inl c ↦ or_left (f (64 * g + k)) (h (64 * g + k)) ((x k lt).0 c)
        | inr c ↦ or_right (f (64 * g + k)) (h (64 * g + k)) ((y k lt).0 c)
      ],
  λ e.
      elim (or_cases (f (64 * g + k)) (h (64 * g + k)) e) as (λ z. bit_at (bit_or a b) k ≡ 1) [
        | inl c ↦ bit_left a b k ((x k lt).1 c)
        | inr c ↦ bit_right a b k ((y k lt).1 c)
      ],
)

pub word_and : (f h : ℕ → Bool) (a b g : ℕ) → IsWord a g f → IsWord b g h → IsWord (bit_and a b) g (λ x. f x && h x)
word_and f h a b g x y k lt = (
  λ bit. let two = and_bit a b k bit in and_both (f (64 * g + k)) (h (64 * g + k)) ((x k lt).0 two.0) ((y k lt).0 two.1),
  λ e. let two = and_parts (f (64 * g + k)) (h (64 * g + k)) e in both_bits a b k ((x k lt).1 two.0) ((y k lt).1 two.1),
)

pub word_not : (f : ℕ → Bool) (a g : ℕ) → a < 2 ^ 64 → IsWord a g f → IsWord (bit_not w64 a) g (λ x. not (f x))
word_not f a g small x k lt =
    let flip = not_bit a (bit_not w64 a) k (f (64 * g + k)) (bit_at_not w64 a k small lt) (x k lt) in
    (λ bit. not_true (f (64 * g + k)) (flip.0 bit), λ e. flip.1 (is_false (f (64 * g + k)) e))

-- the same word, by tests that agree on its places
pub word_same : (f h : ℕ → Bool) (a g : ℕ) → ((x : ℕ) → x < 64 * g + 64 → f x ≡ h x) → IsWord a g f → IsWord a g h
word_same f h a g same x k lt =
    let e = same (64 * g + k) (omega arith) in
    (λ bit. sym e ∙ (x k lt).0 bit, λ t. (x k lt).1 (e ∙ t))

pub word_none : (g high : ℕ) → high ≤ 64 * g → IsWord 0 g (λ x. nat_lt x high)
word_none g high le k lt = (
  λ bit. absurd (zero_bit k bit),
  λ e. let h = (Decides-ltb (64 * g + k) high).0 e in absurd (omega arith),
)

pub word_all : (g high : ℕ) → 64 * g + 64 ≤ high → IsWord (2 ^ 64 - 1) g (λ x. nat_lt x high)
word_all g high le k lt = (
  λ bit. (Decides-ltb (64 * g + k) high).1 (omega arith),
  λ e. bit_at_ones 64 k lt,
)

ones_at : (g n k : ℕ) (w : Bool) → nat_lt k n ≡ w → bit_at (2 ^ n - 1) k ≡ 1 → k < n
ones_at g n k true e bit = (Decides-ltb k n).0 e
ones_at g n k false e bit =
    let late : n ≤ k = grind (arith, nat_tests) in
    let none = bit_at_ones_above n k late in
    absurd (omega arith)

pub word_part : (g high n : ℕ) → high ≡ 64 * g + n → IsWord (2 ^ n - 1) g (λ x. nat_lt x high)
word_part g high n e k lt = (
  λ bit. let h = ones_at g n k (nat_lt k n) refl bit in (Decides-ltb (64 * g + k) high).1 (omega arith),
  λ t. let h = (Decides-ltb (64 * g + k) high).0 t in bit_at_ones n k (omega arith),
)

pub between_is : (low high x : ℕ) → (nat_lt x high && not (nat_lt x low)) ≡ between low high x
between_is low high x = grind (arith, nat_tests)

pub one_is : (n x : ℕ) → between n (n + 1) x ≡ (x == n)
one_is n x = grind (arith, nat_tests)

-- ends that are cut at the largest number
pub slot_is : (place bytes most x : ℕ) → x < most → between (min (place + 32) most) (min (min (place + 32) most + bytes) most) x ≡ between (32 + place) (32 + place + bytes) x
slot_is place bytes most x lt = grind (arith, nat_tests)

-- `1 << n`
pub power_fits : (n : ℕ) → n < 64 → 1 * 2 ^ n % 18446744073709551616 ≡ 2 ^ n
power_fits n lt =
    let small : 2 ^ n < 2 ^ 64 = pow-lt lt in
    omega arith

-- the complement of a union
pub word_neither : (f h : ℕ → Bool) (a b g : ℕ) → a < 2 ^ 64 → b < 2 ^ 64 → IsWord a g f → IsWord b g h → IsWord (bit_not w64 (bit_or a b)) g (λ x. not (f x || h x))
word_neither f h a b g small few x y = word_not (λ n. f n || h n) (bit_or a b) g (or_lt 64 a b small few) (word_or f h a b g x y)
