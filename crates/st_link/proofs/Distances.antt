-- Distances: from one multiple of 4 to another they are even (even-distance), within a million of bytes a `jal` goes anywhere (far-signed),
-- a branch that reaches has a word (reach-signed), and so has one with fewer words between, the same way (signed-nearer,
-- signed-nearer-back), or with a few (signed-near).
use Rattle.std.proofs.Common.{◌≡◌, ◌⊎◌, inl, inr, ℕ, zero, suc, ◌+◌, ◌-◌, ◌*◌, ◌%◌, ◌^◌, ◌≤◌, ◌<◌, ℤ, pos, neg_ℤ, ◌-ℤ◌, ◌≤ℤ◌, ◌<ℤ◌, true, not, refl, ap, sym, subst, arith}
use Rattle.std.specs.Prelude.{int_lt, T}
use Rattle.std.specs.Int.Signed.{lt_z_no}
use Rattle.std.proofs.lemmas.Int.{ints}
use Rattle.std.proofs.lemmas.Bool.{and_parts}
use Rattle.st_rv.specs.Fields.{IsSigned, IsEven}
use Rattle.st_model.specs.Layout.{below, distance, reaches}

-- ---- even ones

even-up : (m : ℕ) → m % 2 ≡ 0 → IsEven (pos m)
even-up m h = ap pos h

even-down : (m : ℕ) → m % 2 ≡ 0 → IsEven (neg_ℤ (pos m))
even-down zero h = refl
even-down (suc m) h = ap (λ r. neg_ℤ (pos r)) h

pub either-way : (a b : ℕ) → (a ≤ b) ⊎ (b ≤ a)
either-way zero b = inl (omega arith)
either-way (suc a) zero = inr (omega arith)
either-way (suc a) (suc b) = elim (either-way a b) [ inl h ↦ inl (omega arith) | inr h ↦ inr (omega arith) ]

pub even-distance : (a b : ℕ) → IsEven (pos (4 * b) -ℤ pos (4 * a))
even-distance a b =
    elim (either-way a b) [
      | inl h ↦ let e : pos (4 * b) -ℤ pos (4 * a) ≡ pos (4 * b - 4 * a) = omega (arith, ints) in subst IsEven (sym e) (even-up (4 * b - 4 * a) (omega arith))
      | inr h ↦ let e : pos (4 * b) -ℤ pos (4 * a) ≡ neg_ℤ (pos (4 * a - 4 * b)) = omega (arith, ints) in subst IsEven (sym e) (even-down (4 * a - 4 * b) (omega arith))
    ]

-- ---- ranges

pub less : (a b : ℤ) → int_lt a b ≡ true → a <ℤ b
less a b e = record { lt = subst T (sym e) tt }

pub not-less : (a b : ℤ) → not (int_lt a b) ≡ true → b ≤ℤ a
not-less a b e = lt_z_no (subst T (sym e) tt)

pub far-signed : (a b : ℕ) → a < 2 ^ 18 → b < 2 ^ 18 → IsSigned (2 ^ 20) (pos (4 * b) -ℤ pos (4 * a))
far-signed a b p q = (omega (arith, ints), omega (arith, ints))

pub reach-signed : (d : ℤ) → reaches d ≡ true → IsSigned (2 ^ 12) d
reach-signed d r =
    let parts = and_parts _ _ r in
    let low = not-less d (below 4096) parts.0 in
    let high = not-less (pos 4094) d parts.1 in
    (low, omega (arith, ints, high))

-- forward and back
pub signed-nearer : (a b c d : ℕ) → a ≤ b → c ≤ d → d + a ≤ b + c → IsSigned (2 ^ 12) (distance a b) → IsSigned (2 ^ 12) (distance c d)
signed-nearer a b c d p q near is = let low = is.0 in let high = is.1 in (omega (arith, ints, low, high), omega (arith, ints, low, high))

pub signed-nearer-back : (a b c d : ℕ) → b ≤ a → d ≤ c → c + b ≤ a + d → IsSigned (2 ^ 12) (distance a b) → IsSigned (2 ^ 12) (distance c d)
signed-nearer-back a b c d p q near is = let low = is.0 in let high = is.1 in (omega (arith, ints, low, high), omega (arith, ints, low, high))

-- a few words on
pub signed-near : (a b : ℕ) → a ≤ b → b ≤ a + 8 → IsSigned (2 ^ 12) (distance a b)
signed-near a b p q = (omega (arith, ints), omega (arith, ints))
