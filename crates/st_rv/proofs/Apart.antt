-- Rows that are apart: what the test of two rows finds (`clash_found`, `clash_seen`), and what the test of a table says
-- (`are_apart`).
use Rattle.std.proofs.Common.{ℕ, suc, ◌≡◌, ◌^◌, ◌<◌, ◌+◌, Bool, true, false, not, ◌&&◌, List, [], ◌∷◌, refl, ap, sym, subst, ◌∙◌, arith, bit_and, bit_or, nat_eq, min, max, length, take, ◌≤◌}
use Rattle.std.specs.Prelude.{slice_index_or, IsTrue, ◌↔◌}
use Rattle.std.proofs.lemmas.Nat.{or_comm, or_lt}
use Rattle.std.proofs.lemmas.Nat.Bits.{same_from_bits, bit_at_and, bit_at_or, bit_at-lt}
use Rattle.std.proofs.lemmas.List.Elements.{All-nil, All-cons, All-more}
use Rattle.std.proofs.lemmas.List.{take_all}
use Rattle.std.proofs.lemmas.List.Kept.{AllPairs-cons}
use Rattle.std.specs.Int.{bit_at}
use Rattle.st_rv.specs.Rows.{Clash, IsApartFrom, AreApart, clash_test, apart_from_test, apart_test}
use Rattle.st_rv.specs.declared.rows.Row.{Row}
use Rattle.st_rv.specs.declared.rows.Form.TheVariants.{R}
use Rattle.st_rv.specs.declared.ins.Op.TheVariants.{Add}

-- ---- two rows

-- one bit of a word under two masks
bit_law : (w m n : ℕ) → w < 2 → m < 2 → n < 2 → min (max (min w m) (min w n)) m ≡ min w m
bit_law w m n p q r = omega arith

-- a word has the bits under one mask also where they are joined with those under another
joined_under : (w m n : ℕ) → bit_and (bit_or (bit_and w m) (bit_and w n)) m ≡ bit_and w m
joined_under w m n = same_from_bits (bit_and (bit_or (bit_and w m) (bit_and w n)) m) (bit_and w m) (λ i.
    bit_at_and (bit_or (bit_and w m) (bit_and w n)) m i
    ∙ ap (λ t. min t (bit_at m i)) (bit_at_or (bit_and w m) (bit_and w n) i)
    ∙ ap (λ t. min (max t (bit_at (bit_and w n) i)) (bit_at m i)) (bit_at_and w m i)
    ∙ ap (λ t. min (max (min (bit_at w i) (bit_at m i)) t) (bit_at m i)) (bit_at_and w n i)
    ∙ bit_law (bit_at w i) (bit_at m i) (bit_at n i) (bit_at-lt w i) (bit_at-lt m i) (bit_at-lt n i)
    ∙ sym (bit_at_and w m i))

-- ---- tests

pub both_true : (a b : Bool) → a && b ≡ true → (a ≡ true) × (b ≡ true)
both_true true true h = (refl, refl)
both_true true false h = cc
both_true false b h = cc

pub equal_true : (a b : ℕ) → nat_eq a b ≡ true → a ≡ b
equal_true a b h = grind arith

pub true_equal : (a b : ℕ) → a ≡ b → nat_eq a b ≡ true
true_equal a b h = grind arith

pub not_true : (a : Bool) → not a ≡ true → a ≡ false
not_true true h = cc
not_true false h = refl

pub true_not : (a : Bool) → (a ≡ true → ⊥) → a ≡ false
true_not true h = absurd (h refl)
true_not false h = refl

-- ---- the test of two rows is exact

pub clash_found : (r s : Row) → r.bits < 2 ^ 32 → s.bits < 2 ^ 32 → clash_test r s ≡ true → Clash r s
clash_found r s p q h =
    let t = both_true _ _ h in
    (bit_or r.bits s.bits, or_lt 32 r.bits s.bits p q, equal_true _ _ t.0, equal_true _ _ t.1)

joined_given : (w a m b n : ℕ) → bit_and w m ≡ a → bit_and w n ≡ b → (bit_and (bit_or a b) m ≡ a) × (bit_and (bit_or a b) n ≡ b)
joined_given w a m b n e f = (
  rw (sym e, sym f) (joined_under w m n),
  rw (sym e, sym f, or_comm (bit_and w m) (bit_and w n)) (joined_under w n m),
)

pub clash_seen : (r s : Row) → Clash r s → clash_test r s ≡ true
clash_seen r s c =
    let g = joined_given c.0 r.bits r.mask s.bits s.mask c.2 c.3 in
    rw (true_equal _ _ g.0, true_equal _ _ g.1) refl

pub clash_exact : (r s : Row) → r.bits < 2 ^ 32 → s.bits < 2 ^ 32 → IsTrue (clash_test r s) ↔ Clash r s
clash_exact r s p q = (clash_found r s p q, clash_seen r s)

-- ---- the test of a table

apart_from : (r : Row) (rs : List Row) → apart_from_test r rs ≡ true → IsApartFrom r rs
apart_from r [] h = All-nil (λ s. Clash r s → ⊥)
apart_from r (s ∷ rs) h =
    let p = both_true (not (clash_test r s)) (apart_from_test r rs) h in
    let no : Clash r s → ⊥ = λ c. let k : clash_test r s ≡ true = clash_seen r s c in let n = not_true _ p.0 in cc in
    All-cons (λ s. Clash r s → ⊥) s rs no (apart_from r rs p.1)

pub are_apart : (rs : List Row) → apart_test rs ≡ true → AreApart rs
are_apart [] h = λ i j d first below. absurd (omega arith)
are_apart (r ∷ rs) h =
    let p = both_true (apart_from_test r rs) (apart_test rs) h in
    AllPairs-cons (λ r s. Clash r s → ⊥) r rs (apart_from r rs p.0) (are_apart rs p.1)

-- ---- the first row of a list and the others

pub apart_next : (r s : Row) (rs : List Row) → IsApartFrom r (s ∷ rs) → Clash r s → ⊥
apart_next r s rs h = h 0 r (omega arith)

pub apart_others : (r s : Row) (rs : List Row) → IsApartFrom r (s ∷ rs) → IsApartFrom r rs
apart_others r s rs h k d below = h (suc k) d (omega arith)

pub apart_first : (r : Row) (rs : List Row) → AreApart (r ∷ rs) → IsApartFrom r rs
apart_first r rs h k d below = h 0 (suc k) d (omega arith) (omega arith)

pub apart_rest : (r : Row) (rs : List Row) → AreApart (r ∷ rs) → AreApart rs
apart_rest r rs h i j d first below = h (suc i) (suc j) d (omega arith) (omega arith)

-- ---- the same at the places of a list, as a loop over it goes

-- what stands past the end
abbrev pub no_row : Row
no_row = record { op = Add; form = R; mask = 0; bits = 0 }

pub apart_more : (r : Row) (rs : List Row) (k : ℕ) → k < length rs → IsApartFrom r (take k rs) → (Clash r (slice_index_or rs k no_row) → ⊥) → IsApartFrom r (take (k + 1) rs)
apart_more r rs k below h last = All-more (λ s. Clash r s → ⊥) rs k no_row below h last

pub apart_all : (r : Row) (rs : List Row) (k : ℕ) → length rs ≤ k → IsApartFrom r (take k rs) → IsApartFrom r rs
apart_all r rs k past h = rw take_all at h

pub apart_left : (r : Row) (rest rs : List Row) → rs ≡ r ∷ rest → AreApart rs → IsApartFrom r rest × AreApart rest
apart_left r rest rs e h = let k = subst AreApart e h in (apart_first r rest k, apart_rest r rest k)

pub left_apart : (r : Row) (rest rs : List Row) → rs ≡ r ∷ rest → IsApartFrom r rest → AreApart rest → AreApart rs
left_apart r rest rs e h k = subst AreApart (sym e) (AllPairs-cons (λ r s. Clash r s → ⊥) r rest h k)

pub none_apart : (rs : List Row) → length rs ≡ 0 → AreApart rs
none_apart rs none i j d first below = absurd (omega arith)
