-- The order of two keys, read from a place on.
use Rattle.std.proofs.Common.{◌≡◌, ℕ, ◌+◌, ◌*◌, ◌<◌, ◌≤◌, List, length, get_or, drop, refl, arith, add-one, drop-cons}
use Rattle.std.specs.Ordering.{nat_cmp, ordering_then}
use Rattle.std.specs.declared.cmp.Ordering.{Ordering}
use Rattle.std.specs.declared.cmp.Ordering.TheVariants.{Less, Equal, Greater}
use Rattle.std.specs.Cmp.Lexicographic.{slice_cmp}
use Rattle.std.proofs.lemmas.Bool.Decides.{nat_tests}
use Rattle.std.proofs.lemmas.List.{drop_all}
use Rattle.st_base.specs.EventKey.{event_key}

-- the order of the keys, from the place i of both paths on
pub order_from : List ℕ → ℕ → List ℕ → ℕ → ℕ → Ordering
order_from p pj q qj i = slice_cmp nat_cmp (event_key (drop i p) pj) (event_key (drop i q) qj)

pub order_start : (p q : List ℕ) (pj qj : ℕ) → order_from p pj q qj 0 ≡ slice_cmp nat_cmp (event_key p pj) (event_key q qj)
unfolding order_from
order_start p q pj qj = refl

odd_cmp : (x y : ℕ) → nat_cmp (2 * x + 1) (2 * y + 1) ≡ nat_cmp x y
odd_cmp x y = grind (arith, nat_tests)

even_cmp : (x y : ℕ) → ordering_then (nat_cmp (2 * x) (2 * y)) Equal ≡ nat_cmp x y
even_cmp x y = grind (arith, nat_tests)

pub then_less : (o r : Ordering) → o ≡ Less → ordering_then o r ≡ Less
then_less o r e = rw e refl

then_greater : (o r : Ordering) → o ≡ Greater → ordering_then o r ≡ Greater
then_greater o r e = rw e refl

pub then_equal : (o r : Ordering) → o ≡ Equal → ordering_then o r ≡ r
then_equal o r e = rw e refl

pub cmp_less : (x y : ℕ) → x < y → nat_cmp x y ≡ Less
cmp_less x y h = grind (arith, nat_tests)

cmp_greater : (x y : ℕ) → y < x → nat_cmp x y ≡ Greater
cmp_greater x y h = grind (arith, nat_tests)

pub cmp_equal : (x y : ℕ) → x ≡ y → nat_cmp x y ≡ Equal
cmp_equal x y h = grind (arith, nat_tests)

pub order_same : (p : List ℕ) (pj : ℕ) (q : List ℕ) (qj i : ℕ) → i < length p → i < length q → get_or p i 0 ≡ get_or q i 0 → order_from p pj q qj i ≡ order_from p pj q qj (i + 1)
unfolding order_from
order_same p pj q qj i a b e =
    rw (drop-cons p i 0 a, drop-cons q i 0 b, add-one i) (then_equal _ _ (cmp_equal (2 * get_or p i 0 + 1) (2 * get_or q i 0 + 1) (omega arith)))

pub order_less : (p : List ℕ) (pj : ℕ) (q : List ℕ) (qj i : ℕ) → i < length p → i < length q → get_or p i 0 < get_or q i 0 → order_from p pj q qj i ≡ Less
unfolding order_from
order_less p pj q qj i a b e =
    rw (drop-cons p i 0 a, drop-cons q i 0 b) (then_less _ _ (cmp_less (2 * get_or p i 0 + 1) (2 * get_or q i 0 + 1) (omega arith)))

pub order_greater : (p : List ℕ) (pj : ℕ) (q : List ℕ) (qj i : ℕ) → i < length p → i < length q → get_or q i 0 < get_or p i 0 → order_from p pj q qj i ≡ Greater
unfolding order_from
order_greater p pj q qj i a b e =
    rw (drop-cons p i 0 a, drop-cons q i 0 b) (then_greater _ _ (cmp_greater (2 * get_or p i 0 + 1) (2 * get_or q i 0 + 1) (omega arith)))

pub order_p_less : (p : List ℕ) (pj : ℕ) (q : List ℕ) (qj i : ℕ) → i < length p → length q ≤ i → get_or p i 0 < qj → order_from p pj q qj i ≡ Less
unfolding order_from
order_p_less p pj q qj i a b e = rw (drop-cons p i 0 a, drop_all i q b) (then_less _ _ (cmp_less (2 * get_or p i 0 + 1) (2 * qj) (omega arith)))

pub order_p_greater : (p : List ℕ) (pj : ℕ) (q : List ℕ) (qj i : ℕ) → i < length p → length q ≤ i → qj ≤ get_or p i 0 → order_from p pj q qj i ≡ Greater
unfolding order_from
order_p_greater p pj q qj i a b e = rw (drop-cons p i 0 a, drop_all i q b) (then_greater _ _ (cmp_greater (2 * get_or p i 0 + 1) (2 * qj) (omega arith)))

pub order_q_less : (p : List ℕ) (pj : ℕ) (q : List ℕ) (qj i : ℕ) → length p ≤ i → i < length q → pj ≤ get_or q i 0 → order_from p pj q qj i ≡ Less
unfolding order_from
order_q_less p pj q qj i a b e = rw (drop_all i p a, drop-cons q i 0 b) (then_less _ _ (cmp_less (2 * pj) (2 * get_or q i 0 + 1) (omega arith)))

pub order_q_greater : (p : List ℕ) (pj : ℕ) (q : List ℕ) (qj i : ℕ) → length p ≤ i → i < length q → get_or q i 0 < pj → order_from p pj q qj i ≡ Greater
unfolding order_from
order_q_greater p pj q qj i a b e = rw (drop_all i p a, drop-cons q i 0 b) (then_greater _ _ (cmp_greater (2 * pj) (2 * get_or q i 0 + 1) (omega arith)))

pub order_both : (p : List ℕ) (pj : ℕ) (q : List ℕ) (qj i : ℕ) → length p ≤ i → length q ≤ i → order_from p pj q qj i ≡ nat_cmp pj qj
unfolding order_from
order_both p pj q qj i a b = rw (drop_all i p a, drop_all i q b) (even_cmp pj qj)

pub ruleset key_steps = (order_start, order_same, order_less, order_greater, order_p_less, order_p_greater, order_q_less, order_q_greater, order_both)
