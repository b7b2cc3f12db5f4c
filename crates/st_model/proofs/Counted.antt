-- Which of the root's bytes count. counts-child: a byte counts where it was printed after no more forks than the number of the root's
-- child that the event's path goes through; counted-first: of bytes in order the first ones count.
use Rattle.std.proofs.Common.{◌≡◌, ℕ, ◌+◌, ◌*◌, ◌<◌, Bool, true, false, cond, List, [], ◌∷◌, length, take, refl, sym, ap, ◌∙◌, arith}
use Rattle.std.specs.Prelude.{nat_le}
use Rattle.std.specs.List.{filter, count_by}
use Rattle.std.specs.Ordering.{nat_cmp, is_lt, ordering_then}
use Rattle.std.specs.declared.cmp.Ordering.{Ordering}
use Rattle.std.proofs.lemmas.Bool.Decides.{nat_tests}
use Rattle.std.proofs.lemmas.List.{length-map, take-map, take_all}
use Rattle.std.proofs.lemmas.List.Sums.{length-filter}
use Rattle.st_base.specs.EventKey.{event_key}
use Rattle.st_model.specs.declared.output.Printed.{Printed}
use Rattle.st_model.specs.Quiet.{AreFrom, AreInOrder, bytes_of, counts, counted_bytes}

-- an even number against an odd one, with more behind it
even_odd : (j k : ℕ) (r : Ordering) → is_lt (ordering_then (nat_cmp (2 * j) (2 * k + 1)) r) ≡ nat_le j k
even_odd j k r = grind (arith, nat_tests)

pub counts-child : (b : Printed) (k : ℕ) (p : List ℕ) (f : ℕ) → counts (k ∷ p) (event_key (k ∷ p) f) b ≡ nat_le b.forks k
counts-child b k p f = even_odd b.forks k _

-- bytes that were printed after more forks are late
late : (test : Printed → Bool) (k n : ℕ) (out : List Printed) → ((b : Printed) → test b ≡ nat_le b.forks k) → k < n → AreFrom n out → filter test out ≡ []
late test k n [] is more from = refl
late test k n (b ∷ out) is more from =
    let least = from.0 in
    let no : test b ≡ false = is b ∙ grind (arith, nat_tests) in
    ap (λ t. cond t (b ∷ filter test out) (filter test out)) no ∙ late test k b.forks out is (omega arith) from.1

first_when : (t : Bool) (test : Printed → Bool) (k : ℕ) (b : Printed) (out : List Printed) → ((b : Printed) → test b ≡ nat_le b.forks k) → t ≡ nat_le b.forks k → AreFrom b.forks out → filter test out ≡ take (length (filter test out)) out → cond t (b ∷ filter test out) (filter test out) ≡ take (length (cond t (b ∷ filter test out) (filter test out))) (b ∷ out)
first_when true test k b out is e from same = ap (λ xs. b ∷ xs) same
first_when false test k b out is e from same =
    let more : k < b.forks = grind (arith, nat_tests) in
    let none = late test k b.forks out is more from in
    rw none refl

first_ones : (test : Printed → Bool) (k n : ℕ) (out : List Printed) → ((b : Printed) → test b ≡ nat_le b.forks k) → AreFrom n out → filter test out ≡ take (length (filter test out)) out
first_ones test k n [] is from = refl
first_ones test k n (b ∷ out) is from = first_when (test b) test k b out is (is b) from.1 (first_ones test k b.forks out is from.1)

-- ---- of all bytes
pub counted-many : (p event : List ℕ) (out : List Printed) → length (counted_bytes p event out) ≡ count_by (counts p event) out
counted-many p event out = length-map (filter (counts p event) out) (λ b. b.byte) ∙ length-filter (counts p event) out

-- where each byte counts, the bytes that do are all
pub all_count : (event : List ℕ) (out : List Printed) → filter (counts [] event) out ≡ out
all_count event [] = refl
all_count event (b ∷ out) = ap (λ xs. b ∷ xs) (all_count event out)

ones : (p : List ℕ) (f : ℕ) (out : List Printed) → AreInOrder out → filter (counts p (event_key p f)) out ≡ take (length (filter (counts p (event_key p f)) out)) out
ones [] f out ordered = all_count (event_key [] f) out ∙ sym (ap (λ n. take n out) (ap length (all_count (event_key [] f) out)) ∙ take_all (length out) out (omega arith))
ones (k ∷ p) f out ordered = first_ones (counts (k ∷ p) (event_key (k ∷ p) f)) k 0 out (λ b. counts-child b k p f) ordered

pub counted-first : (p : List ℕ) (f n : ℕ) (out : List Printed) → AreInOrder out → n ≡ length (counted_bytes p (event_key p f) out) → counted_bytes p (event_key p f) out ≡ take n (bytes_of out)
counted-first p f n out ordered many =
    let kept = filter (counts p (event_key p f)) out in
    let same : n ≡ length kept = many ∙ length-map kept (λ b. b.byte) in
    ap bytes_of (ones p f out ordered) ∙ sym (take-map (λ b. b.byte) (length kept) out) ∙ ap (λ k. take k (bytes_of out)) (sym same)
