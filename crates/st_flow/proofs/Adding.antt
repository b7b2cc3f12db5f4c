-- What one merge of bits at a node changes (merged_grown, merged_same), and what a queue of nodes under their ranks has after an
-- insertion and after its first is taken out (inserted, stays_in, came_in, first_out).
use Rattle.std.proofs.Common.{◌≡◌, ◌≢◌, ℕ, zero, suc, ◌+◌, ◌<◌, ◌≤◌, Bool, true, false, cond, ◌==◌, List, [], ◌∷◌, length, get_or, Option, Some, None, refl, sym, ap, ◌∙◌, subst, arith, get_or-set_other, get_or-set_same, ◌⊎◌, inl, inr}
use Rattle.std.specs.Prelude.{slice_index, slice_set, bit_or, option_to_list, IfSome}
use Rattle.std.specs.Ordering.{ordering_then, match_ordering, nat_cmp}
use Rattle.std.specs.declared.cmp.Ordering.{Ordering}
use Rattle.std.specs.declared.cmp.Ordering.TheVariants.{Less, Equal, Greater}
use Rattle.std.specs.BTreeSet.{insert_key}
use Rattle.std.specs.List.{Contains}
use Rattle.std.specs.Int.{bit_at}
use Rattle.std.proofs.lemmas.List.{length-set, get_or_read}
use Rattle.std.proofs.lemmas.List.Sums.{sum_by-set}
use Rattle.std.proofs.lemmas.Nat.{le_or_l}
use Rattle.std.proofs.lemmas.Bool.Decides.{Decides-eqb}
use Rattle.std.proofs.lemmas.Map.Lookups.{exact_unsigned, exact_pairs}
use Rattle.st_flow.specs.Graph.{HasBit, IsMerged, IsAdded, Waits}
use Rattle.st_flow.proofs.Bits.{or_bit, bit_left, bit_right}

-- ---- a merge

abbrev merged : List ℕ → ℕ → ℕ → List ℕ
merged old i carry = slice_set old i (bit_or (slice_index old i) carry)

merged_here : (old : List ℕ) (i carry : ℕ) → i < length old → slice_index (merged old i carry) i ≡ bit_or (slice_index old i) carry
merged_here old i carry lt = rw get_or-set_same refl

merged_there : (old : List ℕ) (i carry j : ℕ) → j ≢ i → slice_index (merged old i carry) j ≡ slice_index old j
merged_there old i carry j ne = rw get_or-set_other refl

apart : (j i : ℕ) → j == i ≡ false → j ≢ i
apart j i e h = let t = (Decides-eqb j i).1 h in absurd (cc)

grows_by : (old : List ℕ) (i carry j k : ℕ) (w : Bool) → j == i ≡ w → i < length old → HasBit old j k → HasBit (merged old i carry) j k
grows_by old i carry j k true e lt has =
    let same : j ≡ i = (Decides-eqb j i).0 e in
    let there : HasBit old i k = subst (λ x. HasBit old x k) same has in
    subst (λ x. HasBit (merged old i carry) x k) (sym same) (subst (λ v. bit_at v k ≡ 1) (sym (merged_here old i carry lt)) (bit_left (slice_index old i) carry k there))
grows_by old i carry j k false e lt has = subst (λ v. bit_at v k ≡ 1) (sym (merged_there old i carry j (apart j i e))) has

comes_by : (to : Option ℕ) (old : List ℕ) (i carry j k : ℕ) (w : Bool) → to ≡ Some i → j == i ≡ w → i < length old → HasBit (merged old i carry) j k → HasBit old j k ⊎ ((to ≡ Some j) × (bit_at carry k ≡ 1))
comes_by to old i carry j k true is e lt has =
    let same : j ≡ i = (Decides-eqb j i).0 e in
    let there : HasBit (merged old i carry) i k = subst (λ x. HasBit (merged old i carry) x k) same has in
    elim (or_bit (slice_index old i) carry k (subst (λ v. bit_at v k ≡ 1) (merged_here old i carry lt) there)) as (λ x. HasBit old j k ⊎ ((to ≡ Some j) × (bit_at carry k ≡ 1))) [
      | inl a ↦ inl (subst (λ x. HasBit old x k) (sym same) a)
      | inr b ↦ inr (is ∙ ap Some (sym same), b)
    ]
comes_by to old i carry j k false is e lt has = inl (subst (λ v. bit_at v k ≡ 1) (merged_there old i carry j (apart j i e)) has)

same_by : (old : List ℕ) (i carry j : ℕ) (w : Bool) → j == i ≡ w → (Some i ≡ Some j) ⊎ (slice_index (merged old i carry) j ≡ slice_index old j)
same_by old i carry j true e = inl (ap Some (sym ((Decides-eqb j i).0 e)))
same_by old i carry j false e = inr (merged_there old i carry j (apart j i e))

target_is : (i j : ℕ) (to : Option ℕ) → to ≡ Some i → to ≡ Some j → i ≡ j
target_is i j to a b = cc

merged_grown-at : (to : Option ℕ) (i carry : ℕ) (old : List ℕ) → to ≡ Some i → i < length old → ((x d : ℕ) → x < length (merged old i carry) → get_or (merged old i carry) x d < 18446744073709551616) → (bit_or (slice_index old i) carry ≡ slice_index old i → ⊥) → IsMerged to carry old (merged old i carry) (Some i)
merged_grown-at to i carry old is lt fits ne =
    record {
      long = length-set old i _;
      grows = λ j k has. grows_by old i carry j k (j == i) refl lt has;
      comes = λ j k has. comes_by to old i carry j k (j == i) is refl lt has;
      has = λ j k e bit.
          subst (λ x. HasBit (merged old i carry) x k) (target_is i j to is e)
          (subst (λ v. bit_at v k ≡ 1) (sym (merged_here old i carry lt)) (bit_right (slice_index old i) carry k bit));
      target = λ j e. is ∙ e;
      same = λ j. same_by old i carry j (j == i) refl;
      fits = fits;
      less =
          let s = sum_by-set (λ x. x) old i (bit_or (slice_index old i) carry) 0 lt in
          let more = le_or_l (slice_index old i) carry in
          let other : bit_or (slice_index old i) carry ≢ slice_index old i = ne in
          omega arith;
    }

same_all : (old : List ℕ) (i carry j : ℕ) (w : Bool) → j == i ≡ w → i < length old → bit_or (slice_index old i) carry ≡ slice_index old i → slice_index (merged old i carry) j ≡ slice_index old j
same_all old i carry j true e lt same =
    let at : j ≡ i = (Decides-eqb j i).0 e in
    subst (λ x. slice_index (merged old i carry) x ≡ slice_index old x) (sym at) (merged_here old i carry lt ∙ same)
same_all old i carry j false e lt same = merged_there old i carry j (apart j i e)

merged_same-at : (to : Option ℕ) (i carry : ℕ) (old : List ℕ) → to ≡ Some i → i < length old → ((x d : ℕ) → x < length (merged old i carry) → get_or (merged old i carry) x d < 18446744073709551616) → bit_or (slice_index old i) carry ≡ slice_index old i → IsMerged to carry old (merged old i carry) None
merged_same-at to i carry old is lt fits same =
    record {
      long = length-set old i _;
      grows = λ j k has. grows_by old i carry j k (j == i) refl lt has;
      comes = λ j k has. comes_by to old i carry j k (j == i) is refl lt has;
      has = λ j k e bit.
          subst (λ x. HasBit (merged old i carry) x k) (target_is i j to is e)
          (subst (λ v. bit_at v k ≡ 1) (sym (merged_here old i carry lt)) (bit_right (slice_index old i) carry k bit));
      target = λ j n. absurd (cc);
      same = λ j. inr (same_all old i carry j (j == i) refl lt same);
      fits = fits;
      less = let s = sum_by-set (λ x. x) old i (bit_or (slice_index old i) carry) 0 lt in omega arith;
    }

pub merged_grown : (to : Option ℕ) (i carry v : ℕ) (old : List ℕ) → to ≡ Some i → i < length old → v ≡ get_or old i v → (bit_or v carry ≡ v → ⊥) → ((x d : ℕ) → x < length (slice_set old i (bit_or v carry)) → get_or (slice_set old i (bit_or v carry)) x d < 18446744073709551616) → IsMerged to carry old (slice_set old i (bit_or v carry)) (Some i)
merged_grown to i carry v old is lt a ne fits =
    let x : v ≡ slice_index old i = get_or_read old i v lt a 0 in
    subst (λ u. IsMerged to carry old (slice_set old i (bit_or u carry)) (Some i)) (sym x)
    (merged_grown-at to i carry old is lt (subst (λ u. (x d : ℕ) → x < length (slice_set old i (bit_or u carry)) → get_or (slice_set old i (bit_or u carry)) x d < 18446744073709551616) x fits) (subst (λ u. bit_or u carry ≡ u → ⊥) x ne))

pub merged_same : (to : Option ℕ) (i carry v : ℕ) (old : List ℕ) → to ≡ Some i → i < length old → v ≡ get_or old i v → bit_or v carry ≡ v → ((x d : ℕ) → x < length (slice_set old i (bit_or v carry)) → get_or (slice_set old i (bit_or v carry)) x d < 18446744073709551616) → IsMerged to carry old (slice_set old i (bit_or v carry)) None
merged_same to i carry v old is lt a same fits =
    let x : v ≡ slice_index old i = get_or_read old i v lt a 0 in
    subst (λ u. IsMerged to carry old (slice_set old i (bit_or u carry)) None) (sym x)
    (merged_same-at to i carry old is lt (subst (λ u. (x d : ℕ) → x < length (slice_set old i (bit_or u carry)) → get_or (slice_set old i (bit_or u carry)) x d < 18446744073709551616) x fits) (subst (λ u. bit_or u carry ≡ u) x same))

-- ---- a queue

abbrev pub pair_cmp : ℕ × ℕ → ℕ × ℕ → Ordering
pair_cmp x y = ordering_then (nat_cmp x.0 y.0) (nat_cmp x.1 y.1)

pair_same : (x y : ℕ × ℕ) → pair_cmp x y ≡ Equal → x ≡ y
pair_same x y e = exact_pairs nat_cmp nat_cmp exact_unsigned exact_unsigned x y e

abbrev Keys : Type 0
Keys = List (ℕ × ℕ)

pub in_head : (x : ℕ × ℕ) (xs : Keys) → Contains (x ∷ xs) x
in_head x xs = (zero, omega arith, refl)

pub in_tail : (x q : ℕ × ℕ) (xs : Keys) → Contains xs q → Contains (x ∷ xs) q
in_tail x q xs c = (suc c.0, let lt = c.1 in omega arith, c.2)

pub in_cases : (x q : ℕ × ℕ) (xs : Keys) → Contains (x ∷ xs) q → (q ≡ x) ⊎ Contains xs q
in_cases x q xs (zero, lt, e) = inl (sym e)
in_cases x q xs (suc k, lt, e) = inr (k, omega arith, e)

inserted_by : (x k : ℕ × ℕ) (xs : Keys) (o : Ordering) → pair_cmp k x ≡ o → Contains (insert_key pair_cmp xs k) k → Contains (match_ordering o (k ∷ x ∷ xs) (x ∷ xs) (x ∷ insert_key pair_cmp xs k)) k
inserted_by x k xs Less e more = in_head k (x ∷ xs)
inserted_by x k xs Equal e more = subst (λ y. Contains (y ∷ xs) k) (pair_same k x e) (in_head k xs)
inserted_by x k xs Greater e more = in_tail x k (insert_key pair_cmp xs k) more

pub inserted : (xs : Keys) (k : ℕ × ℕ) → Contains (insert_key pair_cmp xs k) k
inserted [] k = in_head k []
inserted (x ∷ xs) k = inserted_by x k xs (pair_cmp k x) refl (inserted xs k)

stays_by : (x k q : ℕ × ℕ) (xs : Keys) (o : Ordering) → (Contains xs q → Contains (insert_key pair_cmp xs k) q) → Contains (x ∷ xs) q → Contains (match_ordering o (k ∷ x ∷ xs) (x ∷ xs) (x ∷ insert_key pair_cmp xs k)) q
stays_by x k q xs Less more c = in_tail k q (x ∷ xs) c
stays_by x k q xs Equal more c = c
stays_by x k q xs Greater more c =
    elim (in_cases x q xs c) as (λ y. Contains (x ∷ insert_key pair_cmp xs k) q) [
      | inl e ↦ subst (λ y. Contains (x ∷ insert_key pair_cmp xs k) y) (sym e) (in_head x (insert_key pair_cmp xs k))
      | inr t ↦ in_tail x q (insert_key pair_cmp xs k) (more t)
    ]

pub stays_in : (xs : Keys) (k q : ℕ × ℕ) → Contains xs q → Contains (insert_key pair_cmp xs k) q
stays_in [] k q c = in_tail k q [] c
stays_in (x ∷ xs) k q c = stays_by x k q xs (pair_cmp k x) (λ t. stays_in xs k q t) c

came_by : (x k q : ℕ × ℕ) (xs : Keys) (o : Ordering) → (Contains (insert_key pair_cmp xs k) q → Contains xs q ⊎ (q ≡ k)) → Contains (match_ordering o (k ∷ x ∷ xs) (x ∷ xs) (x ∷ insert_key pair_cmp xs k)) q → Contains (x ∷ xs) q ⊎ (q ≡ k)
came_by x k q xs Less more c =
    elim (in_cases k q (x ∷ xs) c) as (λ y. Contains (x ∷ xs) q ⊎ (q ≡ k)) [ inl e ↦ inr e | inr t ↦ inl t ]
came_by x k q xs Equal more c = inl c
came_by x k q xs Greater more c =
    elim (in_cases x q (insert_key pair_cmp xs k) c) as (λ y. Contains (x ∷ xs) q ⊎ (q ≡ k)) [
      | inl e ↦ inl (subst (λ y. Contains (x ∷ xs) y) (sym e) (in_head x xs))
      | inr t ↦ elim (more t) as (λ y. Contains (x ∷ xs) q ⊎ (q ≡ k)) [ inl a ↦ inl (in_tail x q xs a) | inr e ↦ inr e ]
    ]

pub came_in : (xs : Keys) (k q : ℕ × ℕ) → Contains (insert_key pair_cmp xs k) q → Contains xs q ⊎ (q ≡ k)
came_in [] k q c = elim (in_cases k q [] c) as (λ y. Contains [] q ⊎ (q ≡ k)) [ inl e ↦ inr e | inr t ↦ inl t ]
came_in (x ∷ xs) k q c = came_by x k q xs (pair_cmp k x) (λ t. came_in xs k q t) c

-- ---- a merge and the queue

pub added_none : (ranks : List ℕ) (to : Option ℕ) (carry : ℕ) (old new : List ℕ) (grown : Option ℕ) (waiting : Keys) → IsMerged to carry old new grown → grown ≡ None → IsAdded ranks to carry old new waiting waiting
added_none ranks to carry old new grown waiting m none =
    record {
      long = m.long;
      grows = m.grows;
      comes = m.comes;
      has = m.has;
      stay = λ q c. c;
      within = λ q c. inl c;
      same = λ j. elim (m.same j) as (λ y. Waits ranks waiting j ⊎ (slice_index new j ≡ slice_index old j)) [
        | inl e ↦ absurd (let x : None ≡ Some j = sym none ∙ e in cc)
        | inr e ↦ inr e
      ];
      fits = m.fits;
      less = let l = m.less in let z : length (option_to_list grown) ≡ 0 = ap (λ o. length (option_to_list o)) none in omega arith;
    }

pub added_some : (ranks : List ℕ) (to : Option ℕ) (carry : ℕ) (old new : List ℕ) (grown : Option ℕ) (i : ℕ) (waiting after : Keys) → IsMerged to carry old new grown → grown ≡ Some i → after ≡ insert_key pair_cmp waiting (slice_index ranks i, i) → length after ≤ length waiting + 1 → IsAdded ranks to carry old new waiting after
added_some ranks to carry old new grown i waiting after m some is few =
    let key : ℕ × ℕ = (slice_index ranks i, i) in
    let here : Contains after key = subst (λ l. Contains l key) (sym is) (inserted waiting key) in
    record {
      long = m.long;
      grows = m.grows;
      comes = m.comes;
      has = m.has;
      stay = λ q c. subst (λ l. Contains l q) (sym is) (stays_in waiting key q c);
      within = λ q c.
          elim (came_in waiting key q (subst (λ l. Contains l q) is c)) as (λ y. Contains waiting q ⊎ (to ≡ Some q.1)) [
            | inl a ↦ inl a
            | inr e ↦ inr (m.target i some ∙ ap (λ p. Some p.1) (sym e))
          ];
      same = λ j.
          elim (m.same j) as (λ y. Waits ranks after j ⊎ (slice_index new j ≡ slice_index old j)) [
            | inl e ↦ inl (subst (λ x. Waits ranks after x) (target_is i j grown some e) here)
            | inr e ↦ inr e
          ];
      fits = m.fits;
      less =
          let l = m.less in
          let o : length (option_to_list grown) ≡ 1 = ap (λ o. length (option_to_list o)) some in
          omega arith;
    }

pub target_in : (to : Option ℕ) (i n : ℕ) → to ≡ Some i → IfSome to (λ j. j < n) → i < n
target_in to i n is h = subst (λ o. IfSome o (λ j. j < n)) is h

-- at most one key more
pub one_at_most : (added : Bool) (n m : ℕ) → m ≡ n + cond added 1 0 → m ≤ n + 1
one_at_most true n m e = omega arith
one_at_most false n m e = omega arith
