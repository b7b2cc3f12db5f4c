-- Tables with a row for each item of a function: graph_more and words_more add one, graph_all and words_all end. Seeds in the same way
-- (seeds_more, seeds_all), and what is reached from the first node (reach_exact).
use Rattle.std.proofs.Common.{◌≡◌, ◌≢◌, ℕ, ◌+◌, ◌*◌, ◌<◌, ◌≤◌, Bool, true, false, ◌==◌, List, [], ◌∷◌, ◌++◌, length, get_or, Option, Some, refl, sym, ◌∙◌, subst, arith, get_or-set_other, get_or-set_same, ◌⊎◌, inl, inr}
use Rattle.std.specs.Prelude.{slice_get, slice_index, slice_set, nat_lt, replicate, ◌↔◌}
use Rattle.std.specs.Int.{bit_at}
use Rattle.std.proofs.lemmas.List.{length-append, length-replicate, get_or-replicate, get_or_past, get_or_push}
use Rattle.std.proofs.lemmas.Option.{slice_get_within, slice_get-get_or, get_or_from_slice_get}
use Rattle.std.proofs.lemmas.Bool.Decides.{Decides-eqb, Decides-ltb, nat_tests}
use Rattle.st_model.specs.declared.program.ProgramFunction.{ProgramFunction}
use Rattle.st_model.specs.declared.program.Item.{Item}
use Rattle.st_model.specs.Flow.{IsNext}
use Rattle.st_flow.specs.declared.graph.Node.{Node}
use Rattle.st_flow.specs.declared.places.Change.{Change}
use Rattle.st_flow.specs.Graph.{IsEdge, InRange, HasBit, Comes, IsMerged, IsSeedBelow, IsSeed, IsSpread, Walks, IsWalked}
use Rattle.st_flow.specs.Places.{is_changed}
use Rattle.st_flow.specs.Tables.{IsNextIn, IsGraphOf, Stays, Changes}
use Rattle.st_flow.proofs.Bits.{zero_bit}
use Rattle.st_flow.proofs.Spreading.{edge_cases, edge_from}
use Rattle.st_flow.proofs.Searching.{get_left, get_new, get_cases, bit_within}

pub one_more : {P : Type 0} (j i : ℕ) (w : Bool) → j == i ≡ w → j < i + 1 → (j < i → P) → (j ≡ i → P) → P
one_more j i true e near less same = same ((Decides-eqb j i).0 e)
one_more j i false e near less same = let ne : j ≢ i = λ h. let t = (Decides-eqb j i).1 h in cc in less (omega arith)

item_same : (xs : List Item) (j : ℕ) (a b : Item) → slice_get xs j ≡ Some a → slice_get xs j ≡ Some b → a ≡ b
item_same xs j a b x y = cc

-- ---- words

word_left : (xs : List ℕ) (y j : ℕ) → j < length xs → slice_index (xs ++ y ∷ []) j ≡ slice_index xs j
word_left xs y j lt = get_or_from_slice_get (xs ++ y ∷ []) j (get_or xs j 0) 0 (get_left xs y (get_or xs j 0) j (slice_get-get_or xs j 0 lt))

words_push : (P : ℕ → Type 0) (xs after : List ℕ) (y i b : ℕ) → length xs ≡ i → after ≡ xs ++ y ∷ [] → ((j : ℕ) → HasBit xs j b ↔ ((j < i) × P j)) → (bit_at y b ≡ 1) ↔ P i → (j : ℕ) → HasBit after j b ↔ ((j < i + 1) × P j)
words_push P xs after y i b long e old new j =
    subst (λ l. HasBit l j b ↔ ((j < i + 1) × P j)) (sym e) (
      λ has.
          let l = length-append xs (y ∷ []) in
          let near = bit_within (xs ++ y ∷ []) j b has in
          one_more j i (j == i) refl (omega arith)
          (λ less. let o = (old j).0 (subst (λ v. bit_at v b ≡ 1) (word_left xs y j (omega arith)) has) in (omega arith, o.1))
          (λ same.
          let here : slice_index (xs ++ y ∷ []) i ≡ y = get_or_push xs y 0 i long in
          let at : HasBit (xs ++ y ∷ []) i b = subst (λ x. HasBit (xs ++ y ∷ []) x b) same has in
          (omega arith, subst P (sym same) (new.0 (subst (λ v. bit_at v b ≡ 1) here at)))),
      λ p.
          one_more j i (j == i) refl p.0
          (λ less. subst (λ v. bit_at v b ≡ 1) (sym (word_left xs y j (omega arith))) ((old j).1 (less, p.1)))
          (λ same.
          let here : slice_index (xs ++ y ∷ []) i ≡ y = get_or_push xs y 0 i long in
          subst (λ x. HasBit (xs ++ y ∷ []) x b) (sym same) (subst (λ v. bit_at v b ≡ 1) (sym here) (new.1 (subst P same p.1)))),
    )

changes_at : (change : Change) (function : ProgramFunction) (x i : ℕ) (item : Item) (T : Type 0) → slice_get function.items i ≡ Some item → T ↔ (is_changed change function.frame_bytes item.kind x ≡ true) → T ↔ Changes change function x i
changes_at change function x i item T here h = (
  λ t. (item, here, h.0 t),
  λ q. h.1 (subst (λ y. is_changed change function.frame_bytes y.kind x ≡ true) (item_same function.items i q.0 item q.1 here) q.2),
)

pub words_more : (change : Change) (function : ProgramFunction) (g : ℕ) (xs after : List ℕ) (y i : ℕ) (item : Item) → length xs ≡ i → after ≡ xs ++ y ∷ [] → slice_get function.items i ≡ Some item → ((b : ℕ) → b < 64 → (bit_at y b ≡ 1) ↔ (is_changed change function.frame_bytes item.kind (64 * g + b) ≡ true)) → ((j b : ℕ) → b < 64 → HasBit xs j b ↔ ((j < i) × Changes change function (64 * g + b) j)) → (j b : ℕ) → b < 64 → HasBit after j b ↔ ((j < i + 1) × Changes change function (64 * g + b) j)
words_more change function g xs after y i item long e here new old j b lt =
    words_push (λ j. Changes change function (64 * g + b) j) xs after y i b long e (λ j. old j b lt) (changes_at change function (64 * g + b) i item (bit_at y b ≡ 1) here (new b lt)) j

all_below : (T : Type 0) (U : Type 0) (j n : ℕ) → T ↔ ((j < n) × U) → (U → j < n) → T ↔ U
all_below T U j n h w = (λ t. (h.0 t).1, λ u. h.1 (w u, u))

item_within : (xs : List Item) (j n : ℕ) (x : Item) → slice_get xs j ≡ Some x → length xs ≤ n → j < n
item_within xs j n x e le = let w = slice_get_within xs j x e in omega arith

pub words_all : (change : Change) (function : ProgramFunction) (g : ℕ) (xs : List ℕ) (i : ℕ) → length function.items ≤ i → ((j b : ℕ) → b < 64 → HasBit xs j b ↔ ((j < i) × Changes change function (64 * g + b) j)) → (j b : ℕ) → b < 64 → HasBit xs j b ↔ Changes change function (64 * g + b) j
words_all change function g xs i le h j b lt =
    all_below (HasBit xs j b) (Changes change function (64 * g + b) j) j i (h j b lt) (λ u. item_within function.items j i u.0 u.1 le)

-- ---- the graph

pub graph_more : (function : ProgramFunction) (nodes after : List Node) (node : Node) (i : ℕ) (item : Item) → length nodes ≡ i → after ≡ nodes ++ node ∷ [] → slice_get function.items i ≡ Some item → ((k : ℕ) → ((node.next ≡ Some k) ⊎ (node.to ≡ Some k)) ↔ IsNext item.kind i k) → ((j k : ℕ) → IsEdge nodes j k ↔ ((j < i) × IsNextIn function j k)) → (j k : ℕ) → IsEdge after j k ↔ ((j < i + 1) × IsNextIn function j k)
graph_more function nodes after node i item long e here new old j k =
    subst (λ l. IsEdge l j k ↔ ((j < i + 1) × IsNextIn function j k)) (sym e) (
      λ edge.
          elim (get_cases nodes node edge.0 j edge.1) as (λ x. (j < i + 1) × IsNextIn function j k) [
            | inl a ↦ let o = (old j k).0 (edge.0, a, edge.2) in let less = o.0 in (omega arith, o.1)
            | inr n ↦
                let at = n.0 in
                let is : (node.next ≡ Some k) ⊎ (node.to ≡ Some k) = subst (λ x. (x.next ≡ Some k) ⊎ (x.to ≡ Some k)) n.1 edge.2 in
                let same : j ≡ i = n.0 ∙ long in
                (omega arith, subst (λ x. IsNextIn function x k) (sym same) (item, here, (new k).0 is))
          ],
      λ p.
          one_more j i (j == i) refl p.0
          (λ less. let o = (old j k).1 (less, p.1) in (o.0, get_left nodes node o.0 j o.1, o.2))
          (λ same.
          let q : IsNextIn function i k = subst (λ x. IsNextIn function x k) same p.1 in
          let is : IsNext item.kind i k = subst (λ x. IsNext x.kind i k) (item_same function.items i q.0 item q.1 here) q.2 in
          let at : slice_get (nodes ++ node ∷ []) j ≡ Some node = subst (λ x. slice_get (nodes ++ node ∷ []) x ≡ Some node) (long ∙ sym same) (get_new nodes node) in
          (node, at, (new k).1 is)),
    )

pub graph_all : (function : ProgramFunction) (nodes : List Node) (i : ℕ) → length function.items ≤ i → ((j k : ℕ) → IsEdge nodes j k ↔ ((j < i) × IsNextIn function j k)) → IsGraphOf function nodes
graph_all function nodes i le h j k =
    all_below (IsEdge nodes j k) (IsNextIn function j k) j i (h j k) (λ u. item_within function.items j i u.0 u.1 le)

pub graph_in_range : (function : ProgramFunction) (nodes : List Node) → IsGraphOf function nodes → length nodes ≡ length function.items → Stays function → InRange nodes
graph_in_range function nodes graph long stays = λ j i edge. let s = stays j i ((graph j i).0 edge) in omega arith

-- ---- seeds

less_seed : (nodes : List Node) (reach puts : List ℕ) (first j i k : ℕ) → IsSeedBelow nodes reach puts first j i k → IsSeedBelow nodes reach puts first (j + 1) i k
less_seed nodes reach puts first j i k (inl a) = inl a
less_seed nodes reach puts first j i k (inr b) = let lt = b.1 in inr (b.0, omega arith, b.2, b.3, b.4)

new_seed : (nodes : List Node) (reach puts : List ℕ) (first j i k carry : ℕ) (node : Node) → slice_get nodes j ≡ Some node → (bit_at carry k ≡ 1) ↔ (HasBit reach j 0 × HasBit puts j k) → (node.next ≡ Some i) ⊎ (node.to ≡ Some i) → bit_at carry k ≡ 1 → IsSeedBelow nodes reach puts first (j + 1) i k
new_seed nodes reach puts first j i k carry node here is e bit = let two = is.0 bit in inr (j, omega arith, two.0, (node, here, e), two.1)

seeds_back : (nodes : List Node) (reach puts s s1 s2 : List ℕ) (first j carry : ℕ) (node : Node) (x y : Option ℕ) → slice_get nodes j ≡ Some node → ((k : ℕ) → (bit_at carry k ≡ 1) ↔ (HasBit reach j 0 × HasBit puts j k)) → IsMerged node.next carry s s1 x → IsMerged node.to carry s1 s2 y → ((i k : ℕ) → HasBit s i k ↔ IsSeedBelow nodes reach puts first j i k) → (i k : ℕ) → IsSeedBelow nodes reach puts first (j + 1) i k → HasBit s2 i k
seeds_back nodes reach puts s s1 s2 first j carry node x y here is a b old i k (inl f) = b.grows i k (a.grows i k ((old i k).1 (inl f)))
seeds_back nodes reach puts s s1 s2 first j carry node x y here is a b old i k (inr t) =
    one_more t.0 j (t.0 == j) refl t.1
    (λ less. b.grows i k (a.grows i k ((old i k).1 (inr (t.0, less, t.2, t.3, t.4)))))
    (λ same.
    let bit : bit_at carry k ≡ 1 = (is k).1 (subst (λ z. HasBit reach z 0) same t.2, subst (λ z. HasBit puts z k) same t.4) in
    edge_cases nodes j i node (subst (λ z. IsEdge nodes z i) same t.3) here (λ n. b.grows i k (a.has i k n bit)) (λ m. b.has i k m bit))

pub seeds_more : (nodes : List Node) (reach puts s s1 s2 : List ℕ) (first j carry : ℕ) (node : Node) (x y : Option ℕ) → slice_get nodes j ≡ Some node → ((k : ℕ) → (bit_at carry k ≡ 1) ↔ (HasBit reach j 0 × HasBit puts j k)) → IsMerged node.next carry s s1 x → IsMerged node.to carry s1 s2 y → ((i k : ℕ) → HasBit s i k ↔ IsSeedBelow nodes reach puts first j i k) → (i k : ℕ) → HasBit s2 i k ↔ IsSeedBelow nodes reach puts first (j + 1) i k
seeds_more nodes reach puts s s1 s2 first j carry node x y here is a b old i k = (
  λ has.
      elim (b.comes i k has) as (λ z. IsSeedBelow nodes reach puts first (j + 1) i k) [
        | inl h ↦ elim (a.comes i k h) as (λ z. IsSeedBelow nodes reach puts first (j + 1) i k) [
          | inl o ↦ less_seed nodes reach puts first j i k ((old i k).0 o)
          | inr n ↦ new_seed nodes reach puts first j i k carry node here (is k) (inl n.0) n.1
        ]
        | inr n ↦ new_seed nodes reach puts first j i k carry node here (is k) (inr n.0) n.1
      ],
  λ seed. seeds_back nodes reach puts s s1 s2 first j carry node x y here is a b old i k seed,
)

pub seeds_all : (nodes : List Node) (reach puts : List ℕ) (first n i k : ℕ) (T : Type 0) → length nodes ≤ n → T ↔ IsSeedBelow nodes reach puts first n i k → T ↔ IsSeed nodes reach puts first i k
seeds_all nodes reach puts first n i k T le h = (
  λ t. elim (h.0 t) as (λ x. IsSeed nodes reach puts first i k) [ inl a ↦ inl a | inr b ↦ inr (b.0, b.2, b.3, b.4) ],
  λ s. h.1 (elim s as (λ x. IsSeedBelow nodes reach puts first n i k) [ inl a ↦ inl a | inr b ↦ let lt = edge_from nodes b.0 i b.2 in inr (b.0, omega arith, b.1, b.2, b.3) ]),
)

-- ---- the first node alone

zeros_at : (n i : ℕ) (w : Bool) → nat_lt i n ≡ w → slice_index (replicate n 0) i ≡ 0
zeros_at n i true e = get_or-replicate n i 0 0 ((Decides-ltb i n).0 e)
zeros_at n i false e =
    let late : length (replicate n 0) ≤ i = rw length-replicate (grind (arith, nat_tests)) in
    get_or_past (replicate n 0) i 0 late

put_first : (n v i k : ℕ) (w : Bool) → i == 0 ≡ w → 0 < n → HasBit (slice_set (replicate n 0) 0 v) i k ↔ ((i ≡ 0) × (bit_at v k ≡ 1))
put_first n v i k true e some =
    let at : i ≡ 0 = (Decides-eqb i 0).0 e in
    let zeros : List ℕ = replicate n 0 in
    let long : length zeros ≡ n = length-replicate n 0 in
    let within : 0 < length zeros = omega arith in
    let there : slice_index (slice_set zeros 0 v) 0 ≡ v = get_or-set_same zeros 0 v 0 within in (
      λ h. (at, subst (λ w. bit_at w k ≡ 1) there (subst (λ x. HasBit (slice_set (replicate n 0) 0 v) x k) at h)),
      λ h. subst (λ x. HasBit (slice_set (replicate n 0) 0 v) x k) (sym at) (subst (λ w. bit_at w k ≡ 1) (sym there) h.1),
    )
put_first n v i k false e some =
    let other : i ≢ 0 = λ h. let t = (Decides-eqb i 0).1 h in cc in
    let there : slice_index (slice_set (replicate n 0) 0 v) i ≡ slice_index (replicate n 0) i = rw get_or-set_other refl in (
      λ h. absurd (zero_bit k (subst (λ w. bit_at w k ≡ 1) (there ∙ zeros_at n i (nat_lt i n) refl) h)),
      λ h. absurd (other h.0),
    )

-- before any node, the seeds are those of the first
pub seeds_none : (nodes : List Node) (reach puts seeds : List ℕ) (first n i k : ℕ) → 0 < n → seeds ≡ slice_set (replicate n 0) 0 first → HasBit seeds i k ↔ IsSeedBelow nodes reach puts first 0 i k
seeds_none nodes reach puts seeds first n i k some e =
    subst (λ l. HasBit l i k ↔ IsSeedBelow nodes reach puts first 0 i k) (sym e) (
      λ h. inl ((put_first n first i k (i == 0) refl some).0 h),
      λ s. elim s as (λ x. HasBit (slice_set (replicate n 0) 0 first) i k) [ inl a ↦ (put_first n first i k (i == 0) refl some).1 a | inr b ↦ let lt = b.1 in absurd (omega arith) ],
    )

pub first_bit : (n i : ℕ) (seeds : List ℕ) → 0 < n → seeds ≡ slice_set (replicate n 0) 0 1 → HasBit seeds i 0 ↔ (i ≡ 0)
first_bit n i seeds some e =
    let h = put_first n 1 i 0 (i == 0) refl some in
    subst (λ l. HasBit l i 0 ↔ (i ≡ 0)) (sym e) (λ has. (h.0 has).0, λ at. h.1 (at, refl))

pub kept_bit : (n j : ℕ) (keeps : List ℕ) → keeps ≡ replicate n 1 → j < n → HasBit keeps j 0
kept_bit n j keeps e lt = subst (λ l. HasBit l j 0) (sym e) (subst (λ v. bit_at v 0 ≡ 1) (sym (get_or-replicate n j 1 0 lt)) refl)

-- ---- what is reached

pub comes_walks : (nodes : List Node) (seeds keeps : List ℕ) → ((i : ℕ) → HasBit seeds i 0 ↔ (i ≡ 0)) → (back : List ℕ) (i : ℕ) → Comes nodes seeds keeps 0 back i → Walks nodes back i
comes_walks nodes seeds keeps first [] i c = (first i).0 c
comes_walks nodes seeds keeps first (j ∷ back) i c = (comes_walks nodes seeds keeps first back j c.0, c.1)

pub walks_comes : (nodes : List Node) (seeds keeps : List ℕ) → ((i : ℕ) → HasBit seeds i 0 ↔ (i ≡ 0)) → ((j : ℕ) → j < length nodes → HasBit keeps j 0) → (back : List ℕ) (i : ℕ) → Walks nodes back i → Comes nodes seeds keeps 0 back i
walks_comes nodes seeds keeps first keep [] i w = (first i).1 w
walks_comes nodes seeds keeps first keep (j ∷ back) i w = (walks_comes nodes seeds keeps first keep back j w.0, w.1, keep j (edge_from nodes j i w.1))

pub reach_exact : (nodes : List Node) (seeds keeps sets : List ℕ) (i : ℕ) → ((i : ℕ) → HasBit seeds i 0 ↔ (i ≡ 0)) → ((j : ℕ) → j < length nodes → HasBit keeps j 0) → IsSpread nodes seeds keeps sets → HasBit sets i 0 ↔ IsWalked nodes i
reach_exact nodes seeds keeps sets i first keep spread = (
  λ has. let r = (spread.exact i 0).0 has in (r.0, comes_walks nodes seeds keeps first r.0 i r.1),
  λ w. (spread.exact i 0).1 (w.0, walks_comes nodes seeds keeps first keep w.0 i w.1),
)
