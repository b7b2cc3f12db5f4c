-- The work of `spread`, over plain lists: Spreads is what holds between two steps, advance one step, spreads_last the end.
use Rattle.std.proofs.Common.{◌≡◌, ◌≢◌, ℕ, suc, ◌+◌, ◌-◌, ◌*◌, ◌<◌, ◌≤◌, Bool, true, false, ◌==◌, List, [], ◌∷◌, length, get_or, sum, Option, Some, None, refl, sym, ap, ◌∙◌, subst, arith, ◌⊎◌, inl, inr}
use Rattle.std.specs.Prelude.{slice_get, slice_index, bit_and, IfSome}
use Rattle.std.specs.BTreeSet.{insert_key}
use Rattle.std.specs.List.{Contains}
use Rattle.std.specs.Int.{bit_at}
use Rattle.std.proofs.lemmas.List.{get_or_read}
use Rattle.std.proofs.lemmas.List.Sums.{sum_by-cons}
use Rattle.std.proofs.lemmas.Option.{slice_get_cases, slice_get-get_or}
use Rattle.std.proofs.lemmas.Bool.Decides.{Decides-eqb}
use Rattle.st_flow.specs.declared.graph.Node.{Node}
use Rattle.st_flow.specs.Graph.{IsEdge, InRange, HasBit, Comes, Reaches, IsSpread, IsAdded, IsBegun, Waits}
use Rattle.st_flow.proofs.Bits.{and_bit, both_bits, zero_bit}
use Rattle.st_flow.proofs.Adding.{pair_cmp, in_head, in_tail, in_cases, inserted, stays_in, came_in}

-- ---- edges

pub node_same : (nodes : List Node) (j : ℕ) (a b : Node) → slice_get nodes j ≡ Some a → slice_get nodes j ≡ Some b → a ≡ b
node_same nodes j a b x y = cc

-- an edge of a known node is one of its two
pub edge_cases : {P : Type 0} (nodes : List Node) (j i : ℕ) (node : Node) → IsEdge nodes j i → slice_get nodes j ≡ Some node → (node.next ≡ Some i → P) → (node.to ≡ Some i → P) → P
edge_cases nodes j i node edge here n t =
    let same : edge.0 ≡ node = node_same nodes j edge.0 node edge.1 here in
    elim edge.2 [ inl e ↦ n (ap (λ x. x.next) (sym same) ∙ e) | inr e ↦ t (ap (λ x. x.to) (sym same) ∙ e) ]

pub edge_from : (nodes : List Node) (j i : ℕ) → IsEdge nodes j i → j < length nodes
edge_from nodes j i edge =
    elim (slice_get_cases nodes j).1 [ inl a ↦ a.1 | inr b ↦ absurd (let e : Some edge.0 ≡ None = sym edge.1 ∙ b.1 in cc) ]

pub some_in : (o : Option ℕ) (n : ℕ) → ((i : ℕ) → o ≡ Some i → i < n) → IfSome o (λ i. i < n)
some_in None n h = tt
some_in (Some i) n h = h i refl

pub next_in : (nodes : List Node) (j n : ℕ) (d : Node) → InRange nodes → j < length nodes → n ≡ length nodes → IfSome (get_or nodes j d).next (λ i. i < n)
next_in nodes j n d range lt e =
    some_in (get_or nodes j d).next n (λ i is. let r = range j i (get_or nodes j d, slice_get-get_or nodes j d lt, inl is) in omega arith)

pub to_in : (nodes : List Node) (j n : ℕ) (d : Node) → InRange nodes → j < length nodes → n ≡ length nodes → IfSome (get_or nodes j d).to (λ i. i < n)
to_in nodes j n d range lt e =
    some_in (get_or nodes j d).to n (λ i is. let r = range j i (get_or nodes j d, slice_get-get_or nodes j d lt, inr is) in omega arith)

-- ---- the nodes with a seed

pub begun_none : (ranks seeds : List ℕ) (waiting : List (ℕ × ℕ)) → waiting ≡ [] → IsBegun ranks seeds 0 waiting
begun_none ranks seeds waiting none =
    record {
      waits = λ j lt. absurd (omega arith);
      within = λ q c. absurd (let n : Contains [] q = subst (λ l. Contains l q) none c in let lt = n.1 in omega arith);
    }

one_more : {P : Type 0} (j i : ℕ) (w : Bool) → j == i ≡ w → j < i + 1 → (j < i → P) → (j ≡ i → P) → P
one_more j i true e near less same = same ((Decides-eqb j i).0 e)
one_more j i false e near less same = let ne : j ≢ i = λ h. let t = (Decides-eqb j i).1 h in cc in less (omega arith)

pub begun_zero : (ranks seeds : List ℕ) (i : ℕ) (waiting : List (ℕ × ℕ)) → slice_index seeds i ≡ 0 → IsBegun ranks seeds i waiting → IsBegun ranks seeds (i + 1) waiting
begun_zero ranks seeds i waiting here h =
    record {
      waits = λ j near. one_more j i (j == i) refl near (λ less. h.waits j less) (λ same. inr (subst (λ x. slice_index seeds x ≡ 0) (sym same) here));
      within = h.within;
    }

pub begun_more : (ranks seeds : List ℕ) (i : ℕ) (waiting after : List (ℕ × ℕ)) → i < length seeds → after ≡ insert_key pair_cmp waiting (slice_index ranks i, i) → IsBegun ranks seeds i waiting → IsBegun ranks seeds (i + 1) after
begun_more ranks seeds i waiting after lt is h =
    let key : ℕ × ℕ = (slice_index ranks i, i) in
    let here : Waits ranks after i = subst (λ l. Contains l key) (sym is) (inserted waiting key) in
    record {
      waits = λ j near.
          one_more j i (j == i) refl near
          (λ less.
          elim (h.waits j less) as (λ y. Waits ranks after j ⊎ (slice_index seeds j ≡ 0)) [
            | inl a ↦ inl (subst (λ l. Waits ranks l j) (sym is) (stays_in waiting key (slice_index ranks j, j) a))
            | inr e ↦ inr e
          ])
          (λ same. inl (subst (λ x. Waits ranks after x) (sym same) here));
      within = λ q c.
          elim (came_in waiting key q (subst (λ l. Contains l q) is c)) as (λ y. q.1 < length seeds) [
            | inl a ↦ h.within q a
            | inr e ↦ subst (λ p. p.1 < length seeds) (sym e) lt
          ];
    }

-- ---- the work

-- all edges of j pass on what j has and keeps
abbrev pub IsClosed : List Node → List ℕ → List ℕ → ℕ → Type 0
IsClosed nodes keeps sets j = (i k : ℕ) → IsEdge nodes j i → HasBit sets j k → HasBit keeps j k → HasBit sets i k

pub record Spreads (nodes : List Node) (ranks seeds keeps sets : List ℕ) (waiting : List (ℕ × ℕ)) : Type 0 where
  pub long : length sets ≡ length nodes
  pub within : (q : ℕ × ℕ) → Contains waiting q → q.1 < length nodes
  pub seeded : (i k : ℕ) → HasBit seeds i k → HasBit sets i k
  pub sound : (i k : ℕ) → HasBit sets i k → Reaches nodes seeds keeps k i
  pub closed : (j : ℕ) → j < length nodes → Waits ranks waiting j ⊎ IsClosed nodes keeps sets j

-- the seeds, with all nodes waiting that have one
spreads_seeds : (nodes : List Node) (ranks seeds keeps : List ℕ) (waiting : List (ℕ × ℕ)) → length seeds ≡ length nodes → IsBegun ranks seeds (length seeds) waiting → Spreads nodes ranks seeds keeps seeds waiting
spreads_seeds nodes ranks seeds keeps waiting long begun =
    record {
      long = long;
      within = λ q c. let lt = begun.within q c in omega arith;
      seeded = λ i k h. h;
      sound = λ i k h. ([], h);
      closed = λ j lt.
          elim (begun.waits j (omega arith)) as (λ y. Waits ranks waiting j ⊎ IsClosed nodes keeps seeds j) [
            | inl a ↦ inl a
            | inr e ↦ inr (λ i k edge has keep. absurd (zero_bit k (subst (λ v. bit_at v k ≡ 1) e has)))
          ];
    }

pub spreads_first : (nodes : List Node) (ranks seeds keeps sets : List ℕ) (waiting : List (ℕ × ℕ)) → sets ≡ seeds → length seeds ≡ length nodes → IsBegun ranks seeds (length seeds) waiting → Spreads nodes ranks seeds keeps sets waiting
spreads_first nodes ranks seeds keeps sets waiting same long begun =
    subst (λ s. Spreads nodes ranks seeds keeps s waiting) (sym same) (spreads_seeds nodes ranks seeds keeps waiting long begun)

-- what a closed node has stays passed on, where its own set is as before
closed_stays : (nodes : List Node) (keeps old new : List ℕ) (j : ℕ) → slice_index new j ≡ slice_index old j → ((i k : ℕ) → HasBit old i k → HasBit new i k) → IsClosed nodes keeps old j → IsClosed nodes keeps new j
closed_stays nodes keeps old new j same grows closed =
    λ i k edge has keep. grows i k (closed i k edge (subst (λ v. bit_at v k ≡ 1) same has) keep)

-- one node is taken out, and its bits are added at its two edges
spreads_step : (nodes : List Node) (ranks seeds keeps s s1 s2 : List ℕ) (before waiting w1 w2 : List (ℕ × ℕ)) (q : ℕ × ℕ) (node : Node) (carry : ℕ) → Spreads nodes ranks seeds keeps s before → before ≡ q ∷ waiting → slice_get nodes q.1 ≡ Some node → carry ≡ bit_and (slice_index s q.1) (slice_index keeps q.1) → InRange nodes → IsAdded ranks node.next carry s s1 waiting w1 → IsAdded ranks node.to carry s1 s2 w1 w2 → Spreads nodes ranks seeds keeps s2 w2
spreads_step nodes ranks seeds keeps s s1 s2 before waiting w1 w2 q node carry h split here is range a b =
    let j = q.1 in
    let waited : (x : ℕ × ℕ) → Contains waiting x → Contains before x = λ x c. subst (λ l. Contains l x) (sym split) (in_tail q x waiting c) in
    let grows : (i k : ℕ) → HasBit s i k → HasBit s2 i k = λ i k has. b.grows i k (a.grows i k has) in
    let carried : (i k : ℕ) → IsEdge nodes j i → bit_at carry k ≡ 1 → Reaches nodes seeds keeps k i =
    λ i k edge bit.
    let two = and_bit (slice_index s j) (slice_index keeps j) k (subst (λ v. bit_at v k ≡ 1) is bit) in
    let back = h.sound j k two.0 in
    (j ∷ back.0, (back.1, edge, two.1)) in
    let sound1 : (i k : ℕ) → HasBit s1 i k → Reaches nodes seeds keeps k i =
    λ i k has. elim (a.comes i k has) [ inl o ↦ h.sound i k o | inr e ↦ carried i k (node, here, inl e.0) e.1 ] in
    let same : (x : ℕ) → Waits ranks w2 x ⊎ (slice_index s2 x ≡ slice_index s x) =
    λ x.
    elim (a.same x) as (λ y. Waits ranks w2 x ⊎ (slice_index s2 x ≡ slice_index s x)) [
      | inl c ↦ inl (b.stay (slice_index ranks x, x) c)
      | inr e ↦ elim (b.same x) as (λ y. Waits ranks w2 x ⊎ (slice_index s2 x ≡ slice_index s x)) [ inl c ↦ inl c | inr f ↦ inr (f ∙ e) ]
    ] in
    let done : slice_index s2 j ≡ slice_index s j → IsClosed nodes keeps s2 j =
    λ e i k edge has keep.
    let bit : bit_at carry k ≡ 1 = subst (λ v. bit_at v k ≡ 1) (sym is) (both_bits (slice_index s j) (slice_index keeps j) k (subst (λ v. bit_at v k ≡ 1) e has) keep) in
    edge_cases nodes j i node edge here (λ n. b.grows i k (a.has i k n bit)) (λ t. b.has i k t bit) in
    record {
      long = b.long ∙ a.long ∙ h.long;
      within = λ x c.
          elim (b.within x c) as (λ y. x.1 < length nodes) [
            | inl d ↦ elim (a.within x d) as (λ y. x.1 < length nodes) [ inl e ↦ h.within x (waited x e) | inr e ↦ range j x.1 (node, here, inl e) ]
            | inr e ↦ range j x.1 (node, here, inr e)
          ];
      seeded = λ i k has. grows i k (h.seeded i k has);
      sound = λ i k has. elim (b.comes i k has) [ inl o ↦ sound1 i k o | inr e ↦ carried i k (node, here, inr e.0) e.1 ];
      closed = λ x lt.
          elim (same x) as (λ y. Waits ranks w2 x ⊎ IsClosed nodes keeps s2 x) [
            | inl c ↦ inl c
            | inr e ↦ elim (h.closed x lt) as (λ y. Waits ranks w2 x ⊎ IsClosed nodes keeps s2 x) [
              | inl c ↦ elim (in_cases q (slice_index ranks x, x) waiting (subst (λ l. Waits ranks l x) split c)) as (λ y. Waits ranks w2 x ⊎ IsClosed nodes keeps s2 x) [
                | inl f ↦ inr (let at : x ≡ j = ap (λ p. p.1) f in subst (IsClosed nodes keeps s2) (sym at) (done (subst (λ y. slice_index s2 y ≡ slice_index s y) at e)))
                | inr d ↦ inl (b.stay (slice_index ranks x, x) (a.stay (slice_index ranks x, x) d))
              ]
              | inr c ↦ inr (closed_stays nodes keeps s s2 x e grows c)
            ]
          ];
    }

pub popped_in : (nodes : List Node) (ranks seeds keeps s : List ℕ) (before waiting : List (ℕ × ℕ)) (q : ℕ × ℕ) → Spreads nodes ranks seeds keeps s before → before ≡ q ∷ waiting → q.1 < length nodes
popped_in nodes ranks seeds keeps s before waiting q h split = h.within q (subst (λ l. Contains l q) (sym split) (in_head q waiting))

pub advance : (nodes : List Node) (ranks seeds keeps s s1 s2 : List ℕ) (before waiting w1 w2 : List (ℕ × ℕ)) (q : ℕ × ℕ) (v : ℕ) (d : Node) → Spreads nodes ranks seeds keeps s before → before ≡ q ∷ waiting → v ≡ get_or s q.1 v → length keeps ≡ length nodes → InRange nodes → IsAdded ranks (get_or nodes q.1 d).next (bit_and v (get_or keeps q.1 0)) s s1 waiting w1 → IsAdded ranks (get_or nodes q.1 d).to (bit_and v (get_or keeps q.1 0)) s1 s2 w1 w2 → Spreads nodes ranks seeds keeps s2 w2
advance nodes ranks seeds keeps s s1 s2 before waiting w1 w2 q v d h split read long range a b =
    let lt = popped_in nodes ranks seeds keeps s before waiting q h split in
    let within : q.1 < length s = let l = h.long in omega arith in
    let x : v ≡ slice_index s q.1 = get_or_read s q.1 v within read 0 in
    spreads_step nodes ranks seeds keeps s s1 s2 before waiting w1 w2 q (get_or nodes q.1 d) (bit_and v (get_or keeps q.1 0)) h split (slice_get-get_or nodes q.1 d lt) (ap (λ u. bit_and u (get_or keeps q.1 0)) x) range a b

-- with none waiting, the sets are exact
comes_all : (nodes : List Node) (seeds keeps sets : List ℕ) (k : ℕ) (back : List ℕ) (i : ℕ) → ((i k : ℕ) → HasBit seeds i k → HasBit sets i k) → ((j : ℕ) → j < length nodes → IsClosed nodes keeps sets j) → Comes nodes seeds keeps k back i → HasBit sets i k
comes_all nodes seeds keeps sets k [] i seeded closed comes = seeded i k comes
comes_all nodes seeds keeps sets k (j ∷ back) i seeded closed comes =
    closed j (edge_from nodes j i comes.1) i k comes.1 (comes_all nodes seeds keeps sets k back j seeded closed comes.0) comes.2

pub spreads_last : (nodes : List Node) (ranks seeds keeps sets : List ℕ) (waiting : List (ℕ × ℕ)) → Spreads nodes ranks seeds keeps sets waiting → (0 < length waiting → false ≡ true) → IsSpread nodes seeds keeps sets
spreads_last nodes ranks seeds keeps sets waiting h none =
    let closed : (j : ℕ) → j < length nodes → IsClosed nodes keeps sets j =
    λ j lt. elim (h.closed j lt) [ inl c ↦ absurd (let w = c.1 in let e : false ≡ true = none (omega arith) in cc) | inr c ↦ c ] in
    record { long = h.long; exact = λ i k. (h.sound i k, λ r. comes_all nodes seeds keeps sets k r.0 i h.seeded closed r.1) }

-- ---- the measure

sum_small : (xs : List ℕ) → ((k d : ℕ) → k < length xs → get_or xs k d < 18446744073709551616) → sum xs ≤ length xs * 18446744073709551616
sum_small [] fit = omega arith
sum_small (x ∷ xs) fit =
    let first : x < 18446744073709551616 = fit 0 0 (omega arith) in
    let more = sum_small xs (λ k d lt. fit (suc k) d (omega arith)) in
    let e = sum_by-cons (λ y. y) x xs in
    omega arith

pub smaller : (ranks s s1 s2 : List ℕ) (before waiting w1 w2 : List (ℕ × ℕ)) (q : ℕ × ℕ) (carry n : ℕ) (to more : Option ℕ) → before ≡ q ∷ waiting → length s ≡ n → IsAdded ranks to carry s s1 waiting w1 → IsAdded ranks more carry s1 s2 w1 w2 → n * 18446744073709551616 - sum s2 + length w2 < n * 18446744073709551616 - sum s + length before
smaller ranks s s1 s2 before waiting w1 w2 q carry n to more split long a b =
    let few = sum_small s2 b.fits in
    let e : length s2 ≡ n = b.long ∙ a.long ∙ long in
    let l : length before ≡ suc (length waiting) = ap length split in
    let x = a.less in
    let y = b.less in
    omega arith
