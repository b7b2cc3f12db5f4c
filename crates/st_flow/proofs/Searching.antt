-- The search for a path: what one visit keeps (visited), the end of the search (search_ends), and the way back as a path of the bit
-- without a repeat (trace_trail).
use Rattle.std.proofs.Common.{◌≡◌, ◌≢◌, ℕ, zero, suc, ◌+◌, ◌<◌, ◌≤◌, Bool, true, false, ◌==◌, List, [], ◌∷◌, ◌++◌, length, get_or, Option, Some, None, refl, sym, ap, ◌∙◌, subst, arith, get_or-set_other, get_or-set_same, ◌⊎◌, inl, inr, append_assoc}
use Rattle.std.specs.Prelude.{slice_get, slice_index_or, slice_set, nat_lt, replicate, ◌↔◌, IfSome}
use Rattle.std.specs.List.{Contains}
use Rattle.std.specs.Int.{bit_at}
use Rattle.std.proofs.lemmas.List.{length-set, length-append, get_or-replicate, length-replicate, get_or_past}
use Rattle.std.proofs.lemmas.Option.{slice_get_within, slice_get_cases}
use Rattle.std.proofs.lemmas.Bool.Decides.{Decides-eqb, Decides-ltb, nat_tests}
use Rattle.st_flow.specs.declared.graph.Node.{Node}
use Rattle.st_flow.specs.declared.search.Found.{Found}
use Rattle.st_flow.specs.Graph.{IsEdge, InRange, HasBit, Comes}
use Rattle.st_flow.specs.Search.{HasNoRepeat, IsTrail, Parent, HasSeen, IsFound, Searches, unseen, Visits, VisitsAs, IsSearched, LinksBack, IsTrace}
use Rattle.st_flow.proofs.Bits.{zero_bit}
use Rattle.st_flow.proofs.Spreading.{edge_from, some_in}
use Rattle.st_flow.proofs.DepthFirst.{fewer_unseen}

-- ---- lists that grow at their end

pub get_left : {A : Type 0} (xs : List A) (y x : A) (q : ℕ) → slice_get xs q ≡ Some x → slice_get (xs ++ y ∷ []) q ≡ Some x
get_left [] y x q e = absurd (cc)
get_left (a ∷ xs) y x zero e = e
get_left (a ∷ xs) y x (suc q) e = get_left xs y x q e

pub get_new : {A : Type 0} (xs : List A) (y : A) → slice_get (xs ++ y ∷ []) (length xs) ≡ Some y
get_new [] y = refl
get_new (a ∷ xs) y = get_new xs y

pub get_cases : {A : Type 0} (xs : List A) (y x : A) (q : ℕ) → slice_get (xs ++ y ∷ []) q ≡ Some x → (slice_get xs q ≡ Some x) ⊎ ((q ≡ length xs) × (x ≡ y))
get_cases [] y x zero e = inr (refl, cc)
get_cases [] y x (suc q) e = absurd (cc)
get_cases (a ∷ xs) y x zero e = inl e
get_cases (a ∷ xs) y x (suc q) e = elim (get_cases xs y x q e) [ inl b ↦ inl b | inr b ↦ inr (ap suc b.0, b.1) ]

pub get_within : {A : Type 0} (xs : List A) (i : ℕ) → i < length xs → (x : A) × (slice_get xs i ≡ Some x)
get_within xs i lt = elim (slice_get_cases xs i).1 [ inl a ↦ (a.0, a.2) | inr b ↦ let low = b.0 in absurd (omega arith) ]

pub found_same : (found : List Found) (q : ℕ) (a b : Found) → slice_get found q ≡ Some a → slice_get found q ≡ Some b → a ≡ b
found_same found q a b x y = cc

-- ---- marks

abbrev marked : List Bool → ℕ → List Bool
marked seen i = slice_set seen i true

seen_stays : (seen : List Bool) (i j : ℕ) (w : Bool) → j == i ≡ w → i < length seen → HasSeen seen j → HasSeen (marked seen i) j
seen_stays seen i j true e lt has = subst (λ x. HasSeen (marked seen i) x) (sym ((Decides-eqb j i).0 e)) (rw get_or-set_same refl)
seen_stays seen i j false e lt has =
    let ne : j ≢ i = λ h. let t = (Decides-eqb j i).1 h in cc in
    rw get_or-set_other has

seen_here : (seen : List Bool) (i : ℕ) → i < length seen → HasSeen (marked seen i) i
seen_here seen i lt = rw get_or-set_same refl

seen_from : (seen : List Bool) (i j : ℕ) (w : Bool) → j == i ≡ w → HasSeen (marked seen i) j → (j ≡ i) ⊎ HasSeen seen j
seen_from seen i j true e has = inl ((Decides-eqb j i).0 e)
seen_from seen i j false e has =
    let ne : j ≢ i = λ h. let t = (Decides-eqb j i).1 h in cc in
    let same : slice_index_or (marked seen i) j false ≡ slice_index_or seen j false = rw get_or-set_other refl in
    inr (sym same ∙ has)

-- ---- one visit

parent_stays : (nodes : List Node) (seeds keeps : List ℕ) (k : ℕ) (old new : List Found) (q : ℕ) (from : Option ℕ) (i : ℕ) → ((q : ℕ) (f : Found) → slice_get old q ≡ Some f → slice_get new q ≡ Some f) → Parent nodes seeds keeps k old q from i → Parent nodes seeds keeps k new q from i
parent_stays nodes seeds keeps k old new q None i prefix p = p
parent_stays nodes seeds keeps k old new q (Some r) i prefix p = (p.0, p.1, prefix r p.0 p.2, p.3, p.4)

searches_push : (nodes : List Node) (seeds keeps : List ℕ) (k : ℕ) (found : List Found) (seen : List Bool) (y : Found) → Searches nodes seeds keeps k found seen → (HasSeen seen y.node → ⊥) → y.node < length nodes → Parent nodes seeds keeps k found (length found) y.from y.node → Searches nodes seeds keeps k (found ++ y ∷ []) (marked seen y.node)
searches_push nodes seeds keeps k found seen y h new lt parent =
    let i = y.node in
    let within : i < length seen = let l = h.long in omega arith in
    let prefix : (q : ℕ) (f : Found) → slice_get found q ≡ Some f → slice_get (found ++ y ∷ []) q ≡ Some f = λ q f e. get_left found y f q e in
    record {
      long = length-set seen i true ∙ h.long;
      placed = λ j has.
          elim (seen_from seen i j (j == i) refl has) as (λ x. IsFound (found ++ y ∷ []) j) [
            | inl e ↦ (length found, (y, get_new found y, sym e))
            | inr o ↦ let p = h.placed j o in (p.0, (p.1.0, prefix p.0 p.1.0 p.1.1, p.1.2))
          ];
      marked = λ q f e.
          elim (get_cases found y f q e) as (λ x. HasSeen (marked seen i) f.node × (f.node < length nodes)) [
            | inl o ↦ let m = h.marked q f o in (seen_stays seen i f.node (f.node == i) refl within m.0, m.1)
            | inr n ↦ (subst (λ g. HasSeen (marked seen i) g.node) (sym n.1) (seen_here seen i within), subst (λ g. g.node < length nodes) (sym n.1) lt)
          ];
      apart = λ q r f g order a b same.
          elim (get_cases found y g r b) as (λ x. ⊥) [
            | inl late ↦ elim (get_cases found y f q a) as (λ x. ⊥) [
              | inl early ↦ h.apart q r f g order early late same
              | inr n ↦ let w = slice_get_within found r g late in let m = n.0 in absurd (omega arith)
            ]
            | inr n ↦ elim (get_cases found y f q a) as (λ x. ⊥) [
              | inl early ↦ new (subst (HasSeen seen) (same ∙ ap (λ x. x.node) n.1) (h.marked q f early).0)
              | inr m ↦ let x = n.0 in let z = m.0 in absurd (omega arith)
            ]
          ];
      parents = λ q f e.
          elim (get_cases found y f q e) as (λ x. Parent nodes seeds keeps k (found ++ y ∷ []) q f.from f.node) [
            | inl o ↦ parent_stays nodes seeds keeps k found (found ++ y ∷ []) q f.from f.node prefix (h.parents q f o)
            | inr n ↦ subst (λ g. Parent nodes seeds keeps k (found ++ y ∷ []) q g.from g.node) (sym n.1)
                (subst (λ p. Parent nodes seeds keeps k (found ++ y ∷ []) p y.from y.node) (sym n.0) (parent_stays nodes seeds keeps k found (found ++ y ∷ []) (length found) y.from y.node prefix parent))
          ];
    }

-- the search went on, and these nodes are seen
pub record Goes (nodes : List Node) (seeds keeps : List ℕ) (k : ℕ) (old new : List Found) (before after : List Bool) (now : ℕ → Type 0) : Type 0 where
  pub searches : Searches nodes seeds keeps k new after
  pub stays : (i : ℕ) → HasSeen before i → HasSeen after i
  pub prefix : (q : ℕ) (f : Found) → slice_get old q ≡ Some f → slice_get new q ≡ Some f
  pub has : (i : ℕ) → now i → HasSeen after i
  pub less : unseen after + length new ≡ unseen before + length old
  pub longer : length old ≤ length new

not_seen : (v : Bool) → v ≡ false → v ≡ true → ⊥
not_seen v a b = absurd (let e : false ≡ true = sym a ∙ b in cc)

some_same : (i j : ℕ) → Some i ≡ Some j → i ≡ j
some_same i j e = cc

visited_at : (nodes : List Node) (seeds keeps : List ℕ) (k : ℕ) (old new : List Found) (before after : List Bool) (from : Option ℕ) (i : ℕ) (w : Bool) → slice_index_or before i false ≡ w → Searches nodes seeds keeps k old before → i < length nodes → Parent nodes seeds keeps k old (length old) from i → VisitsAs w from i old new before after → Goes nodes seeds keeps k old new before after (λ j. Some i ≡ Some j)
visited_at nodes seeds keeps k old new before after from i true is h lt parent v =
    subst (λ f. Goes nodes seeds keeps k old f before after (λ j. Some i ≡ Some j)) (sym v.0)
    (subst (λ s. Goes nodes seeds keeps k old old before s (λ j. Some i ≡ Some j)) (sym v.1)
    record {
      searches = h;
      stays = λ j s. s;
      prefix = λ q f e. e;
      has = λ j e. subst (HasSeen before) (some_same i j e) is;
      less = refl;
      longer = omega arith;
    })
visited_at nodes seeds keeps k old new before after from i false is h lt parent v =
    let y : Found = record { node = i; from = from } in
    let inside : i < length before = let l = h.long in omega arith in
    subst (λ f. Goes nodes seeds keeps k old f before after (λ j. Some i ≡ Some j)) (sym v.0)
    (subst (λ s. Goes nodes seeds keeps k old (old ++ y ∷ []) before s (λ j. Some i ≡ Some j)) (sym v.1)
    record {
      searches = searches_push nodes seeds keeps k old before y h (λ s. not_seen (slice_index_or before i false) is s) lt parent;
      stays = λ j has. seen_stays before i j (j == i) refl inside has;
      prefix = λ q f x. get_left old y f q x;
      has = λ j s. subst (HasSeen (marked before i)) (some_same i j s) (seen_here before i inside);
      less = let l = length-append old (y ∷ []) in let c = fewer_unseen before i inside is in omega arith;
      longer = let l = length-append old (y ∷ []) in omega arith;
    })

pub visited : (nodes : List Node) (seeds keeps : List ℕ) (k : ℕ) (old new : List Found) (before after : List Bool) (from to : Option ℕ) → Searches nodes seeds keeps k old before → ((i : ℕ) → to ≡ Some i → i < length nodes) → ((i : ℕ) → to ≡ Some i → Parent nodes seeds keeps k old (length old) from i) → Visits from to old new before after → Goes nodes seeds keeps k old new before after (λ j. to ≡ Some j)
visited nodes seeds keeps k old new before after from None h lt parent v =
    subst (λ f. Goes nodes seeds keeps k old f before after (λ j. None ≡ Some j)) (sym v.0)
    (subst (λ s. Goes nodes seeds keeps k old old before s (λ j. None ≡ Some j)) (sym v.1)
    record { searches = h; stays = λ j s. s; prefix = λ q f e. e; has = λ j e. absurd (cc); less = refl; longer = omega arith })
visited nodes seeds keeps k old new before after from (Some i) h lt parent v =
    visited_at nodes seeds keeps k old new before after from i (slice_index_or before i false) refl h (lt i refl) (parent i refl) v

-- ---- a node's edges

abbrev pub Passes : List Node → List ℕ → ℕ → List Found → ℕ → ℕ → Type 0
Passes nodes keeps k found head i = (f : Found) × (slice_get found head ≡ Some f) × IsEdge nodes f.node i × HasBit keeps f.node k

-- the edges along which the node found at `head` passes the bit on
abbrev pub AreKept : List Node → List ℕ → ℕ → ℕ → Node → Type 0
AreKept nodes keeps k j edges = (i : ℕ) → ((edges.next ≡ Some i) ⊎ (edges.to ≡ Some i)) ↔ (IsEdge nodes j i × HasBit keeps j k)

pub next_visited : (nodes : List Node) (seeds keeps : List ℕ) (k head : ℕ) (old mid : List Found) (before during : List Bool) (f : Found) (edges : Node) → slice_get old head ≡ Some f → InRange nodes → AreKept nodes keeps k f.node edges → Searches nodes seeds keeps k old before → Visits (Some head) edges.next old mid before during → Goes nodes seeds keeps k old mid before during (λ i. edges.next ≡ Some i)
next_visited nodes seeds keeps k head old mid before during f edges here range exact h v =
    let early = slice_get_within old head f here in
    visited nodes seeds keeps k old mid before during (Some head) edges.next h (λ i e. range f.node i ((exact i).0 (inl e)).0) (λ i e. let p = (exact i).0 (inl e) in (f, early, here, p.0, p.1)) v

pub next_kept : (nodes : List Node) (keeps : List ℕ) (k j n : ℕ) (edges : Node) → InRange nodes → AreKept nodes keeps k j edges → n ≡ length nodes → IfSome edges.next (λ i. i < n)
next_kept nodes keeps k j n edges range exact long = some_in edges.next n (λ i e. let r = range j i ((exact i).0 (inl e)).0 in omega arith)

pub to_kept : (nodes : List Node) (keeps : List ℕ) (k j n : ℕ) (edges : Node) → InRange nodes → AreKept nodes keeps k j edges → n ≡ length nodes → IfSome edges.to (λ i. i < n)
to_kept nodes keeps k j n edges range exact long = some_in edges.to n (λ i e. let r = range j i ((exact i).0 (inr e)).0 in omega arith)

pub seed_in : (seeds : List ℕ) (k i n : ℕ) (o : Option ℕ) → i < n → ((j : ℕ) → (o ≡ Some j) ↔ ((j ≡ i) × HasBit seeds i k)) → IfSome o (λ j. j < n)
seed_in seeds k i n o lt exact = some_in o n (λ j e. let s = ((exact j).0 e).0 in omega arith)

pub both_visited : (nodes : List Node) (seeds keeps : List ℕ) (k head : ℕ) (old mid new : List Found) (before during after : List Bool) (f : Found) (edges : Node) → slice_get old head ≡ Some f → InRange nodes → AreKept nodes keeps k f.node edges → Searches nodes seeds keeps k old before → Visits (Some head) edges.next old mid before during → Visits (Some head) edges.to mid new during after → Goes nodes seeds keeps k old new before after (λ i. Passes nodes keeps k old head i)
both_visited nodes seeds keeps k head old mid new before during after f edges here range exact h v w =
    let early = slice_get_within old head f here in
    let one = next_visited nodes seeds keeps k head old mid before during f edges here range exact h v in
    let later = one.longer in
    let two = visited nodes seeds keeps k mid new during after (Some head) edges.to one.searches (λ i e. range f.node i ((exact i).0 (inr e)).0) (λ i e. let p = (exact i).0 (inr e) in (f, omega arith, one.prefix head f here, p.0, p.1)) w in
    record {
      searches = two.searches;
      stays = λ i s. two.stays i (one.stays i s);
      prefix = λ q g e. two.prefix q g (one.prefix q g e);
      has = λ i n.
          let same : n.0 ≡ f = found_same old head n.0 f n.1 here in
          elim ((exact i).1 (subst (λ g. IsEdge nodes g.node i) same n.2, subst (λ g. HasBit keeps g.node k) same n.3)) as (λ x. HasSeen after i) [
            | inl e ↦ two.stays i (one.has i e)
            | inr e ↦ two.has i e
          ];
      less = let x = one.less in let y = two.less in omega arith;
      longer = let x = one.longer in let y = two.longer in omega arith;
    }

-- ---- the whole search

not_lt : (j n : ℕ) → nat_lt j n ≡ false → n ≤ j
not_lt j n e = grind (arith, nat_tests)

-- past the end there is no bit
bit_before : (seeds : List ℕ) (i k n : ℕ) (w : Bool) → nat_lt i n ≡ w → length seeds ≡ n → HasBit seeds i k → i < n
bit_before seeds i k n true e long has = (Decides-ltb i n).0 e
bit_before seeds i k n false e long has =
    let late : length seeds ≤ i = let l = not_lt i n e in omega arith in
    absurd (zero_bit k (subst (λ v. bit_at v k ≡ 1) (get_or_past seeds i 0 late) has))

pub bit_within : (words : List ℕ) (i k : ℕ) → HasBit words i k → i < length words
bit_within words i k has = bit_before words i k (length words) (nat_lt i (length words)) refl refl has

comes_within : (nodes : List Node) (seeds keeps : List ℕ) (k : ℕ) (back : List ℕ) (i : ℕ) → length seeds ≡ length nodes → InRange nodes → Comes nodes seeds keeps k back i → i < length nodes
comes_within nodes seeds keeps k [] i long range comes = let lt = bit_within seeds i k comes in omega arith
comes_within nodes seeds keeps k (j ∷ back) i long range comes = range j i comes.1

false_at : (n j : ℕ) (w : Bool) → nat_lt j n ≡ w → get_or (replicate n false) j false ≡ false
false_at n j true e = get_or-replicate n j false false ((Decides-ltb j n).0 e)
false_at n j false e =
    let late : length (replicate n false) ≤ j = rw length-replicate (not_lt j n e) in
    get_or_past (replicate n false) j false late

pub none_found : (nodes : List Node) (seeds keeps : List ℕ) (k : ℕ) (found : List Found) (seen : List Bool) → found ≡ [] → seen ≡ replicate (length nodes) false → Searches nodes seeds keeps k found seen
none_found nodes seeds keeps k found seen e f =
    subst (λ x. Searches nodes seeds keeps k x seen) (sym e)
    (subst (λ y. Searches nodes seeds keeps k [] y) (sym f)
    record {
      long = length-replicate (length nodes) false;
      placed = λ i has. absurd (let t = false_at (length nodes) i (nat_lt i (length nodes)) refl in let u : false ≡ true = sym t ∙ has in cc);
      marked = λ q f e. absurd (let x = e in cc);
      apart = λ q r f g order a b same. absurd (let x = a in cc);
      parents = λ q f e. absurd (let x = e in cc);
    })

one_more : {P : Type 0} (q head : ℕ) (w : Bool) → q == head ≡ w → q < head + 1 → (q < head → P) → (q ≡ head → P) → P
one_more q head true e near less at = at ((Decides-eqb q head).0 e)
one_more q head false e near less at = let ne : q ≢ head = λ h. let t = (Decides-eqb q head).1 h in cc in less (omega arith)

-- one more seed is looked at
pub begun_more : (nodes : List Node) (seeds keeps : List ℕ) (k i : ℕ) (old new : List Found) (before after : List Bool) (o : Option ℕ) → ((j : ℕ) → (o ≡ Some j) ↔ ((j ≡ i) × HasBit seeds i k)) → ((j : ℕ) → j < i → HasBit seeds j k → HasSeen before j) → Goes nodes seeds keeps k old new before after (λ j. o ≡ Some j) → (j : ℕ) → j < i + 1 → HasBit seeds j k → HasSeen after j
begun_more nodes seeds keeps k i old new before after o exact begun goes j near bit =
    one_more j i (j == i) refl near (λ less. goes.stays j (begun j less bit)) (λ at. goes.has j ((exact j).1 (at, subst (λ x. HasBit seeds x k) at bit)))

pub seed_visited : (nodes : List Node) (seeds keeps : List ℕ) (k i : ℕ) (old new : List Found) (before after : List Bool) (o : Option ℕ) → i < length nodes → ((j : ℕ) → (o ≡ Some j) ↔ ((j ≡ i) × HasBit seeds i k)) → Searches nodes seeds keeps k old before → Visits None o old new before after → Goes nodes seeds keeps k old new before after (λ j. o ≡ Some j)
seed_visited nodes seeds keeps k i old new before after o lt exact h v =
    visited nodes seeds keeps k old new before after None o h (λ j e. let p = ((exact j).0 e).0 in omega arith) (λ j e. let p = (exact j).0 e in subst (λ x. HasBit seeds x k) (sym p.0) p.1) v

-- what is below the head has passed on, after one more
pub passed_more : (nodes : List Node) (seeds keeps : List ℕ) (k head : ℕ) (old new : List Found) (before after : List Bool) → head < length old → ((q i : ℕ) (f : Found) → q < head → slice_get old q ≡ Some f → IsEdge nodes f.node i → HasBit keeps f.node k → HasSeen before i) → Goes nodes seeds keeps k old new before after (λ i. Passes nodes keeps k old head i) → (q i : ℕ) (f : Found) → q < head + 1 → slice_get new q ≡ Some f → IsEdge nodes f.node i → HasBit keeps f.node k → HasSeen after i
passed_more nodes seeds keeps k head old new before after lt passed v q i f near here edge bit =
    let there = get_within old q (omega arith) in
    let same : there.0 ≡ f = found_same new q there.0 f (v.prefix q there.0 there.1) here in
    let old_here : slice_get old q ≡ Some f = there.1 ∙ ap Some same in
    one_more q head (q == head) refl near (λ less. v.stays i (passed q i f less old_here edge bit)) (λ at. v.has i (f, subst (λ x. slice_get old x ≡ Some f) at old_here, edge, bit))

-- all that the bit reaches is found
all_seen : (nodes : List Node) (seeds keeps : List ℕ) (k : ℕ) (found : List Found) (seen : List Bool) → Searches nodes seeds keeps k found seen → ((j : ℕ) → j < length nodes → HasBit seeds j k → HasSeen seen j) → ((q i : ℕ) (f : Found) → q < length found → slice_get found q ≡ Some f → IsEdge nodes f.node i → HasBit keeps f.node k → HasSeen seen i) → (back : List ℕ) (i : ℕ) → i < length nodes → Comes nodes seeds keeps k back i → HasSeen seen i
all_seen nodes seeds keeps k found seen h begun passed [] i lt comes = begun i lt comes
all_seen nodes seeds keeps k found seen h begun passed (j ∷ back) i lt comes =
    let earlier = all_seen nodes seeds keeps k found seen h begun passed back j (edge_from nodes j i comes.1) comes.0 in
    let p = h.placed j earlier in
    let here = p.1.1 in
    passed p.0 i p.1.0 (slice_get_within found p.0 p.1.0 here) here (subst (λ x. IsEdge nodes x i) (sym p.1.2) comes.1) (subst (λ x. HasBit keeps x k) (sym p.1.2) comes.2)

pub search_ends : (nodes : List Node) (seeds keeps : List ℕ) (k head : ℕ) (found : List Found) (seen : List Bool) → length seeds ≡ length nodes → InRange nodes → Searches nodes seeds keeps k found seen → ((j : ℕ) → j < length nodes → HasBit seeds j k → HasSeen seen j) → ((q i : ℕ) (f : Found) → q < head → slice_get found q ≡ Some f → IsEdge nodes f.node i → HasBit keeps f.node k → HasSeen seen i) → length found ≤ head → IsSearched nodes seeds keeps k found
search_ends nodes seeds keeps k head found seen long range h begun passed all =
    record {
      apart = h.apart;
      parents = h.parents;
      complete = λ i r. h.placed i (all_seen nodes seeds keeps k found seen h begun (λ q i f lt. passed q i f (omega arith)) r.0 i (comes_within nodes seeds keeps k r.0 i long range r.1) r.1);
    }

-- ---- the way back

links_by : (nodes : List Node) (seeds keeps : List ℕ) (k : ℕ) (found : List Found) (q r i : ℕ) (o : Option ℕ) → o ≡ Some r → Parent nodes seeds keeps k found q o i → r < q
links_by nodes seeds keeps k found q r i None e p = absurd (cc)
links_by nodes seeds keeps k found q r i (Some s) e p = let same : s ≡ r = some_same s r e in let lt = p.1 in omega arith

pub links_back : (nodes : List Node) (seeds keeps : List ℕ) (k : ℕ) (found : List Found) → IsSearched nodes seeds keeps k found → LinksBack found
links_back nodes seeds keeps k found h q r f here e = links_by nodes seeds keeps k found q r f.node f.from e (h.parents q f here)

-- what is on a trace was found at its place or before
record OnTrace (found : List Found) (o : Option ℕ) (x : ℕ) : Type 0 where
  r : ℕ
  q : ℕ
  f : Found
  starts : o ≡ Some r
  below : q ≤ r
  here : slice_get found q ≡ Some f
  node : f.node ≡ x

trace_places : (found : List Found) → LinksBack found → (path : List ℕ) (o : Option ℕ) (x : ℕ) → IsTrace found o path → Contains path x → OnTrace found o x
trace_places found links [] o x t c = absurd (let lt = c.1 in omega arith)
trace_places found links (y ∷ path) None x t c = absurd (let e = t in cc)
trace_places found links (y ∷ path) (Some at) x t (zero, lt, e) =
    record { r = at; q = at; f = t.0; starts = refl; below = omega arith; here = t.1; node = t.2 ∙ e }
trace_places found links (y ∷ path) (Some at) x t (suc k, lt, e) =
    let m = trace_places found links path t.0.from x t.3 (k, omega arith, e) in
    let less = links at m.r t.0 t.1 m.starts in
    let b = m.below in
    record { r = at; q = m.q; f = m.f; starts = refl; below = omega arith; here = m.here; node = m.node }

trace_distinct : (nodes : List Node) (seeds keeps : List ℕ) (k : ℕ) (found : List Found) → IsSearched nodes seeds keeps k found → (path : List ℕ) (o : Option ℕ) → IsTrace found o path → HasNoRepeat path
trace_distinct nodes seeds keeps k found h [] o t = tt
trace_distinct nodes seeds keeps k found h (y ∷ path) None t = absurd (let e = t in cc)
trace_distinct nodes seeds keeps k found h (y ∷ path) (Some at) t = (
  λ c.
      let links = links_back nodes seeds keeps k found h in
      let m = trace_places found links path t.0.from y t.3 c in
      let less = links at m.r t.0 t.1 m.starts in
      let b = m.below in
      h.apart m.q at m.f t.0 (omega arith) m.here t.1 (m.node ∙ sym t.2),
  trace_distinct nodes seeds keeps k found h path t.0.from t.3,
)

trace_comes : (nodes : List Node) (seeds keeps : List ℕ) (k : ℕ) (found : List Found) → IsSearched nodes seeds keeps k found → (path : List ℕ) (o : Option ℕ) (at i : ℕ) → Parent nodes seeds keeps k found at o i → IsTrace found o path → Comes nodes seeds keeps k path i
trace_comes nodes seeds keeps k found h path None at i p t = subst (λ l. Comes nodes seeds keeps k l i) (sym t) p
trace_comes nodes seeds keeps k found h [] (Some r) at i p t = absurd t
trace_comes nodes seeds keeps k found h (x ∷ path) (Some r) at i p t =
    let same : p.0 ≡ t.0 = found_same found r p.0 t.0 p.2 t.1 in
    let node : p.0.node ≡ x = ap (λ g. g.node) same ∙ t.2 in (
      subst (λ y. Comes nodes seeds keeps k path y) t.2 (trace_comes nodes seeds keeps k found h path t.0.from r t.0.node (h.parents r t.0 t.1) t.3),
      subst (λ y. IsEdge nodes y i) node p.3,
      subst (λ y. HasBit keeps y k) node p.4,
    )

pub trace_trail : (nodes : List Node) (seeds keeps : List ℕ) (k : ℕ) (found : List Found) (path : List ℕ) (at target : ℕ) (f : Found) → IsSearched nodes seeds keeps k found → slice_get found at ≡ Some f → f.node ≡ target → IsTrace found (Some at) path → IsTrail nodes seeds keeps k target path
trace_trail nodes seeds keeps k found [] at target f h here is t = absurd t
trace_trail nodes seeds keeps k found (x ∷ path) at target f h here is t =
    let same : t.0 ≡ f = found_same found at t.0 f t.1 here in
    let node : x ≡ target = sym t.2 ∙ ap (λ g. g.node) same ∙ is in (
      path,
      ap (λ y. y ∷ path) node,
      subst (λ y. Comes nodes seeds keeps k path y) (t.2 ∙ node) (trace_comes nodes seeds keeps k found h path t.0.from at t.0.node (h.parents at t.0 t.1) t.3),
      trace_distinct nodes seeds keeps k found h (x ∷ path) (Some at) t,
    )

-- the loop of the way back
pub trace_on : (found : List Found) (at r place : ℕ) (path after : List ℕ) (f : Found) → slice_get found at ≡ Some f → f.from ≡ Some r → after ≡ path ++ f.node ∷ [] → ((rest : List ℕ) → IsTrace found (Some at) rest → IsTrace found (Some place) (path ++ rest)) → (rest : List ℕ) → IsTrace found (Some r) rest → IsTrace found (Some place) (after ++ rest)
trace_on found at r place path after f here is e goes rest t =
    subst (IsTrace found (Some place)) (sym (ap (λ l. l ++ rest) e ∙ append_assoc path (f.node ∷ []) rest))
    (goes (f.node ∷ rest) (f, here, refl, subst (λ o. IsTrace found o rest) (sym is) t))

pub trace_last : (found : List Found) (at place : ℕ) (path after : List ℕ) (f : Found) → slice_get found at ≡ Some f → f.from ≡ None → after ≡ path ++ f.node ∷ [] → ((rest : List ℕ) → IsTrace found (Some at) rest → IsTrace found (Some place) (path ++ rest)) → IsTrace found (Some place) after
trace_last found at place path after f here is e goes =
    subst (IsTrace found (Some place)) (sym e) (goes (f.node ∷ []) (f, here, refl, subst (λ o. IsTrace found o []) (sym is) refl))
