-- Who keeps a thread, and how often a worker has it. Reach for times_most, times_is (a worker that has a path keeps it), once_more and once_less (a path comes or goes), kept_by (a thread of
-- a worker's list), and Leaves (what one keeper has stays, though the heap and other keepers change) with view_left, slot_left, put_leaves and stay_leaves.
use Rattle.std.proofs.Common.{◌≡◌, ◌≢◌, ⊎_elim, ℕ, zero, suc, ◌≤◌, Bool, cond, List, ◌∷◌, Option, Some, None, refl, sym, ap, ◌∙◌, subst, arith, eq-eqb, ne_eqb}
use Rattle.std.specs.List.{Contains}
use Rattle.std.proofs.lemmas.Bool.{cases_eq}
use Rattle.st_base.specs.declared.chain.Chain.{Chain}
use Rattle.st_base.specs.declared.thread.Thread.{Thread}
use Rattle.st_words.specs.declared.view.Slot.{Slot}
use Rattle.st_words.specs.declared.view.Known.{Known}
use Rattle.st_words.specs.declared.view.Cargo.{Cargo}
use Rattle.st_model.specs.Heap.{Path, Heap, put, steps_of}
use Rattle.st_laws.proofs.HeapSteps.{decide, put_same, put_other}
use Rattle.st_made.proofs.Lists.{times_here, times_there, known_here}
use Rattle.st_world.specs.Holders.{Holder, InView, InSlot, Nobody}
use Rattle.st_threads.specs.Holding.{times, IsOf, HasThreads, HasThreadOf, SlotHas}

-- ---- how often

times_other : (v w : ℕ) → v ≢ w → times (InView v) w ≡ 0
times_other v w ne = ap (λ (b : Bool). cond b 1 0) (ne_eqb v w ne)

pub times_at : (k : Holder) (w : ℕ) → k ≡ InView w → times k w ≡ 1
times_at k w e = ap (λ (z : Holder). times z w) e ∙ ap (λ (b : Bool). cond b 1 0) (eq-eqb w w refl)

pub times_most : (k : Holder) (w : ℕ) → times k w ≤ 1
times_most (InView v) w = ⊎_elim (λ (e : v ≡ w). let x = times_at (InView v) w (ap InView e) in omega arith) (λ (n : v ≢ w). let x = times_other v w n in omega arith) (cases_eq v w)
times_most (InSlot z) w = omega arith
times_most Nobody w = omega arith

-- a worker that has it keeps it
pub times_is : (k : Holder) (w : ℕ) → 1 ≤ times k w → k ≡ InView w
times_is (InView v) w le = ⊎_elim (λ (e : v ≡ w). ap InView e) (λ (n : v ≢ w). let x = times_other v w n in absurd (omega arith)) (cases_eq v w)
times_is (InSlot z) w le = absurd (omega arith)
times_is Nobody w le = absurd (omega arith)

pub zero_unless : (n : ℕ) → (1 ≤ n → ⊥) → n ≡ 0
zero_unless zero never = refl
zero_unless (suc n) never = absurd (never (omega arith))

pub times_none : (k : Holder) (w : ℕ) → k ≢ InView w → times k w ≡ 0
times_none k w ne = zero_unless (times k w) (λ le. ne (times_is k w le))

times_same : (a b : Holder) (w : ℕ) → (a ≡ InView w → b ≡ InView w) → (b ≡ InView w → a ≡ InView w) → times a w ≡ times b w
times_same a b w on back = ⊎_elim
    (λ (e : times a w ≡ 0). let x = zero_unless (times b w) (λ le. let y = times_at a w (back (times_is b w le)) in omega arith) in omega arith)
    (λ (n : times a w ≢ 0).
    let some : 1 ≤ times a w = omega arith in
    let is = times_is a w some in
    let x = times_at a w is in
    let y = times_at b w (on is) in
    omega arith)
    (cases_eq (times a w) 0)

-- a path comes to the worker
pub once_more : (keeper : Path → Holder) (w : ℕ) (p : Path) (ps : List Path) → keeper p ≢ InView w → ((q : Path) → steps_of q ps ≡ times (keeper q) w) → (q : Path) → steps_of q (p ∷ ps) ≡ times (put p (InView w) keeper q) w
once_more keeper w p ps ne once q = ⊎_elim
    (λ (e : q ≡ p).
    let a = times_here q p ps e in
    let b = once q in
    let c = times_none (keeper q) w (λ is. ne (ap keeper (sym e) ∙ is)) in
    let d = times_at (put p (InView w) keeper q) w (ap (put p (InView w) keeper) e ∙ put_same p (InView w) keeper) in
    omega arith)
    (λ (n : q ≢ p). times_there q p ps n ∙ (once q ∙ sym (ap (λ (k : Holder). times k w) (put_other p q (InView w) keeper n))))
    (decide q p)

-- or goes from it
pub once_less : (keeper : Path → Holder) (w : ℕ) (p : Path) (b : Holder) (ps : List Path) → b ≢ InView w → ((q : Path) → steps_of q (p ∷ ps) ≡ times (keeper q) w) → (q : Path) → steps_of q ps ≡ times (put p b keeper q) w
once_less keeper w p b ps ne once q = ⊎_elim
    (λ (e : q ≡ p).
    let a = times_here q p ps e in
    let c = once q in
    let d = times_most (keeper q) w in
    let f = times_none (put p b keeper q) w (λ is. ne (sym (put_same p b keeper) ∙ (ap (put p b keeper) (sym e) ∙ is))) in
    omega arith)
    (λ (n : q ≢ p). sym (times_there q p ps n) ∙ (once q ∙ sym (ap (λ (k : Holder). times k w) (put_other p q b keeper n))))
    (decide q p)

-- a thread of a worker's list is kept by it
pub kept_by : (h : Heap) (keeper : Path → Holder) (w : ℕ) (ts : List Known) (t : Known) → HasThreads h keeper w ts → Contains ts t → keeper t.path ≡ InView w
kept_by h keeper w ts t has m = let a = known_here ts t m in let b = has.once t.path in times_is (keeper t.path) w (omega arith)

-- ---- what stays

pub is_there : (h h' : Heap) (t : Known) → h'.thread t.path ≡ Some t.thread → IsOf h t → IsOf h' t
is_there h h' t there of = record { there = there; live = of.live; forks = of.forks; counters = of.counters; bytes = of.bytes }

-- what k keeps stays
pub record Leaves (h h' : Heap) (keeper keeper' : Path → Holder) (k : Holder) : Type 0 where
  pub on : (q : Path) → keeper q ≡ k → keeper' q ≡ k
  pub back : (q : Path) → keeper' q ≡ k → keeper q ≡ k
  pub there : (q : Path) (t : Thread) → keeper q ≡ k → h.thread q ≡ Some t → h'.thread q ≡ Some t

pub view_left : (h h' : Heap) (keeper keeper' : Path → Holder) (w : ℕ) (ts : List Known) → Leaves h h' keeper keeper' (InView w) → HasThreads h keeper w ts → HasThreads h' keeper' w ts
view_left h h' keeper keeper' w ts leaves has = record {
  once = λ p. has.once p ∙ times_same (keeper p) (keeper' p) w (leaves.on p) (leaves.back p);
  each = λ t m. let of = has.each t m in is_there h h' t (leaves.there t.path t.thread (kept_by h keeper w ts t has m) of.there) of;
}

pub slot_left : (h h' : Heap) (keeper keeper' : Path → Holder) (z : Slot) (o : Option Chain) (cargo : Cargo) → Leaves h h' keeper keeper' (InSlot z) → SlotHas h keeper z o cargo → SlotHas h' keeper' z o cargo
slot_left h h' keeper keeper' z None cargo leaves has = λ p e. has p (leaves.back p e)
slot_left h h' keeper keeper' z (Some chain) cargo leaves has =
    let t = cargo.carried.known in
    record { of = is_there h h' t (leaves.there t.path t.thread has.holds has.of.there) has.of; holds = leaves.on t.path has.holds; alone = λ p e. has.alone p (leaves.back p e) }

-- a slot has a thread by its cargo's alone
pub slot_known : (h : Heap) (keeper : Path → Holder) (z : Slot) (o : Option Chain) (a b : Cargo) → a.carried.known ≡ b.carried.known → SlotHas h keeper z o a → SlotHas h keeper z o b
slot_known h keeper z None a b e has = has
slot_known h keeper z (Some chain) a b e has = subst (λ (t : Known). HasThreadOf h keeper z t) e has

-- where all keepers stay
pub stay_leaves : (h h' : Heap) (keeper : Path → Holder) (k : Holder) → ((q : Path) (t : Thread) → keeper q ≡ k → h.thread q ≡ Some t → h'.thread q ≡ Some t) → Leaves h h' keeper keeper k
stay_leaves h h' keeper k there = record { on = λ q e. e; back = λ q e. e; there = there }

-- where one path goes from another keeper to another one
pub put_leaves : (h h' : Heap) (keeper : Path → Holder) (p : Path) (b k : Holder) → keeper p ≢ k → b ≢ k → ((q : Path) (t : Thread) → keeper q ≡ k → h.thread q ≡ Some t → h'.thread q ≡ Some t) → Leaves h h' keeper (put p b keeper) k
put_leaves h h' keeper p b k from to there = record {
  on = λ q e. put_other p q b keeper (λ (s : q ≡ p). from (ap keeper (sym s) ∙ e)) ∙ e;
  back = λ q e. ⊎_elim
      (λ (s : q ≡ p). absurd (to (sym (put_same p b keeper) ∙ (ap (put p b keeper) (sym s) ∙ e))))
      (λ (n : q ≢ p). sym (put_other p q b keeper n) ∙ e) (decide q p);
  there = there;
}
