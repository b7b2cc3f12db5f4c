-- Changes of a State word: a waiter is parked, or a list is handed out.
use Rattle.std.proofs.Common.{◌≡◌, ◌≢◌, ◌⊎◌, inl, inr, ℕ, zero, suc, ◌+◌, ◌-◌, ◌^◌, ◌<◌, Bool, true, false, cond, List, length, Option, Some, None, refl, sym, ap, ◌∙◌, subst, arith, ◌==◌, eq-eqb, ne_eqb}
use Rattle.std.specs.List.{Contains}
use Rattle.st_base.specs.declared.chain.Waiting.{Waiting}
use Rattle.st_base.specs.declared.chain.Waiting.TheVariants as waits
use Rattle.st_words.specs.declared.view.Waiter.{Waiter}
use Rattle.st_words.specs.declared.view.View.{View}
use Rattle.st_words.specs.Encodings.{head_in, count_in, count_after, counter_word, full_word}
use Rattle.st_words.specs.Steps.{IsFuture, IsCounter, IsDone, MayChange}
use Rattle.st_words.specs.Careful.{IsAtHome}
use Rattle.st_words.specs.Views.{Progress, with_progress, followed, without_waiter, changed_by, changed_future, changed_counter, cell_changed, counts_cell, owner_seen}
use Rattle.st_words.proofs.Lists.{same_true}
use Rattle.st_world.specs.Functions.{put}
use Rattle.st_world.specs.World.{World, put_if}
use Rattle.st_spots.specs.Listing.{Spot, Listed, Held, IsOpen, head_by, Listing, Lists, hands, readies, finders, counters}
use Rattle.st_lists.specs.Going.{Passes}
use Rattle.st_lists.specs.Laws.{ParksThere, JoinsThere, KnowsKind}
use Rattle.st_spots.proofs.Apart.{listed_held, rooted_listed}
use Rattle.st_spots.proofs.Lists.{handed}
use Rattle.st_spots.proofs.Ranks.{listed_in, listed_here, listed_only}
use Rattle.st_spots.proofs.Fills as fills
use Rattle.st_spots.proofs.Parks as parks
use Rattle.st_lists.proofs.Passing as passing
use Rattle.st_lists.proofs.ViewsAfter.{same_state}
use Rattle.st_lists.proofs.Wholes.{part_eq, part_same, rebuilt, root_same, root_put, below_put, quiet_view}
use Rattle.st_lists.proofs.Words as words

-- ---- heads and waits

pub future_head : (state : ℕ) → state ≢ full_word → head_by false state ≡ state
future_head state d = ap (λ (b : Bool). cond b 0 state) (ne_eqb state full_word d)

full_head : head_by false full_word ≡ 0
full_head = ap (λ (b : Bool). cond b 0 full_word) (eq-eqb full_word full_word refl)

-- all that waits at a future waits for it
open_touch : (state c : ℕ) (k : Waiting) → IsOpen false state c k → k ≡ waits.Touch c
open_touch state c (waits.Touch e) h = ap waits.Touch h.0
open_touch state c (waits.Join e n) h = absurd h
open_touch state c waits.Start h = absurd h
open_touch state c waits.Ready h = absurd h
open_touch state c waits.Trapped h = absurd h

open_future : (old new c : ℕ) (k : Waiting) → new ≢ full_word → IsOpen false old c k → IsOpen false new c k
open_future old new c (waits.Touch e) d h = (h.0, d)
open_future old new c (waits.Join e n) d h = absurd h
open_future old new c waits.Start d h = absurd h
open_future old new c waits.Ready d h = absurd h
open_future old new c waits.Trapped d h = absurd h

open_counter : (old new c : ℕ) (k : Waiting) → count_in new ≡ count_in old → IsOpen true old c k → IsOpen true new c k
open_counter old new c (waits.Join e n) d h = (h.0, subst (λ (j : ℕ). j < n) (sym d) h.1)
open_counter old new c (waits.Touch e) d h = absurd h
open_counter old new c waits.Start d h = absurd h
open_counter old new c waits.Ready d h = absurd h
open_counter old new c waits.Trapped d h = absurd h

word_parts : (k h : ℕ) → h < 2 ^ 17 → (count_in (counter_word k h) ≡ k) × (head_in (counter_word k h) ≡ h)
word_parts k h l = (omega (arith, l), omega (arith, l))

module _ (x : World) (G : Lists x) (w : ℕ) (less : w < x.workers) (pr : Progress) where
  abbrev u : View
  u = x.view w

  -- what the group is after the State word of a cell was changed
  abbrev Changed : View → ℕ → ℕ → Type 0
  Changed v c new = words.With x G w less pr v (record x { state = put x.state c new }) (λ s k. Passes G.spot G.wait s k w u)

  -- a list is handed out, or there is none
  handed_out : (v : View) (c new n : ℕ) (known : Option Waiting) → head_by (counters x.owner c) (x.state c) ≡ n → head_by (counters x.owner c) new ≡ 0 → ((d k : ℕ) → G.spot d ≡ Listed c k → (z : Waiting) → known ≡ Some z → G.wait d ≡ z) → v.hand ≡ followed known n u.hand → v.ready ≡ u.ready → v.root ≡ u.root → v.cells ≡ u.cells → Changed v c new
  handed_out v c new zero known h z told a b d e = rebuilt x.workers x.cells x.owner x.state x.next x.root x.view G w (with_progress pr v) (λ s k. Passes G.spot G.wait s k w u) x.owner (put x.state c new) x.next x.root G.spot G.wait (hands x.view) (readies x.view) (finders x.view) (passing.stays_pass G.spot G.wait w u G.spot G.wait (λ d. refl, λ d. refl)) e
      (part_same (λ (y : View). y.hand) x.view w (with_progress pr v) a) (part_same (λ (y : View). y.ready) x.view w (with_progress pr v) b) (part_same (λ (y : View). y.root) x.view w (with_progress pr v) d) G.below
      (fills.fill_none x.workers G.spot G.wait x.next (counters x.owner) x.state (hands x.view) (readies x.view) G.listing c new h z) G.rooting
  handed_out v c new (suc head) known h z told a b d e =
      let t = fills.fill x.workers G.spot G.wait x.next (counters x.owner) x.state (hands x.view) (readies x.view) G.listing w c new head known less h z told in
      let spot' : ℕ → Spot = λ f. handed (listed_in c) t.0 w head (G.spot f) in
      rebuilt x.workers x.cells x.owner x.state x.next x.root x.view G w (with_progress pr v) (λ s k. Passes G.spot G.wait s k w u) x.owner (put x.state c new) x.next x.root spot' G.wait (put (hands x.view) w v.hand) (readies x.view) (finders x.view)
      (passing.handing_passes G.spot G.wait w u (Listed c) (listed_in c) (listed_here c) (listed_only c) t.0 w head (λ k. tt) (λ i k q. listed_held q)) e
      (part_eq (λ (y : View). y.hand) x.view w (with_progress pr v)) (part_same (λ (y : View). y.ready) x.view w (with_progress pr v) b) (part_same (λ (y : View). y.root) x.view w (with_progress pr v) d)
      (words.handed_below (Listed c) (listed_in c) (listed_here c) (listed_only c) t.0 w head (λ o k q. rooted_listed q) (λ k q. let no : ⊥ = cc in no) x.cells G.spot G.below)
      (subst (λ (l : List Waiter). Listing x.workers spot' G.wait x.next (counters x.owner) (put x.state c new) (put (hands x.view) w l) (readies x.view)) (sym a) t.1)
      (root_same G.spot spot' x.root (finders x.view) (words.handed_root (Listed c) (listed_in c) (listed_here c) (listed_only c) t.0 w head (λ o k q. rooted_listed q) (λ k q. let no : ⊥ = cc in no) (G.spot 0)) G.rooting)

  -- a waiter is parked
  parked : (v : View) (c d new : ℕ) (y : Waiter) → IsAtHome u d → Contains u.hand y → y.cell ≡ d → y.next ≡ Some (head_by (counters x.owner c) (x.state c)) → head_by (counters x.owner c) new ≡ suc d → IsOpen (counters x.owner c) new c (G.wait d) → ((k : Waiting) → IsOpen (counters x.owner c) (x.state c) c k → IsOpen (counters x.owner c) new c k) → v.hand ≡ without_waiter d u.hand → v.ready ≡ u.ready → v.root ≡ u.root → v.cells ≡ u.cells → Changed v c new
  parked v c d new y home m cell lk head isopen opens a b r e =
      let at : G.spot d ≡ Held w = words.held_at x G w less pr d (y, m, cell) in
      let s : Spot = Listed c (length (G.listing.lists c).0) in
      rebuilt x.workers x.cells x.owner x.state x.next x.root x.view G w (with_progress pr v) (λ s k. Passes G.spot G.wait s k w u) x.owner (put x.state c new) x.next x.root (put G.spot d s) G.wait (put (hands x.view) w v.hand) (readies x.view) (finders x.view) (passing.park_passes G.spot G.wait w u d s at tt home) e
      (part_eq (λ (y : View). y.hand) x.view w (with_progress pr v)) (part_same (λ (y : View). y.ready) x.view w (with_progress pr v) b) (part_same (λ (y : View). y.root) x.view w (with_progress pr v) r)
      (below_put x.cells G.spot d s (words.held_below x G w less pr d (y, m, cell)) G.below)
      (subst (λ (l : List Waiter). Listing x.workers (put G.spot d s) G.wait x.next (counters x.owner) (put x.state c new) (put (hands x.view) w l) (readies x.view)) (sym a)
      (parks.park x.workers G.spot G.wait x.next (counters x.owner) x.state (hands x.view) (readies x.view) G.listing w c d new y m cell lk head isopen opens))
      (root_same G.spot (put G.spot d s) x.root (finders x.view) (root_put G.spot d s (λ o z. let no : ⊥ = cc in no) (λ o z. let no : ⊥ = cc in no)) G.rooting)

  -- ---- futures

  future_filled : (c : ℕ) → counters x.owner c ≡ false → x.state c ≢ full_word → Changed (changed_future c (x.state c) full_word true u) c full_word
  future_filled c kind d = handed_out (changed_future c (x.state c) full_word true u) c full_word (x.state c) (Some (waits.Touch c))
      (ap (λ (b : Bool). head_by b (x.state c)) kind ∙ future_head (x.state c) d) (ap (λ (b : Bool). head_by b full_word) kind ∙ full_head)
      (λ f k q z e. let t : waits.Touch c ≡ z = cc in open_touch (x.state c) c (G.wait f) (subst (λ (b : Bool). IsOpen b (x.state c) c (G.wait f)) kind (G.listing.waiting f c k q)) ∙ t) refl refl refl refl

  future_parked : (c new : ℕ) → counters x.owner c ≡ false → x.state c ≢ full_word → (p : ParksThere u c (x.state c) new) → new ≢ full_word → Changed (changed_future c (x.state c) new false u) c new
  future_parked c new kind d p fits =
      let f : ℕ = p.0 in
      let y = p.3.0 in
      let is : new ≡ suc f = let t = p.1 in omega (arith, t) in
      let same : new - 1 ≡ f = omega (arith, is) in
      let waits_at : G.wait f ≡ waits.Touch c = subst (λ (k : ℕ). G.wait k ≡ waits.Touch c) p.3.2 (((G.listing.hands w).entries y p.3.1).told (waits.Touch c) p.3.3.1) in
      parked (changed_future c (x.state c) new false u) c f new y p.2 p.3.1 p.3.2
      (p.3.3.0 ∙ ap (λ (k : ℕ). Some k) (sym (ap (λ (b : Bool). head_by b (x.state c)) kind ∙ future_head (x.state c) d)))
      ((ap (λ (b : Bool). head_by b new) kind ∙ future_head new fits) ∙ is)
      (subst (λ (b : Bool). IsOpen b new c (G.wait f)) (sym kind) (subst (IsOpen false new c) (sym waits_at) (refl, fits)))
      (λ k. subst (λ (b : Bool). IsOpen b (x.state c) c k → IsOpen b new c k) (sym kind) (open_future (x.state c) new c k fits))
      (ap (λ (k : ℕ). without_waiter k u.hand) same) refl refl refl

  -- ---- counters

  counter_joined : (c new : ℕ) → counters x.owner c ≡ true → JoinsThere u c (x.state c) new → Changed (changed_by true c (x.state c) new u) c new
  counter_joined c new kind p =
      let f : ℕ = p.0 in
      let y = p.5.0 in
      let few = G.few in
      let below = words.held_below x G w less pr f (y, p.5.1, p.5.2) in
      let fits : f + 1 < 2 ^ 17 = omega (arith, few, below) in
      let parts = word_parts (count_in (x.state c)) (f + 1) fits in
      let count : count_in new ≡ count_in (x.state c) = ap count_in p.2 ∙ parts.0 in
      let head : head_in new ≡ f + 1 = ap head_in p.2 ∙ parts.1 in
      let is : head_in new ≡ suc f = omega (arith, head) in
      let same : head_in new - 1 ≡ f = omega (arith, is) in
      let waits_at : G.wait f ≡ waits.Join c p.1 = subst (λ (k : ℕ). G.wait k ≡ waits.Join c p.1) p.5.2 (((G.listing.hands w).entries y p.5.1).told (waits.Join c p.1) p.5.3.1) in
      subst (λ (b : Bool). Changed (changed_counter c (x.state c) new b u) c new) (sym (ne_eqb (head_in new) 0 (λ z. let no : ⊥ = omega (arith, is, z) in no)))
      (parked (changed_counter c (x.state c) new false u) c f new y p.4 p.5.1 p.5.2
      (p.5.3.0 ∙ ap (λ (k : ℕ). Some k) (sym (ap (λ (b : Bool). head_by b (x.state c)) kind)))
      (ap (λ (b : Bool). head_by b new) kind ∙ is)
      (subst (λ (b : Bool). IsOpen b new c (G.wait f)) (sym kind) (subst (IsOpen true new c) (sym waits_at) (refl, subst (λ (k : ℕ). k < p.1) (sym count) p.3)))
      (λ k. subst (λ (b : Bool). IsOpen b (x.state c) c k → IsOpen b new c k) (sym kind) (open_counter (x.state c) new c k count))
      (ap (λ (k : ℕ). without_waiter k u.hand) same) refl refl refl)

  counter_counted : (c new : ℕ) → counters x.owner c ≡ true → new ≡ counter_word (count_after (count_in (x.state c))) 0 → Changed (changed_by true c (x.state c) new u) c new
  counter_counted c new kind p =
      let head : head_in new ≡ 0 = ap head_in p ∙ (word_parts (count_after (count_in (x.state c))) 0 (omega arith)).1 in
      subst (λ (b : Bool). Changed (changed_counter c (x.state c) new b u) c new) (sym (eq-eqb (head_in new) 0 head))
      (handed_out (changed_counter c (x.state c) new true u) c new (head_in (x.state c)) None (ap (λ (b : Bool). head_by b (x.state c)) kind) (ap (λ (b : Bool). head_by b new) kind ∙ head) (λ f k q z e. let no : ⊥ = cc in absurd no) refl refl refl refl)

  -- ---- a compare and exchange that finds what it compares with

  -- a future that may be changed isn't full
  not_full : (c old new : ℕ) → IsFuture u c → KnowsKind (x.owner c) u c → MayChange u c old new → old ≢ full_word
  not_full c old new f k (inl p) = p.1
  not_full c old new f k (inr (inl p)) = p.1
  not_full c old new f k (inr (inr (inl p))) = let a = k.0 f in let b = k.1 p.0 in let no : ⊥ = cc in absurd no
  not_full c old new f k (inr (inr (inr p))) = let a = k.0 f in let b = k.1 p.0 in let no : ⊥ = cc in absurd no

  by_kind : (b : Bool) (c new : ℕ) → counts_cell (owner_seen c u.owners) ≡ b → Changed (changed_by b c (x.state c) new u) c new → Changed (changed_by (counts_cell (owner_seen c u.owners)) c (x.state c) new u) c new
  by_kind b c new e h = subst (λ (t : Bool). Changed (changed_by t c (x.state c) new u) c new) (sym e) h

  changed_now : (c new : ℕ) → MayChange u c (x.state c) new → KnowsKind (x.owner c) u c → (IsFuture u c × (ParksThere u c (x.state c) new ⊎ (new ≡ full_word))) ⊎ (IsCounter u c × (JoinsThere u c (x.state c) new ⊎ IsDone u c (x.state c) new)) → Changed (changed_by (counts_cell (owner_seen c u.owners)) c (x.state c) new u) c new
  changed_now c new may k (inl (f, inl p)) =
      let kind = k.0 f in
      let few = G.few in
      let below = words.held_below x G w less pr p.0 (p.3.0, p.3.1, p.3.2) in
      let is = p.1 in
      let fits : new ≢ full_word = λ z. let no : ⊥ = omega (arith, few, below, is, z) in no in
      by_kind false c new (k.2 ∙ kind) (subst (λ (b : Bool). Changed (changed_future c (x.state c) new b u) c new) (sym (ne_eqb new full_word fits)) (future_parked c new kind (not_full c (x.state c) new f k may) p fits))
  changed_now c new may k (inl (f, inr p)) =
      let kind = k.0 f in
      by_kind false c new (k.2 ∙ kind) (subst (λ (n : ℕ). Changed (changed_future c (x.state c) n (n == full_word) u) c n) (sym p) (subst (λ (b : Bool). Changed (changed_future c (x.state c) full_word b u) c full_word) (sym (eq-eqb full_word full_word refl)) (future_filled c kind (not_full c (x.state c) new f k may))))
  changed_now c new may k (inr (f, inl p)) = by_kind true c new (k.2 ∙ k.1 f) (counter_joined c new (k.1 f) p)
  changed_now c new may k (inr (f, inr p)) = by_kind true c new (k.2 ∙ k.1 f) (counter_counted c new (k.1 f) p.1)

  -- whatever it finds
  pub exchanged : (c old new n : ℕ) → n ≡ x.state c → MayChange u c old new → KnowsKind (x.owner c) u c → (IsFuture u c × (ParksThere u c old new ⊎ (new ≡ full_word))) ⊎ (IsCounter u c × (JoinsThere u c old new ⊎ IsDone u c old new)) → words.With x G w less pr (cell_changed (n == old) c old new n u) (record x { state = put_if (n == old) x.state c new }) (λ s k. Passes G.spot G.wait s k w u)
  exchanged c old new n f may k t = by (n == old) refl
    where
      by : (b : Bool) → (n == old) ≡ b → words.With x G w less pr (cell_changed b c old new n u) (record x { state = put_if b x.state c new }) (λ s k. Passes G.spot G.wait s k w u)
      by false e = let q = quiet_view x G w (with_progress pr (cell_changed false c old new n u)) (same_state c n u) in (q.0, passing.stays_pass G.spot G.wait w u q.0.spot q.0.wait q.1)
      by true e =
          let old_is : x.state c ≡ old = sym f ∙ same_true n old e in
          subst (λ (o : ℕ). MayChange u c o new → (IsFuture u c × (ParksThere u c o new ⊎ (new ≡ full_word))) ⊎ (IsCounter u c × (JoinsThere u c o new ⊎ IsDone u c o new)) → Changed (changed_by (counts_cell (owner_seen c u.owners)) c o new u) c new) old_is (λ m s. changed_now c new m k s) may t
