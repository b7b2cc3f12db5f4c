-- Where a thread of a keeper is (in_view, in_slot, nobody_there), and what keeps Holding: with_view where one worker's view and its keeper's threads change, with_slot where a
-- slot does too, and turned where the worker has the same threads in another order. told_laws: what follows.
use Rattle.std.proofs.Common.{◌≡◌, ◌≢◌, ◌⊎◌, ◌≤◌, inl, inr, ⊎_elim, ℕ, List, Option, Some, None, refl, sym, ap, ◌∙◌, subst, arith}
use Rattle.std.specs.List.{Contains}
use Rattle.std.proofs.lemmas.Bool.{cases_eq}
use Rattle.st_base.specs.declared.chain.Chain.{Chain}
use Rattle.st_base.specs.declared.thread.Thread.{Thread}
use Rattle.st_words.specs.declared.view.Slot.{Slot}
use Rattle.st_words.specs.declared.view.Slot.TheVariants.{Cell, Mail}
use Rattle.st_words.specs.declared.view.Known.{Known}
use Rattle.st_words.specs.declared.view.Cargo.{Cargo}
use Rattle.st_words.specs.declared.view.View.{View}
use Rattle.st_model.specs.Heap.{Path, Heap, IsNumbered}
use Rattle.st_laws.proofs.HeapSteps.{same_thread}
use Rattle.st_made.specs.Items.{IsLive}
use Rattle.st_made.specs.Runs.{known_of, all_known}
use Rattle.st_made.proofs.Lists.{known_of_path}
use Rattle.st_world.specs.Functions.{put}
use Rattle.st_world.specs.World.{World, slot_of, cargo_of}
use Rattle.st_world.proofs.Functions.{put_all}
use Rattle.st_world.specs.Holders.{Holder, InView, InSlot, Nobody}
use Rattle.st_threads.specs.Holding.{HasThreads, HasThreadOf, SlotHas, Holding, IsOf, Threads}
use Rattle.st_threads.specs.Laws.{ToldLaws}
use Rattle.st_threads.proofs.Keepers.{times_at, times_most, kept_by, Leaves, view_left, slot_left, stay_leaves}
use Rattle.st_threads.proofs.Lists.{count, times_both}

-- ---- where it is

module _ (h : Heap) (slot : Slot → Option Chain) (cargo : Slot → Cargo) (view : ℕ → View) (r : Holding h slot cargo view) where
  pub in_view : (q : Path) (w : ℕ) → r.keeper q ≡ InView w → (t : Known) × Contains (all_known (view w)) t × (t.path ≡ q)
  in_view q w e = let a = (r.views w).once q in let b = times_at (r.keeper q) w e in known_of_path (all_known (view w)) q (omega arith)

  in_slot_by : (q : Path) (z : Slot) (o : Option Chain) → slot z ≡ o → SlotHas h r.keeper z o (cargo z) → r.keeper q ≡ InSlot z → (b : Chain) × (slot z ≡ Some b) × HasThreadOf h r.keeper z (cargo z).carried.known
  in_slot_by q z None is has e = absurd (has q e)
  in_slot_by q z (Some b) is has e = (b, is, has)

  pub in_slot : (q : Path) (z : Slot) → r.keeper q ≡ InSlot z → (b : Chain) × (slot z ≡ Some b) × HasThreadOf h r.keeper z (cargo z).carried.known
  in_slot q z e = in_slot_by q z (slot z) refl (r.slots z) e

  none_by : (q : Path) (k : Holder) → r.keeper q ≡ k → h.thread q ≡ None → k ≡ Nobody
  none_by q (InView w) e none =
      let t = in_view q w e in
      let there : h.thread q ≡ Some t.0.thread = subst (λ (p : Path). h.thread p ≡ Some t.0.thread) t.2 ((r.views w).each t.0 t.1).there in
      let no : ⊥ = cc in absurd no
  none_by q (InSlot z) e none =
      let b = in_slot q z e in
      let has = b.2 in
      let t = (cargo z).carried.known in
      let there : h.thread q ≡ Some t.thread = subst (λ (p : Path). h.thread p ≡ Some t.thread) (sym (has.alone q e)) has.of.there in
      let no : ⊥ = cc in absurd no
  none_by q Nobody e none = refl

  -- nobody keeps a thread that isn't there
  pub nobody_there : (q : Path) → h.thread q ≡ None → r.keeper q ≡ Nobody
  nobody_there q none = none_by q (r.keeper q) refl none

  pub turn_most : (w : ℕ) (p : Path) → count p (known_of (view w).chains) ≤ 1
  turn_most w p = let a = times_both p (view w).threads (known_of (view w).chains) in let b = (r.views w).once p in let c = times_most (r.keeper p) w in omega arith

-- ---- what keeps it

-- no thread that hasn't ended is without a keeper
abbrev pub AreHeld : Heap → (Path → Holder) → Type 0
AreHeld h keeper = (p : Path) (t : Thread) → h.thread p ≡ Some t → IsLive t.standing → keeper p ≢ Nobody

pub slot_not_view : (z : Slot) (w : ℕ) → InSlot z ≢ InView w
slot_not_view z w e = cc

pub view_not_nobody : (w : ℕ) → InView w ≢ Nobody
view_not_nobody w e = cc

pub slot_not_nobody : (z : Slot) → InSlot z ≢ Nobody
slot_not_nobody z e = cc

pub with_view : (h h' : Heap) (slot : Slot → Option Chain) (cargo : Slot → Cargo) (view : ℕ → View) (w : ℕ) (v : View) (r : Holding h slot cargo view) (keeper : Path → Holder) → ((k : Holder) → k ≢ InView w → k ≢ Nobody → Leaves h h' r.keeper keeper k) → HasThreads h' keeper w (all_known v) → AreHeld h' keeper → IsNumbered h' → Holding h' slot cargo (put view w v)
with_view h h' slot cargo view w v r keeper leaves has held numbered = record {
  keeper = keeper;
  views = λ q. put_all (λ (j : ℕ) (u : View). HasThreads h' keeper j (all_known u)) view w v q
      (λ (e : q ≡ w). subst (λ (j : ℕ). HasThreads h' keeper j (all_known v)) (sym e) has)
      (λ (n : q ≢ w). view_left h h' r.keeper keeper q (all_known (view q)) (leaves (InView q) (λ e. n cc) (view_not_nobody q)) (r.views q));
  slots = λ z. slot_left h h' r.keeper keeper z (slot z) (cargo z) (leaves (InSlot z) (slot_not_view z w) (slot_not_nobody z)) (r.slots z);
  held = held;
  numbered = numbered;
}

-- the same threads in another order
pub turned : (h : Heap) (slot : Slot → Option Chain) (cargo : Slot → Cargo) (view : ℕ → View) (w : ℕ) (v : View) (r : Holding h slot cargo view) (ts us : List Known) → all_known (view w) ≡ ts → all_known v ≡ us → ((p : Path) → count p us ≡ count p ts) → ((t : Known) → Contains us t → ((s : Known) → Contains ts s → IsOf h s) → IsOf h t) → Holding h slot cargo (put view w v)
turned h slot cargo view w v r ts us is now same each =
    let mine : HasThreads h r.keeper w ts = subst (λ (l : List Known). HasThreads h r.keeper w l) is (r.views w) in
    with_view h h slot cargo view w v r r.keeper
    (λ k a b. stay_leaves h h r.keeper k (λ q t e here. here))
    (subst (λ (l : List Known). HasThreads h r.keeper w l) (sym now) (record { once = λ p. same p ∙ mine.once p; each = λ t m. each t m mine.each }))
    r.held
    r.numbered

-- in the same order
pub all_stay : (h : Heap) (slot : Slot → Option Chain) (cargo : Slot → Cargo) (view : ℕ → View) (w : ℕ) (v : View) (r : Holding h slot cargo view) → all_known v ≡ all_known (view w) → Holding h slot cargo (put view w v)
all_stay h slot cargo view w v r e = turned h slot cargo view w v r (all_known (view w)) (all_known (view w)) refl e (λ p. refl) (λ t m of. of t m)

-- ---- slots

pub same_slot : (y z : Slot) → (y ≡ z) ⊎ (y ≢ z)
same_slot (Cell a) (Cell b) = ⊎_elim (λ (e : a ≡ b). inl (ap Cell e)) (λ (n : a ≢ b). inr (λ e. n cc)) (cases_eq a b)
same_slot (Cell a) (Mail b) = inr (λ e. cc)
same_slot (Mail a) (Cell b) = inr (λ e. cc)
same_slot (Mail a) (Mail b) = ⊎_elim (λ (e : a ≡ b). inl (ap Mail e)) (λ (n : a ≢ b). inr (λ e. n cc)) (cases_eq a b)

pub with_slot : (h : Heap) (slot slot' : Slot → Option Chain) (cargo cargo' : Slot → Cargo) (view : ℕ → View) (w : ℕ) (v : View) (y : Slot) (r : Holding h slot cargo view) (keeper : Path → Holder) → ((z : Slot) → z ≢ y → (slot' z ≡ slot z) × (cargo' z ≡ cargo z)) → ((k : Holder) → k ≢ InView w → k ≢ InSlot y → Leaves h h r.keeper keeper k) → HasThreads h keeper w (all_known v) → SlotHas h keeper y (slot' y) (cargo' y) → AreHeld h keeper → Holding h slot' cargo' (put view w v)
with_slot h slot slot' cargo cargo' view w v y r keeper others leaves has full held = record {
  keeper = keeper;
  views = λ q. put_all (λ (j : ℕ) (u : View). HasThreads h keeper j (all_known u)) view w v q
      (λ (e : q ≡ w). subst (λ (j : ℕ). HasThreads h keeper j (all_known v)) (sym e) has)
      (λ (n : q ≢ w). view_left h h r.keeper keeper q (all_known (view q)) (leaves (InView q) (λ e. n cc) (λ e. cc)) (r.views q));
  slots = λ z. ⊎_elim
      (λ (e : z ≡ y). subst (λ (d : Slot). SlotHas h keeper d (slot' d) (cargo' d)) (sym e) full)
      (λ (n : z ≢ y). subst (λ (o : Option Chain). SlotHas h keeper z o (cargo' z)) (sym (others z n).0)
      (subst (λ (c : Cargo). SlotHas h keeper z (slot z) c) (sym (others z n).1)
      (slot_left h h r.keeper keeper z (slot z) (cargo z) (leaves (InSlot z) (slot_not_view z w) (λ e. n cc)) (r.slots z))))
      (same_slot z y);
  held = held;
  numbered = r.numbered;
}

-- ---- what follows

module _ (h : Heap) (x : World) (r : Threads h x) where
  in_worker : (w : ℕ) (t : Known) → Contains (all_known (x.view w)) t → r.keeper t.path ≡ InView w
  in_worker w t m = kept_by h r.keeper w (all_known (x.view w)) t (r.views w) m

  full : (z : Slot) (b : Chain) → slot_of x z ≡ Some b → HasThreadOf h r.keeper z (cargo_of x z).carried.known
  full z b e = subst (λ (o : Option Chain). SlotHas h r.keeper z o (cargo_of x z)) e (r.slots z)

  one_view : (v w : ℕ) (t s : Known) → Contains (all_known (x.view v)) t → Contains (all_known (x.view w)) s → t.path ≡ s.path → v ≡ w
  one_view v w t s m n e = let same : InView v ≡ InView w = sym (in_worker v t m) ∙ (ap r.keeper e ∙ in_worker w s n) in cc

  one_slot : (y z : Slot) (b c : Chain) → slot_of x y ≡ Some b → slot_of x z ≡ Some c → (cargo_of x y).carried.known.path ≡ (cargo_of x z).carried.known.path → y ≡ z
  one_slot y z b c m n e = let same : InSlot y ≡ InSlot z = sym (full y b m).holds ∙ (ap r.keeper e ∙ (full z c n).holds) in cc

  not_both : (w : ℕ) (z : Slot) (b : Chain) (t : Known) → Contains (all_known (x.view w)) t → slot_of x z ≡ Some b → t.path ≡ (cargo_of x z).carried.known.path → ⊥
  not_both w z b t m n e = slot_not_view z w (sym (full z b n).holds ∙ (ap r.keeper (sym e) ∙ in_worker w t m))

  -- by its keeper
  where_is : (p : Path) (t : Thread) (k : Holder) → r.keeper p ≡ k → h.thread p ≡ Some t → IsLive t.standing → ((w : ℕ) × (k : Known) × Contains (all_known (x.view w)) k × (k.path ≡ p) × (k.thread ≡ t)) ⊎ ((z : Slot) × (b : Chain) × (slot_of x z ≡ Some b) × ((cargo_of x z).carried.known.path ≡ p) × ((cargo_of x z).carried.known.thread ≡ t))
  where_is p t (InView w) e here live =
      let k = in_view h (slot_of x) (cargo_of x) x.view r p w e in
      let there : h.thread p ≡ Some k.0.thread = subst (λ (q : Path). h.thread q ≡ Some k.0.thread) k.2 ((r.views w).each k.0 k.1).there in
      inl (w, k.0, k.1, k.2, same_thread h p k.0.thread t there here)
  where_is p t (InSlot z) e here live =
      let b = in_slot h (slot_of x) (cargo_of x) x.view r p z e in
      let k = (cargo_of x z).carried.known in
      let is : p ≡ k.path = b.2.alone p e in
      let there : h.thread p ≡ Some k.thread = subst (λ (q : Path). h.thread q ≡ Some k.thread) (sym is) b.2.of.there in
      inr (z, b.0, b.1, sym is, same_thread h p k.thread t there here)
  where_is p t Nobody e here live = absurd (r.held p t here live e)

pub told_laws : ToldLaws
told_laws = record {
  are_in = λ h x w r. record {
    each = λ t m. ((r.views w).each t m).there;
    once = λ p. let a = (r.views w).once p in let b = times_most (r.keeper p) w in omega arith;
  };
  one_view = λ h x v w t s r. one_view h x r v w t s;
  one_slot = λ h x y z b c r. one_slot h x r y z b c;
  not_both = λ h x w z b t r. not_both h x r w z b t;
  somewhere = λ h x p t r. where_is h x r p t (r.keeper p) refl;
}
