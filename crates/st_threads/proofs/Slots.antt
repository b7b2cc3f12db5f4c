-- A chain goes from a slot into a worker's turn (taken) or back (given_out): its thread has another keeper. none_taken: an empty slot is looked into.
use Rattle.std.proofs.Common.{◌≡◌, ◌≢◌, ⊎_elim, ℕ, List, ◌∷◌, ◌++◌, Option, Some, None, sym, ap, ◌∙◌, subst, arith}
use Rattle.std.specs.List.{Contains}
use Rattle.std.proofs.lemmas.List.Elements.{Contains-append_left, Contains-append_right, Contains-append_cases}
use Rattle.st_base.specs.declared.chain.Chain.{Chain}
use Rattle.st_words.specs.declared.view.Slot.{Slot}
use Rattle.st_words.specs.declared.view.Known.{Known}
use Rattle.st_words.specs.declared.view.Carried.{Carried}
use Rattle.st_words.specs.declared.view.Cargo.{Cargo}
use Rattle.st_words.specs.declared.view.View.{View}
use Rattle.st_words.specs.Views.{without_chain}
use Rattle.st_words.proofs.Lists.{contains_case}
use Rattle.st_model.specs.Heap.{Path, Heap, put as put_path}
use Rattle.st_laws.proofs.HeapSteps.{decide, put_same, put_other}
use Rattle.st_made.specs.Runs.{known_of, all_known, paths_of}
use Rattle.st_world.specs.Functions.{put}
use Rattle.st_world.specs.Holders.{InView, InSlot}
use Rattle.st_threads.specs.Holding.{IsOf, HasThreads, HasThreadOf, SlotHas, Holding}
use Rattle.st_threads.specs.Laws.{AreSingle}
use Rattle.st_threads.proofs.Keepers.{once_more, once_less, kept_by, stay_leaves, put_leaves}
use Rattle.st_threads.proofs.Lists.{times_both, times_moved, times_first, known_in, left_back}
use Rattle.st_threads.proofs.Holdings.{turn_most, slot_not_view, view_not_nobody, slot_not_nobody, with_slot}

module _ (h : Heap) (slot slot' : Slot → Option Chain) (cargo cargo' : Slot → Cargo) (view : ℕ → View) (w : ℕ) (v : View) (y : Slot) (r : Holding h slot cargo view) (others : (z : Slot) → z ≢ y → (slot' z ≡ slot z) × (cargo' z ≡ cargo z)) (threads : v.threads ≡ (view w).threads) where
  abbrev turn : List Known
  turn = known_of (view w).chains

  abbrev mine : HasThreads h r.keeper w (all_known (view w))
  mine = r.views w

  pub none_taken : slot y ≡ None → slot' y ≡ None → v.chains ≡ (view w).chains → Holding h slot' cargo' (put view w v)
  none_taken none empty same =
      let now : all_known v ≡ all_known (view w) = λ i. threads i ++ known_of (same i) in
      with_slot h slot slot' cargo cargo' view w v y r r.keeper others
      (λ k a b. stay_leaves h h r.keeper k (λ q t e here. here))
      (subst (λ (ts : List Known). HasThreads h r.keeper w ts) (sym now) mine)
      (subst (λ (o : Option Chain). SlotHas h r.keeper y o (cargo' y)) (sym empty) (subst (λ (o : Option Chain). SlotHas h r.keeper y o (cargo y)) none (r.slots y)))
      r.held

  -- the thread of the slot is the worker's from then on
  pub taken : (chain : Chain) → slot y ≡ Some chain → slot' y ≡ None → v.chains ≡ (cargo y).carried ∷ (view w).chains → Holding h slot' cargo' (put view w v)
  taken chain full empty more =
      let t = (cargo y).carried.known in
      let p = t.path in
      let keeper = put_path p (InView w) r.keeper in
      let has : HasThreadOf h r.keeper y t = subst (λ (o : Option Chain). SlotHas h r.keeper y o (cargo y)) full (r.slots y) in
      let goes : keeper p ≡ InView w = put_same p (InView w) r.keeper in
      let stays : (q : Path) → q ≢ p → keeper q ≡ r.keeper q = λ q n. put_other p q (InView w) r.keeper n in
      let now : all_known v ≡ (view w).threads ++ t ∷ turn = λ i. threads i ++ known_of (more i) in
      with_slot h slot slot' cargo cargo' view w v y r keeper others
      (λ k a b. put_leaves h h r.keeper p (InView w) k (λ e. b (sym e ∙ has.holds)) (λ e. a (sym e)) (λ q u e here. here))
      (subst (λ (ts : List Known). HasThreads h keeper w ts) (sym now) (record {
        once = λ q. times_moved q t (view w).threads turn ∙ once_more r.keeper w p (paths_of (all_known (view w))) (λ e. slot_not_view y w (sym has.holds ∙ e)) mine.once q;
        each = λ u m. ⊎_elim
            (λ (a : Contains (view w).threads u). mine.each u (Contains-append_left (view w).threads turn u a))
            (λ (b : Contains (t ∷ turn) u). ⊎_elim
            (λ (e : t ≡ u). subst (λ (x : Known). IsOf h x) e has.of)
            (λ (n : Contains turn u). mine.each u (Contains-append_right (view w).threads turn u n))
            (contains_case u t turn b))
            (Contains-append_cases (view w).threads (t ∷ turn) u m);
      }))
      (subst (λ (o : Option Chain). SlotHas h keeper y o (cargo' y)) (sym empty) (λ q e. ⊎_elim
      (λ (s : q ≡ p). let z : InSlot y ≡ InView w = sym e ∙ (ap keeper s ∙ goes) in slot_not_view y w z)
      (λ (n : q ≢ p). n (has.alone q (sym (stays q n) ∙ e)))
      (decide q p)))
      (λ q u here live e. ⊎_elim
      (λ (s : q ≡ p). view_not_nobody w (sym goes ∙ (ap keeper (sym s) ∙ e)))
      (λ (n : q ≢ p). r.held q u here live (sym (stays q n) ∙ e))
      (decide q p))

  -- a thread of the turn is the slot's from then on
  pub given_out : (chain : Chain) (x : Carried) → slot y ≡ None → slot' y ≡ Some chain → (cargo' y).carried ≡ x → Contains (view w).chains x → AreSingle (view w) → v.chains ≡ without_chain x.known.note.cell (view w).chains → Holding h slot' cargo' (put view w v)
  given_out chain x none full is m single less =
      let t = x.known in
      let p = t.path in
      let c = t.note.cell in
      let keeper = put_path p (InSlot y) r.keeper in
      let in_turn : Contains turn t = known_in (view w).chains x m in
      let in_all : Contains (all_known (view w)) t = Contains-append_right (view w).threads turn t in_turn in
      let kept : r.keeper p ≡ InView w = kept_by h r.keeper w (all_known (view w)) t mine in_all in
      let goes : keeper p ≡ InSlot y = put_same p (InSlot y) r.keeper in
      let stays : (q : Path) → q ≢ p → keeper q ≡ r.keeper q = λ q n. put_other p q (InSlot y) r.keeper n in
      let left = known_of (without_chain c (view w).chains) in
      let now : all_known v ≡ (view w).threads ++ left = λ i. threads i ++ known_of (less i) in
      let was : (q : Path) → r.keeper q ≢ InSlot y = subst (λ (o : Option Chain). SlotHas h r.keeper y o (cargo y)) none (r.slots y) in
      let has : HasThreadOf h keeper y t = record {
        of = mine.each t in_all;
        holds = goes;
        alone = λ q e. ⊎_elim (λ (s : q ≡ p). s) (λ (n : q ≢ p). absurd (was q (sym (stays q n) ∙ e))) (decide q p);
      } in
      with_slot h slot slot' cargo cargo' view w v y r keeper others
      (λ k a b. put_leaves h h r.keeper p (InSlot y) k (λ e. a (sym e ∙ kept)) (λ e. b (sym e)) (λ q u e here. here))
      (subst (λ (ts : List Known). HasThreads h keeper w ts) (sym now) (record {
        once = once_less r.keeper w p (InSlot y) (paths_of ((view w).threads ++ left)) (slot_not_view y w) (λ q.
            let a = times_first q x (view w).chains m (λ z k s. single z x k m s) (turn_most h slot cargo view r w p) in
            let b = times_both q (view w).threads turn in
            let d = times_both q (view w).threads (t ∷ left) in
            let e = times_moved q t (view w).threads left in
            let f = mine.once q in
            omega arith);
        each = λ u k. mine.each u (⊎_elim
            (λ (a : Contains (view w).threads u). Contains-append_left (view w).threads turn u a)
            (λ (b : Contains left u). Contains-append_right (view w).threads turn u (left_back c (view w).chains u b))
            (Contains-append_cases (view w).threads left u k));
      }))
      (subst (λ (o : Option Chain). SlotHas h keeper y o (cargo' y)) (sym full) (subst (λ (d : Carried). HasThreadOf h keeper y d.known) (sym is) has))
      (λ q u here live e. ⊎_elim
      (λ (s : q ≡ p). slot_not_nobody y (sym goes ∙ (ap keeper (sym s) ∙ e)))
      (λ (n : q ≢ p). r.held q u here live (sym (stays q n) ∙ e))
      (decide q p))
