-- A thread has one holder: keeper_is, one_view, not_slot, and same_top among the threads of a worker.
use Rattle.std.proofs.Common.{◌≡◌, ◌⊎◌, ⊎_elim, ℕ, List, ◌∷◌, ◌++◌, Option, Some, sym, ap, ◌∙◌, subst, arith}
use Rattle.std.specs.List.{Contains}
use Rattle.st_base.specs.declared.chain.Chain.{Chain}
use Rattle.st_words.specs.declared.view.Slot.{Slot}
use Rattle.st_words.specs.declared.view.Known.{Known}
use Rattle.st_words.specs.declared.view.Cargo.{Cargo}
use Rattle.st_words.specs.declared.view.View.{View}
use Rattle.st_words.proofs.Lists.{contains_here, contains_case}
use Rattle.st_model.specs.Heap.{Heap, steps_of}
use Rattle.st_made.specs.Runs.{all_known, known_of, paths_of}
use Rattle.st_made.proofs.Lists.{times_here, known_here}
use Rattle.st_world.specs.Holders.{InView}
use Rattle.st_threads.specs.Holding.{IsOf, SlotHas, HasThreadOf, Holding}
use Rattle.st_threads.proofs.Keepers.{times_most, kept_by}
use Rattle.st_threads.proofs.Holdings.{slot_not_view}

same_view : (v w : ℕ) → InView v ≡ InView w → v ≡ w
same_view v w e = cc

module _ (h : Heap) (slot : Slot → Option Chain) (cargo : Slot → Cargo) (view : ℕ → View) (T : Holding h slot cargo view) where
  pub keeper_is : (w : ℕ) (t : Known) → Contains (all_known (view w)) t → T.keeper t.path ≡ InView w
  keeper_is w t m = kept_by h T.keeper w (all_known (view w)) t (T.views w) m

  pub one_view : (v w : ℕ) (t s : Known) → Contains (all_known (view v)) t → Contains (all_known (view w)) s → t.path ≡ s.path → v ≡ w
  one_view v w t s m n e = same_view v w (sym (keeper_is v t m) ∙ (ap T.keeper e ∙ keeper_is w s n))

  pub not_slot : (w : ℕ) (z : Slot) (b : Chain) (t : Known) → Contains (all_known (view w)) t → slot z ≡ Some b → t.path ≡ (cargo z).carried.known.path → ⊥
  not_slot w z b t m e same =
      let has : HasThreadOf h T.keeper z (cargo z).carried.known = subst (λ (o : Option Chain). SlotHas h T.keeper z o (cargo z)) e (T.slots z) in
      slot_not_view z w (sym has.holds ∙ (ap T.keeper (sym same) ∙ keeper_is w t m))

  -- the first thread of a worker
  module _ (w : ℕ) (top : Known) (below : List Known) (is : (view w).threads ≡ top ∷ below) where
    pub top_in : Contains (all_known (view w)) top
    top_in = subst (λ (ts : List Known). Contains (ts ++ known_of (view w).chains) top) (sym is) (contains_here top (below ++ known_of (view w).chains))

    pub top_is : IsOf h top
    top_is = (T.views w).each top top_in

    -- another thread of the worker is below it or in its turn
    pub top_or : (t : Known) → Contains (all_known (view w)) t → (top ≡ t) ⊎ Contains (below ++ known_of (view w).chains) t
    top_or t m = contains_case t top (below ++ known_of (view w).chains) (subst (λ (ts : List Known). Contains (ts ++ known_of (view w).chains) t) is m)

    pub same_top : (t : Known) → Contains (all_known (view w)) t → t.path ≡ top.path → top ≡ t
    same_top t m e = ⊎_elim
        (λ (same : top ≡ t). same)
        (λ (n : Contains (below ++ known_of (view w).chains) t).
        let more = below ++ known_of (view w).chains in
        let a = known_here more t n in
        let b = times_here t.path top.path (paths_of more) e in
        let all : all_known (view w) ≡ top ∷ more = ap (λ (ts : List Known). ts ++ known_of (view w).chains) is in
        let c : steps_of t.path (paths_of (all_known (view w))) ≡ steps_of t.path (paths_of (top ∷ more)) = ap (λ (ts : List Known). steps_of t.path (paths_of ts)) all in
        let d = (T.views w).once t.path in
        let f = times_most (T.keeper t.path) w in
        let no : ⊥ = omega (arith, a, b, c, d, f) in
        absurd no)
        (top_or t m)
