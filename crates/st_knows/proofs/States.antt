-- A State word is changed, as the worker takes the cell: change_kept.
use Rattle.std.proofs.Common.{◌≡◌, ◌≢◌, ◌⊎◌, inl, inr, ⊎_elim, ℕ, ◌≤◌, Bool, true, false, ◌∷◌, refl, sym, ap, ◌∙◌, subst, arith, ◌==◌}
use Rattle.st_words.specs.declared.view.View.{View}
use Rattle.st_words.specs.Encodings.{is_counter, full_word, count_in, head_in}
use Rattle.st_words.specs.Steps.{CellChange, Number, IsFuture, IsCounter, MayChange}
use Rattle.st_words.specs.Views.{Progress, with_progress, view_after, counts_cell, owner_seen, cell_changed, changed_by, changed_future, changed_counter}
use Rattle.st_words.proofs.Lists.{same_true}
use Rattle.st_world.specs.Functions.{put}
use Rattle.st_world.specs.World.{World, cargo_of, seen, put_if, world_after}
use Rattle.st_world.proofs.Functions.{put_here, put_all}
use Rattle.st_knows.specs.Knowing.{IsOfKind, KnowsWords, Knows}
use Rattle.st_knows.specs.Laws.{IsKnown}
use Rattle.st_knows.proofs.ViewsAfter.{SameParts, itself}
use Rattle.st_knows.proofs.Words as words
use Rattle.st_knows.proofs.Changes.{Onward, seen_after, still, same_view}

-- a future that isn't full, or a counter
sort_changed : (u : View) (c old new : ℕ) → MayChange u c old new → (IsFuture u c × (old ≢ full_word)) ⊎ IsCounter u c
sort_changed u c old new (inl p) = inl (p.0, p.1)
sort_changed u c old new (inr (inl p)) = inl (p.0, p.1)
sort_changed u c old new (inr (inr (inl p))) = inr p.0
sort_changed u c old new (inr (inr (inr p))) = inr p.0

not_both : (b : Bool) → b ≡ true → b ≡ false → ⊥
not_both b t f = let no : ⊥ = cc in no

module _ (x : World) (K : Knows x) (w : ℕ) (pr : Progress) where
  abbrev u : View
  u = x.view w

  -- as the worker knows the cell, and what it compares with is there
  module _ (c old new : ℕ) (old_is : x.state c ≡ old) (may : MayChange u c old new) (known : IsKnown x u (CellChange c old new)) where
    abbrev state' : ℕ → ℕ
    state' = put x.state c new

    still_full : IsOfKind false (x.owner c) → x.state c ≡ full_word → new ≡ full_word
    still_full k e = ⊎_elim (λ f. absurd (f.1 (sym old_is ∙ e))) (λ m. absurd (not_both (is_counter (x.owner c)) (known.1.1 m) k.kind)) (sort_changed u c old new may)

    still_counts : IsOfKind true (x.owner c) → count_in (x.state c) ≤ count_in new
    still_counts k = ⊎_elim (λ f. absurd (not_both (is_counter (x.owner c)) k.kind (known.1.0 f.0))) (λ m. subst (λ (o : ℕ). count_in o ≤ count_in new) (sym old_is) (known.2 m)) (sort_changed u c old new may)

    state_onward : Onward x.owner x.state x.value x.stop x.owner state' x.value x.stop
    state_onward = record {
      owners = λ d k. refl;
      full = λ d. put_all (λ (d : ℕ) (n : ℕ). IsOfKind false (x.owner d) → x.state d ≡ full_word → (n ≡ full_word) × (x.value d ≡ x.value d)) x.state c new d
          (λ (s : d ≡ c) k e. (still_full (subst (λ (d : ℕ). IsOfKind false (x.owner d)) s k) (ap x.state (sym s) ∙ e), refl)) (λ (o : d ≢ c) k e. (e, refl));
      counts = λ d. put_all (λ (d : ℕ) (n : ℕ). IsOfKind true (x.owner d) → count_in (x.state d) ≤ count_in n) x.state c new d
          (λ (s : d ≡ c) k. subst (λ (d : ℕ). count_in (x.state d) ≤ count_in new) (sym s) (still_counts (subst (λ (d : ℕ). IsOfKind true (x.owner d)) s k))) (λ (o : d ≢ c) k. omega arith);
      stops = λ z. refl;
    }

    abbrev After : View → Type 0
    After v = KnowsWords x.owner state' x.value x.stop v

    after_same : (v v' : View) → SameParts v v' → After v → After v'
    after_same v v' p k = words.know_same x.owner state' x.value x.stop v v' p k

    future_changed : (b : Bool) → (new == full_word) ≡ b → is_counter (x.owner c) ≡ false → After u → After (changed_future c old new b u)
    future_changed true e kind k =
        let is : IsOfKind false (x.owner c) = record { named = known.0; kind = kind } in
        let so : state' c ≡ full_word = put_here x.state c new ∙ same_true new full_word e in
        let one : View = record u { full = c ∷ u.full } in
        let v : View = changed_future c old new true u in
        after_same (record one { filled = c ∷ u.filled }) v (itself v) (words.know_filled x.owner state' x.value x.stop one (words.know_full x.owner state' x.value x.stop u k c is so) c is so)
    future_changed false e kind k = after_same u (changed_future c old new false u) (itself u) k

    counter_changed : (b : Bool) → is_counter (x.owner c) ≡ true → After u → After (changed_counter c old new b u)
    counter_changed true kind k =
        let so : count_in (state' c) ≡ count_in new = ap count_in (put_here x.state c new) in
        let v : View = changed_counter c old new true u in
        after_same (record u { counts = (c, count_in new) ∷ u.counts }) v (itself v) (words.know_count x.owner state' x.value x.stop u k c (count_in new) (record { named = known.0; kind = kind }) (omega (arith, so)))
    counter_changed false kind k = after_same u (changed_counter c old new false u) (itself u) k

    kind_changed : (b : Bool) → is_counter (x.owner c) ≡ b → After u → After (changed_by b c old new u)
    kind_changed true kind k = counter_changed (head_in new == 0) kind k
    kind_changed false kind k = future_changed (new == full_word) refl kind k

    changed_so : Knows (seen w (with_progress pr (changed_by (counts_cell (owner_seen c u.owners)) c old new u)) (record x { state = state' }))
    changed_so =
        let v : View = changed_by (counts_cell (owner_seen c u.owners)) c old new u in
        seen_after x.owner x.state x.value x.stop x.owner state' x.value x.stop state_onward (cargo_of x) (cargo_of x) x.view K K.slots w (with_progress pr v)
        (λ k. after_same v (with_progress pr v) (itself v) (kind_changed (counts_cell (owner_seen c u.owners)) (sym known.1.2) k))

  change_by : (c old new n : ℕ) (b : Bool) → (n == old) ≡ b → n ≡ x.state c → MayChange u c old new → IsKnown x u (CellChange c old new) → Knows (seen w (with_progress pr (cell_changed b c old new n u)) (record x { state = put_if b x.state c new }))
  change_by c old new n true e f may known = changed_so c old new (sym f ∙ same_true n old e) may known
  change_by c old new n false e f may known =
      let v : View = cell_changed false c old new n u in
      still x w (with_progress pr v) K (λ k. same_view x v (with_progress pr v) (itself v) (words.know_state x.owner x.state x.value x.stop u k c n (sym f)))

  pub change_kept : (c old new n : ℕ) → n ≡ x.state c → MayChange u c old new → IsKnown x u (CellChange c old new) → Knows (world_after x w (CellChange c old new) (Number n) (with_progress pr (view_after u (CellChange c old new) (Number n))))
  unfolding view_after
  change_kept c old new n f may known = change_by c old new n (n == old) refl f may known
