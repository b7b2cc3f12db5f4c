-- The view to which a worker brings its board's view forward while it takes its top thread out, by the frames that it has exported. Read core (all but these), before_core, core_of (it is the view that the
-- worker fits, with the exported frames of its board's) and forward_made (it may be reached with more frames exported).
use Rattle.std.proofs.Common.{◌≡◌, ◌≢◌, ◌⊎◌, inl, inr, ⊎_elim, ℕ, zero, suc, ◌+◌, ◌-◌, Bool, true, false, not, ◌&&◌, if◌then◌else◌, List, [], ◌∷◌, Option, Some, None, refl, sym, ap, ◌∙◌, subst}
use Rattle.std.specs.List.{Contains}
use Rattle.st_base.specs.declared.chain.Frame.{Frame}
use Rattle.st_model.specs.declared.program.Program.{Program}
use Rattle.st_model.specs.Heap.{Change}
use Rattle.st_model.specs.Memory.{Data}
use Rattle.st_words.specs.declared.view.Carried.{Carried}
use Rattle.st_words.specs.declared.view.Known.{Known}
use Rattle.st_words.specs.declared.view.View.{View}
use Rattle.st_made.specs.Items.{next_move}
use Rattle.st_made.specs.Moves.{Made}
use Rattle.st_ahead.proofs.Named.{all_named}
use Rattle.st_ahead.specs.Ahead.{brought, is_going, is_private, item_by, item_of, or_else, own_item, seen_change}
use Rattle.st_ahead.specs.Naming.{exported, finished as finished_item, finished_by, on, opened, opened_by, resumed, resumed_by}
use Rattle.st_phases.specs.declared.automaton.Automaton.{Automaton}
use Rattle.st_phases.specs.declared.phase.Leaving.{Leaving}
use Rattle.st_phases.specs.declared.phase.Phase.{Phase}
use Rattle.st_phases.specs.declared.phase.Phase.TheVariants as phases
use Rattle.st_fits.specs.Before.{before, come, has_come, is_trap, one_more, with_items}
use Rattle.st_made.proofs.Making.{made_follows}
use Rattle.st_stack.specs.Exported.{Apart}
use Rattle.st_leaves.proofs.Taken.{all_may}
use Rattle.st_leaves.proofs.Unexported.{CanExport, can_still, made_exports, made_unexported, with_exports}

-- ---- what comes of items and chains exports nothing

abbrev Keeps : View → View → Type 0
Keeps v u = u.exported ≡ v.exported

abbrev KeepsSome : View → Option View → Type 0
KeepsSome v None = Prim.Unit
KeepsSome v (Some u) = Keeps v u

module _ (p : Program) (d : Data) where
  or_keeps : (o : Option View) (v w : View) (go : View → View) → KeepsSome v o → Keeps v w → ((u : View) → Keeps v u → Keeps v (go u)) → Keeps v (or_else p d o w go)
  or_keeps None v w go some default goes = default
  or_keeps (Some u) v w go some default goes = goes u some

  if_keeps : (b : Bool) (v u w : View) → Keeps v u → Keeps v w → Keeps v (if b then u else w)
  if_keeps true v u w one other = one
  if_keeps false v u w one other = other

  if_some : (b : Bool) (v : View) (o q : Option View) → KeepsSome v o → KeepsSome v q → KeepsSome v (if b then o else q)
  if_some true v o q one other = one
  if_some false v o q one other = other

  item_keeps : (v : View) (top : Known) (rest : List Known) (o : Option Change) → KeepsSome v (item_by p d v top rest o)
  item_keeps v top rest None = tt
  item_keeps v top rest (Some c) = if_some (is_private top.thread c) v (Some _) None refl tt

  own_keeps : (v : View) (ts : List Known) → KeepsSome v (item_of p d v ts)
  own_keeps v [] = tt
  own_keeps v (top ∷ rest) = if_some (is_going top.thread.standing && not top.begun) v (item_by p d v top rest (seen_change v (next_move p d top))) None (item_keeps v top rest (seen_change v (next_move p d top))) tt

  brought_keeps : (n : ℕ) (v : View) → Keeps v (brought p d n v)
  brought_keeps zero v = refl
  brought_keeps (suc n) v = or_keeps (own_item p d v) v v (λ u. brought p d n u) (own_keeps v v.threads) refl (λ u same. brought_keeps n u ∙ same)

  made_keeps : (v : View) (top : Known) (rest : List Known) (o : Option Change) → KeepsSome v (finished_by p d v top rest o)
  made_keeps v top rest None = tt
  made_keeps v top rest (Some c) = if_some (is_private top.thread c) v (Some _) None refl tt

  finished_keeps : (v : View) (ts : List Known) → KeepsSome v (finished_item p d v ts)
  finished_keeps v [] = tt
  finished_keeps v (top ∷ rest) = if_some top.begun v (finished_by p d v top rest (seen_change v (next_move p d top))) None (made_keeps v top rest (seen_change v (next_move p d top))) tt

  on_keeps : (v : View) → Keeps v (on p d v)
  on_keeps v = or_keeps (finished_item p d v v.threads) v v (λ u. u) (finished_keeps v v.threads) refl (λ u same. same)

  opened_keeps : (v : View) (ts : List Known) → Keeps v (opened_by v ts)
  opened_keeps v [] = refl
  opened_keeps v (top ∷ rest) = if_keeps (is_going top.thread.standing && not top.begun) v (record v { threads = record top { begun = true } ∷ rest; items = v.items + 1 }) v refl refl

  one_keeps : (v : View) → Keeps v (one_more p d v)
  one_keeps v = or_keeps (own_item p d v) v (opened v) (λ u. u) (own_keeps v v.threads) (opened_keeps v v.threads) (λ u same. same)

  items_keep : (b : Bool) (n : ℕ) (v : View) → Keeps v (with_items p d b n v)
  items_keep true zero v = refl
  items_keep true (suc n) v = opened_keeps (brought p d n (on p d v)) (brought p d n (on p d v)).threads ∙ brought_keeps n (on p d v) ∙ on_keeps v
  items_keep false zero v = on_keeps v
  items_keep false (suc n) v = one_keeps (brought p d n (on p d v)) ∙ brought_keeps n (on p d v) ∙ on_keeps v

  resumed_keeps : (v : View) (ts : List Known) (xs : List Carried) → Keeps v (resumed_by v ts xs)
  resumed_keeps v [] [] = refl
  resumed_keeps v [] (x ∷ []) = refl
  resumed_keeps v [] (x ∷ y ∷ zs) = refl
  resumed_keeps v (t ∷ ts) xs = refl

  -- ---- a worker that takes its top thread out

  module _ (leaving : Leaving) where
    -- all that it has done by itself but the exported frames, after so many items
    abbrev pub core : ℕ → View → View
    core items v = with_items p d (not (is_trap leaving.wait)) (items - (come (phases.Suspending leaving) v).items) (come (phases.Suspending leaving) v)

    core_keeps : (items : ℕ) (v : View) → Keeps v (core items v)
    core_keeps items v =
        let came = come (phases.Suspending leaving) v in
        items_keep (not (is_trap leaving.wait)) (items - came.items) came ∙ if_keeps (has_come v.chains) v (resumed v) v (resumed_keeps v v.threads v.chains) refl

    suspending_is : (y : Automaton) (v : View) → before p d (record y { phase = phases.Suspending leaving }) v ≡ exported y.stack.exported (core y.items v)
    unfolding before
    suspending_is y v = refl

    pub before_core : (y : Automaton) (v : View) → y.phase ≡ phases.Suspending leaving → before p d y v ≡ exported y.stack.exported (core y.items v)
    before_core y v is = subst (λ (φ : Phase). before p d (record y { phase = φ }) v ≡ exported y.stack.exported (core y.items v)) (sym is) (suspending_is y v)

    -- the view that it fits, with what its board's view has exported
    pub core_of : (x : Automaton) (old : View) → x.phase ≡ phases.Suspending leaving → with_exports old.exported (before p d x old) ≡ core x.items old
    core_of x old is =
        let c = core x.items old in
        let e = before_core x old is ∙ (all_named p d).same c x.stack.exported in
        ap (with_exports old.exported) e ∙ ap (λ (fs : List Frame). with_exports fs c) (sym (core_keeps x.items old))

    -- ---- with more frames exported

    -- the frames may be exported beside those that the view u has
    pub record MayCome (u : View) (frames : List Frame) : Type 0 where
      pub each : (f : Frame) → Contains frames f → Contains u.exported f ⊎ CanExport u f
      pub apart : (f g : Frame) → Contains frames f → Contains u.exported g ⊎ Contains frames g → f ≢ g → Apart f g

    -- what the view comes to, which has what u has but for them
    pub record IsForward (old u : View) (frames : List Frame) (w : View) : Type 0 where
      pub same : w ≡ with_exports w.exported u
      pub only : (f : Frame) → Contains w.exported f → Contains u.exported f ⊎ Contains frames f
      pub has : (f : Frame) → Contains frames f → Contains w.exported f
      pub made : Made p d old w

    module _ (x : Automaton) (old u : View) (is : before p d x old ≡ u) (phase : x.phase ≡ phases.Suspending leaving) (made : Made p d old u) where
      -- what its board's view has exported is so in u
      were : (f : Frame) → Contains old.exported f → Contains u.exported f
      were f there =
          let c = core x.items old in
          subst (λ (v : View). Contains v.exported f) (sym (before_core x old phase) ∙ is) ((all_named p d).exports c x.stack.exported f (inl (subst (λ (fs : List Frame). Contains fs f) (sym (core_keeps x.items old)) there)))

      -- u with what its board's view has exported, and these
      abbrev pub forward : List Frame → View
      forward frames = exported frames (with_exports old.exported u)

      pub forward_made : (frames : List Frame) → MayCome u frames → IsForward old u frames (forward frames)
      forward_made frames may =
          let v = with_exports old.exported u in
          record {
            same = (all_named p d).same v frames;
            only = λ f there. ⊎_elim (λ was. inl (were f was)) (λ come. inr come) ((all_named p d).only v frames f there);
            has = λ f there. (all_named p d).exports v frames f (inr there);
            made =
                made_follows p d old v (exported frames v) (made_unexported p d old.exported old u made)
                ((all_named p d).exported_made v frames
                (all_may frames v (λ f there. ⊎_elim (λ was. ⊎_elim (λ before. inl before) (λ can. inr (still f can)) (made_exports p d old u made f was)) (λ can. inr (still f can)) (may.each f there))
                (λ f g there others other. may.apart f g there (⊎_elim (λ was. inl (were g was)) (λ come. inr come) others) other)));
          }
        where
          still : (f : Frame) → CanExport u f → CanExport (with_exports old.exported u) f
          still f can = can_still u (with_exports old.exported u) f (record { number = refl; each = refl; held = refl; away = refl }) can

      -- so a worker that goes on with it is brought forward
      pub before_forward : (y : Automaton) → y.phase ≡ phases.Suspending leaving → y.items ≡ x.items → before p d y old ≡ forward y.stack.exported
      before_forward y same items =
          before_core y old same ∙ ap (λ (n : ℕ). exported y.stack.exported (core n old)) items
          ∙ ap (exported y.stack.exported) (sym (core_of x old phase) ∙ ap (with_exports old.exported) is)
