-- A unit is added before a thread is taken out above another: parting. Read leaves_still (it leaves over another view that has the same of it) and alone (the thread is the top one).
use Rattle.std.proofs.Common.{◌≡◌, ◌≢◌, ℕ, suc, true, ◌+◌, List, [], ◌∷◌, ◌++◌, length, Option, Some, None, refl, sym, ap, ◌∙◌, subst, arith}
use Rattle.st_base.specs.declared.chain.Note.{Note}
use Rattle.st_base.specs.declared.chain.Waiting.{Waiting}
use Rattle.st_base.specs.declared.chain.Waiting.TheVariants as waits
use Rattle.st_base.specs.declared.image.Image.{Image}
use Rattle.st_base.specs.declared.limits.Limits.{Limits}
use Rattle.st_model.specs.declared.program.Program.{Program}
use Rattle.st_model.specs.Accepted.{IsAccepted}
use Rattle.st_model.specs.Memory.{Data}
use Rattle.st_words.proofs.Waiting.{up_safe}
use Rattle.st_words.specs.Steps.{ActiveAdd, Number, some_thread}
use Rattle.st_words.specs.Views.{view_after}
use Rattle.st_words.specs.declared.view.Known.{Known}
use Rattle.st_words.specs.declared.view.View.{View}
use Rattle.st_made.specs.Items.{WaitsAt}
use Rattle.st_step.specs.declared.state.State.{State}
use Rattle.st_stack.specs.Exported.{Exports}
use Rattle.st_chain.specs.declared.walk.Walk.{Walk}
use Rattle.st_chain.specs.Taking.{Suspends, Taking, notes_of, threads_of}
use Rattle.st_run.specs.Meanings.{meaning}
use Rattle.st_phases.specs.Automaton.{with_phase}
use Rattle.st_phases.specs.declared.automaton.Automaton.{Automaton}
use Rattle.st_phases.specs.declared.phase.Leaving.{Leaving}
use Rattle.st_phases.specs.declared.phase.Phase.{Phase}
use Rattle.st_phases.specs.declared.phase.Phase.TheVariants as phases
use Rattle.st_fits.specs.Bags.{HasBag}
use Rattle.st_fits.specs.Before.{after, before}
use Rattle.st_fits.specs.Fits.{FitsIn, leaving_units, most_items, taken_of}
use Rattle.st_fits.specs.Laws.{IsReady, PhaseLaw}
use Rattle.st_fits.specs.Threads.{Leaves}
use Rattle.st_kept.proofs.Keeping.{for_with_phase, holds_with_phase}
use Rattle.st_kept.proofs.Stepping.{no_item_asks}
use Rattle.st_leaves.proofs.Chained.{of_wait_still}
use Rattle.st_leaves.proofs.Left.{by_of, told_fits}

abbrev pub with_share : ℕ → View → View
with_share n u = record u { share = n }

share_view : (p : Program) (d : Data) (u : View) (n : ℕ) → after p d u (ActiveAdd true) (Number n) ≡ with_share (u.share + 1) u
unfolding after view_after
share_view p d u n = refl

-- ---- the thread that leaves

pub alone : (t : Taking) (wait : Waiting) (notes : List Note) (walk : Option Walk) (m : State) (s : Exports) (n : ℕ) → Suspends t wait notes walk m s n → (t.above ≡ []) × (notes ≡ notes_of (threads_of t))
alone t wait notes None m s n suspends = (suspends.top.alone, suspends.top.notes_are)
alone t wait notes (Some walk) m s n suspends = (suspends.top.alone, suspends.top.notes_are)

module _ (p : Program) (d : Data) where
  pub threads_are : (leaving : Leaving) (x : Automaton) (u : View) (h : Leaves p d leaving x u) → u.threads ≡ h.t.taken ∷ h.t.below
  threads_are leaving x u h =
      let t = h.t in
      sym h.of.threads ∙ ap (λ (us : List Known). us ++ t.taken ∷ t.below) (alone t leaving.wait x.threads.notes x.threads.open x.machine x.stack (suc h.n) h.suspends).0

  -- another lies below it, where the worker has more notes than one
  some_below : (leaving : Leaving) (x : Automaton) (u : View) (h : Leaves p d leaving x u) → length x.threads.notes ≢ 1 → h.t.below ≢ []
  some_below leaving x u h more none =
      let t = h.t in
      let parts = alone t leaving.wait x.threads.notes x.threads.open x.machine x.stack (suc h.n) h.suspends in
      more (ap length (parts.1 ∙ ap (λ (us : List Known). notes_of (us ++ t.taken ∷ t.below)) parts.0 ∙ ap (λ (us : List Known). notes_of (t.taken ∷ us)) none))

  two_units : (t : Known) (ts : List Known) → ts ≢ [] → 1 + some_thread ts ≡ 2
  two_units t [] some = absurd (some refl)
  two_units t (k ∷ ts) some = refl

  -- ---- over another share

  waits_still : (u : View) (n : ℕ) (t : Known) (wait : Waiting) → WaitsAt p d u t wait → WaitsAt p d (with_share n u) t wait
  waits_still u n t (waits.Touch cell) at = at
  waits_still u n t (waits.Join cell least) at = at
  waits_still u n t waits.Ready at = at
  waits_still u n t waits.Start at = at
  waits_still u n t waits.Trapped at = at

  pub leaves_still : (leaving : Leaving) (x y : Automaton) (u : View) (n : ℕ) → y ≡ record x { phase = y.phase } → Leaves p d leaving x u → Leaves p d leaving y (with_share n u)
  leaves_still leaving x y u n same h =
      subst (λ (z : Automaton). Leaves p d leaving z (with_share n u)) (sym same)
      (record {
        t = h.t;
        n = h.n;
        of = record {
          program = h.of.program;
          source = h.of.source;
          names = h.of.names;
          held = h.of.held;
          threads = h.of.threads;
          start = h.of.start;
          lo = h.of.lo;
          hi = h.of.hi;
          framed = h.of.framed;
          will = h.of.will;
          were = h.of.were;
          used = h.of.used;
          away = h.of.away;
          leases = h.of.leases;
        };
        suspends = h.suspends;
        wait = h.wait;
        waits = waits_still u n h.t.taken leaving.wait h.waits;
        kind = h.kind;
        can = h.can;
        begun = h.begun;
        place = h.place;
        below = h.below;
        plain = h.plain;
      })

-- ---- the phase

module _ (p : Program) (d : Data) (limits : Limits) (image : Image) (input : List ℕ) (accepted : IsAccepted p) where
  parting_fits : (leaving : Leaving) (x : Automaton) (u : View) → IsReady p d limits image input x u → x.phase ≡ phases.Parting leaving → FitsIn p d limits image input (with_phase (phases.Suspending leaving) x) (with_share (u.share + 1) u)
  parting_fits leaving x u ready is =
      let b = by_of p d limits image input accepted x u (phases.Parting leaving) is ready in
      let v : View = with_share (u.share + 1) u in
      let h = b.0 in
      let two = two_units p d h.t.taken h.t.below (some_below p d leaving x u h b.3) in
      let bag = b.2 in
      record {
        is_for = for_with_phase p d limits image input x (phases.Suspending leaving) ready.fits.is_for;
        holds =
            holds_with_phase limits x u v (phases.Suspending leaving) ready.fits.holds (record { number = refl; workers = refl; cells = refl; each = refl; words = refl; items = refl; frame_bytes = refl }) refl refl refl refl (sym (ap (λ (φ : Phase). taken_of φ) is)) (λ n. sym (ap (λ (φ : Phase). most_items φ n) is)) (λ never. absurd (let no : ⊥ = cc in no));
        by = (
          leaves_still p d leaving x (with_phase (phases.Suspending leaving) x) u (u.share + 1) refl h,
          of_wait_still p d limits leaving u v (record { names = refl; owners = refl; threads = refl; cells = refl }) leaving.wait b.1,
          subst (λ (ts : List Known). HasBag (leaving_units p d limits ts) v) (sym (threads_are p d leaving x u h)) (record {
            chains = bag.chains;
            hand = bag.hand;
            share = ap (λ (k : ℕ). k + 1) bag.share ∙ sym two;
            drawn = bag.drawn;
            child = bag.child;
            answering = bag.answering;
            given = bag.given;
            root = bag.root;
          }),
        );
      }

  pub parting : (leaving : Leaving) → PhaseLaw p d limits image input (phases.Parting leaving)
  parting leaving = record {
    may = λ x u is ready.
        let share : u.share ≡ 1 = (by_of p d limits image input accepted x u (phases.Parting leaving) is ready).2.share in
        no_item_asks p d limits u (ActiveAdd true) tt (up_safe (meaning p d limits) u (omega (arith, share)) (omega (arith, share)));
    keeps = λ x y old v turn is ready made does.
        let u = before p d x old in
        told_fits p d limits image input accepted y (with_phase (phases.Suspending leaving) x) v (with_share (u.share + 1) u) does.2.0 (does.1.is ∙ share_view p d u does.0) (parting_fits leaving x u ready is);
  }
