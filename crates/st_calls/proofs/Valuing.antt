-- The value of a full future is read, and comes into a0: valuing.
use Rattle.st_ahead.proofs.Named.{on_made}
use Rattle.st_ahead.specs.Ahead.{seen_change}
use Rattle.st_ahead.specs.Naming.{on}
use Rattle.st_base.specs.declared.chain.Frame.{Frame}
use Rattle.st_base.specs.declared.chain.Note.{Note}
use Rattle.st_base.specs.declared.image.Image.{Image}
use Rattle.st_base.specs.declared.limits.Limits.{Limits}
use Rattle.st_base.specs.declared.reg.Reg.TheVariants as registers
use Rattle.st_base.specs.declared.thread.Held.TheVariants.{Counter, Future}
use Rattle.st_base.specs.declared.thread.Held.{Held}
use Rattle.st_base.specs.declared.thread.Thread.{Thread}
use Rattle.st_calls.proofs.Back.{IsBack, back_polls, back_place, back_in, at_back_with, ends_with}
use Rattle.st_calls.proofs.Called as calling
use Rattle.st_calls.proofs.Making.{note_same, touch_seen, alone}
use Rattle.st_calls.proofs.Phase.{by_in, calm_in, asks_load}
use Rattle.st_calls.proofs.Turning.{StepLeaves, fits_forward, fits_to, goes_to, polls_forward, on_is}
use Rattle.st_calls.proofs.Views.{SameHand, bag_same, load_same, value_loaded}
use Rattle.st_chain.specs.Taking.{notes_of}
use Rattle.st_chain.specs.Walk.{is_held, word_in}
use Rattle.st_fits.specs.Bags.{HasBag, units}
use Rattle.st_fits.specs.Before.{before, after}
use Rattle.st_fits.specs.Fits.{AtCell, AtEntry, Fits, FitsIn, SeesFuture}
use Rattle.st_fits.specs.Laws.{IsReady, KeepsLaw, MayLaw, PhaseLaw}
use Rattle.st_fits.specs.Threads.{IsCalled, ends_of, now}
use Rattle.st_kept.proofs.Stepping.{no_item_threads, numbers, untouched}
use Rattle.st_kept.specs.Keeping.{Untouched}
use Rattle.st_made.specs.Items.{next_move, went}
use Rattle.st_made.specs.Moves.{Made}
use Rattle.st_model.specs.Heap.{Change, Move, Path, own}
use Rattle.st_model.specs.Memory.{Data}
use Rattle.st_model.specs.declared.program.Program.{Program}
use Rattle.st_phases.specs.Automaton.{back}
use Rattle.st_phases.specs.Entries.{got}
use Rattle.st_phases.specs.declared.automaton.Automaton.{Automaton}
use Rattle.st_phases.specs.declared.phase.Phase.TheVariants as phases
use Rattle.st_serving.specs.Serving as serves
use Rattle.st_standing.specs.Standing.{StandsOn}
use Rattle.st_step.specs.Moves.{at_place, register, written}
use Rattle.st_step.specs.declared.state.State.{State}
use Rattle.st_words.specs.Steps.{CellLoad, IsCounter, IsFuture, Number}
use Rattle.st_words.specs.Tidy.{Tidy}
use Rattle.st_words.specs.declared.view.CellWord.TheVariants as words
use Rattle.st_words.specs.declared.view.View.{View}
use Rattle.std.proofs.Common.{◌≡◌, inl, inr, ℕ, List, [], ◌∷◌, Some, refl, sym, ap, ◌∙◌, subst, arith, ◌⊎◌, ◌^◌, ◌<◌, ◌++◌}
use Rattle.std.specs.List.{Contains}

-- a future that is full is named in a6
pub not_counter : (u : View) (q : Path) (i cell : ℕ) → Tidy u → Contains u.names (Counter q i, cell) → IsFuture u cell → Contains u.full cell → ⊥
not_counter u q i cell tidy name (inl (owner, seen, kind)) full =
    let kinds = tidy.names.kinds (Counter q i) cell owner name seen in
    let never : ⊥ = cc in
    never
not_counter u q i cell tidy name (inr thread) full = tidy.numbers.unfinished cell thread full

module _ (p : Program) (d : Data) (limits : Limits) (image : Image) (input : List ℕ) (cell : ℕ) where
  module _ (x : Automaton) (u : View) (phase : x.phase ≡ phases.Valuing cell) (ready : IsReady p d limits image input x u) (called : IsCalled p d 0x40 x u) (bag : HasBag (units 1) u) (handle : cell ≡ register x.machine registers.A6) (full : Contains u.full cell) (found : ℕ) (less : found < 2 ^ 64) where
    abbrev v : View
    v = after p d u (CellLoad cell words.Value) (Number found)

    abbrev m : State
    m = at_place (back (written x.machine registers.A0 found)) (written x.machine registers.A0 found)

    same : SameHand u v
    same = load_same p d u cell words.Value found tt

    abbrev Touches : Type 0
    Touches = serves.TouchesFuture p d u.names (is_held u.held) (ends_of x.machine) (now x u) called.top called.frames called.below called.lower

    module _ (touches : Touches) where
      abbrev next : Thread
      next = touches.next found

      abbrev w : View
      w = record v { threads = went called.top next ∷ called.below }

      off : Untouched u v
      off = untouched p d u (CellLoad cell words.Value) (Number found) tt

      off_item : Untouched u w
      off_item = let t = off in record { number = t.number; workers = t.workers; cells = t.cells; each = t.each; held = t.held; exported = t.exported; away = t.away; items = t.items; frame_bytes = t.frame_bytes; names = t.names }

      place : m ≡ serves.back_with registers.A0 found x.machine
      place = ap (λ (pc : ℕ). at_place pc (written x.machine registers.A0 found)) (back_in x.machine registers.A0 found (λ e. absurd (omega (arith, e))) ∙ back_place p d limits image input x u ready 0x40 called)

      stands : StandsOn p w.names (is_held u.held) (ends_of x.machine) (record { state = m; word = word_in u.held }) (went called.top next) called.frames called.below called.lower
      stands =
          subst (λ (names : List (Held × ℕ)). StandsOn p names (is_held u.held) (ends_of x.machine) (record { state = m; word = word_in u.held }) (went called.top next) called.frames called.below called.lower) (sym same.names)
          (subst (λ (n : State). StandsOn p u.names (is_held u.held) (ends_of x.machine) (record { state = n; word = word_in u.held }) (went called.top next) called.frames called.below called.lower) (sym place) (touches.goes found less))

      is_back : IsBack p d limits image input x u ready 0x40 called m (goes_to m x.threads.notes phases.Polling x) w next
      is_back = record {
        machine = refl;
        stack = refl;
        ends = ends_with x.machine registers.A0 found (back (written x.machine registers.A0 found)) (λ e. absurd (omega (arith, e))) (λ e. absurd (omega (arith, e)));
        untouched = off_item;
        threads = refl;
        going = (touches.counts found).going;
        acts = calling.touches_acts p d limits image input x u ready 0x40 called refl touches found;
        stands = stands;
      }

      notes_are : x.threads.notes ≡ notes_of w.threads
      notes_are =
          ready.fits.holds.notes ∙ ap notes_of called.is
          ∙ ap (λ (n : Note). notes_of called.below ++ n ∷ []) (sym (note_same called.top next u.cells (ready.behind.notes called.top (calling.top_in p d limits image input x u ready 0x40 called)) (touches.counts found)))

      leaves : StepLeaves u w
      leaves = record { untouched = off_item; words = (numbers p d u (CellLoad cell words.Value) (Number found)).words; ready = same.ready; asked = same.asked }

      in_hand : HasBag (units 1) w
      in_hand = let b = bag_same (units 1) u v same bag in record { chains = b.chains; hand = b.hand; share = b.share; drawn = b.drawn; child = b.child; answering = b.answering; given = b.given; root = b.root }

      fits : FitsIn p d limits image input (goes_to m x.threads.notes phases.Polling x) w
      fits =
          fits_to p d limits image input x m x.threads.notes phases.Polling u w (at_back_with x.machine registers.A0 found (back (written x.machine registers.A0 found)) less ready.fits.holds.registers ready.fits.holds.values)
          (calm_in p d limits image input x u ready (phases.Valuing cell) phase (record { none = refl; most = λ n. refl; taking = refl })) (record { none = refl; most = λ n. refl; taking = refl }) notes_are leaves ready.fits
          (back_polls p d limits image input x u ready 0x40 called m (goes_to m x.threads.notes phases.Polling x) w next is_back, in_hand)

      sees : seen_change v (next_move p d called.top) ≡ Some (own next)
      sees =
          ap (λ (move : Move). seen_change v move) touches.moves
          ∙ touch_seen v touches.q touches.f cell found u.values (λ name c k one two. ready.tidy.names.one_cell name c k (subst (λ (names : List (Held × ℕ)). Contains names (name, c)) same.names one) (subst (λ (names : List (Held × ℕ)). Contains names (name, k)) same.names two))
          (subst (λ (names : List (Held × ℕ)). Contains names (Future touches.q, cell)) (sym same.names) (subst (λ (c : ℕ). Contains u.names (Future touches.q, c)) (sym handle) touches.named.name)) (value_loaded p d u cell found full)
          ∙ ap (λ (c : Change). Some c) (touches.changes found)

      forward : before p d (goes_to m x.threads.notes phases.Polling x) v ≡ w
      forward =
          polls_forward p d (goes_to m x.threads.notes phases.Polling x) v w refl (same.child ∙ bag.child) (ready.fits.holds.items ∙ sym off.items)
          (λ f in'. subst (λ (fs : List Frame). Contains fs f) (sym off.exported) (ready.fits.holds.exported f in'))
          (on_is p d v called.top called.below (own next) (no_item_threads p d u (CellLoad cell words.Value) (Number found) tt ∙ called.is) called.at.0.begun sees (alone called.top.thread next (touches.counts found))
          (calling.no_frame p d limits image input x u ready 0x40 called 0x40 refl (λ e. omega arith)))

      all_fits : Fits p d limits image input (goes_to m x.threads.notes phases.Polling x) v
      all_fits = fits_forward p d limits image input (goes_to m x.threads.notes phases.Polling x) v w forward (subst (λ (z : View). Made p d v z) on_w (on_made p d v)) fits
        where
          on_w : on p d v ≡ w
          on_w =
              on_is p d v called.top called.below (own next) (no_item_threads p d u (CellLoad cell words.Value) (Number found) tt ∙ called.is) called.at.0.begun sees (alone called.top.thread next (touches.counts found))
              (calling.no_frame p d limits image input x u ready 0x40 called 0x40 refl (λ e. omega arith))

    by_service : Touches ⊎ serves.WrongCounter p d u.names (is_held u.held) (ends_of x.machine) (now x u) called.top called.frames called.below called.lower called.at.1.item.line → IsFuture u cell → Fits p d limits image input (goes_to m x.threads.notes phases.Polling x) v
    by_service (inl touches) future = all_fits touches
    by_service (inr (q, i, has, traps)) future = absurd (not_counter u q i cell ready.tidy (subst (λ (c : ℕ). Contains u.names (Counter q i, c)) (sym handle) has.name) future full)

  may : MayLaw p d limits image input (phases.Valuing cell)
  may x u phase ready = let (at, full, pc) = by_in p d limits image input x u ready (phases.Valuing cell) phase in asks_load p d limits image input x u ready cell words.Value at.below

  keeps : KeepsLaw p d limits image input (phases.Valuing cell)
  keeps x y old v' turn phase ready made (found, less, told, (is, ran)) =
      let u = before p d x old in
      let (at, full, pc) = by_in p d limits image input x u ready (phases.Valuing cell) phase in
      subst (λ (k : Automaton). Fits p d limits image input k v') (sym is) (subst (λ (k : View). Fits p d limits image input (got found x) k) (sym told.is) (by_kind at full pc at.kind))
    where
      by_kind : (at : AtCell p d limits cell x (before p d x old)) → Contains (before p d x old).full cell → x.machine.pc ≡ 0x40
          → ((AtEntry p d limits 0x40 x (before p d x old) (units 1)) × SeesFuture (before p d x old) cell) ⊎ ((AtEntry p d limits 0x60 x (before p d x old) (units 1) ⊎ AtEntry p d limits 0x70 x (before p d x old) (units 1)) × IsCounter (before p d x old) cell)
          → Fits p d limits image input (got found x) (after p d (before p d x old) (CellLoad cell words.Value) (Number found))
      by_kind at full pc (inl ((here, called, bag), future)) =
          by_service x (before p d x old) phase ready called bag at.handle full found less ((calling.served p d limits image input x (before p d x old) ready 0x40 called).touches refl) (inl future)
      by_kind at full pc (inr (inl (here, called, bag), counter)) = absurd (omega (arith, here, pc))
      by_kind at full pc (inr (inr (here, called, bag), counter)) = absurd (omega (arith, here, pc))

  pub valuing : PhaseLaw p d limits image input (phases.Valuing cell)
  valuing = record { may = may; keeps = keeps }
