-- A counter grows, with the item that adds to it: adding.
use Rattle.st_base.specs.declared.image.Image.{Image}
use Rattle.st_base.specs.declared.limits.Limits.{Limits}
use Rattle.st_base.specs.declared.reg.Reg.TheVariants as registers
use Rattle.st_base.specs.declared.thread.Held.TheVariants.{Counter, Future}
use Rattle.st_calls.proofs.Back.{at_back, back_state, item_made, notes_kept, returns_fit, Returns}
use Rattle.st_calls.proofs.Called as calling
use Rattle.st_calls.proofs.Phase.{by_in, calm_in, is_accepted, words_after}
use Rattle.st_calls.proofs.Tops.{top_polls}
use Rattle.st_calls.proofs.Turning.{IsCalm, fits_as, fits_phase, goes_to, leaves_self}
use Rattle.st_calls.proofs.Views.{SameHand, bag_same, leaves_off, still_counter, tried_same, tried_threads}
use Rattle.st_cells.specs.Cells.{counted_up}
use Rattle.st_chain.specs.Taking.{notes_of}
use Rattle.st_chain.specs.Walk.{is_held, word_in}
use Rattle.st_fits.specs.Bags.{HasBag, leader, units}
use Rattle.st_fits.specs.Before.{before, after, with_item, change_after, counter_after, state_after}
use Rattle.st_fits.specs.Fits.{AtCell, AtEntry, ByPhase, FitsIn, SeesFuture}
use Rattle.st_fits.specs.Laws.{IsReady, KeepsLaw, MayAsk, MayLaw, PhaseLaw, Told}
use Rattle.st_fits.specs.Threads.{IsCalled, Polls, ends_of, now}
use Rattle.st_kept.proofs.Standing.{called_kept}
use Rattle.st_kept.proofs.Stepping.{numbers, untouched}
use Rattle.st_kept.specs.Keeping.{Untouched}
use Rattle.st_made.specs.Events.{AddsTo, Event, GoesOn, change_event, counter_event, state_event}
use Rattle.st_made.specs.Items.{IsLive, went}
use Rattle.st_model.specs.Heap.{Change, Path}
use Rattle.st_model.specs.Memory.{Data}
use Rattle.st_model.specs.declared.program.Program.{Program}
use Rattle.st_phases.specs.Automaton.{back, goes_back, unit_or_poll, wakes, with_phase}
use Rattle.st_phases.specs.Entries.{added}
use Rattle.st_phases.specs.declared.automaton.Automaton.{Automaton}
use Rattle.st_phases.specs.declared.phase.Phase.TheVariants as phases
use Rattle.st_phases.specs.declared.phase.Phase.{Phase}
use Rattle.st_phases.specs.declared.phase.Rest.{Rest}
use Rattle.st_run.specs.Meanings.{meaning}
use Rattle.st_serving.specs.Serving as serves
use Rattle.st_settled.proofs.Late.{fits_here}
use Rattle.st_standing.specs.Standing.{StandsOn}
use Rattle.st_step.specs.Moves.{at_place, register}
use Rattle.st_step.specs.Runs.{AreWords}
use Rattle.st_step.specs.declared.state.State.{State}
use Rattle.st_words.proofs.Ending.{done_safe}
use Rattle.st_words.proofs.Hands.{hand_laws}
use Rattle.st_words.specs.Encodings.{count_after, count_in, counter_word, head_in}
use Rattle.st_words.specs.Laws.{TakesForCounter}
use Rattle.st_words.specs.Promises.{Promises}
use Rattle.st_words.specs.Steps.{Answer, CellChange, Done, IsCounter, Looked, Number, Step, Took}
use Rattle.st_words.specs.Tidy.{Tidy}
use Rattle.st_words.specs.Views as views
use Rattle.st_words.specs.Views.{view_after}
use Rattle.st_words.specs.declared.view.Known.{Known}
use Rattle.st_words.specs.declared.view.View.{View}
use Rattle.st_words.specs.declared.view.Waiter.{Waiter}
use Rattle.std.proofs.Common.{◌≡◌, inl, inr, ℕ, Bool, true, false, List, [], ◌∷◌, Some, None, refl, sym, ap, ◌∙◌, subst, arith, ◌⊎◌, ◌<◌, ◌≤◌, ◌==◌, eq-eqb}
use Rattle.std.proofs.lemmas.Bool.{eqb-false, eqb-true}
use Rattle.std.specs.List.{Contains}
use Rattle.std.specs.Prelude.{if◌then◌else◌}

-- a counter is named in a6
pub not_future : (u : View) (q : Path) (cell : ℕ) → Tidy u → Contains u.names (Future q, cell) → IsCounter u cell → ⊥
not_future u q cell tidy name (owner, seen, kind) =
    let kinds = tidy.names.kinds (Future q) cell owner name seen in
    let never : ⊥ = cc in
    never

no_head : (seen : ℕ) → (head_in (counted_up seen) == 0) ≡ true
no_head seen = eq-eqb (head_in (counted_up seen)) 0 (head_of (count_after (count_in seen)))
  where
    head_of : (n : ℕ) → head_in (counter_word n 0) ≡ 0
    head_of n = omega arith

module _ (p : Program) (d : Data) (u : View) (cell seen : ℕ) where
  abbrev pub after_done : ℕ → View
  after_done found = after p d u (CellChange cell seen (counted_up seen)) (Number found)

  -- it has grown
  pub grows : (found : ℕ) → found ≡ seen → TakesForCounter u cell → after_done found ≡ record u { counts = (cell, count_in (counted_up seen)) ∷ u.counts; hand = views.followed None (head_in seen) u.hand; threads = with_item p d u.threads }
  unfolding after view_after
  grows found same takes =
      ap (λ (b : Bool). record (views.cell_changed b cell seen (counted_up seen) found u) { threads = change_after p d b cell (counted_up seen) u }) (eq-eqb found seen same)
      ∙ ap (λ (b : Bool). record (views.changed_by b cell seen (counted_up seen) u) { threads = state_after p d b (counted_up seen) u.threads }) takes
      ∙ ap (λ (b : Bool). record (views.changed_counter cell seen (counted_up seen) b u) { threads = counter_after p d b u.threads }) (no_head seen)

module _ (p : Program) (d : Data) (limits : Limits) (image : Image) (input : List ℕ) (cell seen : ℕ) where
  abbrev φ : Phase
  φ = phases.Adding cell seen

  calm : IsCalm φ
  calm = record { none = refl; most = λ n. refl; taking = refl }

  module _ (x : Automaton) (u : View) (phase : x.phase ≡ φ) (ready : IsReady p d limits image input x u) (called : IsCalled p d 0x60 x u) (at : x.machine.pc ≡ 0x60) (bag : HasBag (units 1) u) (handle : cell ≡ register x.machine registers.A6) (below : cell < u.cells) (counter : IsCounter u cell) (few : head_in seen ≤ u.cells) where
    takes : TakesForCounter u cell
    takes = let (owner, in', kind) = counter in hand_laws.counter u cell owner ready.tidy.names.owners in' kind

    abbrev Adds : Type 0
    Adds = serves.AddsToCounter p d u.names (is_held u.held) (ends_of x.machine) (now x u) called.top called.frames called.below called.lower

    abbrev step : Step
    step = CellChange cell seen (counted_up seen)

    adds_by : Adds ⊎ serves.WrongFuture p d u.names (is_held u.held) (ends_of x.machine) (now x u) called.top called.frames called.below called.lower called.at.1.item.line → Adds
    adds_by (inl adds) = adds
    adds_by (inr (q, has, traps)) = absurd (not_future u q cell ready.tidy (subst (λ (c : ℕ). Contains u.names (Future q, c)) (sym handle) has.name) counter)

    adds : Adds
    adds = adds_by ((calling.served p d limits image input x u ready 0x60 called).adds refl)

    abbrev change : Change
    change = record { own = adds.next; child = None; added = Some (adds.q, adds.i); printed = None }

    -- ---- the step may be asked

    made_now : (found : ℕ) → found ≡ seen → (after_done p d u cell seen found).threads ≡ went called.top adds.next ∷ called.below
    made_now found same = ap (λ (v : View). v.threads) (grows p d u cell seen found same takes) ∙ item_made p d limits image input x u ready 0x60 called change adds.moves

    goes_on : (found : ℕ) → found ≡ seen → GoesOn p d u (after_done p d u cell seen found) (AddsTo u cell)
    goes_on found same =
        let counts = adds.counts in
        let counters = counts.counters_are in
        let bytes = counts.bytes_are in
        let sizes = numbers p d u step (Number found) in
        record {
          top = called.top;
          below = called.below;
          change = change;
          is = called.is;
          begun = called.at.0.begun;
          can = adds.moves;
          sort = record {
            maker = adds.q;
            number = adds.i;
            added = refl;
            name = subst (λ (c : ℕ). Contains u.names (Counter adds.q adds.i, c)) (sym handle) adds.named.name;
            child = refl;
            printed = refl;
            counters = omega (arith, counters);
            bytes = omega (arith, bytes);
            live = subst IsLive (sym counts.going) tt;
          };
          threads = made_now found same;
          items = sizes.items;
          bytes = sizes.frame_bytes;
        }

    event_by : (found : ℕ) (b : Bool) → (found == seen) ≡ b → change_event p d b cell (counted_up seen) u (after_done p d u cell seen found)
    event_by found true is =
        subst (λ (t : Bool). state_event p d t cell (counted_up seen) u (after_done p d u cell seen found)) (sym takes)
        (subst (λ (t : Bool). counter_event p d t cell u (after_done p d u cell seen found)) (sym (no_head seen)) (goes_on found (eqb-true found seen is)))
    event_by found false is = let sizes = numbers p d u step (Number found) in record { threads = tried_threads p d u cell seen (counted_up seen) found is; items = sizes.items; bytes = sizes.frame_bytes }

    event : (a : Answer) → Promises u step a → Event p d u step a (after p d u step a)
    event (Number found) told = event_by found (found == seen) refl
    event Done told = absurd told
    event (Looked n cargo) told = absurd told
    event (Took chain cargo) told = absurd told

    pub asks : MayAsk p d limits u step
    asks = record { safe = done_safe (meaning p d limits) u cell seen below counter; event = event }

    -- ---- it has grown

    abbrev m : State
    m = at_place (back x.machine) x.machine

    abbrev rest : Rest
    rest = record { cell = cell; counter = true; word = counted_up seen; next = head_in seen }

    abbrev w : View
    w = record u { counts = (cell, count_in (counted_up seen)) ∷ u.counts; hand = views.followed None (head_in seen) u.hand; threads = went called.top adds.next ∷ called.below }

    grown_is : (found : ℕ) → found ≡ seen → after_done p d u cell seen found ≡ w
    grown_is found same =
        grows p d u cell seen found same takes
        ∙ ap (λ (ts : List Known). record u { counts = (cell, count_in (counted_up seen)) ∷ u.counts; hand = views.followed None (head_in seen) u.hand; threads = ts }) (item_made p d limits image input x u ready 0x60 called change adds.moves)

    returns : Returns p d limits image input x u ready 0x60 called m x.threads.notes w adds.next
    returns = record {
      like = at_back x.machine (back x.machine) ready.fits.holds.registers ready.fits.holds.values;
      ends = refl;
      leaves = let self = leaves_self u in record { untouched = let t = self.untouched in record { number = t.number; workers = t.workers; cells = t.cells; each = t.each; held = t.held; exported = t.exported; away = t.away; items = t.items; frame_bytes = t.frame_bytes; names = t.names }; words = refl; ready = refl; asked = refl };
      threads = refl;
      going = adds.counts.going;
      acts = calling.adds_acts p d limits image input x u ready 0x60 called refl adds;
      stands =
          subst (λ (n : State). StandsOn p u.names (is_held u.held) (ends_of x.machine) (record { state = n; word = word_in u.held }) (went called.top adds.next) called.frames called.below called.lower) (sym (back_state p d limits image input x u ready 0x60 called)) adds.goes;
      notes_are = notes_kept p d limits image input x u ready 0x60 called adds.next (went called.top adds.next ∷ called.below) refl adds.counts;
    }

    hand_is : (list : List Waiter) → views.followed None (head_in seen) [] ≡ list → HasBag (record (units 1) { hand = list }) w
    hand_is list is = record { chains = bag.chains; hand = ap (views.followed None (head_in seen)) bag.hand ∙ is; share = bag.share; drawn = bag.drawn; child = bag.child; answering = bag.answering; given = bag.given; root = bag.root }

    fits_as_phase : (ψ : Phase) → IsCalm ψ → (Polls p d (goes_to m x.threads.notes ψ x) w [] → ByPhase p d limits ψ (goes_to m x.threads.notes ψ x) w) → FitsIn p d limits image input (goes_to m x.threads.notes ψ x) w
    fits_as_phase ψ is by = returns_fit p d limits image input x u ready 0x60 called m x.threads.notes ψ w adds.next returns (calm_in p d limits image input x u ready φ phase calm) is by

    by_head : (b : Bool) → (head_in seen == 0) ≡ b → FitsIn p d limits image input (goes_to m x.threads.notes (if b then unit_or_poll x.threads.notes else phases.Following rest) x) w
    by_head true none =
        let polls : unit_or_poll x.threads.notes ≡ phases.Polling = top_polls x.threads.notes (notes_of called.below) called.top.note (ready.fits.holds.notes ∙ ap notes_of called.is) in
        let zero : head_in seen ≡ 0 = eqb-true (head_in seen) 0 none in
        subst (λ (ψ : Phase). FitsIn p d limits image input (goes_to m x.threads.notes ψ x) w) (sym polls)
        (fits_as_phase phases.Polling (record { none = refl; most = λ n. refl; taking = refl }) (λ polls. (polls, hand_is [] (ap (λ (n : ℕ). views.followed None n []) zero))))
    by_head false some =
        fits_as_phase (phases.Following rest) (record { none = refl; most = λ n. refl; taking = refl })
        (λ polls. (record { here = below; next = few; full = λ e. absurd (let never : ⊥ = cc in never) }, eqb-false (head_in seen) 0 some, (inr polls, hand_is (leader rest) refl)))

    -- ---- it has been found to be another

    module _ (found : ℕ) (other : (found == seen) ≡ false) (v : View) (told : Told p d limits u step (Number found) v) where
      w' : View
      w' = after_done p d u cell seen found

      same : SameHand u (after_done p d u cell seen found)
      same = tried_same p d u cell seen (counted_up seen) found other

      off : Untouched u (after_done p d u cell seen found)
      off = untouched p d u step (Number found) tt

      words_are : AreWords (word_in (after_done p d u cell seen found).held)
      words_are = subst (λ (z : View). AreWords (word_in z.held)) told.is (words_after p d limits image input x u ready v told.behind)

      again : FitsIn p d limits image input (with_phase (phases.Adding cell found) x) (after_done p d u cell seen found)
      again =
          fits_phase p d limits image input x (phases.Adding cell found) u (after_done p d u cell seen found) (calm_in p d limits image input x u ready φ phase calm) (record { none = refl; most = λ n. refl; taking = refl }) (tried_threads p d u cell seen (counted_up seen) found other)
          (leaves_off p d u step (Number found) tt same) ready.fits (
            record {
              handle = handle;
              below = subst (λ (n : ℕ). cell < n) (sym off.cells) below;
              kind =
                  inr (
                    inl (at, called_kept p d x (with_phase (phases.Adding cell found) x) u (after_done p d u cell seen found) (is_accepted p d limits image input x u ready) words_are refl refl off (tried_threads p d u cell seen (counted_up seen) found other) 0x60 called, bag_same (units 1) u (after_done p d u cell seen found) same bag),
                    still_counter u (after_done p d u cell seen found) same (tried_threads p d u cell seen (counted_up seen) found other) cell counter,
                  );
            },
            at,
            subst (λ (n : ℕ). head_in found ≤ n) (sym off.cells) (told.promised.counter counter),
          )

    by_found : (found : ℕ) (b : Bool) (v : View) → (found == seen) ≡ b → Told p d limits u step (Number found) v → FitsIn p d limits image input (if b then wakes rest (goes_back x) else with_phase (phases.Adding cell found) x) (after_done p d u cell seen found)
    by_found found true v is told = subst (λ (z : View). FitsIn p d limits image input (wakes rest (goes_back x)) z) (sym (grown_is found (eqb-true found seen is))) (by_head (head_in seen == 0) refl)
    by_found found false v is told = again found is v told

  by_kind : (x : Automaton) (u : View) → x.phase ≡ φ → IsReady p d limits image input x u → AtCell p d limits cell x u → x.machine.pc ≡ 0x60 → IsCalled p d 0x60 x u × HasBag (units 1) u × IsCounter u cell
  by_kind x u phase ready at pc = by at.kind
    where
      by : ((AtEntry p d limits 0x40 x u (units 1)) × SeesFuture u cell) ⊎ ((AtEntry p d limits 0x60 x u (units 1) ⊎ AtEntry p d limits 0x70 x u (units 1)) × IsCounter u cell) → IsCalled p d 0x60 x u × HasBag (units 1) u × IsCounter u cell
      by (inl ((here, called, bag), future)) = absurd (omega (arith, here, pc))
      by (inr (inl (here, called, bag), counter)) = (called, bag, counter)
      by (inr (inr (here, called, bag), counter)) = absurd (omega (arith, here, pc))

  may : MayLaw p d limits image input φ
  may x u phase ready =
      let (at, pc, few) = by_in p d limits image input x u ready φ phase in
      let (called, bag, counter) = by_kind x u phase ready at pc in
      asks x u phase ready called pc bag at.handle at.below counter few

  keeps : KeepsLaw p d limits image input φ
  keeps x y old v turn phase ready made (found, told, (is, ran)) =
      let u = before p d x old in
      let (at, pc, few) = by_in p d limits image input x u ready φ phase in
      let (called, bag, counter) = by_kind x u phase ready at pc in
      fits_here p d limits image input y v
      (fits_as p d limits image input y (added cell seen found x) v (after_done p d u cell seen found) is told.is (by_found x u phase ready called pc bag at.handle at.below counter few found (found == seen) v refl told))

  pub adding : PhaseLaw p d limits image input φ
  adding = record { may = may; keeps = keeps }
