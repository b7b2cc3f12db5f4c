-- The State word of the cell in a6 is read: looking_may, and looks_on (the thread goes on: its future is full, or its counter has reached the number that it joins, or is to grow).
use Rattle.st_ahead.proofs.Named.{on_made}
use Rattle.st_ahead.specs.Ahead.{seen_change}
use Rattle.st_ahead.specs.Naming.{on}
use Rattle.st_base.specs.declared.chain.Frame.{Frame}
use Rattle.st_base.specs.declared.chain.Waiting.TheVariants as waits
use Rattle.st_base.specs.declared.image.Image.{Image}
use Rattle.st_base.specs.declared.limits.Limits.{Limits}
use Rattle.st_base.specs.declared.reg.Reg.TheVariants as registers
use Rattle.st_base.specs.declared.thread.Held.TheVariants.{Counter, Future}
use Rattle.st_base.specs.declared.thread.Held.{Held}
use Rattle.st_calls.proofs.Adding.{not_future}
use Rattle.st_calls.proofs.Back.{at_back, back_state, Returns, notes_kept, returns_fit}
use Rattle.st_calls.proofs.Called as calling
use Rattle.st_calls.proofs.Making.{alone, join_seen}
use Rattle.st_calls.proofs.Phase.{by_in, calm_in, asks_load, words_after}
use Rattle.st_calls.proofs.Turning.{IsCalm, fits_forward, fits_phase, goes_to, on_is, polls_forward}
use Rattle.st_calls.proofs.Views.{SameHand, bag_same, leaves_off, load_same, state_counts, state_full, still_counter}
use Rattle.st_calls.specs.Calling.{GoesOnAt, LooksOn}
use Rattle.st_chain.specs.Walk.{is_held, word_in}
use Rattle.st_fits.specs.Bags.{HasBag, units}
use Rattle.st_fits.specs.Before.{before, after}
use Rattle.st_fits.specs.Fits.{AtCell, AtEntry, ByPhase, Fits, FitsIn, SeesFuture}
use Rattle.st_fits.specs.Laws.{IsReady, MayLaw, Told}
use Rattle.st_fits.specs.Threads.{IsCalled, ends_of, now}
use Rattle.st_kept.proofs.Standing.{called_kept}
use Rattle.st_kept.proofs.Stepping.{no_item_threads, numbers, untouched}
use Rattle.st_kept.specs.Keeping.{Untouched}
use Rattle.st_made.specs.Items.{next_move, went}
use Rattle.st_made.specs.Moves.{Made}
use Rattle.st_model.specs.Heap.{Move, Path, own}
use Rattle.st_model.specs.Memory.{Data}
use Rattle.st_model.specs.declared.program.Program.{Program}
use Rattle.st_phases.specs.Automaton.{back, goes_back, with_phase}
use Rattle.st_phases.specs.Entries.{join_looked, looked, touch_looked, waits_at}
use Rattle.st_phases.specs.declared.automaton.Automaton.{Automaton}
use Rattle.st_phases.specs.declared.phase.Phase.TheVariants as phases
use Rattle.st_phases.specs.declared.phase.Phase.{Phase}
use Rattle.st_serving.specs.Serving as serves
use Rattle.st_settled.proofs.Late.{fits_here}
use Rattle.st_standing.specs.Standing.{StandsOn}
use Rattle.st_step.specs.Moves.{at_place, register}
use Rattle.st_step.specs.Runs.{AreWords}
use Rattle.st_step.specs.declared.state.State.{State}
use Rattle.st_words.proofs.Starting.{named_kind}
use Rattle.st_words.specs.Encodings.{count_in, full_word, head_in}
use Rattle.st_words.specs.Steps.{CellLoad, IsCounter, Number, Step}
use Rattle.st_words.specs.Tidy.{Tidy}
use Rattle.st_words.specs.Views as views
use Rattle.st_words.specs.declared.view.CellWord.TheVariants as words
use Rattle.st_words.specs.declared.view.View.{View}
use Rattle.std.proofs.Common.{◌≡◌, inl, inr, ℕ, ◌≤◌, ◌<◌, Bool, true, false, List, ◌∷◌, Some, refl, sym, ap, ◌∙◌, subst, arith, ◌⊎◌, ◌==◌, eq-eqb, ne_eqb}
use Rattle.std.proofs.lemmas.Bool.{le-ltb}
use Rattle.std.specs.List.{Contains}
use Rattle.std.specs.Prelude.{if◌then◌else◌}

-- the cell was seen to be a future's, so a6 doesn't name a counter
sees_no_counter : (u : View) (q : Path) (i cell : ℕ) → Tidy u → Contains u.names (Counter q i, cell) → SeesFuture u cell → ⊥
sees_no_counter u q i cell tidy name (owner, seen, kind) =
    let kinds = tidy.names.kinds (Counter q i) cell owner name seen in
    let never : ⊥ = cc in
    never

module _ (p : Program) (d : Data) (limits : Limits) (image : Image) (input : List ℕ) (cell : ℕ) where
  abbrev φ : Phase
  φ = phases.Looking cell

  calm_here : IsCalm φ
  calm_here = record { none = refl; most = λ n. refl; taking = refl }

  pub looking_may : MayLaw p d limits image input φ
  looking_may x u phase ready = let at = by_in p d limits image input x u ready φ phase in asks_load p d limits image input x u ready cell words.State at.below

  module _ (x : Automaton) (u v : View) (phase : x.phase ≡ φ) (ready : IsReady p d limits image input x u) (handle : cell ≡ register x.machine registers.A6) (below : cell < u.cells) (found : ℕ) (told : Told p d limits u (CellLoad cell words.State) (Number found) v) where
    abbrev step : Step
    step = CellLoad cell words.State

    abbrev seen : View
    seen = after p d u step (Number found)

    same : SameHand u seen
    same = load_same p d u cell words.State found tt

    off : Untouched u seen
    off = untouched p d u step (Number found) tt

    threads : seen.threads ≡ u.threads
    threads = no_item_threads p d u step (Number found) tt

    words_are : AreWords (word_in seen.held)
    words_are = subst (λ (w : View). AreWords (word_in w.held)) told.is (words_after p d limits image input x u ready v told.behind)

    calm : IsCalm x.phase
    calm = calm_in p d limits image input x u ready φ phase calm_here

    still : (entry : ℕ) (ψ : Phase) → IsCalled p d entry x u → IsCalled p d entry (with_phase ψ x) seen
    still entry ψ called = called_kept p d x (with_phase ψ x) u seen ready.fits.is_for.code.accepted words_are refl refl off threads entry called

    to_phase : (ψ : Phase) → IsCalm ψ → ByPhase p d limits ψ (with_phase ψ x) seen → FitsIn p d limits image input (with_phase ψ x) seen
    to_phase ψ is by = fits_phase p d limits image input x ψ u seen calm is threads (leaves_off p d u step (Number found) tt same) ready.fits by

    still_below : cell < seen.cells
    still_below = subst (λ (n : ℕ). cell < n) (sym off.cells) below

    still_sees : SeesFuture u cell → SeesFuture seen cell
    still_sees (owner, in', kind) = (owner, same.owners (cell, owner) in', kind)

    -- ---- a future that is full

    module _ (at : x.machine.pc ≡ 0x40) (called : IsCalled p d 0x40 x u) (bag : HasBag (units 1) u) (sees : SeesFuture u cell) where
      name_of : (serves.TouchesFuture p d u.names (is_held u.held) (ends_of x.machine) (now x u) called.top called.frames called.below called.lower) ⊎ (serves.WrongCounter p d u.names (is_held u.held) (ends_of x.machine) (now x u) called.top called.frames called.below called.lower called.at.1.item.line)
          → (q : Path) × Contains u.names (Future q, cell)
      name_of (inl touches) = (touches.q, subst (λ (c : ℕ). Contains u.names (Future touches.q, c)) (sym handle) touches.named.name)
      name_of (inr (q, i, has, traps)) = absurd (sees_no_counter u q i cell ready.tidy (subst (λ (c : ℕ). Contains u.names (Counter q i, c)) (sym handle) has.name) sees)

      kind : views.kind_seen cell u ≡ Some false
      kind = let (q, name) = name_of ((calling.served p d limits image input x u ready 0x40 called).touches refl) in named_kind u (Future q) cell ready.tidy.names name

      to_valuing : found ≡ full_word → FitsIn p d limits image input (with_phase (phases.Valuing cell) x) seen
      to_valuing full =
          to_phase (phases.Valuing cell) (record { none = refl; most = λ n. refl; taking = refl }) (
            record { handle = handle; below = still_below; kind = inl ((at, still 0x40 (phases.Valuing cell) called, bag_same (units 1) u seen same bag), still_sees sees) },
            state_full p d u cell found kind full,
            at,
          )

    -- ---- a counter that is to grow

    to_adding : x.machine.pc ≡ 0x60 → IsCalled p d 0x60 x u → HasBag (units 1) u → IsCounter u cell → FitsIn p d limits image input (with_phase (phases.Adding cell found) x) seen
    to_adding at called bag counter =
        to_phase (phases.Adding cell found) (record { none = refl; most = λ n. refl; taking = refl }) (
          record { handle = handle; below = still_below; kind = inr (inl (at, still 0x60 (phases.Adding cell found) called, bag_same (units 1) u seen same bag), still_counter u seen same threads cell counter) },
          at,
          subst (λ (n : ℕ). head_in found ≤ n) (sym off.cells) (told.promised.counter counter),
        )

    -- ---- a counter that has reached the number

    module _ (called : IsCalled p d 0x70 x u) (bag : HasBag (units 1) u) (counter : IsCounter u cell) (enough : register x.machine registers.A0 ≤ count_in found) where
      abbrev Joins : Type 0
      Joins = serves.JoinsCounter p d u.names (is_held u.held) (ends_of x.machine) (now x u) called.top called.frames called.below called.lower

      joins_by : Joins ⊎ serves.WrongFuture p d u.names (is_held u.held) (ends_of x.machine) (now x u) called.top called.frames called.below called.lower called.at.1.item.line → Joins
      joins_by (inl joins) = joins
      joins_by (inr (q, has, traps)) = absurd (not_future u q cell ready.tidy (subst (λ (c : ℕ). Contains u.names (Future q, c)) (sym handle) has.name) counter)

      joins : Joins
      joins = joins_by ((calling.served p d limits image input x u ready 0x70 called).joins refl)

      abbrev w : View
      w = record seen { threads = went called.top joins.next ∷ called.below }

      abbrev m : State
      m = at_place (back x.machine) x.machine

      off_item : Untouched u w
      off_item = let t = off in record { number = t.number; workers = t.workers; cells = t.cells; each = t.each; held = t.held; exported = t.exported; away = t.away; items = t.items; frame_bytes = t.frame_bytes; names = t.names }

      named_there : Contains u.names (Counter joins.q joins.i, cell)
      named_there = subst (λ (c : ℕ). Contains u.names (Counter joins.q joins.i, c)) (sym handle) joins.named.name

      sees_count : seen_change seen (next_move p d called.top) ≡ Some (own joins.next)
      sees_count =
          ap (λ (move : Move). seen_change seen move) joins.moves
          ∙ join_seen seen joins.q joins.i (register x.machine registers.A0) cell (count_in found) (own joins.next)
          (λ name c k one two. ready.tidy.names.one_cell name c k (subst (λ (names : List (Held × ℕ)). Contains names (name, c)) same.names one) (subst (λ (names : List (Held × ℕ)). Contains names (name, k)) same.names two))
          (subst (λ (names : List (Held × ℕ)). Contains names (Counter joins.q joins.i, cell)) (sym same.names) named_there) (state_counts p d u cell found (named_kind u (Counter joins.q joins.i) cell ready.tidy.names named_there)) enough

      returns : Returns p d limits image input x u ready 0x70 called m x.threads.notes w joins.next
      returns = record {
        like = at_back x.machine (back x.machine) ready.fits.holds.registers ready.fits.holds.values;
        ends = refl;
        leaves = record { untouched = off_item; words = (numbers p d u step (Number found)).words; ready = same.ready; asked = same.asked };
        threads = refl;
        going = joins.counts.going;
        acts = calling.joins_acts p d limits image input x u ready 0x70 called refl joins;
        stands =
            subst (λ (names : List (Held × ℕ)). StandsOn p names (is_held u.held) (ends_of x.machine) (record { state = m; word = word_in u.held }) (went called.top joins.next) called.frames called.below called.lower) (sym same.names)
            (subst (λ (n : State). StandsOn p u.names (is_held u.held) (ends_of x.machine) (record { state = n; word = word_in u.held }) (went called.top joins.next) called.frames called.below called.lower) (sym (back_state p d limits image input x u ready 0x70 called)) joins.goes);
        notes_are = notes_kept p d limits image input x u ready 0x70 called joins.next (went called.top joins.next ∷ called.below) refl joins.counts;
      }

      polls_fit : FitsIn p d limits image input (goes_to m x.threads.notes phases.Polling x) w
      polls_fit =
          returns_fit p d limits image input x u ready 0x70 called m x.threads.notes phases.Polling w joins.next returns calm (record { none = refl; most = λ n. refl; taking = refl })
          (λ polls. (polls, (let b = bag_same (units 1) u seen same bag in record { chains = b.chains; hand = b.hand; share = b.share; drawn = b.drawn; child = b.child; answering = b.answering; given = b.given; root = b.root })))

      on_w : on p d seen ≡ w
      on_w = on_is p d seen called.top called.below (own joins.next) (threads ∙ called.is) called.at.0.begun sees_count (alone called.top.thread joins.next joins.counts) (calling.no_frame p d limits image input x u ready 0x70 called 0x70 refl (λ e. omega arith))

      joined_fits : Fits p d limits image input (goes_to m x.threads.notes phases.Polling x) seen
      joined_fits =
          fits_forward p d limits image input (goes_to m x.threads.notes phases.Polling x) seen w
          (polls_forward p d (goes_to m x.threads.notes phases.Polling x) seen w refl (same.child ∙ bag.child) (ready.fits.holds.items ∙ sym off.items)
          (λ f in'. subst (λ (fs : List Frame). Contains fs f) (sym off.exported) (ready.fits.holds.exported f in')) on_w)
          (subst (λ (z : View). Made p d seen z) on_w (on_made p d seen)) polls_fit

    -- ---- each of them

    ifs : (b : Bool) → (x.machine.pc == 0x40) ≡ b → looked cell found x ≡ (if b then touch_looked cell found x else (if x.machine.pc == 0x60 then with_phase (phases.Adding cell found) x else join_looked cell (register x.machine registers.A0) found x))
    ifs b is = ap (λ (c : Bool). if c then touch_looked cell found x else (if x.machine.pc == 0x60 then with_phase (phases.Adding cell found) x else join_looked cell (register x.machine registers.A0) found x)) is

    here : (y : Automaton) → y ≡ looked cell found x → (z : Automaton) → looked cell found x ≡ z → Fits p d limits image input z seen → Fits p d limits image input y v
    here y is z same fits = subst (λ (k : Automaton). Fits p d limits image input k v) (sym (is ∙ same)) (subst (λ (k : View). Fits p d limits image input z k) (sym told.is) fits)

    pub looks_by : (y : Automaton) → y ≡ looked cell found x → AtCell p d limits cell x u → GoesOnAt x found → Fits p d limits image input y v
    looks_by y is at goes = by at.kind
      where
        by : ((AtEntry p d limits 0x40 x u (units 1)) × SeesFuture u cell) ⊎ ((AtEntry p d limits 0x60 x u (units 1) ⊎ AtEntry p d limits 0x70 x u (units 1)) × IsCounter u cell) → Fits p d limits image input y v
        by (inl ((pc, called, bag), sees)) =
            let full = goes.full pc in
            here y is (with_phase (phases.Valuing cell) x) (ifs true (eq-eqb x.machine.pc 0x40 pc) ∙ ap (λ (b : Bool). if b then with_phase (phases.Valuing cell) x else waits_at (waits.Touch cell) found x) (eq-eqb found full_word full))
            (fits_here p d limits image input (with_phase (phases.Valuing cell) x) seen (to_valuing pc called bag sees full))
        by (inr (inl (pc, called, bag), counter)) =
            here y is (with_phase (phases.Adding cell found) x) (ifs false (ne_eqb x.machine.pc 0x40 (λ e. absurd (omega (arith, pc, e)))) ∙ ap (λ (b : Bool). if b then with_phase (phases.Adding cell found) x else join_looked cell (register x.machine registers.A0) found x) (eq-eqb x.machine.pc 0x60 pc))
            (fits_here p d limits image input (with_phase (phases.Adding cell found) x) seen (to_adding pc called bag counter))
        by (inr (inr (pc, called, bag), counter)) =
            let enough = goes.enough pc in
            here y is (goes_back x)
            (ifs false (ne_eqb x.machine.pc 0x40 (λ e. absurd (omega (arith, pc, e)))) ∙ ap (λ (b : Bool). if b then with_phase (phases.Adding cell found) x else join_looked cell (register x.machine registers.A0) found x) (ne_eqb x.machine.pc 0x60 (λ e. absurd (omega (arith, pc, e))))
            ∙ ap (λ (b : Bool). if b then waits_at (waits.Join cell (register x.machine registers.A0)) found x else goes_back x) (le-ltb (count_in found) (register x.machine registers.A0) enough))
            (joined_fits called bag counter enough)

  pub looks_on : LooksOn p d limits image input cell
  looks_on x y old v found phase ready made told is goes =
      let u = before p d x old in
      let at = by_in p d limits image input x u ready φ phase in
      looks_by x u v phase ready at.handle at.below found told y is at goes
