-- A cell that was drawn is named: for a counter, whose item goes with it, or for the next child. naming.
use Rattle.st_base.specs.declared.chain.Note.{Note}
use Rattle.st_base.specs.declared.image.Image.{Image}
use Rattle.st_base.specs.declared.limits.Limits.{Limits}
use Rattle.st_base.specs.declared.reg.Reg.TheVariants as registers
use Rattle.st_base.specs.declared.thread.Held.TheVariants.{Counter, Future}
use Rattle.st_calls.proofs.Back.{at_back_with, ends_with, back_in, back_place, Returns, item_made, returns_fit, top_note}
use Rattle.st_calls.proofs.Called as calling
use Rattle.st_calls.proofs.Making.{note_went}
use Rattle.st_calls.proofs.Phase.{by_in, calm_in, words_after}
use Rattle.st_calls.proofs.Storing.{has_room}
use Rattle.st_calls.proofs.Tops as tops
use Rattle.st_calls.proofs.Turning.{IsCalm, StepLeaves, fits_as, fits_phase, goes_to}
use Rattle.st_cargo.specs.Cargo.{goes_with}
use Rattle.st_cells.specs.Cells.{owner_word}
use Rattle.st_chain.specs.Taking.{notes_of}
use Rattle.st_chain.specs.Walk.{is_held, word_in}
use Rattle.st_fits.specs.Bags.{HasBag, units}
use Rattle.st_fits.specs.Before.{before, after, owner_after, with_item}
use Rattle.st_fits.specs.Fits.{Draws, FitsIn}
use Rattle.st_fits.specs.Laws.{IsReady, KeepsLaw, MayAsk, MayLaw, PhaseLaw, Told}
use Rattle.st_fits.specs.Threads.{IsCalled, ends_of, now}
use Rattle.st_kept.proofs.Standing.{called_kept}
use Rattle.st_kept.proofs.Stepping.{numbers}
use Rattle.st_made.specs.Events.{Event, GoesOn, MakesCounter, owner_event}
use Rattle.st_made.specs.Items.{IsAtCounter, IsAtFork, IsLive, child_path, went}
use Rattle.st_model.specs.Heap.{Change, own}
use Rattle.st_model.specs.Memory.{Data}
use Rattle.st_model.specs.declared.program.Program.{Program}
use Rattle.st_phases.specs.Automaton.{back, own_note, replaced, with_phase}
use Rattle.st_phases.specs.Calls.{HasTop}
use Rattle.st_phases.specs.Entries.{counts, counter_made, named, owner_of}
use Rattle.st_phases.specs.Turning.{MayPhase}
use Rattle.st_phases.specs.declared.automaton.Automaton.{Automaton}
use Rattle.st_phases.specs.declared.phase.Phase.TheVariants as phases
use Rattle.st_phases.specs.declared.phase.Phase.{Phase}
use Rattle.st_run.specs.Behind.{NoteIs}
use Rattle.st_run.specs.Meanings.{meaning}
use Rattle.st_serving.specs.Serving as serves
use Rattle.st_settled.proofs.Late.{fits_here}
use Rattle.st_standing.specs.Standing.{StandsOn}
use Rattle.st_step.specs.Moves.{at_place, written}
use Rattle.st_step.specs.Runs.{AreWords}
use Rattle.st_step.specs.declared.state.State.{State}
use Rattle.st_words.proofs.Lists.{contains_here, contains_later}
use Rattle.st_words.proofs.Safe.{counter_kind, thread_kind}
use Rattle.st_words.proofs.Starting.{child_safe, counter_safe}
use Rattle.st_words.specs.Encodings.{counter_owner, is_counter, thread_owner}
use Rattle.st_words.specs.Promises.{Promises}
use Rattle.st_words.specs.Safely.{Safe}
use Rattle.st_words.specs.Steps.{Answer, CellStore, Done, Looked, Number, Step, Took}
use Rattle.st_words.specs.Views as views
use Rattle.st_words.specs.Views.{view_after}
use Rattle.st_words.specs.declared.view.CellWord.TheVariants as words
use Rattle.st_words.specs.declared.view.Known.{Known}
use Rattle.st_words.specs.declared.view.View.{View}
use Rattle.std.proofs.Common.{◌≡◌, inl, inr, ℕ, ◌+◌, Bool, true, false, List, [], ◌∷◌, ◌++◌, Some, None, refl, sym, ap, ◌∙◌, subst, arith, ◌^◌, ◌<◌, eq-eqb, ne_eqb, not}
use Rattle.std.specs.List.{Contains}
use Rattle.std.specs.Prelude.{if◌then◌else◌}

-- the only number that was drawn is so no more
none_drawn : (c : ℕ) → views.without_number c (c ∷ []) ≡ []
none_drawn c = ap (λ (b : Bool). if not b then c ∷ [] else []) (eq-eqb c c refl)

-- the word that is stored, for a counter or for a child
abbrev word_by : Bool → Note → ℕ
word_by b note = owner_word (record { counter = b; parent = note.cell; number = if b then note.counters else note.forks })

module _ (p : Program) (d : Data) (limits : Limits) (image : Image) (input : List ℕ) where
  module _ (x : Automaton) (u : View) (ready : IsReady p d limits image input x u) (entry : ℕ) (called : IsCalled p d entry x u) where
    pub notes_split : x.threads.notes ≡ notes_of called.below ++ called.top.note ∷ []
    notes_split = ready.fits.holds.notes ∙ ap notes_of called.is

    pub own_is : own_note x ≡ called.top.note
    own_is = tops.top_is x.threads.notes (notes_of called.below) called.top.note notes_split

    pub has_top : HasTop x
    has_top = record { some = tops.some_is x.threads.notes (notes_of called.below) called.top.note notes_split; room = has_room p d limits image input x u ready }

    note_is : NoteIs u.cells called.top
    note_is = top_note p d limits image input x u ready entry called

    pub few_counters : (own_note x).counters + 1 < 2 ^ 32
    few_counters =
        let same = ap (λ (n : Note). n.counters) own_is in
        let is = note_is.counters in
        let few = note_is.few_counters in
        let most = ready.fits.holds.few_cells in
        omega (arith, same, is, few, most)

    pub few_forks : (own_note x).forks + 1 < 2 ^ 32
    few_forks =
        let same = ap (λ (n : Note). n.forks) own_is in
        let is = note_is.forks in
        let few = note_is.few_forks in
        let most = ready.fits.holds.few_cells in
        omega (arith, same, is, few, most)

    pub word_is : (b : Bool) → counts x ≡ b → owner_word (owner_of x) ≡ word_by b called.top.note
    word_is b is = ap (λ (c : Bool). word_by c (own_note x)) is ∙ ap (word_by b) own_is

    pub words_behind : (v w : View) (s : Step) (a : Answer) → Told p d limits u s a v → v ≡ w → AreWords (word_in w.held)
    words_behind v w s a told is = subst (λ (z : View). AreWords (word_in z.held)) is (words_after p d limits image input x u ready v told.behind)

  -- ---- a counter

  module _ (cell : ℕ) (x : Automaton) (u : View) (ready : IsReady p d limits image input x u) (called : IsCalled p d 0x50 x u) (here : cell < u.cells) (at : x.machine.pc ≡ 0x50) (bag : HasBag (record (units 1) { drawn = cell ∷ [] }) u) where
    abbrev top : Known
    top = called.top

    abbrev n : ℕ
    n = counter_owner top.note.cell top.note.counters

    abbrev step : Step
    step = CellStore cell words.Owner n

    abbrev Makes : Type 0
    Makes = serves.MakesCounter p d u.names (is_held u.held) (ends_of x.machine) (now x u) called.top called.frames called.below called.lower

    makes : Makes
    makes = (calling.served p d limits image input x u ready 0x50 called).makes refl

    abbrev change : Change
    change = own makes.next

    kind : is_counter n ≡ true
    kind = counter_kind top.note.cell top.note.counters

    draws : IsAtCounter p d top
    draws = let more = makes.counts.counters_are in (change, makes.moves, λ e. absurd (omega (arith, more, e)))

    small : top.note.counters < 2 ^ 32
    small =
        let note_is = top_note p d limits image input x u ready 0x50 called in
        let is = note_is.counters in
        let few = note_is.few_counters in
        let most = ready.fits.holds.few_cells in
        omega (arith, is, few, most)

    safe : Safe (meaning p d limits) u step
    safe = counter_safe (meaning p d limits) u cell top called.below here bag.drawn called.is draws (calling.cell_below p d limits image input x u ready 0x50 called) small

    -- the view then
    abbrev w : View
    w = record u { drawn = []; owners = (cell, n) ∷ u.owners; names = (Counter top.path top.note.counters, cell) ∷ u.names; threads = went top makes.next ∷ called.below }

    named_is : after p d u step Done ≡ w
    unfolding after view_after
    named_is =
        ap (λ (b : Bool). record (views.named_cell b cell n u) { threads = owner_after p d b u.threads }) kind
        ∙ ap (λ (ts : List Known). record u { drawn = views.without_number cell u.drawn; owners = (cell, n) ∷ u.owners; names = views.with_name true cell ts u.names; threads = with_item p d u.threads }) called.is
        ∙ ap (λ (ns : List ℕ). record u { drawn = ns; owners = (cell, n) ∷ u.owners; names = (Counter top.path top.note.counters, cell) ∷ u.names; threads = with_item p d u.threads }) (ap (views.without_number cell) bag.drawn ∙ none_drawn cell)
        ∙ ap (λ (ts : List Known). record u { drawn = []; owners = (cell, n) ∷ u.owners; names = (Counter top.path top.note.counters, cell) ∷ u.names; threads = ts }) (item_made p d limits image input x u ready 0x50 called change makes.moves)

    goes_on : GoesOn p d u (after p d u step Done) (MakesCounter n)
    goes_on =
        let counts = makes.counts in
        let bytes = counts.bytes_are in
        let sizes = numbers p d u step Done in
        record {
          top = top;
          below = called.below;
          change = change;
          is = called.is;
          begun = called.at.0.begun;
          can = makes.moves;
          sort = record { word = refl; counters = counts.counters_are; added = refl; child = refl; printed = refl; bytes = omega (arith, bytes); live = subst IsLive (sym counts.going) tt };
          threads = ap (λ (v : View). v.threads) named_is;
          items = sizes.items;
          bytes = sizes.frame_bytes;
        }

    event : (a : Answer) → Promises u step a → Event p d u step a (after p d u step a)
    event Done told = subst (λ (b : Bool). owner_event p d b n u (after p d u step Done)) (sym kind) goes_on
    event (Number k) told = absurd told
    event (Looked k cargo) told = absurd told
    event (Took chain cargo) told = absurd told

    pub counter_asks : MayAsk p d limits u step
    counter_asks = record { safe = safe; event = event }

    -- its number comes into a6
    abbrev m : State
    m = at_place (back (written x.machine registers.A6 cell)) (written x.machine registers.A6 cell)

    less : cell < 2 ^ 64
    less = let most = ready.fits.holds.few_cells in omega (arith, here, most)

    place : m ≡ serves.back_with registers.A6 cell x.machine
    place = ap (λ (pc : ℕ). at_place pc (written x.machine registers.A6 cell)) (back_in x.machine registers.A6 cell (λ e. absurd (omega (arith, e))) ∙ back_place p d limits image input x u ready 0x50 called)

    named_there : Contains w.names (Counter top.path top.thread.counters, cell)
    named_there =
        subst (λ (k : ℕ). Contains w.names (Counter top.path k, cell)) (top_note p d limits image input x u ready 0x50 called).counters (contains_here (Counter top.path top.note.counters, cell) u.names)

    abbrev note : Note
    note = record (own_note x) { counters = (own_note x).counters + 1 }

    abbrev notes : List Note
    notes = replaced note x.threads.notes

    went_note : note ≡ (went top makes.next).note
    went_note =
        let is = top_note p d limits image input x u ready 0x50 called in
        let f : top.note.forks ≡ top.note.forks + 0 = omega arith in
        let b : top.note.bytes ≡ top.note.bytes + 0 = omega arith in
        ap (λ (k : Note). record k { counters = k.counters + 1 }) (own_is x u ready 0x50 called) ∙ (λ i. record { cell = top.note.cell; forks = f i; counters = top.note.counters + 1; bytes = b i }) ∙ sym (note_went top makes.next u.cells 0 1 0 is makes.counts)

    returns : Returns p d limits image input x u ready 0x50 called m notes w makes.next
    returns = record {
      like = at_back_with x.machine registers.A6 cell (back (written x.machine registers.A6 cell)) less ready.fits.holds.registers ready.fits.holds.values;
      ends = ends_with x.machine registers.A6 cell (back (written x.machine registers.A6 cell)) (λ e. absurd (omega (arith, e))) (λ e. absurd (omega (arith, e)));
      leaves = record {
        untouched = record { number = refl; workers = refl; cells = refl; each = refl; held = refl; exported = refl; away = refl; items = refl; frame_bytes = refl; names = λ name c in'. contains_later (name, c) (Counter top.path top.note.counters, cell) u.names in' };
        words = refl;
        ready = refl;
        asked = refl;
      };
      threads = refl;
      going = makes.counts.going;
      acts = calling.makes_acts p d limits image input x u ready 0x50 called refl makes;
      stands =
          subst (λ (k : State). StandsOn p w.names (is_held u.held) (ends_of x.machine) (record { state = k; word = word_in u.held }) (went called.top makes.next) called.frames called.below called.lower) (sym place)
          (makes.goes w.names cell less (λ name c in'. contains_later (name, c) (Counter top.path top.note.counters, cell) u.names in') named_there);
      notes_are = tops.replaced_is x.threads.notes (notes_of called.below) called.top.note (notes_split x u ready 0x50 called) note ∙ ap (λ (k : Note). notes_of called.below ++ k ∷ []) went_note;
    }

    counter_fits : IsCalm x.phase → FitsIn p d limits image input (goes_to m notes phases.Polling x) w
    counter_fits calm =
        returns_fit p d limits image input x u ready 0x50 called m notes phases.Polling w makes.next returns calm (record { none = refl; most = λ n. refl; taking = refl })
        (λ polls. (polls, record { chains = bag.chains; hand = bag.hand; share = bag.share; drawn = refl; child = bag.child; answering = bag.answering; given = bag.given; root = bag.root }))

    counter_named : named cell x ≡ goes_to m notes phases.Polling x
    counter_named = ap (λ (b : Bool). if b then counter_made cell (own_note x) x else with_phase (phases.Beginning cell) x) (eq-eqb x.machine.pc 0x50 at)

  -- ---- a child

  module _ (cell : ℕ) (x : Automaton) (u : View) (ready : IsReady p d limits image input x u) (called : IsCalled p d 0x10 x u) (here : cell < u.cells) (at : x.machine.pc ≡ 0x10) (bag : HasBag (record (units 1) { drawn = cell ∷ [] }) u) where
    abbrev parent : Known
    parent = called.top

    abbrev word : ℕ
    word = thread_owner parent.note.cell parent.note.forks

    abbrev store : Step
    store = CellStore cell words.Owner word

    forks : serves.Forks p d u.names (is_held u.held) (ends_of x.machine) (now x u) called.top called.frames called.below called.lower
    forks = (calling.served p d limits image input x u ready 0x10 called).forks refl

    is_fork : IsAtFork p d parent
    is_fork = (record { own = forks.next; child = Some forks.child; added = None; printed = None }, forks.moves, λ e. absurd (let never : ⊥ = cc in never))

    for_child : is_counter word ≡ false
    for_child = thread_kind parent.note.cell parent.note.forks

    few_of : parent.note.forks < 2 ^ 32
    few_of =
        let note_is = top_note p d limits image input x u ready 0x10 called in
        let is = note_is.forks in
        let few = note_is.few_forks in
        let most = ready.fits.holds.few_cells in
        omega (arith, is, few, most)

    child_is_safe : Safe (meaning p d limits) u store
    child_is_safe = child_safe (meaning p d limits) u cell parent called.below here bag.drawn bag.child called.is is_fork (calling.cell_below p d limits image input x u ready 0x10 called) few_of

    -- the view then
    abbrev w' : View
    w' = record u { drawn = []; child = Some (record { cell = cell; stands = false }); owners = (cell, word) ∷ u.owners; names = (Future (parent.path ++ parent.note.forks ∷ []), cell) ∷ u.names }

    child_is : after p d u store Done ≡ w'
    unfolding after view_after
    child_is =
        ap (λ (b : Bool). record (views.named_cell b cell word u) { threads = owner_after p d b u.threads }) for_child
        ∙ ap (λ (ts : List Known). record u { drawn = views.without_number cell u.drawn; child = Some (record { cell = cell; stands = false }); owners = (cell, word) ∷ u.owners; names = views.with_name false cell ts u.names }) called.is
        ∙ ap (λ (ns : List ℕ). record u { drawn = ns; child = Some (record { cell = cell; stands = false }); owners = (cell, word) ∷ u.owners; names = (Future (parent.path ++ parent.note.forks ∷ []), cell) ∷ u.names }) (ap (views.without_number cell) bag.drawn ∙ none_drawn cell)

    child_event : (a : Answer) → Promises u store a → Event p d u store a (after p d u store a)
    child_event Done told = let sizes = numbers p d u store Done in subst (λ (b : Bool). owner_event p d b word u (after p d u store Done)) (sym for_child) (record { threads = ap (λ (v : View). v.threads) child_is; items = sizes.items; bytes = sizes.frame_bytes })
    child_event (Number k) told = absurd told
    child_event (Looked k cargo) told = absurd told
    child_event (Took chain cargo) told = absurd told

    pub child_asks : MayAsk p d limits u store
    child_asks = record { safe = child_is_safe; event = child_event }

    child_leaves : StepLeaves u w'
    child_leaves = record {
      untouched = record { number = refl; workers = refl; cells = refl; each = refl; held = refl; exported = refl; away = refl; items = refl; frame_bytes = refl; names = λ name c in'. contains_later (name, c) (Future (parent.path ++ parent.note.forks ∷ []), cell) u.names in' };
      words = refl;
      ready = refl;
      asked = refl;
    }

    name_there : Contains w'.names (Future (child_path parent), cell)
    name_there =
        subst (λ (k : ℕ). Contains w'.names (Future (parent.path ++ k ∷ []), cell)) (top_note p d limits image input x u ready 0x10 called).forks (contains_here (Future (parent.path ++ parent.note.forks ∷ []), cell) u.names)

    child_fits : IsCalm x.phase → AreWords (word_in u.held) → FitsIn p d limits image input (with_phase (phases.Beginning cell) x) w'
    child_fits calm words_are =
        fits_phase p d limits image input x (phases.Beginning cell) u w' calm (record { none = refl; most = λ n. refl; taking = refl }) refl child_leaves ready.fits (
          here,
          (parent, called.below, called.is, name_there),
          (
            at,
            called_kept p d x (with_phase (phases.Beginning cell) x) u w' ready.fits.is_for.code.accepted words_are refl refl child_leaves.untouched refl 0x10 called,
            record { chains = bag.chains; hand = bag.hand; share = bag.share; drawn = refl; child = refl; answering = bag.answering; given = bag.given; root = bag.root },
          ),
        )

    child_named : named cell x ≡ with_phase (phases.Beginning cell) x
    child_named = ap (λ (b : Bool). if b then counter_made cell (own_note x) x else with_phase (phases.Beginning cell) x) (ne_eqb x.machine.pc 0x50 (λ e. absurd (omega (arith, at, e))))

  -- ---- either

  module _ (cell : ℕ) where
    abbrev φ : Phase
    φ = phases.Naming cell

    may_by : (x : Automaton) (u : View) → IsReady p d limits image input x u → cell < u.cells → Draws p d limits x u (record (units 1) { drawn = cell ∷ [] }) → MayPhase (λ s. MayAsk p d limits u s) (λ s a. Promises u s a) (λ slot chain. goes_with p u slot chain) image input x φ
    may_by x u ready here (inl (at, called, bag)) = (
      has_top x u ready 0x10 called,
      few_counters x u ready 0x10 called,
      subst (λ (n : ℕ). MayAsk p d limits u (CellStore cell words.Owner n)) (sym (word_is x u ready 0x10 called false (ne_eqb x.machine.pc 0x50 (λ e. absurd (omega (arith, at, e)))))) (child_asks cell x u ready called here at bag),
    )
    may_by x u ready here (inr (at, called, bag)) = (
      has_top x u ready 0x50 called,
      few_counters x u ready 0x50 called,
      subst (λ (n : ℕ). MayAsk p d limits u (CellStore cell words.Owner n)) (sym (word_is x u ready 0x50 called true (eq-eqb x.machine.pc 0x50 at))) (counter_asks cell x u ready called here at bag),
    )

    may : MayLaw p d limits image input φ
    may x u phase ready = let (here, draws) = by_in p d limits image input x u ready φ phase in may_by x u ready here draws

    keeps_by : (x y : Automaton) (u v : View) → IsReady p d limits image input x u → IsCalm x.phase → cell < u.cells → Draws p d limits x u (record (units 1) { drawn = cell ∷ [] }) → Told p d limits u (CellStore cell words.Owner (owner_word (owner_of x))) Done v → y ≡ named cell x → FitsIn p d limits image input y v
    keeps_by x y u v ready calm here (inl (at, called, bag)) told is =
        let word = word_is x u ready 0x10 called false (ne_eqb x.machine.pc 0x50 (λ e. absurd (omega (arith, at, e)))) in
        let view : v ≡ w' cell x u ready called here at bag = told.is ∙ ap (λ (n : ℕ). after p d u (CellStore cell words.Owner n) Done) word ∙ child_is cell x u ready called here at bag in
        fits_as p d limits image input y (with_phase (phases.Beginning cell) x) v (w' cell x u ready called here at bag) (is ∙ child_named cell x u ready called here at bag) view
        (child_fits cell x u ready called here at bag calm (words_behind x u ready 0x10 called v (w' cell x u ready called here at bag) (CellStore cell words.Owner (owner_word (owner_of x))) Done told view))
    keeps_by x y u v ready calm here (inr (at, called, bag)) told is =
        let word = word_is x u ready 0x50 called true (eq-eqb x.machine.pc 0x50 at) in
        let view : v ≡ w cell x u ready called here at bag = told.is ∙ ap (λ (n : ℕ). after p d u (CellStore cell words.Owner n) Done) word ∙ named_is cell x u ready called here at bag in
        fits_as p d limits image input y (goes_to (m cell x u ready called here at bag) (notes cell x u ready called here at bag) phases.Polling x) v (w cell x u ready called here at bag) (is ∙ counter_named cell x u ready called here at bag) view
        (counter_fits cell x u ready called here at bag calm)

    keeps : KeepsLaw p d limits image input φ
    keeps x y old v turn phase ready made (told, (is, ran)) =
        let u = before p d x old in
        let (here, draws) = by_in p d limits image input x u ready φ phase in
        fits_here p d limits image input y v (keeps_by x y u v ready (calm_in p d limits image input x u ready φ phase (record { none = refl; most = λ n. refl; taking = refl })) here draws told is)

    pub naming : PhaseLaw p d limits image input φ
    naming = record { may = may; keeps = keeps }
