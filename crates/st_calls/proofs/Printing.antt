-- A worker that runs is at the entry that prints, the root's thread has called it, and there is room: the byte is printed, with its item. prints_may and prints_on.
use Rattle.st_base.specs.declared.chain.Note.{Note}
use Rattle.st_base.specs.declared.image.Image.{Image}
use Rattle.st_base.specs.declared.limits.Limits.{Limits}
use Rattle.st_base.specs.declared.reg.Reg.TheVariants as registers
use Rattle.st_calls.proofs.Back.{at_back, back_state, Returns, item_made, returns_fit, top_note}
use Rattle.st_calls.proofs.Called as calling
use Rattle.st_calls.proofs.Making.{note_went}
use Rattle.st_calls.proofs.Naming as naming
use Rattle.st_calls.proofs.Tops as tops
use Rattle.st_calls.proofs.Turning.{IsCalm, fits_as, goes_to}
use Rattle.st_calls.specs.Calling.{PrintsMay, PrintsOn}
use Rattle.st_chain.specs.Taking.{notes_of}
use Rattle.st_chain.specs.Walk.{is_held, word_in}
use Rattle.st_fits.specs.Bags.{HasBag, units}
use Rattle.st_fits.specs.Before.{before, after}
use Rattle.st_calls.proofs.Phase.{calm_in}
use Rattle.st_fits.specs.Fits.{Fits, FitsIn}
use Rattle.st_fits.specs.Laws.{IsReady, MayAsk, Told}
use Rattle.st_fits.specs.Threads.{IsCalled, ends_of, now}
use Rattle.st_kept.proofs.Stepping.{numbers}
use Rattle.st_made.specs.Events.{GoesOn, PrintsWord}
use Rattle.st_made.specs.Items.{IsLive, went}
use Rattle.st_model.specs.Heap.{Change}
use Rattle.st_model.specs.Memory.{Data}
use Rattle.st_model.specs.declared.program.Program.{Program}
use Rattle.st_phases.specs.Automaton.{back, own_note, replaced}
use Rattle.st_phases.specs.Running.{out_step, has_printed, is_root}
use Rattle.st_phases.specs.declared.automaton.Automaton.{Automaton}
use Rattle.st_phases.specs.declared.phase.Phase.TheVariants as phases
use Rattle.st_run.specs.Behind.{NoteIs}
use Rattle.st_run.specs.Meanings.{meaning}
use Rattle.st_serving.specs.Serving as serves
use Rattle.st_settled.proofs.Late.{fits_here}
use Rattle.st_standing.specs.Standing.{StandsOn}
use Rattle.st_step.specs.Moves.{at_place, register}
use Rattle.st_step.specs.declared.state.State.{State}
use Rattle.st_words.proofs.Ending.{out_safe}
use Rattle.st_words.proofs.Lists.{contains_here}
use Rattle.st_words.specs.Encodings.{printed}
use Rattle.st_words.specs.Safely.{Safe}
use Rattle.st_words.specs.Steps.{Answer, Done, Step}
use Rattle.st_words.specs.Views.{view_after}
use Rattle.st_words.specs.declared.view.Known.{Known}
use Rattle.st_words.specs.declared.view.View.{View}
use Rattle.std.proofs.Common.{inl, inr, ◌≡◌, ℕ, ◌+◌, ◌<◌, ◌%◌, true, List, [], ◌∷◌, Some, None, refl, sym, ap, ◌∙◌, subst, arith, ◌++◌, ◌⊎◌}
use Rattle.std.proofs.lemmas.Bool.{eqb-true}
use Rattle.std.specs.List.{Contains}

module _ (p : Program) (d : Data) (limits : Limits) (image : Image) (input : List ℕ) where
  module _ (x : Automaton) (u : View) (ready : IsReady p d limits image input x u) (called : IsCalled p d 0x90 x u) (bag : HasBag (units 1) u) (root : is_root x ≡ true) (room : (own_note x).bytes < 1048576) where
    abbrev top : Known
    top = called.top

    abbrev byte : ℕ
    byte = register x.machine registers.A0 % 256

    abbrev Prints : Type 0
    Prints = serves.Prints p d u.names (is_held u.held) (ends_of x.machine) (now x u) called.top called.frames called.below called.lower

    own_is : own_note x ≡ top.note
    own_is = naming.own_is p d limits image input x u ready 0x90 called

    note_is : NoteIs u.cells top
    note_is = top_note p d limits image input x u ready 0x90 called

    cell_zero : top.note.cell ≡ 0
    cell_zero = ap (λ (n : Note). n.cell) (sym own_is) ∙ eqb-true (own_note x).cell 0 root

    bytes_are : (own_note x).bytes ≡ top.thread.bytes
    bytes_are = ap (λ (n : Note). n.bytes) own_is ∙ note_is.bytes

    -- it is the root's, which has room
    prints_by : Prints ⊎ (serves.IsFull p d u.names (is_held u.held) (ends_of x.machine) (now x u) called.top called.frames called.below called.lower ⊎ serves.PutsInChild p d u.names (is_held u.held) (ends_of x.machine) (now x u) called.top called.frames called.below called.lower called.at.1.item.line) → Prints
    prints_by (inl prints) = prints
    prints_by (inr (inl full)) =
        let many = full.many in
        let same = bytes_are in
        absurd (omega (arith, many, same, room))
    prints_by (inr (inr child)) = absurd (child.child (note_is.root cell_zero))

    pub prints : Prints
    prints = prints_by ((calling.served p d limits image input x u ready 0x90 called).prints refl)

    abbrev step : Step
    step = out_step x

    abbrev change : Change
    change = record { own = prints.next; child = None; added = None; printed = Some byte }

    safe : Safe (meaning p d limits) u step
    safe =
        out_safe (meaning p d limits) u (own_note x).bytes (own_note x).forks byte room
        (top, subst (λ (ts : List Known). Contains ts top) (sym called.is) (contains_here top called.below), cell_zero) (omega arith)

    printed_threads : (a : Answer) → (after p d u step a).threads ≡ went top prints.next ∷ called.below
    unfolding after
    printed_threads a = item_made p d limits image input x u ready 0x90 called change prints.moves

    goes_on : (a : Answer) → GoesOn p d u (after p d u step a) (PrintsWord (own_note x).bytes (printed (own_note x).forks byte))
    goes_on a =
        let counts = prints.counts in
        let counters = counts.counters_are in
        let sizes = numbers p d u step a in
        let forks : (own_note x).forks ≡ top.thread.forks = ap (λ (n : Note). n.forks) own_is ∙ note_is.forks in
        record {
          top = top;
          below = called.below;
          change = change;
          is = called.is;
          begun = called.at.0.begun;
          can = prints.moves;
          sort = record {
            root = prints.root;
            place = ap (λ (n : Note). n.bytes) own_is;
            byte = byte;
            printed = refl;
            word = ap (λ (k : ℕ). printed k byte) forks;
            child = refl;
            added = refl;
            counters = omega (arith, counters);
            bytes = counts.bytes_are;
            live = subst IsLive (sym counts.going) tt;
          };
          threads = printed_threads a;
          items = sizes.items;
          bytes = sizes.frame_bytes;
        }

    pub prints_ask : MayAsk p d limits u step
    prints_ask = record { safe = safe; event = λ a told. goes_on a }

    -- ---- the thread goes on

    abbrev w : View
    w = record u { threads = went top prints.next ∷ called.below }

    view_is : after p d u step Done ≡ w
    unfolding after view_after
    view_is = ap (λ (ts : List Known). record u { threads = ts }) (item_made p d limits image input x u ready 0x90 called change prints.moves)

    abbrev m : State
    m = at_place (back x.machine) x.machine

    abbrev note : Note
    note = record (own_note x) { bytes = (own_note x).bytes + 1 }

    abbrev notes : List Note
    notes = replaced note x.threads.notes

    went_note : note ≡ (went top prints.next).note
    went_note =
        let f : top.note.forks ≡ top.note.forks + 0 = omega arith in
        let c : top.note.counters ≡ top.note.counters + 0 = omega arith in
        ap (λ (k : Note). record k { bytes = k.bytes + 1 }) own_is ∙ (λ i. record { cell = top.note.cell; forks = f i; counters = c i; bytes = top.note.bytes + 1 }) ∙ sym (note_went top prints.next u.cells 0 0 1 note_is prints.counts)

    returns : Returns p d limits image input x u ready 0x90 called m notes w prints.next
    returns = record {
      like = at_back x.machine (back x.machine) ready.fits.holds.registers ready.fits.holds.values;
      ends = refl;
      leaves = record { untouched = record { number = refl; workers = refl; cells = refl; each = refl; held = refl; exported = refl; away = refl; items = refl; frame_bytes = refl; names = λ name c in'. in' }; words = refl; ready = refl; asked = refl };
      threads = refl;
      going = prints.counts.going;
      acts = calling.prints_acts p d limits image input x u ready 0x90 called refl prints;
      stands =
          subst (λ (n : State). StandsOn p u.names (is_held u.held) (ends_of x.machine) (record { state = n; word = word_in u.held }) (went called.top prints.next) called.frames called.below called.lower) (sym (back_state p d limits image input x u ready 0x90 called)) prints.goes;
      notes_are = tops.replaced_is x.threads.notes (notes_of called.below) called.top.note (naming.notes_split p d limits image input x u ready 0x90 called) note ∙ ap (λ (k : Note). notes_of called.below ++ k ∷ []) went_note;
    }

    prints_fit : IsCalm x.phase → FitsIn p d limits image input (goes_to m notes phases.Polling x) w
    prints_fit calm =
        returns_fit p d limits image input x u ready 0x90 called m notes phases.Polling w prints.next returns calm (record { none = refl; most = λ n. refl; taking = refl })
        (λ polls. (polls, record { chains = bag.chains; hand = bag.hand; share = bag.share; drawn = bag.drawn; child = bag.child; answering = bag.answering; given = bag.given; root = bag.root }))

    pub printed_fits : (y : Automaton) (v : View) → IsCalm x.phase → Told p d limits u step Done v → y ≡ has_printed x → Fits p d limits image input y v
    printed_fits y v calm told is = fits_here p d limits image input y v (fits_as p d limits image input y (goes_to m notes phases.Polling x) v w is (told.is ∙ view_is) (prints_fit calm))

  pub prints_may : PrintsMay p d limits image input
  prints_may x u phase ready called bag root room = prints_ask x u ready called bag root room

  pub prints_on : PrintsOn p d limits image input
  prints_on x y old v phase ready called bag made root room told is =
      printed_fits x (before p d x old) ready called bag root room y v (calm_in p d limits image input x (before p d x old) ready phases.Running phase (record { none = refl; most = λ n. refl; taking = refl })) told is
