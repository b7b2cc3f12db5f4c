-- A worker that runs is at the entry that ends its thread, or at the one that polls: ends_there and polls_there.
use Rattle.st_base.specs.Entry.{entry_at}
use Rattle.st_base.specs.declared.chain.Frame.{Frame}
use Rattle.st_base.specs.declared.entry.Entry.{Entry}
use Rattle.st_base.specs.declared.image.Image.{Image}
use Rattle.st_base.specs.declared.limits.Limits.{Limits}
use Rattle.st_base.specs.declared.reg.Reg.TheVariants as registers
use Rattle.st_calls.proofs.Ended as gone
use Rattle.st_calls.proofs.Phase.{calm_in, words_after}
use Rattle.st_calls.proofs.Tops as tops
use Rattle.st_calls.proofs.Turning.{IsCalm, fits_as, fits_phase}
use Rattle.st_calls.specs.Calling.{RunningAt}
use Rattle.st_chain.proofs.Suspending.{notes_length}
use Rattle.st_chain.specs.Taking.{notes_of}
use Rattle.st_chain.specs.Walk.{is_held, word_in}
use Rattle.st_fits.specs.Bags.{HasBag, units}
use Rattle.st_fits.specs.Before.{before, after}
use Rattle.st_fits.specs.Fits.{FitsIn, top_cell}
use Rattle.st_fits.specs.Laws.{IsReady, MayAsk, Told, Does}
use Rattle.st_fits.specs.Threads.{IsAtEnd, Lasts, Stands, ends_of, now}
use Rattle.st_kept.proofs.Standing.{lasts_kept}
use Rattle.st_kept.proofs.Stepping.{no_item_asks, no_item_threads, numbers, untouched}
use Rattle.st_kept.specs.Keeping.{Untouched}
use Rattle.st_model.specs.Memory.{Data, data_of}
use Rattle.st_model.specs.declared.program.Program.{Program}
use Rattle.st_phases.specs.Automaton.{own_note, with_phase}
use Rattle.st_phases.specs.Calls as calls
use Rattle.st_phases.specs.Calls.{MayEnd, MayGoOn}
use Rattle.st_phases.specs.declared.automaton.Automaton.{Automaton}
use Rattle.st_phases.specs.declared.phase.Phase.TheVariants as phases
use Rattle.st_phases.specs.declared.turn.Turn.{Turn}
use Rattle.st_run.specs.Meanings.{meaning}
use Rattle.st_settled.proofs.Late.{fits_here}
use Rattle.st_standing.specs.Standing.{IsLast}
use Rattle.st_step.specs.Moves.{register}
use Rattle.st_step.specs.Runs.{AreWords}
use Rattle.st_words.proofs.Ending.{value_safe}
use Rattle.st_words.proofs.Lists.{contains_here}
use Rattle.st_words.specs.Safely.{Safe}
use Rattle.st_words.specs.Steps.{CellStore, Done, HasThread, Step}
use Rattle.st_words.specs.Views.{other_cell, view_after}
use Rattle.st_words.specs.declared.view.CellWord.TheVariants as words
use Rattle.st_words.specs.declared.view.Known.{Known}
use Rattle.st_words.specs.declared.view.View.{View}
use Rattle.std.proofs.Common.{◌≡◌, inl, inr, ℕ, List, [], ◌∷◌, Option, refl, sym, ap, ◌∙◌, subst, arith, ◌⊎◌, ◌<◌, ◌≤◌, length}
use Rattle.std.specs.List.{Contains, filter}

module _ (p : Program) (d : Data) (limits : Limits) (image : Image) (input : List ℕ) where
  abbrev Ready : Automaton → View → Type 0
  Ready x u = IsReady p d limits image input x u

  running_calm : IsCalm phases.Running
  running_calm = record { none = refl; most = λ n. refl; taking = refl }

  -- there is room for the notes of its threads
  pub has_room : (x : Automaton) (u : View) → Ready x u → length x.threads.notes ≤ x.threads.room
  has_room x u ready =
      let few = ready.behind.few_threads in
      let size : length x.threads.notes ≡ length u.threads = ap length ready.fits.holds.notes ∙ notes_length u.threads in
      let room : x.threads.room ≡ u.cells = ready.fits.is_for.room ∙ sym ready.fits.is_for.cells ∙ ready.fits.holds.cells in
      omega (arith, few, size, room)

  -- ---- its thread ends

  -- by the entry at which it is
  ends_by : (x : Automaton) (u : View) (cell value : ℕ) (ks : List Known) (rest : List (List Frame)) → IsLast p u.names (is_held u.held) (now x u) cell ks rest → (x.machine.pc ≡ 0x20) ⊎ (x.machine.pc ≡ 0x30)
  ends_by x u cell value [] [] last = inr last
  ends_by x u cell value [] (fs ∷ rest) last = absurd last
  ends_by x u cell value (k ∷ ks) [] last = absurd last
  ends_by x u cell value (k ∷ ks) (fs ∷ rest) last = inl last.0

  module _ (x : Automaton) (u : View) (ready : Ready x u) (lasts : Lasts p d x u (ends_of x.machine) (now x u)) (bag : HasBag (units 1) u) where
    abbrev value : ℕ
    value = lasts.0

    abbrev s : Stands (IsAtEnd p d u (ends_of x.machine) (now x u) value) x u (ends_of x.machine) []
    s = lasts.1

    abbrev c : ℕ
    c = (own_note x).cell

    there : (x.machine.pc ≡ 0x20) ⊎ (x.machine.pc ≡ 0x30)
    there = ends_by x u s.top.note.cell value s.below s.lower s.at.3.last

    abbrev a0 : ℕ
    a0 = register x.machine registers.A0

    cell_is : c ≡ s.top.note.cell
    cell_is = gone.cell_is p d limits image input x u ready value s

    may_end : MayEnd (λ t. MayAsk p d limits u t) x
    may_end = record { has = record { some = tops.some_is x.threads.notes (notes_of s.below) s.top.note (gone.notes_split p d limits image input x u ready value s); room = has_room x u ready }; may = no_item_asks p d limits u (CellStore c words.Value a0) tt safe }
      where
        safe : Safe (meaning p d limits) u (CellStore c words.Value a0)
        safe =
            subst (λ (k : ℕ). Safe (meaning p d limits) u (CellStore k words.Value a0)) (sym cell_is)
            (subst (λ (n : ℕ). Safe (meaning p d limits) u (CellStore s.top.note.cell words.Value n)) (sym (gone.a0_is p d limits image input x u ready value s))
            (value_safe (meaning p d limits) u s.top s.below value (subst (λ (k : ℕ). k < u.cells) cell_is (gone.own_below p d limits image input x u ready value s)) s.is s.at.2
            (λ full. ready.tidy.numbers.unfinished s.top.note.cell (subst (λ (k : ℕ). HasThread u k) cell_is (gone.thread_here p d limits image input x u ready value s)) full)))

    may_serve : MayGoOn (λ t. MayAsk p d limits u t) (data_of image.rodata input) x (entry_at x.machine.pc)
    may_serve = elim there [
      | inl pc ↦ subst (λ (o : Option Entry). MayGoOn (λ t. MayAsk p d limits u t) (data_of image.rodata input) x o) (sym (ap entry_at pc)) may_end
      | inr pc ↦ subst (λ (o : Option Entry). MayGoOn (λ t. MayAsk p d limits u t) (data_of image.rodata input) x o) (sym (ap entry_at pc)) may_end
    ]

    abbrev store : Step
    store = CellStore c words.Value a0

    abbrev stored : View
    stored = after p d u store Done

    still_bag : HasBag (units 1) stored
    unfolding after view_after
    still_bag = record { chains = bag.chains; hand = bag.hand; share = bag.share; drawn = bag.drawn; child = bag.child; answering = bag.answering; given = bag.given; root = bag.root }

    value_there : Contains stored.valued (c, a0)
    unfolding after view_after
    value_there = contains_here (c, a0) (filter (other_cell c) u.valued)

    same_ready : (stored.ready ≡ u.ready) × (stored.asked ≡ u.asked)
    unfolding after view_after
    same_ready = (refl, refl)

    off : Untouched u stored
    off = untouched p d u store Done tt

    threads : stored.threads ≡ u.threads
    threads = no_item_threads p d u store Done tt

    finds : (v : View) → IsCalm x.phase → Told p d limits u store Done v → FitsIn p d limits image input (with_phase phases.Finding x) stored
    finds v calm told =
        fits_phase p d limits image input x phases.Finding u stored calm (record { none = refl; most = λ n. refl; taking = refl }) threads (record { untouched = off; words = (numbers p d u store Done).words; ready = same_ready.0; asked = same_ready.1 }) ready.fits
        (record {
          lasts =
              lasts_kept p d x (with_phase phases.Finding x) u stored ready.fits.is_for.code.accepted (subst (λ (w : View). AreWords (word_in w.held)) told.is (words_after p d limits image input x u ready v told.behind)) refl refl off threads lasts;
          value = subst (λ (k : ℕ). Contains stored.valued (k, a0)) (cell_is ∙ sym (ap (top_cell p d limits) (threads ∙ s.is))) value_there;
          bag = still_bag;
        })

    -- what the worker has done
    did : (y : Automaton) (old v : View) (turn : Turn) → Does p d limits image input u old x turn y v phases.Running → Told p d limits u store Done v × (y ≡ with_phase phases.Finding x)
    did y old v turn does = elim there [
      | inl pc ↦ ends_did (subst (λ (o : Option Entry). calls.Goes (λ s a b. Told p d limits u s a b) old (data_of image.rodata input) x o turn y v) (ap entry_at pc) does)
      | inr pc ↦ ends_did (subst (λ (o : Option Entry). calls.Goes (λ s a b. Told p d limits u s a b) old (data_of image.rodata input) x o turn y v) (ap entry_at pc) does)
    ]
      where
        ends_did : calls.Ends (λ s a b. Told p d limits u s a b) old x turn y v → Told p d limits u store Done v × (y ≡ with_phase phases.Finding x)
        ends_did (told, is, ran) = (told, is)

  pub ends_there : RunningAt p d limits image input (λ x u. Lasts p d x u (ends_of x.machine) (now x u))
  ends_there = record {
    may = λ x u phase ready lasts bag. may_serve x u ready lasts bag;
    keeps = λ x y old v turn phase ready lasts bag made does.
        let u = before p d x old in
        let (told, is) = did x u ready lasts bag y old v turn does in
        fits_here p d limits image input y v (fits_as p d limits image input y (with_phase phases.Finding x) v (stored x u ready lasts bag) is told.is (finds x u ready lasts bag v (calm_in p d limits image input x u ready phases.Running phase running_calm) told));
  }
