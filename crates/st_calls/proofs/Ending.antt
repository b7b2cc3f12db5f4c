-- The phases of a thread's end: finding (its State word is read), filling (its cell becomes full, and it goes out) and ending (its Standing word is stored).
use Rattle.st_base.specs.declared.chain.Waiting.TheVariants as waits
use Rattle.st_base.specs.declared.image.Image.{Image}
use Rattle.st_base.specs.declared.limits.Limits.{Limits}
use Rattle.st_base.specs.declared.reg.Reg.TheVariants as registers
use Rattle.st_calls.proofs.Ended as gone
use Rattle.st_calls.proofs.Phase.{by_in, calm_in, asks_load, words_after}
use Rattle.st_calls.proofs.Tops as tops
use Rattle.st_calls.proofs.Turning.{IsCalm, StepLeaves, fits_as, fits_phase}
use Rattle.st_calls.proofs.Views.{SameHand, bag_same, leaves_off, load_same, tried_same, tried_threads}
use Rattle.st_chain.proofs.ForkPlaces.{forks_rise}
use Rattle.st_chain.specs.Taking.{notes_of}
use Rattle.st_chain.specs.Walk.{word_in}
use Rattle.st_fits.specs.Bags.{units, HasBag, own_and}
use Rattle.st_fits.specs.Before.{before, after, without_top, change_after, future_after, state_after}
use Rattle.st_fits.specs.Fits.{Ends, FitsIn, top_cell, ByPhase}
use Rattle.st_fits.specs.Laws.{IsReady, KeepsLaw, MayAsk, MayLaw, PhaseLaw, Told}
use Rattle.st_fits.specs.Threads.{IsAtEnd, Stands, ends_of, now, Rests}
use Rattle.st_kept.proofs.Standing.{lasts_kept, rests_kept}
use Rattle.st_kept.proofs.Stepping.{no_item_threads, numbers, untouched, no_item_asks}
use Rattle.st_kept.specs.Keeping.{Untouched}
use Rattle.st_made.specs.Events.{EndsItem, Event, change_event, future_event, state_event}
use Rattle.st_model.specs.Memory.{Data}
use Rattle.st_model.specs.declared.program.Program.{Program}
use Rattle.st_phases.specs.Automaton.{own_note, popped, with_phase, unit_or_poll, wakes}
use Rattle.st_phases.specs.Ending.{below_goes_on, filled, rest_of}
use Rattle.st_phases.specs.declared.automaton.Automaton.{Automaton}
use Rattle.st_phases.specs.declared.phase.Phase.TheVariants as phases
use Rattle.st_phases.specs.declared.phase.Phase.{Phase}
use Rattle.st_phases.specs.declared.phase.Rest.{Rest}
use Rattle.st_run.specs.Meanings.{meaning}
use Rattle.st_settled.proofs.Late.{fits_here}
use Rattle.st_step.specs.Moves.{register}
use Rattle.st_step.specs.Runs.{AreWords}
use Rattle.st_words.proofs.Ending.{fill_safe, ended_safe}
use Rattle.st_words.specs.Encodings.{full_word, ended}
use Rattle.st_words.specs.Laws.{TakesForFuture}
use Rattle.st_words.specs.Promises.{Promises, StateIs}
use Rattle.st_words.specs.Safely.{Safe}
use Rattle.st_words.specs.Steps.{Answer, CellChange, CellLoad, Done, HasThread, Looked, Number, Step, Took, CellStore, some_thread}
use Rattle.st_words.specs.Views as views
use Rattle.st_words.specs.Views.{view_after}
use Rattle.st_words.specs.declared.view.CellWord.TheVariants as words
use Rattle.st_words.specs.declared.view.Known.{Known}
use Rattle.st_words.specs.declared.view.View.{View}
use Rattle.std.proofs.Common.{◌≡◌, ◌≢◌, inl, inr, ℕ, Bool, true, false, List, [], ◌∷◌, Some, refl, sym, ap, ◌∙◌, subst, ◌<◌, ◌≤◌, ◌==◌, eq-eqb, ◌+◌, ◌++◌, None}
use Rattle.std.proofs.lemmas.Bool.{eqb-true, eqb-false}
use Rattle.std.specs.List.{Contains}
use Rattle.std.specs.Prelude.{if◌then◌else◌}

module _ (p : Program) (d : Data) (limits : Limits) (image : Image) (input : List ℕ) where
  module _ (x : Automaton) (u : View) (ready : IsReady p d limits image input x u) (ends : Ends p d limits x u) where
    abbrev value : ℕ
    value = ends.lasts.0

    abbrev s : Stands (IsAtEnd p d u (ends_of x.machine) (now x u) value) x u (ends_of x.machine) []
    s = ends.lasts.1

    abbrev c : ℕ
    c = (own_note x).cell

    own_there : HasThread u c
    own_there = gone.thread_here p d limits image input x u ready value s

    has_some : x.threads.notes ≢ []
    has_some = tops.some_is x.threads.notes (notes_of s.below) s.top.note (gone.notes_split p d limits image input x u ready value s)

    below : c < u.cells
    below = gone.own_below p d limits image input x u ready value s

    -- it is still there
    still_ends : (φ : Phase) (v : View) → SameHand u v → v.threads ≡ u.threads → Untouched u v → AreWords (word_in v.held) → Ends p d limits (with_phase φ x) v
    still_ends φ v same threads off words_are = record {
      lasts = lasts_kept p d x (with_phase φ x) u v ready.fits.is_for.code.accepted words_are refl refl off threads ends.lasts;
      value = subst (λ (vs : List (ℕ × ℕ)). Contains vs (top_cell p d limits v.threads, register x.machine registers.A0)) (sym same.valued) (subst (λ (ts : List Known). Contains u.valued (top_cell p d limits ts, register x.machine registers.A0)) (sym threads) ends.value);
      bag = bag_same (units 1) u v same ends.bag;
    }

    -- a State word that isn't full is that of a waiter's number, or 0
    few_by : (found : ℕ) → StateIs u c found → found ≢ full_word → found ≤ u.cells
    few_by found is not_full = elim (is.future (inr own_there)) [ inl e ↦ absurd (not_full e) | inr few ↦ few ]

    -- to the phase in which its cell becomes full
    to_filling : (found : ℕ) (v : View) (off : Untouched u v) → IsCalm x.phase → SameHand u v → StepLeaves u v → v.threads ≡ u.threads → AreWords (word_in v.held) → StateIs u c found → found ≢ full_word → FitsIn p d limits image input (with_phase (phases.Filling found) x) v
    to_filling found v off calm same leaves threads words_are state not_full =
        fits_phase p d limits image input x (phases.Filling found) u v calm (record { none = refl; most = λ n. refl; taking = refl }) threads leaves ready.fits
        (still_ends (phases.Filling found) v same threads off words_are, not_full, subst (λ (n : ℕ). found ≤ n) (sym off.cells) (few_by found state not_full))

    -- ---- its cell becomes full

    module _ (seen : ℕ) (not_full : seen ≢ full_word) where
      abbrev fill : Step
      fill = CellChange c seen full_word

      abbrev after_fill : ℕ → View
      after_fill found = after p d u fill (Number found)

      takes : TakesForFuture u c
      takes = ready.futures c own_there

      filled_is : (found : ℕ) → found ≡ seen → after_fill found ≡ record u { full = c ∷ u.full; filled = c ∷ u.filled; hand = views.followed (Some (waits.Touch c)) seen u.hand; threads = without_top p d u.threads }
      unfolding after view_after
      filled_is found same =
          ap (λ (b : Bool). record (views.cell_changed b c seen full_word found u) { threads = change_after p d b c full_word u }) (eq-eqb found seen same)
          ∙ ap (λ (b : Bool). record (views.changed_by b c seen full_word u) { threads = state_after p d b full_word u.threads }) takes
          ∙ ap (λ (b : Bool). record (views.changed_future c seen full_word b u) { threads = future_after p d b u.threads }) (eq-eqb full_word full_word refl)

      gone_threads : (found : ℕ) → found ≡ seen → (after_fill found).threads ≡ s.below
      gone_threads found same = ap (λ (v : View). v.threads) (filled_is found same) ∙ ap (without_top p d) s.is

      ends_item : (found : ℕ) → found ≡ seen → EndsItem p d c u (after_fill found)
      ends_item found same =
          let sizes = numbers p d u fill (Number found) in
          record {
            top = s.top;
            below = s.below;
            value = value;
            is = s.is;
            begun = s.at.0.begun;
            cell = sym (gone.cell_is p d limits image input x u ready value s);
            stored = value_stored_there;
            can = s.at.2;
            threads = gone_threads found same;
            items = sizes.items;
            bytes = sizes.frame_bytes;
          }
        where
          value_stored_there : Contains u.valued (c, value)
          value_stored_there =
              subst (λ (n : ℕ). Contains u.valued (c, n)) (gone.a0_is p d limits image input x u ready value s)
              (subst (λ (k : ℕ). Contains u.valued (k, register x.machine registers.A0)) (ap (top_cell p d limits) s.is ∙ sym (gone.cell_is p d limits image input x u ready value s)) ends.value)

      event_by : (found : ℕ) (b : Bool) → (found == seen) ≡ b → change_event p d b c full_word u (after_fill found)
      event_by found true is =
          subst (λ (t : Bool). state_event p d t c full_word u (after_fill found)) (sym takes) (subst (λ (t : Bool). future_event p d t c u (after_fill found)) (sym (eq-eqb full_word full_word refl)) (ends_item found (eqb-true found seen is)))
      event_by found false is = let sizes = numbers p d u fill (Number found) in record { threads = tried_threads p d u c seen full_word found is; items = sizes.items; bytes = sizes.frame_bytes }

      event : (a : Answer) → Promises u fill a → Event p d u fill a (after p d u fill a)
      event (Number found) told = event_by found (found == seen) refl
      event Done told = absurd told
      event (Looked n cargo) told = absurd told
      event (Took chain cargo) told = absurd told

      asks_fill : MayAsk p d limits u fill
      asks_fill = record { safe = safe; event = event }
        where
          cell_is : (own_note x).cell ≡ s.top.note.cell
          cell_is = gone.cell_is p d limits image input x u ready value s

          stored : Contains u.valued (s.top.note.cell, value)
          stored =
              subst (λ (n : ℕ). Contains u.valued (s.top.note.cell, n)) (gone.a0_is p d limits image input x u ready value s)
              (subst (λ (k : ℕ). Contains u.valued (k, register x.machine registers.A0)) (ap (top_cell p d limits) s.is) ends.value)

          safe : Safe (meaning p d limits) u fill
          safe =
              subst (λ (k : ℕ). Safe (meaning p d limits) u (CellChange k seen full_word)) (sym cell_is)
              (fill_safe (meaning p d limits) u s.top s.below seen value (subst (λ (k : ℕ). k < u.cells) cell_is below) s.is s.at.2 stored not_full)

      filled_fits : (found : ℕ) (b : Bool) (v : View) → (found == seen) ≡ b → IsCalm x.phase → seen ≤ u.cells → Told p d limits u fill (Number found) v
          → FitsIn p d limits image input (if b then with_phase (phases.Ending c seen) (below_goes_on image.forks c (popped x)) else with_phase (phases.Filling found) x) (after_fill found)
      filled_fits found true v is calm few told =
          subst (λ (w : View). FitsIn p d limits image input (with_phase (phases.Ending c seen) (below_goes_on image.forks c (popped x))) w)
          (sym (filled_is found (eqb-true found seen is) ∙ ap (λ (ts : List Known). record u { full = c ∷ u.full; filled = c ∷ u.filled; hand = views.followed (Some (waits.Touch c)) seen u.hand; threads = ts }) (ap (without_top p d) s.is)))
          (gone.gone_fits p d limits image input x u ready value s image.forks seen refl ends.bag few calm)
      filled_fits found false v is calm few told =
          let same = tried_same p d u c seen full_word found is in
          to_filling found (after_fill found) (untouched p d u fill (Number found) tt) calm same (leaves_off p d u fill (Number found) tt same) (tried_threads p d u c seen full_word found is)
          (subst (λ (w : View). AreWords (word_in w.held)) told.is (words_after p d limits image input x u ready v told.behind)) told.promised (told.unfilled own_there)

  -- ---- its State word is read

  finding_may : MayLaw p d limits image input phases.Finding
  finding_may x u phase ready =
      let ends = by_in p d limits image input x u ready phases.Finding phase in
      (has_some x u ready ends, asks_load p d limits image input x u ready (own_note x).cell words.State (below x u ready ends))

  finding_keeps : KeepsLaw p d limits image input phases.Finding
  finding_keeps x y old v turn phase ready made (found, told, (is, ran)) =
      let u = before p d x old in
      let ends = by_in p d limits image input x u ready phases.Finding phase in
      let c : ℕ = (own_note x).cell in
      let same = load_same p d u c words.State found tt in
      fits_here p d limits image input y v
      (fits_as p d limits image input y (with_phase (phases.Filling found) x) v (after p d u (CellLoad c words.State) (Number found)) is told.is
      (to_filling x u ready ends found (after p d u (CellLoad c words.State) (Number found)) (untouched p d u (CellLoad c words.State) (Number found) tt) (calm_in p d limits image input x u ready phases.Finding phase (record { none = refl; most = λ n. refl; taking = refl })) same
      (leaves_off p d u (CellLoad c words.State) (Number found) tt same) (no_item_threads p d u (CellLoad c words.State) (Number found) tt)
      (subst (λ (w : View). AreWords (word_in w.held)) told.is (words_after p d limits image input x u ready v told.behind)) told.promised (told.unfilled (own_there x u ready ends))))

  pub finding : PhaseLaw p d limits image input phases.Finding
  finding = record { may = finding_may; keeps = finding_keeps }

  -- ---- its cell becomes full

  module _ (seen : ℕ) where
    filling_may : MayLaw p d limits image input (phases.Filling seen)
    filling_may x u phase ready =
        let (ends, not_full, few) = by_in p d limits image input x u ready (phases.Filling seen) phase in
        (has_some x u ready ends, forks_rise p image ready.fits.is_for.code, asks_fill x u ready ends seen not_full)

    filling_keeps : KeepsLaw p d limits image input (phases.Filling seen)
    filling_keeps x y old v turn phase ready made (found, told, is, ran) =
        let u = before p d x old in
        let (ends, not_full, few) = by_in p d limits image input x u ready (phases.Filling seen) phase in
        fits_here p d limits image input y v
        (fits_as p d limits image input y (filled image.forks seen found x) v (after p d u (CellChange (own_note x).cell seen full_word) (Number found)) is told.is
        (filled_fits x u ready ends seen not_full found (found == seen) v refl (calm_in p d limits image input x u ready (phases.Filling seen) phase (record { none = refl; most = λ n. refl; taking = refl })) few told))

    pub filling : PhaseLaw p d limits image input (phases.Filling seen)
    filling = record { may = filling_may; keeps = filling_keeps }

  -- ---- its Standing word is stored

  module _ (cell head : ℕ) where
    abbrev φ : Phase
    φ = phases.Ending cell head

    abbrev stand : Step
    stand = CellStore cell words.Standing ended

    abbrev rest : Rest
    rest = rest_of cell head

    ending_may : MayLaw p d limits image input φ
    ending_may x u phase ready =
        let (here, filled_here, full, few, hand) = by_in p d limits image input x u ready φ phase in
        no_item_asks p d limits u stand tt (ended_safe (meaning p d limits) u cell here filled_here)

    module _ (x : Automaton) (u v : View) (phase : x.phase ≡ φ) (ready : IsReady p d limits image input x u) (here : cell < u.cells) (full : Contains u.full cell) (few : head ≤ u.cells) (rests : Rests p d x u []) (bag : HasBag (record (units 1) { hand = views.followed (Some (waits.Touch cell)) head [] }) u) (told : Told p d limits u stand Done v) where
      abbrev after_stand : View
      after_stand = after p d u stand Done

      same : SameHand u after_stand
      unfolding after view_after
      same = record {
        chains = ap (views.with_standing cell ended) bag.chains ∙ sym bag.chains;
        hand = refl;
        share = refl;
        drawn = refl;
        child = refl;
        answering = refl;
        given = refl;
        root = refl;
        ready = refl;
        asked = refl;
        valued = refl;
        names = refl;
        owners = λ e in'. in';
        full = λ c in'. in';
      }

      off : Untouched u after_stand
      off = untouched p d u stand Done tt

      threads : after_stand.threads ≡ u.threads
      threads = no_item_threads p d u stand Done tt

      in_hand : HasBag (record (units 1) { hand = views.followed (Some (waits.Touch cell)) head [] }) after_stand
      in_hand = bag_same (record (units 1) { hand = views.followed (Some (waits.Touch cell)) head [] }) u after_stand same bag

      words_are : AreWords (word_in after_stand.held)
      words_are = subst (λ (w : View). AreWords (word_in w.held)) told.is (words_after p d limits image input x u ready v told.behind)

      still : (ψ : Phase) → Rests p d (with_phase ψ x) after_stand []
      still ψ = rests_kept p d x (with_phase ψ x) u after_stand ready.fits.is_for.code.accepted words_are refl refl off threads [] rests

      to_phase : (ψ : Phase) → IsCalm ψ → ByPhase p d limits ψ (with_phase ψ x) after_stand → FitsIn p d limits image input (with_phase ψ x) after_stand
      to_phase ψ is by = fits_phase p d limits image input x ψ u after_stand (calm_in p d limits image input x u ready φ phase (record { none = refl; most = λ n. refl; taking = refl })) is threads (leaves_off p d u stand Done tt same) ready.fits by

      -- nobody waits: what follows is by whether a thread is left
      no_hand : head ≡ 0 → HasBag (units 1) after_stand
      no_hand zero = subst (λ (n : ℕ). HasBag (record (units 1) { hand = views.followed (Some (waits.Touch cell)) n [] }) after_stand) zero in_hand

      by_threads : head ≡ 0 → Rests p d (with_phase phases.Polling x) after_stand [] → FitsIn p d limits image input (with_phase (unit_or_poll x.threads.notes) x) after_stand
      by_threads zero (inl none) =
          let no_notes : x.threads.notes ≡ [] = ready.fits.holds.notes ∙ ap notes_of (sym threads ∙ none.is) in
          let unit : HasBag (own_and 1 after_stand) after_stand = subst (λ (ts : List Known). HasBag (units (some_thread ts + 1)) after_stand) (sym none.is) (no_hand zero) in
          subst (λ (ψ : Phase). FitsIn p d limits image input (with_phase ψ x) after_stand) (sym (ap unit_or_poll no_notes))
          (to_phase (phases.Lowering None) (record { none = refl; most = λ n. refl; taking = refl }) (unit, still (phases.Lowering None)))
      by_threads zero (inr polls) =
          let split : x.threads.notes ≡ notes_of polls.below ++ polls.top.note ∷ [] = ready.fits.holds.notes ∙ ap notes_of (sym threads ∙ polls.is) in
          subst (λ (ψ : Phase). FitsIn p d limits image input (with_phase ψ x) after_stand) (sym (tops.top_polls x.threads.notes (notes_of polls.below) polls.top.note split))
          (to_phase phases.Polling (record { none = refl; most = λ n. refl; taking = refl }) (polls, no_hand zero))

      by_head : (b : Bool) → (head == 0) ≡ b → FitsIn p d limits image input (with_phase (if b then unit_or_poll x.threads.notes else phases.Following rest) x) after_stand
      by_head true zero = by_threads (eqb-true head 0 zero) (still phases.Polling)
      by_head false some =
          to_phase (phases.Following rest) (record { none = refl; most = λ n. refl; taking = refl }) (
            record { here = subst (λ (n : ℕ). cell < n) (sym off.cells) here; next = subst (λ (n : ℕ). head ≤ n) (sym off.cells) few; full = λ e. (same.full cell full, refl) },
            eqb-false head 0 some,
            (still (phases.Following rest), in_hand),
          )

    ending_keeps : KeepsLaw p d limits image input φ
    ending_keeps x y old v turn phase ready made (told, (is, ran)) =
        let u = before p d x old in
        let (here, filled_here, full, few, (rests, bag)) = by_in p d limits image input x u ready φ phase in
        fits_here p d limits image input y v (fits_as p d limits image input y (wakes rest x) v (after p d u stand Done) is told.is (by_head x u v phase ready here full few rests bag told (head == 0) refl))

    pub ending : PhaseLaw p d limits image input φ
    ending = record { may = ending_may; keeps = ending_keeps }
