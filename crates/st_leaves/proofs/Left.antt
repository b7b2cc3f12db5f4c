-- A thread has left its worker: its chain's Trap and Standing words are stored, and it is put into its slot. Read marking, standing and slotting: a law for each phase.
use Rattle.std.proofs.Common.{◌≡◌, ℕ, ◌+◌, ◌^◌, ◌<◌, ◌≤◌, ◌==◌, Bool, true, false, if◌then◌else◌, List, [], ◌∷◌, Option, Some, None, refl, sym, ap, ◌∙◌, subst, arith, eq-eqb}
use Rattle.std.proofs.lemmas.Bool.{eqb-true, leb-true}
use Rattle.st_base.specs.declared.chain.Chain.{Chain}
use Rattle.st_base.specs.declared.chain.Frame.{Frame}
use Rattle.st_base.specs.declared.chain.Waiting.{Waiting}
use Rattle.st_base.specs.declared.chain.Waiting.TheVariants as waits
use Rattle.st_base.specs.declared.image.Image.{Image}
use Rattle.st_base.specs.declared.limits.Limits.{Limits}
use Rattle.st_model.specs.declared.program.Program.{Program}
use Rattle.st_model.specs.Accepted.{IsAccepted}
use Rattle.st_model.specs.Memory.{Data}
use Rattle.st_words.proofs.Safe.{put}
use Rattle.st_words.proofs.Waiting.{standing_safe, trap_safe}
use Rattle.st_words.specs.Careful.{Shows, ShowsPlace, standing_of}
use Rattle.st_words.specs.Encodings.{count_in, full_word, trap_word, trapped, waits_word}
use Rattle.st_words.specs.Promises.{Promises}
use Rattle.st_words.specs.Safely.{Safe}
use Rattle.st_words.specs.Steps.{CellStore, Done, IsWaiting, SlotPut, Step, some_thread}
use Rattle.st_words.specs.Views.{waiter_of}
use Rattle.st_words.specs.declared.view.Cargo.{Cargo}
use Rattle.st_words.specs.declared.view.Carried.{Carried}
use Rattle.st_words.specs.declared.view.CellWord.TheVariants as words
use Rattle.st_words.specs.declared.view.Known.{Known}
use Rattle.st_words.specs.declared.view.Slot.{Slot}
use Rattle.st_words.specs.declared.view.Slot.TheVariants as slots
use Rattle.st_words.specs.declared.view.View.{View}
use Rattle.st_words.specs.declared.view.Waiter.{Waiter}
use Rattle.st_cargo.proofs.Carrying.{chains_carried}
use Rattle.st_cargo.specs.Cargo.{goes_with}
use Rattle.st_run.specs.Behind.{IsBehind}
use Rattle.st_run.specs.Meanings.{meaning}
use Rattle.st_phases.specs.Automaton.{with_phase}
use Rattle.st_phases.specs.Leaving.{item_place, slotted, standing_word}
use Rattle.st_phases.specs.Turning.{MayPhase}
use Rattle.st_phases.specs.Waking.{MayPark, is_over, settled}
use Rattle.st_phases.specs.declared.automaton.Automaton.{Automaton}
use Rattle.st_phases.specs.declared.phase.Leaving.{Leaving}
use Rattle.st_phases.specs.declared.phase.Phase.{Phase}
use Rattle.st_phases.specs.declared.phase.Phase.TheVariants as phases
use Rattle.st_phases.specs.declared.phase.Settling.{Settling}
use Rattle.st_fits.specs.Bags.{CanPark, HasBag, own_and, units}
use Rattle.st_fits.specs.Before.{after, before}
use Rattle.st_fits.specs.Fits.{ByPhase, Fits, FitsIn, HasLeft, OfWait, most_items, taken_of, is_taking}
use Rattle.st_fits.specs.Laws.{IsReady, MayAsk, PhaseLaw}
use Rattle.st_fits.specs.Threads.{OfKind, Rests}
use Rattle.st_kept.proofs.Chains.{put_rests}
use Rattle.st_kept.proofs.Keeping.{for_with_phase, holds_with_phase}
use Rattle.st_kept.proofs.Standing.{rests_kept}
use Rattle.st_kept.proofs.Stepping.{no_item_asks, numbers}
use Rattle.st_settled.proofs.Late.{fits_here}
use Rattle.st_chain.specs.Walk.{number_or, word_in}
use Rattle.st_step.specs.Runs.{AreWords}
use Rattle.st_words.specs.Steps.{kept}
use Rattle.st_leaves.proofs.Chained.{PutSame, can_park_still, put_bag, put_same, shows_still, few_kind, left_with, shows_place, standing_is, standing_view, trap_view, traps_so, waits_so, with_only, with_words}

pub words_held : (held : List (Option ℕ)) → ((q n : ℕ) → kept held q ≡ Some n → n < 2 ^ 64) → AreWords (word_in held)
words_held held few q = by_word (kept held q) (few q)
  where
    by_word : (h : Option ℕ) → ((n : ℕ) → h ≡ Some n → n < 2 ^ 64) → number_or h < 2 ^ 64
    by_word None small = omega arith
    by_word (Some n) small = small n refl

-- a wait that may be parked isn't over
not_over : (wait : Waiting) (seen : ℕ) → MayPark wait seen → is_over wait seen ≡ true → ⊥
not_over (waits.Touch cell) seen may over = may (eqb-true seen full_word over)
not_over (waits.Join cell least) seen may over = let yes = leb-true least (count_in seen) over in omega (arith, yes, may)
not_over waits.Ready seen may over = may
not_over waits.Start seen may over = may
not_over waits.Trapped seen may over = may

module _ (p : Program) (d : Data) (limits : Limits) (image : Image) (input : List ℕ) (accepted : IsAccepted p) where
  abbrev Asks : View → Step → Type 0
  Asks u s = MayAsk p d limits u s

  abbrev May : View → Automaton → Phase → Type 0
  May u x phase = MayPhase (Asks u) (λ s a. Promises u s a) (λ slot chain. goes_with p u slot chain) image input x phase

  abbrev Ready : Automaton → View → Type 0
  Ready x u = IsReady p d limits image input x u

  -- it fits the view that was told, if it fits the one that the step gives
  pub told_fits : (y z : Automaton) (v w : View) → y ≡ z → v ≡ w → FitsIn p d limits image input z w → Fits p d limits image input y v
  told_fits y z v w same is fits = fits_here p d limits image input y v (subst (λ (a : Automaton). FitsIn p d limits image input a v) (sym same) (subst (λ (b : View). FitsIn p d limits image input z b) (sym is) fits))

  pub by_of : (x : Automaton) (u : View) (phase : Phase) → x.phase ≡ phase → Ready x u → ByPhase p d limits phase x u
  by_of x u phase is ready = subst (λ (φ : Phase). ByPhase p d limits φ x u) is ready.fits.by

  -- it has begun no more items than it may in such a phase, and has no number out of its ready ones
  pub record IsPlainPhase (phase : Phase) : Type 0 where
    pub taken : taken_of phase ≡ []
    pub most : (n : ℕ) → most_items phase n ≡ n
    pub taking : is_taking phase ≡ false

  -- ---- a word of the chain is stored

  module _ (chain : Chain) (leaving : Leaving) (x : Automaton) (u : View) (ready : Ready x u) where
    cell_of_chain : (was : Option ℕ) (Shows : Carried → Type 0) → (h : HasLeft p d limits chain leaving was Shows x u) → h.carried.known.note.cell ≡ chain.cell
    cell_of_chain was Shows h = ap (λ k. k.cell) h.carries.has.note ∙ h.carries.has.cell

    below_of_chain : (was : Option ℕ) (Shows : Carried → Type 0) → (h : HasLeft p d limits chain leaving was Shows x u) → h.carried.known.note.cell < u.cells
    below_of_chain was Shows h = subst (λ (c : ℕ). c < u.cells) (sym (cell_of_chain was Shows h)) h.carries.below

    wait_is : (was : Option ℕ) (Shows : Carried → Type 0) → (h : HasLeft p d limits chain leaving was Shows x u) → h.carried.wait ≡ leaving.wait
    wait_is was Shows h = h.carries.has.wait ∙ h.wait

    -- it fits the view with that word
    stored_fits : (was phase : Phase) (z : Carried) → x.phase ≡ was → IsPlainPhase was → IsPlainPhase phase → ByPhase p d limits phase (with_phase phase x) (with_only z u) → FitsIn p d limits image input (with_phase phase x) (with_only z u)
    stored_fits was phase z at old new by = record {
      is_for = for_with_phase p d limits image input x phase ready.fits.is_for;
      holds =
          holds_with_phase limits x u (with_only z u) phase ready.fits.holds (record { number = refl; workers = refl; cells = refl; each = refl; words = refl; items = refl; frame_bytes = refl }) refl refl refl refl
          (new.taken ∙ sym (ap taken_of at ∙ old.taken)) (λ n. new.most n ∙ sym (ap (λ (φ : Phase). most_items φ n) at ∙ old.most n)) (λ none. ap is_taking at ∙ old.taking);
      by = by;
    }

    -- its threads rest as before
    stored_rests : (phase : Phase) (z : Carried) (frames : List Frame) → Rests p d x u frames → Rests p d (with_phase phase x) (with_only z u) frames
    stored_rests phase z frames rests =
        rests_kept p d x (with_phase phase x) u (with_only z u) accepted (words_held u.held ready.behind.words) refl refl
        (record { number = refl; workers = refl; cells = refl; each = refl; held = refl; exported = refl; away = refl; items = refl; frame_bytes = refl; names = λ held c is. is }) refl frames rests

    -- ---- its Trap word

    pub marking_may : x.phase ≡ phases.Marking chain leaving → May u x (phases.Marking chain leaving)
    marking_may is =
        let h : HasLeft p d limits chain leaving None (λ y. y.trap ≡ None) x u = by_of x u (phases.Marking chain leaving) is ready in
        let n : ℕ = trap_word (item_place chain.pc leaving.at_call) leaving.kind in
        let cell = cell_of_chain None (λ y. y.trap ≡ None) h in (
          few_kind p d limits leaving u leaving.wait h.of_wait,
          no_item_asks p d limits u (CellStore chain.cell words.Trap n) tt
              (subst (λ (c : ℕ). Safe (meaning p d limits) u (CellStore c words.Trap n)) cell (trap_safe (meaning p d limits) u h.carried n h.carries.has.there (below_of_chain None (λ y. y.trap ≡ None) h) h.carries.stands)),
        )

    abbrev marked : HasLeft p d limits chain leaving None (λ y. y.trap ≡ None) x u → Carried
    marked h = with_words (Some (trap_word (item_place chain.pc leaving.at_call) leaving.kind)) None h.carried

    marked_view : (h : HasLeft p d limits chain leaving None (λ y. y.trap ≡ None) x u) → after p d u (CellStore chain.cell words.Trap (trap_word (item_place chain.pc leaving.at_call) leaving.kind)) Done ≡ with_only (marked h) u
    marked_view h =
        trap_view p d u h.carried chain.cell h.carries.only (cell_of_chain None (λ y. y.trap ≡ None) h) (trap_word (item_place chain.pc leaving.at_call) leaving.kind)
        ∙ ap (λ (w : Option ℕ). with_only (with_words (Some (trap_word (item_place chain.pc leaving.at_call) leaving.kind)) w h.carried) u) h.carries.stands

    abbrev Placed : Carried → Type 0
    Placed y = ShowsPlace (meaning p d limits) y y.wait

    pub marking_fits : (h : HasLeft p d limits chain leaving None (λ y. y.trap ≡ None) x u) → x.phase ≡ phases.Marking chain leaving → FitsIn p d limits image input (with_phase (phases.Standing chain leaving) x) (with_only (marked h) u)
    marking_fits h is =
        let pc : ℕ = item_place chain.pc leaving.at_call in
        let kind = subst (λ (w : Waiting). OfKind p d leaving h.carried.known w) (sym (wait_is None (λ y. y.trap ≡ None) h)) h.kind in
        stored_fits (phases.Marking chain leaving) (phases.Standing chain leaving) (marked h) is (record { taken = refl; most = λ n. refl; taking = refl }) (record { taken = refl; most = λ n. refl; taking = refl })
        (left_with p d limits leaving chain None (λ y. y.trap ≡ None) Placed x (with_phase (phases.Standing chain leaving) x) u (Some (trap_word pc leaving.kind)) None h (shows_place p d limits leaving h.carried.wait (marked h) pc h.place kind refl)
        (stored_rests (phases.Standing chain leaving) (marked h) h.frames h.rests))

    -- ---- its Standing word

    standing_known : (wait : Waiting) → wait ≡ leaving.wait → OfWait p d limits leaving u leaving.wait → standing_of wait ≡ Some (standing_word leaving.kind)
    standing_known wait is of = ap standing_of is ∙ standing_is p d limits leaving u leaving.wait of

    few_standing : standing_word leaving.kind ≤ 5
    few_standing = few_word (leaving.kind == 0)
      where
        few_word : (b : Bool) → (if b then waits_word else trapped) ≤ 5
        few_word true = omega arith
        few_word false = omega arith

    pub standing_may : x.phase ≡ phases.Standing chain leaving → May u x (phases.Standing chain leaving)
    standing_may is =
        let h : HasLeft p d limits chain leaving None Placed x u = by_of x u (phases.Standing chain leaving) is ready in
        let n : ℕ = standing_word leaving.kind in
        no_item_asks p d limits u (CellStore chain.cell words.Standing n) tt
        (subst (λ (c : ℕ). Safe (meaning p d limits) u (CellStore c words.Standing n)) (cell_of_chain None Placed h)
        (standing_safe (meaning p d limits) u h.carried n few_standing h.carries.has.there (below_of_chain None Placed h) h.carries.stands (standing_known h.carried.wait (wait_is None Placed h) h.of_wait) h.shows))

    abbrev stood : HasLeft p d limits chain leaving None Placed x u → Carried
    stood h = with_words h.carried.trap (standing_of chain.wait) h.carried

    stood_view : (h : HasLeft p d limits chain leaving None Placed x u) → after p d u (CellStore chain.cell words.Standing (standing_word leaving.kind)) Done ≡ with_only (stood h) u
    stood_view h =
        standing_view p d u h.carried chain.cell h.carries.only (cell_of_chain None Placed h) leaving.kind ∙ ap (λ (w : Option ℕ). with_only (with_words h.carried.trap w h.carried) u) (sym (standing_known chain.wait h.wait h.of_wait))

    pub standing_fits : (h : HasLeft p d limits chain leaving None Placed x u) → x.phase ≡ phases.Standing chain leaving → FitsIn p d limits image input (with_phase (phases.Slotting chain leaving) x) (with_only (stood h) u)
    standing_fits h is =
        stored_fits (phases.Standing chain leaving) (phases.Slotting chain leaving) (stood h) is (record { taken = refl; most = λ n. refl; taking = refl }) (record { taken = refl; most = λ n. refl; taking = refl })
        (left_with p d limits leaving chain None Placed Placed x (with_phase (phases.Slotting chain leaving) x) u h.carried.trap (standing_of chain.wait) h (shows_still p d limits leaving h.carried.wait h.carried (standing_of chain.wait) h.shows)
        (stored_rests (phases.Slotting chain leaving) (stood h) h.frames h.rests))

    -- ---- it is put into its slot

    abbrev Slotted : Type 0
    Slotted = HasLeft p d limits chain leaving (standing_of chain.wait) Placed x u

    pub slotting_may : x.phase ≡ phases.Slotting chain leaving → May u x (phases.Slotting chain leaving)
    slotting_may is =
        let h : Slotted = by_of x u (phases.Slotting chain leaving) is ready in
        let slot : Slot = slots.Cell chain.cell in
        let of = chains_carried p d u slot chain h.carried h.frames accepted h.carries.has in
        let known = standing_known chain.wait h.wait h.of_wait in
        no_item_asks p d limits u (SlotPut slot chain (goes_with p u slot chain)) tt
        (put (meaning p d limits) u slot chain (goes_with p u slot chain) (h.carries.below, (refl, (h.carried, h.carries.has.there, cell_of_chain (standing_of chain.wait) Placed h)), omega arith, omega arith) (record {
          carries = of.carries;
          unit = refl;
          walks = of.walks;
          shows = subst (λ (y : Carried). Shows (meaning p d limits) u slot y) (sym of.found_is) (standing_word leaving.kind, standing_known h.carried.wait (wait_is (standing_of chain.wait) Placed h) h.of_wait, h.carries.stands ∙ known, h.shows);
        }))

    -- the phase behind it
    slotted_by : (phase : Phase) (cargo : Cargo) → x.phase ≡ phases.Slotting chain leaving → IsPlainPhase phase → ByPhase p d limits phase (with_phase phase x) (after p d u (SlotPut (slots.Cell chain.cell) chain cargo) Done) → FitsIn p d limits image input (with_phase phase x) (after p d u (SlotPut (slots.Cell chain.cell) chain cargo) Done)
    slotted_by phase cargo at new by =
        let s : Step = SlotPut (slots.Cell chain.cell) chain cargo in
        let same = put_same p d u chain.cell chain cargo in
        record {
          is_for = for_with_phase p d limits image input x phase ready.fits.is_for;
          holds =
              holds_with_phase limits x u (after p d u s Done) phase ready.fits.holds (numbers p d u s Done) same.exported same.known.threads same.ready same.asked (new.taken ∙ sym (ap taken_of at)) (λ n. new.most n ∙ sym (ap (λ (φ : Phase). most_items φ n) at)) (λ none. ap is_taking at);
          by = by;
        }

    pub slotting_fits : x.phase ≡ phases.Slotting chain leaving → IsBehind p d (after p d u (SlotPut (slots.Cell chain.cell) chain (goes_with p u (slots.Cell chain.cell) chain)) Done) →
        FitsIn p d limits image input (slotted chain leaving x) (after p d u (SlotPut (slots.Cell chain.cell) chain (goes_with p u (slots.Cell chain.cell) chain)) Done)
    slotting_fits is behind = by_kind (leaving.kind == 0) refl
      where
        h : Slotted
        h = by_of x u (phases.Slotting chain leaving) is ready

        cargo : Cargo
        cargo = goes_with p u (slots.Cell chain.cell) chain

        v : View
        v = after p d u (SlotPut (slots.Cell chain.cell) chain (goes_with p u (slots.Cell chain.cell) chain)) Done

        settling : Settling
        settling = record { waiter = chain.cell; wait = leaving.wait; seen = leaving.seen; rest = None }

        same : PutSame u v
        same = put_same p d u chain.cell chain cargo

        bag : HasBag (record (own_and 1 v) { hand = waiter_of chain.cell leaving.wait [] }) v
        bag =
            subst (λ (ts : List Known). HasBag (record (units (some_thread ts + 1)) { hand = waiter_of chain.cell leaving.wait [] }) v) (sym same.known.threads)
            (subst (λ (w : Waiting). HasBag (record (own_and 1 u) { hand = waiter_of chain.cell w [] }) v) h.wait (put_bag p d u (own_and 1 u) chain h.carried cargo (cell_of_chain (standing_of chain.wait) Placed h) refl refl h.bag))

        hand_waits : (wait : Waiting) → IsWaiting wait → waiter_of chain.cell wait [] ≡ record { cell = chain.cell; wait = Some wait; next = None; leads = false } ∷ []
        hand_waits (waits.Touch cell) so = refl
        hand_waits (waits.Join cell least) so = refl
        hand_waits waits.Ready so = absurd so
        hand_waits waits.Start so = absurd so
        hand_waits waits.Trapped so = absurd so

        hand_trapped : leaving.wait ≡ waits.Trapped → waiter_of chain.cell leaving.wait [] ≡ []
        hand_trapped e = ap (λ (w : Waiting). waiter_of chain.cell w []) e

        rests : (phase : Phase) → Rests p d (with_phase phase x) v []
        rests phase = put_rests p d x (with_phase phase x) u v (slots.Cell chain.cell) chain h.carried h.frames accepted h.carries.has refl (words_held v.held behind.words) refl refl h.rests

        by_kind : (b : Bool) → (leaving.kind == 0) ≡ b → FitsIn p d limits image input (if b then settled settling x else with_phase (phases.Lowering None) x) v
        by_kind true e =
            let so = waits_so p d limits leaving u leaving.wait (eqb-true leaving.kind 0 e) h.of_wait in
            by_wait so (is_over leaving.wait leaving.seen) refl
          where
            by_wait : CanPark (record { waiter = 0; wait = leaving.wait; seen = leaving.seen; rest = None }) u × MayPark leaving.wait leaving.seen × IsWaiting leaving.wait → (b : Bool) → is_over leaving.wait leaving.seen ≡ b → FitsIn p d limits image input (with_phase (if b then phases.Readying settling else phases.Linking settling) x) v
            by_wait so true over = absurd (not_over leaving.wait leaving.seen so.1 over)
            by_wait so false over =
                slotted_by (phases.Linking settling) cargo is (record { taken = refl; most = λ n. refl; taking = refl })
                (can_park_still u v same.known chain.cell 0 leaving.wait leaving.seen so.0, over, (None, subst (λ (ws : List Waiter). HasBag (record (own_and 1 v) { hand = ws }) v) (hand_waits leaving.wait so.2) bag), rests (phases.Linking settling))
        by_kind false e =
            slotted_by (phases.Lowering None) cargo is (record { taken = refl; most = λ n. refl; taking = refl }) (subst (λ (ws : List Waiter). HasBag (record (own_and 1 v) { hand = ws }) v) (hand_trapped (traps_so p d limits leaving u leaving.wait (λ z. let yes = eq-eqb leaving.kind 0 z in let no : ⊥ = cc in no) h.of_wait)) bag, rests (phases.Lowering None))

module _ (p : Program) (d : Data) (limits : Limits) (image : Image) (input : List ℕ) (accepted : IsAccepted p) where
  pub marking : (chain : Chain) (leaving : Leaving) → PhaseLaw p d limits image input (phases.Marking chain leaving)
  marking chain leaving = record {
    may = λ x u is ready. marking_may p d limits image input accepted chain leaving x u ready is;
    keeps = λ x y old v turn is ready made does.
        let u = before p d x old in
        let h : HasLeft p d limits chain leaving None (λ y. y.trap ≡ None) x u = by_of p d limits image input accepted x u (phases.Marking chain leaving) is ready in
        told_fits p d limits image input accepted y (with_phase (phases.Standing chain leaving) x) v (with_only (marked p d limits image input accepted chain leaving x u ready h) u) does.1.0 (does.0.is ∙ marked_view p d limits image input accepted chain leaving x u ready h)
        (marking_fits p d limits image input accepted chain leaving x u ready h is);
  }

  pub standing : (chain : Chain) (leaving : Leaving) → PhaseLaw p d limits image input (phases.Standing chain leaving)
  standing chain leaving = record {
    may = λ x u is ready. standing_may p d limits image input accepted chain leaving x u ready is;
    keeps = λ x y old v turn is ready made does.
        let u = before p d x old in
        let h : HasLeft p d limits chain leaving None (λ y. ShowsPlace (meaning p d limits) y y.wait) x u = by_of p d limits image input accepted x u (phases.Standing chain leaving) is ready in
        told_fits p d limits image input accepted y (with_phase (phases.Slotting chain leaving) x) v (with_only (stood p d limits image input accepted chain leaving x u ready h) u) does.1.0 (does.0.is ∙ stood_view p d limits image input accepted chain leaving x u ready h)
        (standing_fits p d limits image input accepted chain leaving x u ready h is);
  }

  pub slotting : (chain : Chain) (leaving : Leaving) → PhaseLaw p d limits image input (phases.Slotting chain leaving)
  slotting chain leaving = record {
    may = λ x u is ready. slotting_may p d limits image input accepted chain leaving x u ready is;
    keeps = λ x y old v turn is ready made does.
        let u = before p d x old in
        told_fits p d limits image input accepted y (slotted chain leaving x) v (after p d u (SlotPut (slots.Cell chain.cell) chain (goes_with p u (slots.Cell chain.cell) chain)) Done) does.1.0 does.0.is
        (slotting_fits p d limits image input accepted chain leaving x u ready is (subst (IsBehind p d) does.0.is does.0.behind));
  }
