-- A worker that runs is at an entry that names a cell in a6: the Owner word of the cell is read. sees_may, and sees_on (the cell is of the kind that the entry wants).
use Rattle.st_base.specs.Entry.{entry_at}
use Rattle.st_base.specs.declared.entry.Entry.{Entry}
use Rattle.st_base.specs.declared.image.Image.{Image}
use Rattle.st_base.specs.declared.limits.Limits.{Limits}
use Rattle.st_base.specs.declared.reg.Reg.TheVariants as registers
use Rattle.st_base.specs.declared.thread.Held.TheVariants as held
use Rattle.st_base.specs.declared.thread.Held.{Held}
use Rattle.st_calls.proofs.Called as calling
use Rattle.st_calls.proofs.Phase.{calm_in, asks_load, words_after}
use Rattle.st_calls.proofs.Turning.{IsCalm, fits_as, fits_phase}
use Rattle.st_calls.proofs.Views.{SameHand, bag_same, leaves_off, load_same}
use Rattle.st_calls.specs.Calling.{NamesCell, SeesMay, SeesOn, WantsKind}
use Rattle.st_chain.specs.Walk.{is_held, word_in}
use Rattle.st_fits.specs.Bags.{HasBag, units}
use Rattle.st_fits.specs.Before.{before, after}
use Rattle.st_fits.specs.Fits.{AtEntry, Fits, FitsIn, SeesFuture}
use Rattle.st_fits.specs.Laws.{IsReady, MayAsk, Told}
use Rattle.st_fits.specs.Threads.{IsCalled, ends_of, now}
use Rattle.st_kept.proofs.Standing.{called_kept}
use Rattle.st_kept.proofs.Stepping.{no_item_threads, untouched}
use Rattle.st_kept.specs.Keeping.{Untouched}
use Rattle.st_model.specs.Memory.{Data, data_of}
use Rattle.st_model.specs.declared.program.Program.{Program}
use Rattle.st_phases.specs.Automaton.{with_phase}
use Rattle.st_phases.specs.Calls.{MayGoOn}
use Rattle.st_phases.specs.Entries.{handle_in, kind_seen, right_handle, wrong_handle}
use Rattle.st_phases.specs.declared.automaton.Automaton.{Automaton}
use Rattle.st_phases.specs.declared.phase.Phase.TheVariants as phases
use Rattle.st_phases.specs.declared.phase.Phase.{Phase}
use Rattle.st_serving.specs.Serving as serves
use Rattle.st_settled.proofs.Late.{fits_here}
use Rattle.st_step.specs.Moves.{register}
use Rattle.st_step.specs.Runs.{AreWords}
use Rattle.st_words.proofs.Lists.{contains_here}
use Rattle.st_words.specs.Encodings.{is_counter}
use Rattle.st_words.specs.Promises.{IsOwnerOf}
use Rattle.st_words.specs.Steps.{CellLoad, IsCounter, Number, Step}
use Rattle.st_words.specs.Views as views
use Rattle.st_words.specs.Views.{view_after}
use Rattle.st_words.specs.declared.view.CellWord.TheVariants as words
use Rattle.st_words.specs.declared.view.View.{View}
use Rattle.std.proofs.Common.{◌≡◌, ◌≢◌, inl, inr, ℕ, zero, suc, ◌≤◌, ◌<◌, Bool, true, false, List, Option, refl, sym, ap, ◌∙◌, subst, arith, ◌⊎◌, eq-eqb, ne_eqb}
use Rattle.std.specs.List.{Contains}
use Rattle.std.specs.Prelude.{if◌then◌else◌}

-- an Owner word of a cell with a name isn't 0
some_owner : (names : List (Held × ℕ)) (name : Held) (n : ℕ) → IsOwnerOf names name n → 1 ≤ n
some_owner names (held.Number k) n is = absurd is
some_owner names (held.Future path) n (inl (root, is)) = omega (arith, is)
some_owner names (held.Future path) n (inr (p, k, parent, path_is, is, at)) = omega (arith, is)
some_owner names (held.Counter maker k) n (parent, is, at) = omega (arith, is)

owner_there : (c n : ℕ) (u : View) → 1 ≤ n → Contains (views.with_owner c n u).owners (c, n)
owner_there c zero u some = absurd (omega (arith, some))
owner_there c (suc n) u some = contains_here (c, suc n) u.owners

module _ (p : Program) (d : Data) (limits : Limits) (image : Image) (input : List ℕ) where
  module _ (entry : ℕ) (is : NamesCell entry) (x : Automaton) (u : View) (ready : IsReady p d limits image input x u) (called : IsCalled p d entry x u) (bag : HasBag (units 1) u) where
    abbrev a6 : ℕ
    a6 = register x.machine registers.A6

    abbrev Named : Type 0
    Named = (name : Held) × Contains u.names (name, a6)

    abbrev Serving : Type 0
    Serving = serves.Serves p d u.names (is_held u.held) (ends_of x.machine) (now x u) called.top called.frames called.below called.lower entry called.at.1.item.line

    abbrev Future' : Type 0
    Future' = serves.WrongFuture p d u.names (is_held u.held) (ends_of x.machine) (now x u) called.top called.frames called.below called.lower called.at.1.item.line

    served : Serving
    served = calling.served p d limits image input x u ready entry called

    touch_name : serves.TouchesFuture p d u.names (is_held u.held) (ends_of x.machine) (now x u) called.top called.frames called.below called.lower ⊎ serves.WrongCounter p d u.names (is_held u.held) (ends_of x.machine) (now x u) called.top called.frames called.below called.lower called.at.1.item.line → Named
    touch_name (inl touches) = (held.Future touches.q, touches.named.name)
    touch_name (inr (q, i, has, traps)) = (held.Counter q i, has.name)

    add_name : serves.AddsToCounter p d u.names (is_held u.held) (ends_of x.machine) (now x u) called.top called.frames called.below called.lower ⊎ Future' → Named
    add_name (inl adds) = (held.Counter adds.q adds.i, adds.named.name)
    add_name (inr (q, has, traps)) = (held.Future q, has.name)

    join_name : serves.JoinsCounter p d u.names (is_held u.held) (ends_of x.machine) (now x u) called.top called.frames called.below called.lower ⊎ Future' → Named
    join_name (inl joins) = (held.Counter joins.q joins.i, joins.named.name)
    join_name (inr (q, has, traps)) = (held.Future q, has.name)

    named : Named
    named = by is
      where
        by : NamesCell entry → Named
        by (inl e) = touch_name (served.touches e)
        by (inr (inl e)) = add_name (served.adds e)
        by (inr (inr e)) = join_name (served.joins e)

    a6_below : a6 < u.cells
    a6_below = ready.tidy.names.below named.0 a6 named.1

    handle_is : handle_in x.machine ≡ a6
    handle_is = let below = a6_below in let most = ready.fits.holds.few_cells in omega (arith, below, most)

    pc : x.machine.pc ≡ entry
    pc = called.at.1.call.at

    abbrev step : Step
    step = CellLoad (handle_in x.machine) words.Owner

    handle_below : handle_in x.machine < u.cells
    handle_below = subst (λ (n : ℕ). n < u.cells) (sym handle_is) a6_below

    asks_owner : MayAsk p d limits u step
    asks_owner = asks_load p d limits image input x u ready (handle_in x.machine) words.Owner handle_below

    may_serve : MayGoOn (λ t. MayAsk p d limits u t) (data_of image.rodata input) x (entry_at x.machine.pc)
    may_serve = by is
      where
        by : NamesCell entry → MayGoOn (λ t. MayAsk p d limits u t) (data_of image.rodata input) x (entry_at x.machine.pc)
        by (inl e) = subst (λ (o : Option Entry). MayGoOn (λ t. MayAsk p d limits u t) (data_of image.rodata input) x o) (sym (ap entry_at (pc ∙ e))) asks_owner
        by (inr (inl e)) = subst (λ (o : Option Entry). MayGoOn (λ t. MayAsk p d limits u t) (data_of image.rodata input) x o) (sym (ap entry_at (pc ∙ e))) asks_owner
        by (inr (inr e)) = subst (λ (o : Option Entry). MayGoOn (λ t. MayAsk p d limits u t) (data_of image.rodata input) x o) (sym (ap entry_at (pc ∙ e))) asks_owner

    module _ (found : ℕ) (v : View) (told : Told p d limits u step (Number found) v) (calm : IsCalm x.phase) where
      abbrev c : ℕ
      c = handle_in x.machine

      abbrev φ : Phase
      φ = phases.Looking c

      abbrev seen : View
      seen = after p d u step (Number found)

      same : SameHand u seen
      same = load_same p d u c words.Owner found tt

      off : Untouched u seen
      off = untouched p d u step (Number found) tt

      threads : seen.threads ≡ u.threads
      threads = no_item_threads p d u step (Number found) tt

      some_found : 1 ≤ found
      some_found = some_owner u.names named.0 found (told.promised.1 named.0 (subst (λ (k : ℕ). Contains u.names (named.0, k)) (sym handle_is) named.1))

      sees : Contains seen.owners (c, found)
      unfolding after view_after
      sees = owner_there c found u some_found

      words_are : AreWords (word_in seen.held)
      words_are = subst (λ (w : View). AreWords (word_in w.held)) told.is (words_after p d limits image input x u ready v told.behind)

      at_entry : (n : ℕ) → entry ≡ n → AtEntry p d limits n (with_phase φ x) seen (units 1)
      at_entry n e = (pc ∙ e, subst (λ (k : ℕ). IsCalled p d k (with_phase φ x) seen) e (called_kept p d x (with_phase φ x) u seen ready.fits.is_for.code.accepted words_are refl refl off threads entry called), bag_same (units 1) u seen same bag)

      right_fits : ((AtEntry p d limits 0x40 (with_phase φ x) seen (units 1)) × SeesFuture seen c) ⊎ ((AtEntry p d limits 0x60 (with_phase φ x) seen (units 1) ⊎ AtEntry p d limits 0x70 (with_phase φ x) seen (units 1)) × IsCounter seen c) → FitsIn p d limits image input (right_handle x) seen
      right_fits kind =
          fits_phase p d limits image input x φ u seen calm (record { none = refl; most = λ n. refl; taking = refl }) threads (leaves_off p d u step (Number found) tt same) ready.fits
          (record { handle = handle_is; below = subst (λ (n : ℕ). c < n) (sym off.cells) handle_below; kind = kind })

      -- by the kind that the entry wants
      sees_fit : (y : Automaton) → y ≡ kind_seen (is_counter found) x → WantsKind entry (is_counter found) → Fits p d limits image input y v
      sees_fit y is_it wants = by is wants
        where
          here : kind_seen (is_counter found) x ≡ right_handle x → FitsIn p d limits image input (right_handle x) seen → Fits p d limits image input y v
          here right fits = fits_here p d limits image input y v (fits_as p d limits image input y (right_handle x) v seen (is_it ∙ right) told.is fits)

          at_touch : (b : Bool) → b ≡ false → x.machine.pc ≡ 0x40 → kind_seen b x ≡ right_handle x
          at_touch true e at = let never : ⊥ = cc in absurd never
          at_touch false e at = ap (λ (k : Bool). if k then right_handle x else wrong_handle x) (eq-eqb x.machine.pc 0x40 at)

          at_counter : (b : Bool) → b ≡ true → x.machine.pc ≢ 0x40 → kind_seen b x ≡ right_handle x
          at_counter false e at = let never : ⊥ = cc in absurd never
          at_counter true e at = ap (λ (k : Bool). if k then wrong_handle x else right_handle x) (ne_eqb x.machine.pc 0x40 at)

          by : NamesCell entry → WantsKind entry (is_counter found) → Fits p d limits image input y v
          by (inl e) wants = here (at_touch (is_counter found) (wants.future e) (pc ∙ e)) (right_fits (inl (at_entry 0x40 e, (found, sees, wants.future e))))
          by (inr (inl e)) wants =
              let counter = wants.counter (λ k. absurd (omega (arith, e, k))) in
              let at : x.machine.pc ≡ 0x60 = pc ∙ e in
              here (at_counter (is_counter found) counter (λ k. absurd (omega (arith, at, k)))) (right_fits (inr (inl (at_entry 0x60 e), (found, sees, counter))))
          by (inr (inr e)) wants =
              let counter = wants.counter (λ k. absurd (omega (arith, e, k))) in
              let at : x.machine.pc ≡ 0x70 = pc ∙ e in
              here (at_counter (is_counter found) counter (λ k. absurd (omega (arith, at, k)))) (right_fits (inr (inr (at_entry 0x70 e), (found, sees, counter))))

  pub sees_may : SeesMay p d limits image input
  sees_may entry is x u phase ready called bag = may_serve entry is x u ready called bag

  pub sees_on : SeesOn p d limits image input
  sees_on entry is x y old v found phase ready called bag made told is_it wants =
      sees_fit entry is x (before p d x old) ready called bag found v told (calm_in p d limits image input x (before p d x old) ready phases.Running phase (record { none = refl; most = λ n. refl; taking = refl })) y is_it wants
