-- A worker that runs is at an entry that makes a cell: a number is drawn, and the cell is named, or there is none. draws_there.
use Rattle.st_base.specs.Entry.{entry_at}
use Rattle.st_base.specs.declared.entry.Entry.{Entry}
use Rattle.st_base.specs.declared.image.Image.{Image}
use Rattle.st_base.specs.declared.limits.LimitKind.TheVariants as kinds
use Rattle.st_base.specs.declared.limits.Limits.{Limits}
use Rattle.st_calls.proofs.Called as calling
use Rattle.st_calls.proofs.Phase.{calm_in, words_after}
use Rattle.st_calls.proofs.Turning.{IsCalm, StepLeaves, fits_as, fits_phase, for_to, holds_to, same_machine}
use Rattle.st_calls.specs.Calling.{RunningAt}
use Rattle.st_chain.specs.Walk.{is_held, word_in}
use Rattle.st_fits.specs.Bags.{HasBag, units}
use Rattle.st_fits.specs.Before.{before, after}
use Rattle.st_fits.specs.Fits.{Draws, Fits, FitsIn, Meets}
use Rattle.st_fits.specs.Laws.{Does, IsReady, MayAsk, Told}
use Rattle.st_fits.specs.Threads.{IsCalled, ends_of, now}
use Rattle.st_kept.proofs.Standing.{called_kept}
use Rattle.st_kept.proofs.Stepping.{no_item_asks}
use Rattle.st_made.specs.Items.{IsAtCounter, IsAtFork}
use Rattle.st_model.specs.Heap.{own}
use Rattle.st_model.specs.Memory.{Data, data_of}
use Rattle.st_model.specs.declared.program.Program.{Program}
use Rattle.st_phases.specs.Automaton.{with_phase}
use Rattle.st_phases.specs.Calls as calls
use Rattle.st_phases.specs.Calls.{MayGoOn}
use Rattle.st_phases.specs.Entries.{drawn}
use Rattle.st_phases.specs.declared.automaton.Automaton.{Automaton}
use Rattle.st_phases.specs.declared.phase.Phase.TheVariants as phases
use Rattle.st_phases.specs.declared.phase.Phase.{Phase}
use Rattle.st_phases.specs.declared.turn.Turn.{Turn}
use Rattle.st_run.specs.Meanings.{meaning}
use Rattle.st_serving.specs.Serving as serves
use Rattle.st_settled.proofs.Late.{fits_here}
use Rattle.st_step.specs.Runs.{AreWords}
use Rattle.st_words.proofs.Starting.{draw_safe}
use Rattle.st_words.specs.Steps.{Draw, Number}
use Rattle.st_words.specs.Views.{view_after}
use Rattle.st_words.specs.declared.view.View.{View}
use Rattle.std.proofs.Common.{◌≡◌, ◌≢◌, inl, inr, ℕ, Bool, true, false, List, [], ◌∷◌, Option, Some, None, refl, sym, ap, ◌∙◌, subst, arith, ◌⊎◌}
use Rattle.std.proofs.lemmas.Bool.{ltb-false, ltb-true}
use Rattle.std.specs.Prelude.{if◌then◌else◌, nat_lt}

module _ (p : Program) (d : Data) (limits : Limits) (image : Image) (input : List ℕ) where
  abbrev IsAt : ℕ → Type 0
  IsAt entry = (entry ≡ 0x10) ⊎ (entry ≡ 0x50)

  module _ (entry : ℕ) (is : IsAt entry) (x : Automaton) (u : View) (ready : IsReady p d limits image input x u) (called : IsCalled p d entry x u) (bag : HasBag (units 1) u) where
    pc : x.machine.pc ≡ entry
    pc = called.at.1.call.at

    forks_by : serves.Forks p d u.names (is_held u.held) (ends_of x.machine) (now x u) called.top called.frames called.below called.lower → IsAtFork p d called.top
    forks_by forks = (record { own = forks.next; child = Some forks.child; added = None; printed = None }, forks.moves, λ e. absurd (let never : ⊥ = cc in never))

    counts_by : serves.MakesCounter p d u.names (is_held u.held) (ends_of x.machine) (now x u) called.top called.frames called.below called.lower → IsAtCounter p d called.top
    counts_by makes = let more = makes.counts.counters_are in (own makes.next, makes.moves, λ e. absurd (omega (arith, more, e)))

    draws_at : IsAtFork p d called.top ⊎ IsAtCounter p d called.top
    draws_at = elim is [ inl e ↦ inl (forks_by ((calling.served p d limits image input x u ready entry called).forks e)) | inr e ↦ inr (counts_by ((calling.served p d limits image input x u ready entry called).makes e)) ]

    asks_draw : MayAsk p d limits u Draw
    asks_draw = no_item_asks p d limits u Draw tt (draw_safe (meaning p d limits) u called.top called.below bag.drawn bag.child called.is draws_at)

    may_serve : MayGoOn (λ t. MayAsk p d limits u t) (data_of image.rodata input) x (entry_at x.machine.pc)
    may_serve = elim is [
      | inl e ↦ subst (λ (o : Option Entry). MayGoOn (λ t. MayAsk p d limits u t) (data_of image.rodata input) x o) (sym (ap entry_at (pc ∙ e))) asks_draw
      | inr e ↦ subst (λ (o : Option Entry). MayGoOn (λ t. MayAsk p d limits u t) (data_of image.rodata input) x o) (sym (ap entry_at (pc ∙ e))) asks_draw
    ]

    did : (y : Automaton) (old v : View) (turn : Turn) → Does p d limits image input u old x turn y v phases.Running → calls.Draws (λ s a b. Told p d limits u s a b) old x turn y v
    did y old v turn does = elim is [
      | inl e ↦ subst (λ (o : Option Entry). calls.Goes (λ s a b. Told p d limits u s a b) old (data_of image.rodata input) x o turn y v) (ap entry_at (pc ∙ e)) does
      | inr e ↦ subst (λ (o : Option Entry). calls.Goes (λ s a b. Told p d limits u s a b) old (data_of image.rodata input) x o turn y v) (ap entry_at (pc ∙ e)) does
    ]

    -- ---- the number that was drawn

    module _ (found : ℕ) (v : View) (told : Told p d limits u Draw (Number found) v) (calm : IsCalm x.phase) where
      abbrev w : View
      w = record u { drawn = found ∷ u.drawn }

      drawn_is : after p d u Draw (Number found) ≡ w
      unfolding after view_after
      drawn_is = refl

      leaves : StepLeaves u w
      leaves = record { untouched = record { number = refl; workers = refl; cells = refl; each = refl; held = refl; exported = refl; away = refl; items = refl; frame_bytes = refl; names = λ name c in'. in' }; words = refl; ready = refl; asked = refl }

      in_hand : HasBag (record (units 1) { drawn = found ∷ [] }) w
      in_hand = record { chains = bag.chains; hand = bag.hand; share = bag.share; drawn = ap (λ (ns : List ℕ). found ∷ ns) bag.drawn; child = bag.child; answering = bag.answering; given = bag.given; root = bag.root }

      words_are : AreWords (word_in u.held)
      words_are = subst (λ (z : View). AreWords (word_in z.held)) (told.is ∙ drawn_is) (words_after p d limits image input x u ready v told.behind)

      still : (ψ : Phase) → IsCalled p d entry (with_phase ψ x) w
      still ψ = called_kept p d x (with_phase ψ x) u w ready.fits.is_for.code.accepted words_are refl refl leaves.untouched refl entry called

      to_naming : (ψ : Phase) → Draws p d limits (with_phase ψ x) w (record (units 1) { drawn = found ∷ [] })
      to_naming ψ = by is
        where
          by : IsAt entry → Draws p d limits (with_phase ψ x) w (record (units 1) { drawn = found ∷ [] })
          by (inl e) = inl (pc ∙ e, subst (λ (n : ℕ). IsCalled p d n (with_phase ψ x) w) e (still ψ), in_hand)
          by (inr e) = inr (pc ∙ e, subst (λ (n : ℕ). IsCalled p d n (with_phase ψ x) w) e (still ψ), in_hand)

      some_thread_there : w.threads ≢ []
      some_thread_there none = let is = called.is in let never : ⊥ = cc in never

      by_room : (b : Bool) → nat_lt found x.cells ≡ b → FitsIn p d limits image input (with_phase (if b then phases.Naming found else phases.Stopping (kinds.Cell x.cells)) x) w
      by_room true few =
          let cells = ready.fits.holds.cells in
          let less = ltb-true found x.cells few in
          fits_phase p d limits image input x (phases.Naming found) u w calm (record { none = refl; most = λ n. refl; taking = refl }) refl leaves ready.fits (omega (arith, less, cells), to_naming (phases.Naming found))
      by_room false many =
          let cells = ready.fits.holds.cells in
          let more = ltb-false found x.cells many in
          stops_fit (cells, (found, omega (arith, more, cells), in_hand))
        where
          stops_fit : Meets p d limits (kinds.Cell x.cells) (with_phase (phases.Stopping (kinds.Cell x.cells)) x) w → FitsIn p d limits image input (with_phase (phases.Stopping (kinds.Cell x.cells)) x) w
          stops_fit meets =
              let h = holds_to p d limits image input x x.machine x.threads.notes phases.Polling u w (same_machine x.machine ready.fits.holds.registers ready.fits.holds.values) calm (record { none = refl; most = λ n. refl; taking = refl }) ready.fits.holds.notes leaves ready.fits.holds in
              let few = h.few_items in
              record {
                is_for = for_to p d limits image input x x.machine x.threads.notes (phases.Stopping (kinds.Cell x.cells)) refl refl ready.fits.is_for;
                holds = record {
                  number = h.number;
                  below = h.below;
                  workers = h.workers;
                  few_workers = h.few_workers;
                  cells = h.cells;
                  few_cells = h.few_cells;
                  each = h.each;
                  words = h.words;
                  notes = h.notes;
                  items = h.items;
                  frame_bytes = h.frame_bytes;
                  few_items = omega (arith, few);
                  few_bytes = h.few_bytes;
                  ready_once = h.ready_once;
                  ready = h.ready;
                  all_ready = h.all_ready;
                  asked = h.asked;
                  asked_other = h.asked_other;
                  exported = h.exported;
                  all_exported = h.all_exported;
                  last = h.last;
                  not_open = h.not_open;
                  registers = h.registers;
                  values = h.values;
                };
                by = (some_thread_there, meets);
              }

    draws_fit : (y : Automaton) (old v : View) (turn : Turn) → IsCalm x.phase → calls.Draws (λ s a b. Told p d limits u s a b) old x turn y v → Fits p d limits image input y v
    draws_fit y old v turn calm (found, told, is_it, ran) = fits_here p d limits image input y v (fits_as p d limits image input y (drawn found x) v (w found v told calm) is_it (told.is ∙ drawn_is found v told calm) (by_room found v told calm (nat_lt found x.cells) refl))

  may_by : (x : Automaton) (u : View) → IsReady p d limits image input x u → IsCalled p d 0x10 x u ⊎ IsCalled p d 0x50 x u → HasBag (units 1) u → MayGoOn (λ t. MayAsk p d limits u t) (data_of image.rodata input) x (entry_at x.machine.pc)
  may_by x u ready (inl called) bag = may_serve 0x10 (inl refl) x u ready called bag
  may_by x u ready (inr called) bag = may_serve 0x50 (inr refl) x u ready called bag

  keeps_by : (x y : Automaton) (u old v : View) (turn : Turn) → IsReady p d limits image input x u → IsCalm x.phase → IsCalled p d 0x10 x u ⊎ IsCalled p d 0x50 x u → HasBag (units 1) u → Does p d limits image input u old x turn y v phases.Running → Fits p d limits image input y v
  keeps_by x y u old v turn ready calm (inl called) bag does = draws_fit 0x10 (inl refl) x u ready called bag y old v turn calm (did 0x10 (inl refl) x u ready called bag y old v turn does)
  keeps_by x y u old v turn ready calm (inr called) bag does = draws_fit 0x50 (inr refl) x u ready called bag y old v turn calm (did 0x50 (inr refl) x u ready called bag y old v turn does)

  pub draws_there : RunningAt p d limits image input (λ x u. IsCalled p d 0x10 x u ⊎ IsCalled p d 0x50 x u)
  draws_there = record {
    may = λ x u phase ready called bag. may_by x u ready called bag;
    keeps = λ x y old v turn phase ready called bag made does. keeps_by x y (before p d x old) old v turn ready (calm_in p d limits image input x (before p d x old) ready phases.Running phase (record { none = refl; most = λ n. refl; taking = refl })) called bag does;
  }
