-- A thread is back behind the call that it has made: IsBack, and back_polls (it stands where its worker polls). back_place (the place behind the call is that in ra), and at_back and at_back_with (the
-- machine there is one of the same stack).
use Rattle.st_base.specs.Reg.{reg_number}
use Rattle.st_base.specs.declared.chain.Frame.{Frame}
use Rattle.st_base.specs.declared.chain.Note.{Note}
use Rattle.st_base.specs.declared.image.Image.{Image}
use Rattle.st_base.specs.declared.limits.Limits.{Limits}
use Rattle.st_base.specs.declared.reg.Reg.TheVariants as registers
use Rattle.st_base.specs.declared.reg.Reg.{Reg}
use Rattle.st_base.specs.declared.thread.Activation.{Activation}
use Rattle.st_base.specs.declared.thread.Standing.TheVariants.{Going}
use Rattle.st_base.specs.declared.thread.Thread.{Thread}
use Rattle.st_calls.proofs.Called as calling
use Rattle.st_calls.proofs.Making.{note_same}
use Rattle.st_calls.proofs.Turning.{IsLike, IsCalm, StepLeaves, fits_to, goes_to}
use Rattle.st_chain.specs.Copying.{over}
use Rattle.st_chain.specs.Seen.{joined}
use Rattle.st_chain.specs.Taking.{notes_of}
use Rattle.st_chain.specs.Walk.{is_held, word_in}
use Rattle.st_fits.specs.Before.{moved_by, with_item}
use Rattle.st_fits.specs.Fits.{ByPhase, FitsIn}
use Rattle.st_fits.specs.Laws.{IsReady}
use Rattle.st_fits.specs.Threads.{IsCalled, Lies, Polls, ends_of}
use Rattle.st_items.proofs.Addresses.{address_bounds}
use Rattle.st_items.specs.Body.{Context, Ends}
use Rattle.st_kept.proofs.Standing.{lies_over}
use Rattle.st_kept.specs.Keeping.{Untouched}
use Rattle.st_made.specs.Items.{went, next_move}
use Rattle.st_model.specs.Heap.{Change, Moves}
use Rattle.st_model.specs.Memory.{Data}
use Rattle.st_model.specs.declared.code.Layout.TheVariants.{Postprocessed}
use Rattle.st_model.specs.declared.program.Program.{Program}
use Rattle.st_moving.specs.Moving.{AtPoll}
use Rattle.st_phases.specs.Automaton.{back}
use Rattle.st_phases.specs.declared.automaton.Automaton.{Automaton}
use Rattle.st_phases.specs.declared.phase.Phase.{Phase}
use Rattle.st_run.specs.Behind.{NoteIs}
use Rattle.st_serving.specs.Serving as serves
use Rattle.st_serving.specs.Serving.{Counts}
use Rattle.st_standing.specs.Standing as standing
use Rattle.st_standing.specs.Standing.{StandsOn, under}
use Rattle.st_step.proofs.Writes.{length-written, register-written_other, values-written, zero-written}
use Rattle.st_step.specs.Moves.{at_place, register, written}
use Rattle.st_step.specs.Runs.{AreValues, HasRegisters, Situation}
use Rattle.st_step.specs.declared.state.State.{State}
use Rattle.st_words.specs.Steps.{IsLeased, kept, return_place}
use Rattle.st_words.specs.declared.view.Known.{Known}
use Rattle.st_words.specs.declared.view.View.{View}
use Rattle.std.proofs.Common.{◌≡◌, ◌≢◌, inl, inr, ℕ, ◌+◌, Bool, true, false, List, [], ◌∷◌, Option, Some, refl, sym, ap, ◌∙◌, subst, arith, ◌⊎◌, ◌%◌, ◌^◌, ◌<◌, ◌==◌, slice_set, ◌++◌}
use Rattle.std.specs.List.{Contains}
use Rattle.std.specs.Prelude.{if◌then◌else◌}

module _ (p : Program) (d : Data) (limits : Limits) (image : Image) (input : List ℕ) (x : Automaton) (u : View) (ready : IsReady p d limits image input x u) (entry : ℕ) (called : IsCalled p d entry x u) where
  pub record IsBack (m : State) (y : Automaton) (v : View) (next : Thread) : Type 0 where
    pub machine : y.machine ≡ m
    pub stack : y.stack ≡ x.stack
    pub ends : ends_of m ≡ ends_of x.machine
    pub untouched : Untouched u v
    pub threads : v.threads ≡ went called.top next ∷ called.below
    pub going : next.standing ≡ Going
    pub acts : next.activations ≡ calling.Behind p d limits image input x u ready entry called
    pub stands : StandsOn p v.names (is_held u.held) (ends_of x.machine) (record { state = m; word = word_in u.held }) (went called.top next) called.frames called.below called.lower

  abbrev under_top : View → Context
  under_top v = under p v.names (is_held u.held) called.top.note.cell called.below called.lower

  -- its newest activation isn't before its prologue
  not_before : (v : View) (t : Situation) (acts : List Activation) → acts ≡ calling.Behind p d limits image input x u ready entry called → standing.Before p v.names (is_held u.held) (under_top v) t acts called.frames → ⊥
  not_before v t acts are before =
      let (function, is) = subst (λ (xs : List Activation). standing.Before p v.names (is_held u.held) (under_top v) t xs called.frames) are before in
      let first : called.at.1.top.next + 1 ≡ 0 = is.first in
      omega (arith, first)

  module _ (m : State) (y : Automaton) (v : View) (next : Thread) (is : IsBack m y v next) where
    abbrev top : Known
    top = went called.top next

    behind_its : standing.Before p v.names (is_held u.held) (under_top v) (record { state = m; word = word_in u.held }) next.activations called.frames ⊎ standing.Behind p v.names (is_held u.held) (under_top v) 0 (record { state = m; word = word_in u.held }) next.activations called.frames
        → standing.Behind p v.names (is_held u.held) (under_top v) 0 (record { state = m; word = word_in u.held }) next.activations called.frames
    behind_its (inl before) = absurd (not_before v (record { state = m; word = word_in u.held }) next.activations is.acts before)
    behind_its (inr behind) = behind

    at_poll : AtPoll p v.names (is_held u.held) (ends_of x.machine) (record { state = m; word = word_in u.held }) top called.frames called.below called.lower
    at_poll = inl (is.stands, behind_its is.stands.stands)

    abbrev AtRestBy : State → Ends → List (Option ℕ) → Type 0
    AtRestBy n ends held = AtPoll p v.names (is_held held) ends (over held n) top called.frames called.below called.lower

    rests_there : AtRestBy y.machine (ends_of y.machine) v.held
    rests_there =
        subst (λ (held : List (Option ℕ)). AtRestBy y.machine (ends_of y.machine) held) (sym is.untouched.held)
        (subst (λ (n : State). AtRestBy n (ends_of n) u.held) (sym is.machine) (subst (λ (ends : Ends). AtRestBy m ends u.held) (sym is.ends) at_poll))

    was_leased : (f : Frame) → IsLeased v f → IsLeased u f
    was_leased f (inl in') = inl (subst (λ (fs : List Frame). Contains fs f) is.untouched.exported in')
    was_leased f (inr in') = inr (subst (λ (fs : List Frame). Contains fs f) is.untouched.away in')

    ends_are : ends_of y.machine ≡ ends_of x.machine
    ends_are = ap ends_of is.machine ∙ is.ends

    pub back_polls : Polls p d y v []
    back_polls = record {
      top = top;
      below = called.below;
      is = is.threads;
      frames = called.frames;
      lower = called.lower;
      at = (record { going = is.going; not_yet = refl }, rests_there);
      plain = called.plain;
      lies =
          subst (λ (ends : Ends). Lies y v ends (joined (called.frames ∷ called.lower))) (sym ends_are)
          (lies_over x y u v (ends_of x.machine) (joined (called.frames ∷ called.lower)) is.stack is.untouched.frame_bytes (λ f in' there. subst (λ (fs : List Frame). Contains fs f) (sym is.untouched.away) there) called.lies);
      leases = λ f leased held. called.leases f (was_leased f leased) (subst (λ (h : List (Option ℕ)). (n : ℕ) × (kept h (return_place f) ≡ Some n)) is.untouched.held held);
      apart = called.apart;
    }

  -- ---- the place behind the call

  pub back_place : back x.machine ≡ register x.machine registers.Ra
  back_place =
      let at = called.at.1 in
      let bounds = (address_bounds Postprocessed p at.top.function at.function at.top.next at.item ready.fits.is_for.size at.has).1 in
      let ra = at.call.back in
      omega (arith, bounds, ra)

-- ---- the machine there

pub at_back : (m : State) (pc : ℕ) → HasRegisters m → AreValues m → IsLike m (at_place pc m)
at_back m pc has values = record { lo = refl; hi = refl; registers = record { count = has.count; origin = has.origin }; values = values }

pub back_in : (m : State) (r : Reg) (n : ℕ) → reg_number r ≢ 1 → back (written m r n) ≡ back m
back_in m r n other = ap (λ (k : ℕ). k % 2 ^ 32) (register-written_other m r registers.Ra n (λ e. other (sym e)))

abbrev lo_by : Bool → State → ℕ → ℕ → State
lo_by b m k n = if b then m else record m { registers = slice_set m.registers k n }

lo_is : (b : Bool) (m : State) (k n : ℕ) → ((lo_by b m k n).lo ≡ m.lo) × ((lo_by b m k n).hi ≡ m.hi)
lo_is true m k n = (refl, refl)
lo_is false m k n = (refl, refl)

pub at_back_with : (m : State) (r : Reg) (n pc : ℕ) → n < 2 ^ 64 → HasRegisters m → AreValues m → IsLike m (at_place pc (written m r n))
at_back_with m r n pc less has values =
    let ends = lo_is (reg_number r == 0) m (reg_number r) n in
    record {
      lo = ends.0;
      hi = ends.1;
      registers = record { count = length-written m r n ∙ has.count; origin = zero-written m r n ∙ has.origin };
      values = values-written m r n values less;
    }

pub ends_with : (m : State) (r : Reg) (n pc : ℕ) → reg_number r ≢ 2 → reg_number r ≢ 3 → ends_of (at_place pc (written m r n)) ≡ ends_of m
ends_with m r n pc not_sp not_gp =
    let ends = lo_is (reg_number r == 0) m (reg_number r) n in
    let sp = register-written_other m r registers.Sp n (λ e. not_sp (sym e)) in
    let gp = register-written_other m r registers.Gp n (λ e. not_gp (sym e)) in
    λ i. record { lo = ends.0 i; hi = ends.1 i; sp = sp i; gp = gp i }

-- ---- the worker there

module _ (p : Program) (d : Data) (limits : Limits) (image : Image) (input : List ℕ) (x : Automaton) (u : View) (ready : IsReady p d limits image input x u) (entry : ℕ) (called : IsCalled p d entry x u) where
  -- the thread in the view behind its item
  pub record Returns (m : State) (notes : List Note) (w : View) (next : Thread) : Type 0 where
    pub like : IsLike x.machine m
    pub ends : ends_of m ≡ ends_of x.machine
    pub leaves : StepLeaves u w
    pub threads : w.threads ≡ went called.top next ∷ called.below
    pub going : next.standing ≡ Going
    pub acts : next.activations ≡ calling.Behind p d limits image input x u ready entry called
    pub stands : StandsOn p w.names (is_held u.held) (ends_of x.machine) (record { state = m; word = word_in u.held }) (went called.top next) called.frames called.below called.lower
    pub notes_are : notes ≡ notes_of w.threads

  pub returns_fit : (m : State) (notes : List Note) (φ : Phase) (w : View) (next : Thread) → Returns m notes w next → IsCalm x.phase → IsCalm φ → (Polls p d (goes_to m notes φ x) w [] → ByPhase p d limits φ (goes_to m notes φ x) w) → FitsIn p d limits image input (goes_to m notes φ x) w
  returns_fit m notes φ w next is one two by =
      fits_to p d limits image input x m notes φ u w is.like one two is.notes_are is.leaves ready.fits
      (by (back_polls p d limits image input x u ready entry called m (goes_to m notes φ x) w next
      (record { machine = refl; stack = refl; ends = is.ends; untouched = is.leaves.untouched; threads = is.threads; going = is.going; acts = is.acts; stands = is.stands })))

  -- what its note says
  pub top_note : NoteIs u.cells called.top
  top_note = ready.behind.notes called.top (calling.top_in p d limits image input x u ready entry called)

  pub notes_kept : (next : Thread) (ts : List Known) → ts ≡ went called.top next ∷ called.below → Counts called.top.thread next 0 0 0 → x.threads.notes ≡ notes_of ts
  notes_kept next ts are counts =
      ready.fits.holds.notes ∙ ap notes_of called.is ∙ ap (λ (n : Note). notes_of called.below ++ n ∷ []) (sym (note_same called.top next u.cells top_note counts)) ∙ ap notes_of (sym are)

  -- the item that goes with a step
  pub item_made : (c : Change) → next_move p d called.top ≡ Moves c → with_item p d u.threads ≡ went called.top c.own ∷ called.below
  item_made c moves = ap (with_item p d) called.is ∙ ap (moved_by p d called.top called.below) moves

  -- no register is written
  pub back_state : at_place (back x.machine) x.machine ≡ serves.back x.machine
  back_state = ap (λ (pc : ℕ). at_place pc x.machine) (back_place p d limits image input x u ready entry called)
