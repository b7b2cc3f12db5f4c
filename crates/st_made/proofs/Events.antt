-- The item that goes with a step: decided by the tests of view_after (events_by_kind), and one step of the heap-frame machine or none (event_runs).
use Rattle.std.proofs.Common.{◌≡◌, ◌≢◌, ℕ, Bool, true, false, ◌==◌, ◌∷◌, refl, sym, ap, ◌∙◌, subst, eq-eqb, ne_eqb}
use Rattle.st_words.specs.declared.view.CellWord.TheVariants.{Owner, State, Value, Next, Standing, Trap}
use Rattle.st_words.specs.declared.view.Known.{Known}
use Rattle.st_words.specs.declared.view.View.{View}
use Rattle.st_words.specs.Encodings.{full_word, head_in, is_counter}
use Rattle.st_words.specs.Steps.{StackLoad, StackStore, Mark, Look, CellLoad, CellStore, CellChange, Draw, ActiveAdd, ActiveLoad, StopLoad, StopSet, RootTake, RequestLoad, RequestChange, MailLoad, MailStore, OutStore, SlotTake, SlotPut, OutLoad, Done, Number, Looked, Took}
use Rattle.st_words.specs.Views.{view_after, with_state, changed_future, changed_counter, changed_by, cell_changed, counts_cell, owner_seen}
use Rattle.st_words.specs.Laws.{TakesForFuture, TakesForCounter}
use Rattle.st_model.specs.declared.program.Program.{Program}
use Rattle.st_model.specs.Memory.{Data}
use Rattle.st_model.specs.Heap.{Heap, Change, IsNumbered}
use Rattle.st_made.specs.Items.{went, ending}
use Rattle.st_made.specs.Events.{NoItem, AddsTo, MakesCounter, PrintsWord, EndsItem, GoesOn, future_event, counter_event, state_event, change_event, owner_event, Event}
use Rattle.st_made.specs.EventLaws.{Alike, EventsByKind}
use Rattle.st_made.specs.Runs.{AreIn, Onward, EventRuns}
use Rattle.st_made.proofs.Running.{among_same, stays_in, goes_on, goes_out}
use Rattle.st_made.proofs.MadeRuns.{at_once, on_lists, are_lists}

-- ---- by kind

alike_by : (P : Bool → Type 0) (a b : Bool) → a ≡ b → Alike (P a) (P b)
alike_by P a b e = (subst P e, subst P (sym e))

alike_on : (A B C : Type 0) → Alike A B → Alike B C → Alike A C
alike_on A B C x y = (λ a. y.0 (x.0 a), λ c. x.1 (y.1 c))

-- a change that found what it compared with, by what the cell is taken for
found : (program : Program) (source : Data) (u v' : View) (c old new : ℕ) (counter : Bool) → counts_cell (owner_seen c u.owners) ≡ counter → Alike (Event program source u (CellChange c old new) (Number old) v') (state_event program source counter c new u v')
found program source u v' c old new counter e = alike_on (change_event program source (old == old) c new u v') (change_event program source true c new u v') (state_event program source counter c new u v')
    (alike_by (λ b. change_event program source b c new u v') (old == old) true (eq-eqb old old refl))
    (alike_by (λ b. state_event program source b c new u v') (counts_cell (owner_seen c u.owners)) counter e)

found_view : (u : View) (c old new : ℕ) (counter : Bool) → counts_cell (owner_seen c u.owners) ≡ counter → cell_changed (old == old) c old new old u ≡ changed_by counter c old new u
found_view u c old new counter e = ap (λ (b : Bool). cell_changed b c old new old u) (eq-eqb old old refl) ∙ ap (λ (b : Bool). changed_by b c old new u) e

of_future : (program : Program) (source : Data) (u v' : View) (c old new : ℕ) (b : Bool) → TakesForFuture u c → (new == full_word) ≡ b → (view_after u (CellChange c old new) (Number old) ≡ changed_future c old new b u) × Alike (Event program source u (CellChange c old new) (Number old) v') (future_event program source b c u v')
unfolding view_after
of_future program source u v' c old new b takes e = (
  found_view u c old new false takes ∙ ap (λ (k : Bool). changed_future c old new k u) e,
  alike_on (Event program source u (CellChange c old new) (Number old) v') (future_event program source (new == full_word) c u v') (future_event program source b c u v')
      (found program source u v' c old new false takes)
      (alike_by (λ k. future_event program source k c u v') (new == full_word) b e),
)

of_counter : (program : Program) (source : Data) (u v' : View) (c old new : ℕ) (b : Bool) → TakesForCounter u c → (head_in new == 0) ≡ b → (view_after u (CellChange c old new) (Number old) ≡ changed_counter c old new b u) × Alike (Event program source u (CellChange c old new) (Number old) v') (counter_event program source b c u v')
unfolding view_after
of_counter program source u v' c old new b takes e = (
  found_view u c old new true takes ∙ ap (λ (k : Bool). changed_counter c old new k u) e,
  alike_on (Event program source u (CellChange c old new) (Number old) v') (counter_event program source (head_in new == 0) c u v') (counter_event program source b c u v')
      (found program source u v' c old new true takes)
      (alike_by (λ k. counter_event program source k c u v') (head_in new == 0) b e),
)

not_found : (program : Program) (source : Data) (u v' : View) (c old new n : ℕ) → n ≢ old → (view_after u (CellChange c old new) (Number n) ≡ with_state c n u) × Alike (Event program source u (CellChange c old new) (Number n) v') (NoItem u v')
unfolding view_after
not_found program source u v' c old new n ne = (
  ap (λ (b : Bool). cell_changed b c old new n u) (ne_eqb n old ne),
  alike_by (λ b. change_event program source b c new u v') (n == old) false (ne_eqb n old ne),
)

pub events_by_kind : EventsByKind
events_by_kind program source = record {
  fills = λ u v' c old takes. of_future program source u v' c old full_word true takes (eq-eqb full_word full_word refl);
  parks = λ u v' c old new takes ne. of_future program source u v' c old new false takes (ne_eqb new full_word ne);
  adds = λ u v' c old new takes e. of_counter program source u v' c old new true takes (eq-eqb (head_in new) 0 e);
  joins = λ u v' c old new takes ne. of_counter program source u v' c old new false takes (ne_eqb (head_in new) 0 ne);
  fails = λ u v' c old new n ne. not_found program source u v' c old new n ne;
  counter = λ u v' c n a e. alike_by (λ b. owner_event program source b n u v') (is_counter n) true e;
  child = λ u v' c n a e. alike_by (λ b. owner_event program source b n u v') (is_counter n) false e;
}

-- ---- a step or none

no_item : (program : Program) (source : Data) (h : Heap) (u v' : View) → IsNumbered h → AreIn h u.threads → NoItem u v' → Onward program source h u.threads v'.threads
no_item program source h u v' numbered is e = on_lists program source h u.threads u.threads u.threads v'.threads refl e.threads (stays_in program source h u.threads u.threads is (among_same u.threads))

item : (program : Program) (source : Data) (h : Heap) (u v' : View) (Is : Known → Change → Type 0) → IsNumbered h → AreIn h u.threads → GoesOn program source u v' Is → Onward program source h u.threads v'.threads
item program source h u v' Is numbered is e = on_lists program source h (e.top ∷ e.below) u.threads (went e.top e.change.own ∷ e.below) v'.threads e.is e.threads
    (goes_on program source h e.top e.below e.change numbered (are_lists h u.threads (e.top ∷ e.below) e.is is) (at_once program source h e.top e.change e.can))

ends : (program : Program) (source : Data) (h : Heap) (u v' : View) (c : ℕ) → IsNumbered h → AreIn h u.threads → EndsItem program source c u v' → Onward program source h u.threads v'.threads
ends program source h u v' c numbered is e = on_lists program source h (e.top ∷ e.below) u.threads e.below v'.threads e.is e.threads
    (goes_out program source h e.top e.below (ending e.top.thread e.value) numbered (are_lists h u.threads (e.top ∷ e.below) e.is is) (at_once program source h e.top (ending e.top.thread e.value) e.can))

by_future : (program : Program) (source : Data) (h : Heap) (u v' : View) (c : ℕ) (b : Bool) → IsNumbered h → AreIn h u.threads → future_event program source b c u v' → Onward program source h u.threads v'.threads
by_future program source h u v' c true numbered is e = ends program source h u v' c numbered is e
by_future program source h u v' c false numbered is e = no_item program source h u v' numbered is e

by_counter : (program : Program) (source : Data) (h : Heap) (u v' : View) (c : ℕ) (b : Bool) → IsNumbered h → AreIn h u.threads → counter_event program source b c u v' → Onward program source h u.threads v'.threads
by_counter program source h u v' c true numbered is e = item program source h u v' (AddsTo u c) numbered is e
by_counter program source h u v' c false numbered is e = no_item program source h u v' numbered is e

by_state : (program : Program) (source : Data) (h : Heap) (u v' : View) (c new : ℕ) (b : Bool) → IsNumbered h → AreIn h u.threads → state_event program source b c new u v' → Onward program source h u.threads v'.threads
by_state program source h u v' c new true numbered is e = by_counter program source h u v' c (head_in new == 0) numbered is e
by_state program source h u v' c new false numbered is e = by_future program source h u v' c (new == full_word) numbered is e

by_change : (program : Program) (source : Data) (h : Heap) (u v' : View) (c new : ℕ) (b : Bool) → IsNumbered h → AreIn h u.threads → change_event program source b c new u v' → Onward program source h u.threads v'.threads
by_change program source h u v' c new true numbered is e = by_state program source h u v' c new (counts_cell (owner_seen c u.owners)) numbered is e
by_change program source h u v' c new false numbered is e = no_item program source h u v' numbered is e

by_owner : (program : Program) (source : Data) (h : Heap) (u v' : View) (n : ℕ) (b : Bool) → IsNumbered h → AreIn h u.threads → owner_event program source b n u v' → Onward program source h u.threads v'.threads
by_owner program source h u v' n true numbered is e = item program source h u v' (MakesCounter n) numbered is e
by_owner program source h u v' n false numbered is e = no_item program source h u v' numbered is e

pub event_runs : EventRuns
event_runs program source h u v' (CellChange c old new) (Number n) numbered is e = by_change program source h u v' c new (n == old) numbered is e
event_runs program source h u v' (CellStore c Owner n) a numbered is e = by_owner program source h u v' n (is_counter n) numbered is e
event_runs program source h u v' (OutStore i n) a numbered is e = item program source h u v' (PrintsWord i n) numbered is e
event_runs program source h u v' (StackLoad p) a numbered is e = no_item program source h u v' numbered is e
event_runs program source h u v' (StackStore p n) a numbered is e = no_item program source h u v' numbered is e
event_runs program source h u v' (Mark p) a numbered is e = no_item program source h u v' numbered is e
event_runs program source h u v' (Look p) a numbered is e = no_item program source h u v' numbered is e
event_runs program source h u v' (CellLoad c word) a numbered is e = no_item program source h u v' numbered is e
event_runs program source h u v' (CellStore c State n) a numbered is e = no_item program source h u v' numbered is e
event_runs program source h u v' (CellStore c Value n) a numbered is e = no_item program source h u v' numbered is e
event_runs program source h u v' (CellStore c Next n) a numbered is e = no_item program source h u v' numbered is e
event_runs program source h u v' (CellStore c Standing n) a numbered is e = no_item program source h u v' numbered is e
event_runs program source h u v' (CellStore c Trap n) a numbered is e = no_item program source h u v' numbered is e
event_runs program source h u v' (CellChange c old new) Done numbered is e = no_item program source h u v' numbered is e
event_runs program source h u v' (CellChange c old new) (Looked n cargo) numbered is e = no_item program source h u v' numbered is e
event_runs program source h u v' (CellChange c old new) (Took chain cargo) numbered is e = no_item program source h u v' numbered is e
event_runs program source h u v' Draw a numbered is e = no_item program source h u v' numbered is e
event_runs program source h u v' (ActiveAdd up) a numbered is e = no_item program source h u v' numbered is e
event_runs program source h u v' ActiveLoad a numbered is e = no_item program source h u v' numbered is e
event_runs program source h u v' StopLoad a numbered is e = no_item program source h u v' numbered is e
event_runs program source h u v' (StopSet code) a numbered is e = no_item program source h u v' numbered is e
event_runs program source h u v' RootTake a numbered is e = no_item program source h u v' numbered is e
event_runs program source h u v' (RequestLoad at) a numbered is e = no_item program source h u v' numbered is e
event_runs program source h u v' (RequestChange at old new) a numbered is e = no_item program source h u v' numbered is e
event_runs program source h u v' MailLoad a numbered is e = no_item program source h u v' numbered is e
event_runs program source h u v' (MailStore at n) a numbered is e = no_item program source h u v' numbered is e
event_runs program source h u v' (SlotTake slot) a numbered is e = no_item program source h u v' numbered is e
event_runs program source h u v' (SlotPut slot chain cargo) a numbered is e = no_item program source h u v' numbered is e
event_runs program source h u v' (OutLoad i) a numbered is e = no_item program source h u v' numbered is e
