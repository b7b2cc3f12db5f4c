-- Which item goes with each kind of step (EventLaws), beside what the step leaves of the view: both are decided by the same tests, of what the worker
-- takes the cell for and of the word that it stores.
use Rattle.std.specs.Prelude.{◌≡◌, ◌≢◌, ℕ, true, false}
use Rattle.st_words.specs.declared.view.CellWord.TheVariants.{Owner}
use Rattle.st_words.specs.declared.view.View.{View}
use Rattle.st_words.specs.Encodings.{full_word, head_in, is_counter}
use Rattle.st_words.specs.Steps.{CellStore, CellChange, Answer, Number}
use Rattle.st_words.specs.Views.{view_after, with_state, changed_future, changed_counter}
use Rattle.st_words.specs.Laws.{TakesForFuture, TakesForCounter}
use Rattle.st_model.specs.declared.program.Program.{Program}
use Rattle.st_model.specs.Memory.{Data}
use Rattle.st_made.specs.Events.{NoItem, AddsTo, MakesCounter, EndsItem, GoesOn, Event}

abbrev pub Alike : Type 0 → Type 0 → Type 0
Alike A B = (A → B) × (B → A)

pub record EventLaws (program : Program) (source : Data) : Type 0 where
  -- a future that becomes full ends its thread
  pub fills : (u v' : View) (c old : ℕ) → TakesForFuture u c → (view_after u (CellChange c old full_word) (Number old) ≡ changed_future c old full_word true u) × Alike (Event program source u (CellChange c old full_word) (Number old) v') (EndsItem program source c u v')
  pub parks : (u v' : View) (c old new : ℕ) → TakesForFuture u c → new ≢ full_word → (view_after u (CellChange c old new) (Number old) ≡ changed_future c old new false u) × Alike (Event program source u (CellChange c old new) (Number old) v') (NoItem u v')
  -- a count that grows
  pub adds : (u v' : View) (c old new : ℕ) → TakesForCounter u c → head_in new ≡ 0 → (view_after u (CellChange c old new) (Number old) ≡ changed_counter c old new true u) × Alike (Event program source u (CellChange c old new) (Number old) v') (GoesOn program source u v' (AddsTo u c))
  pub joins : (u v' : View) (c old new : ℕ) → TakesForCounter u c → head_in new ≢ 0 → (view_after u (CellChange c old new) (Number old) ≡ changed_counter c old new false u) × Alike (Event program source u (CellChange c old new) (Number old) v') (NoItem u v')
  -- another word was found
  pub fails : (u v' : View) (c old new n : ℕ) → n ≢ old → (view_after u (CellChange c old new) (Number n) ≡ with_state c n u) × Alike (Event program source u (CellChange c old new) (Number n) v') (NoItem u v')
  -- a cell is named
  pub counter : (u v' : View) (c n : ℕ) (a : Answer) → is_counter n ≡ true → Alike (Event program source u (CellStore c Owner n) a v') (GoesOn program source u v' (MakesCounter n))
  pub child : (u v' : View) (c n : ℕ) (a : Answer) → is_counter n ≡ false → Alike (Event program source u (CellStore c Owner n) a v') (NoItem u v')

abbrev pub EventsByKind : Type 0
EventsByKind = (program : Program) (source : Data) → EventLaws program source
