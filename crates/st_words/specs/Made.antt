-- One clause for a step of any board, over the members of the trait: Asked, what its caller owes, and StepMade, what the step with its answer leaves.
-- Each call that makes a step of a board says the same by them. In StepMade `others` says that the views of all other workers stay.
use Rattle.std.specs.Prelude.{◌≡◌, ◌≢◌, ℕ}
use Rattle.st_words.specs.declared.view.View.{View}
use Rattle.st_words.specs.Steps.{Step, Answer, Asks}

-- the worker is one that the board serves, and may ask the step, with the view after it that the caller names
pub record Asked {Board : Type 0} (board_view : Board → ℕ → View) (board_serves : Board → ℕ → Type 0) (board_says : Board → ℕ → Step → Answer → Type 0) (board_forward : Board → View → View → Type 0) (board_moves : Board → View → Step → Answer → View → Type 0) (after : View → Step → Answer → View) (old : Board) (w : ℕ) (s : Step) : Type 0 where
  pub serves : board_serves old w
  pub may : Asks (board_says old w) (board_forward old) (board_moves old) after (board_view old w) s

-- the board made this step with this answer, and is the new one then
pub record StepMade {Board : Type 0} (board_view : Board → ℕ → View) (board_serves : Board → ℕ → Type 0) (board_says : Board → ℕ → Step → Answer → Type 0) (board_did : Board → ℕ → Step → Answer → Board → Type 0) (after : View → Step → Answer → View) (old : Board) (w : ℕ) (s : Step) (a : Answer) (new : Board) : Type 0 where
  pub said : board_says old w s a
  pub did : board_did old w s a new
  pub view : board_view new w ≡ after (board_view old w) s a
  pub serves : board_serves new w
  pub others : (other : ℕ) → other ≢ w → board_serves old other → board_serves new other × (board_view new other ≡ board_view old other)
