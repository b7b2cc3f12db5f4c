-- What a move of the machine leaves of a board for its workers, by what its one step leaves: the worker is served still, and the others are served and
-- see what they saw (moves-keep). So a caller need not look at which move was made.
use Rattle.std.proofs.Common.{◌≡◌, ◌≢◌, ℕ, refl, sym, subst}
use Rattle.st_words.specs.declared.view.View.{View}
use Rattle.st_words.specs.Made.{StepMade}
use Rattle.st_words.specs.Steps.{Step, Answer}
use Rattle.st_step.specs.declared.state.State.{State}
use Rattle.st_step.specs.declared.machine.StepEnd.{StepEnd}
use Rattle.st_step.specs.Moves.{Move, Goes, Reads, Writes, Marks, Stops, Outside, Moves}

module _ {Board : Type 0} (view : Board → ℕ → View) (serves : Board → ℕ → Type 0) (says : Board → ℕ → Step → Answer → Type 0) (did : Board → ℕ → Step → Answer → Board → Type 0) (after : View → Step → Answer → View) (old : Board) (w : ℕ) where
  abbrev pub Keeps : Board → Type 0
  Keeps board = serves board w × ((other : ℕ) → other ≢ w → serves old other → serves board other × (view board other ≡ view old other))

  as_it_was : (board : Board) → board ≡ old → serves old w → Keeps board
  as_it_was board same here = subst Keeps (sym same) (here, λ other apart there. (there, refl))

  pub moves-keep : (m : State) (x : Move) (end : StepEnd) (new : State) (board : Board) → serves old w → Moves (λ s a b. StepMade view serves says did after old w s a b) old m x end new board → Keeps board
  moves-keep m (Goes m') end new board here moves = as_it_was board moves.2 here
  moves-keep m (Reads p go) end new board here moves = (moves.1.1.serves, moves.1.1.others)
  moves-keep m (Writes p n m') end new board here moves = (moves.2.serves, moves.2.others)
  moves-keep m (Marks p m') end new board here moves = (moves.2.serves, moves.2.others)
  moves-keep m (Stops e) end new board here moves = as_it_was board moves.2 here
  moves-keep m Outside end new board here moves = absurd moves
