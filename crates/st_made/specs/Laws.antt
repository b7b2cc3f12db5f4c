-- What is made by a worker itself, to any board: MadeIsFree (it is within what a plain board leaves free before a step), MadeFollows (moves after moves
-- are moves), MadeStays (it changes nothing that the worker has seen,
-- named, drawn or been handed, nor any other part of the view that isn't free).
use Rattle.std.specs.Prelude.{◌≡◌}
use Rattle.st_words.specs.declared.view.View.{View}
use Rattle.st_words.specs.Views.{IsFree}
use Rattle.st_model.specs.declared.program.Program.{Program}
use Rattle.st_model.specs.Memory.{Data}
use Rattle.st_made.specs.Moves.{Made}

abbrev pub MadeIsFree : Type 0
MadeIsFree = (program : Program) (source : Data) (v u : View) → Made program source v u → IsFree v u

abbrev pub MadeFollows : Type 0
MadeFollows = (program : Program) (source : Data) (v y u : View) → Made program source v y → Made program source y u → Made program source v u

-- all that no move changes: each part of a view but its threads, its turn, its exported frames, the next child's cell and the two numbers
pub record SeesSame (v u : View) : Type 0 where
  pub number : u.number ≡ v.number
  pub workers : u.workers ≡ v.workers
  pub cells : u.cells ≡ v.cells
  pub each : u.each ≡ v.each
  pub held : u.held ≡ v.held
  pub away : u.away ≡ v.away
  pub names : u.names ≡ v.names
  pub drawn : u.drawn ≡ v.drawn
  pub owners : u.owners ≡ v.owners
  pub full : u.full ≡ v.full
  pub filled : u.filled ≡ v.filled
  pub values : u.values ≡ v.values
  pub valued : u.valued ≡ v.valued
  pub counts : u.counts ≡ v.counts
  pub ready : u.ready ≡ v.ready
  pub hand : u.hand ≡ v.hand
  pub share : u.share ≡ v.share
  pub asked : u.asked ≡ v.asked
  pub answering : u.answering ≡ v.answering
  pub mail : u.mail ≡ v.mail
  pub given : u.given ≡ v.given
  pub root : u.root ≡ v.root
  pub inactive : u.inactive ≡ v.inactive
  pub stop : u.stop ≡ v.stop
  pub loaded : u.loaded ≡ v.loaded

abbrev pub MadeStays : Type 0
MadeStays = (program : Program) (source : Data) (v u : View) → Made program source v u → SeesSame v u
