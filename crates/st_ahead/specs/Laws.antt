-- The laws of what a view comes to by private items. Read BroughtIsMade (whatever is brought is made by the worker itself) and ItemsAreBrought (so many private items lead
-- to the view that brought gives, and to no other).
use Rattle.std.specs.Prelude.{◌≡◌, ℕ, zero, suc}
use Rattle.std.specs.List.{Contains}
use Rattle.st_base.specs.declared.thread.Held.{Held}
use Rattle.st_words.specs.declared.view.View.{View}
use Rattle.st_model.specs.declared.program.Program.{Program}
use Rattle.st_model.specs.Memory.{Data}
use Rattle.st_made.specs.Moves.{Begins, MakesItem, Made}
use Rattle.st_ahead.specs.Ahead.{brought}

abbrev pub BroughtIsMade : Type 0
BroughtIsMade = (program : Program) (source : Data) (v : View) (n : ℕ) → Made program source v (brought program source n v)

-- so many items of the top thread are begun and made, one behind the other
abbrev pub OwnItems : Program → Data → ℕ → View → View → Type 0
OwnItems program source zero v u = v ≡ u
OwnItems program source (suc n) v u = (y : View) × (z : View) × Begins program source v y × MakesItem program source y z × OwnItems program source n z u

-- a view has one cell for a name, and one value for a cell, as each view of a board for a program has
pub record SeesOne (v : View) : Type 0 where
  pub cells : (name : Held) (c d : ℕ) → Contains v.names (name, c) → Contains v.names (name, d) → c ≡ d
  pub values : (c m n : ℕ) → Contains v.values (c, m) → Contains v.values (c, n) → m ≡ n

abbrev pub ItemsAreBrought : Type 0
ItemsAreBrought = (program : Program) (source : Data) (v u : View) (n : ℕ) → SeesOne v → OwnItems program source n v u → brought program source n v ≡ u
