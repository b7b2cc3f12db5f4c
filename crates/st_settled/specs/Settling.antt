-- The laws of a worker that fits its board's view which all phases stand on. Read SettledView, UnreadStays (what such a worker doesn't speak of may be other), LateKeeps (the stop word is read before
-- all else) and Ticks (its turns are counted).
use Rattle.std.specs.Prelude.{◌≡◌, ℕ, Bool, List, Option}
use Rattle.st_base.specs.declared.image.Image.{Image}
use Rattle.st_base.specs.declared.limits.Limits.{Limits}
use Rattle.st_words.specs.declared.view.Loaded.{Loaded}
use Rattle.st_words.specs.declared.view.View.{View}
use Rattle.st_words.specs.Steps.{StopLoad, Number}
use Rattle.st_model.specs.declared.program.Program.{Program}
use Rattle.st_model.specs.Memory.{Data}
use Rattle.st_phases.specs.declared.automaton.Automaton.{Automaton}
use Rattle.st_phases.specs.Polling.{heeded}
use Rattle.st_phases.specs.Turning.{ticked}
use Rattle.st_fits.specs.Before.{before}
use Rattle.st_fits.specs.Fits.{FitsIn, Fits}
use Rattle.st_fits.specs.Laws.{Told}

-- a view that a worker fits is brought forward by nothing
abbrev pub SettledView : Type 0
SettledView = (p : Program) (d : Data) (limits : Limits) (image : Image) (input : List ℕ) (x : Automaton) (u : View) → FitsIn p d limits image input x u → before p d x u ≡ u

-- ---- what it doesn't speak of

-- the values that were read, whether the active count was 0, the stop code, and what was loaded of the words that are read at the end of a run
pub record Unread : Type 0 where
  pub values : List (ℕ × ℕ)
  pub inactive : Bool
  pub stop : Option ℕ
  pub loaded : List (Loaded × ℕ)

abbrev pub with_unread : Unread → View → View
with_unread o v = record v { values = o.values; inactive = o.inactive; stop = o.stop; loaded = o.loaded }

-- since when the stop word wasn't read, and whether the answer to its request has begun
abbrev pub with_since : ℕ → Bool → Automaton → Automaton
with_since since begun x = record x { since = since; begun = begun }

abbrev pub UnreadStays : Type 0
UnreadStays = (p : Program) (d : Data) (limits : Limits) (image : Image) (input : List ℕ) (since : ℕ) (begun : Bool) (o : Unread) (x : Automaton) (u : View) → FitsIn p d limits image input x u → FitsIn p d limits image input (with_since since begun x) (with_unread o u)

-- ---- before a phase

-- the stop word was read in its place
abbrev pub LateKeeps : Type 0
LateKeeps =
    (p : Program) (d : Data) (limits : Limits) (image : Image) (input : List ℕ) (x y : Automaton) (old v : View) (found : ℕ) → Fits p d limits image input x old → Told p d limits (before p d x old) StopLoad (Number found) v → y ≡ heeded x.phase found x
    → Fits p d limits image input y v

-- a turn is counted
pub record Ticks (p : Program) (d : Data) (limits : Limits) (image : Image) (input : List ℕ) (x : Automaton) : Type 0 where
  pub before : (v : View) → before p d (ticked x) v ≡ before p d x v
  pub fits : (u : View) → FitsIn p d limits image input x u → FitsIn p d limits image input (ticked x) u

abbrev pub TurnsTick : Type 0
TurnsTick = (p : Program) (d : Data) (limits : Limits) (image : Image) (input : List ℕ) (x : Automaton) → Ticks p d limits image input x
