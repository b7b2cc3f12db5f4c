-- The names that threads have, and which cell is whose: KnowsNames. A name comes into a view by no other way than with a chain that is taken, or
-- by the naming of a cell (view_after); a future's value is a number, so no name is read from a cell.
use Rattle.std.specs.Prelude.{◌≡◌, ◌⊎◌, ℕ, List, Option, Some, None, slice_index_or}
use Rattle.std.specs.List.{Contains}
use Rattle.st_base.specs.declared.thread.Held.{Held}
use Rattle.st_base.specs.declared.thread.Held.TheVariants as held
use Rattle.st_base.specs.declared.thread.Thread.{Thread}
use Rattle.st_base.specs.declared.thread.Activation.{Activation}
use Rattle.st_words.specs.declared.view.Known.{Known}
use Rattle.st_words.specs.declared.view.Carried.{Carried}
use Rattle.st_words.specs.declared.view.View.{View}

-- a register file or a list of slots has the name somewhere
abbrev pub HasHeld : List (Option Held) → Held → Type 0
HasHeld cells name = (k : ℕ) × (slice_index_or cells k None ≡ Some name)

abbrev pub ActivationHas : Activation → Held → Type 0
ActivationHas a name = HasHeld a.handles name ⊎ HasHeld a.kept name

abbrev pub ThreadHas : Thread → Held → Type 0
ThreadHas t name = HasHeld t.registers name ⊎ ((a : Activation) × Contains t.activations a × ActivationHas a name)

-- the name is of a future or a counter
abbrev pub IsName : Held → Type 0
IsName (held.Number n) = ⊥
IsName (held.Future path) = Prim.Unit
IsName (held.Counter maker number) = Prim.Unit

-- a thread of the view, or one that a chain in its turn stands for, has the name
abbrev pub ViewHas : View → Held → Type 0
ViewHas v name = ((t : Known) × Contains v.threads t × ThreadHas t.thread name) ⊎ ((x : Carried) × Contains v.chains x × ThreadHas x.known.thread name)

-- each name that a view's threads have stands with its cell among the view's names
abbrev pub KnowsNames : View → Type 0
KnowsNames v = (name : Held) → IsName name → ViewHas v name → (c : ℕ) × Contains v.names (name, c)
