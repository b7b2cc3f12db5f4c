-- The code of a program at its addresses, in either layout. Read code_at (the instruction at an address), HasItem (an item of a function; its first
-- word is at `address_in` of st_step) and IsSized (what bounds the code).
use Rattle.std.specs.Prelude.{◌≡◌, ℕ, ◌-◌, ◌/◌, ◌≤◌, nat_lt, Option, Some, None, slice_get, if◌then◌else◌}
use Rattle.st_rv.specs.declared.ins.Ins.{Ins}
use Rattle.st_model.specs.declared.program.Item.{Item}
use Rattle.st_model.specs.declared.program.Program.{Program}
use Rattle.st_model.specs.declared.program.ProgramFunction.{ProgramFunction}
use Rattle.st_model.specs.declared.code.Layout.{Layout}
use Rattle.st_model.specs.Layout.{code_start, code_of, functions_size, HasSize}

-- the word of an address, counted from the first
abbrev pub word_index : ℕ → ℕ
word_index address = (address - code_start) / 4

-- the instruction of the word at an address
abbrev pub code_at : Layout → Program → ℕ → Option Ins
code_at layout p pc = if nat_lt pc code_start then None else slice_get (code_of layout p) (word_index pc)

-- the item i of the function f
pub record HasItem (p : Program) (f : ℕ) (function : ProgramFunction) (i : ℕ) (item : Item) : Type 0 where
  pub named : slice_get p.functions f ≡ Some function
  pub placed : slice_get function.items i ≡ Some item

-- each `li` has a value of 32 bits, and the code has at most 196,608 words
pub record IsSized (layout : Layout) (p : Program) : Type 0 where
  pub size : HasSize p
  pub few : functions_size layout p.functions ≤ 196608
