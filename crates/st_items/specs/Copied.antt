-- The pure copy that stands behind a function's items in postprocessed code: from an activation that waits it leads to its caller, and changes no
-- word. Read copy_address, IsAtCopy (a machine is sent through it) and Older (what it leads to: the cursor of the caller, by its place, its
-- base and the registers that a call keeps). Its instructions add, load and return (is_reading).
use Rattle.std.specs.Prelude.{◌≡◌, ℕ, ◌+◌, ◌*◌, Bool, true, false, Some, None, slice_get}
use Rattle.st_base.specs.declared.reg.Reg.TheVariants as registers
use Rattle.st_rv.specs.declared.ins.Op.{Op}
use Rattle.st_rv.specs.declared.ins.Op.TheVariants as ops
use Rattle.st_model.specs.declared.code.Layout.TheVariants.{Postprocessed}
use Rattle.st_model.specs.declared.program.Program.{Program}
use Rattle.st_model.specs.declared.program.ProgramFunction.{ProgramFunction}
use Rattle.st_model.specs.Accepted.{IsAccepted}
use Rattle.st_model.specs.Layout.{saved_of, function_address, items_size}
use Rattle.st_step.specs.Frames.{value_in, is_kept, with_saved_values}
use Rattle.st_step.specs.Moves.{register}
use Rattle.st_step.specs.Runs.{Situation, IsReturn, return_word, caller_word}
use Rattle.st_items.specs.Code.{IsSized}
use Rattle.st_items.specs.Body.{Ends, IsOn, IsFrameAt}

-- where a function's pure copy stands
abbrev pub copy_address : Program → ℕ → ProgramFunction → ℕ
copy_address p f function = function_address Postprocessed p f + 4 * items_size Postprocessed function function.items

-- at its first word, with the base of a frame of the function in s0
pub record IsAtCopy (p : Program) (held : ℕ → Bool) (ends : Ends) (bottom : ℕ) (t : Situation) (f : ℕ) (function : ProgramFunction) : Type 0 where
  pub accepted : IsAccepted p
  pub size : IsSized Postprocessed p
  pub here : slice_get p.functions f ≡ Some function
  pub machine : IsOn ends t
  pub frame : IsFrameAt held bottom function
  pub base : register t.state registers.S0 ≡ bottom + function.frame_bytes
  pub back : IsReturn (t.word (return_word (register t.state registers.S0)))
  pub at : t.state.pc ≡ copy_address p f function

-- back in the caller of a frame with base b
pub record Older (ends : Ends) (b : ℕ) (function : ProgramFunction) (t u : Situation) : Type 0 where
  pub machine : IsOn ends u
  pub word : u.word ≡ t.word
  pub pc : u.state.pc ≡ t.word (return_word b)
  pub fp : register u.state registers.S0 ≡ t.word (caller_word b)
  pub value : (x : ℕ) → is_kept x ≡ true → value_in u.state x ≡ with_saved_values t.word b 0 (saved_of function) (value_in t.state) x
  pub whole : u.state.half ≡ None

-- a copy has no other instructions than these
abbrev pub is_reading : Op → Bool
is_reading ops.Addi = true
is_reading ops.Ld = true
is_reading ops.Jalr = true
is_reading _ = false
