-- Calls, of functions and of the runtime's entries. Read Calling (what is older than a called activation: its caller, and what is older than that),
-- IsBeneath (the called one's frame lies apart from its caller's), Enters and AtEntry (an entry that an item has called with its first word),
-- IsAtSecond (at the second jump of a fork, which calls its function), IsThird (at the third one, which ends the child) and AtChildEnd (at the
-- entry that it calls).
use Rattle.std.specs.Prelude.{◌≡◌, ◌⊎◌, ℕ, ◌+◌, ◌<◌, ◌≤◌, None}
use Rattle.st_base.specs.declared.reg.Reg.{Reg}
use Rattle.st_base.specs.declared.reg.Reg.TheVariants as registers
use Rattle.st_base.specs.declared.thread.Activation.{Activation}
use Rattle.st_model.specs.declared.code.Layout.{Layout}
use Rattle.st_model.specs.declared.program.Item.{Item}
use Rattle.st_model.specs.declared.program.ItemKind.{ItemKind}
use Rattle.st_model.specs.declared.program.ItemKind.TheVariants.{Entry, Fork}
use Rattle.st_model.specs.declared.program.Program.{Program}
use Rattle.st_model.specs.declared.program.ProgramFunction.{ProgramFunction}
use Rattle.st_model.specs.Accepted.{IsAccepted}
use Rattle.st_model.specs.Effect.{File}
use Rattle.st_model.specs.Layout.{saved_of, fork_in, fork_out}
use Rattle.st_step.specs.Frames.{address_in, Naming, IsCaller, with_saved_values}
use Rattle.st_step.specs.Moves.{register}
use Rattle.st_step.specs.Runs.{Situation, return_word, caller_word}
use Rattle.st_items.specs.Code.{HasItem, IsSized}
use Rattle.st_items.specs.Ways.{IsBehind, JumpsTo}
use Rattle.st_items.specs.Body.{Ends, Context, SeesOutside, IsInBody}

-- ---- functions

-- what is older than an activation that the activation a has called; the frame of a lies from `low` on
abbrev pub Calling : Layout → Program → Naming → Context → ℕ → ProgramFunction → Activation → Context
Calling layout p names older low function a kind kept word value fp ret =
    IsCaller layout p names word value low fp ret kind kept a function × older a.kind a.kept word (with_saved_values word fp 0 (saved_of function) value) (word (caller_word fp)) (word (return_word fp))

-- a frame from bottom to base is apart from its caller's, which lies from `low` on, and what is older sees no change in it
pub record IsBeneath (older : Context) (low : ℕ) (function : ProgramFunction) (bottom base : ℕ) : Type 0 where
  pub above : 0x8000_0000 ≤ low
  pub apart : (base ≤ low) ⊎ (low + function.frame_bytes ≤ bottom)
  pub sees : SeesOutside older bottom base

-- ---- entries of the runtime

-- the entry that an item calls with its first word
abbrev pub Enters : ItemKind → ℕ → Type 0
Enters (Entry at) entry = entry ≡ at
Enters (Fork f handle) entry = entry ≡ fork_in
Enters _ entry = ⊥

-- at an entry, which goes on behind the word that called it
pub record AtEntry (layout : Layout) (p : Program) (names : Naming) (older : Context) (ends : Ends) (bottom : ℕ) (u : Situation) (top : Activation) (file : File) (function : ProgramFunction) (entry : ℕ) : Type 0 where
  pub body : IsInBody p names older ends bottom u top file function
  pub at : u.state.pc ≡ entry
  pub back : register u.state registers.Ra ≡ address_in layout p top.function function top.next + 4
  pub whole : u.state.half ≡ None

-- ---- forks

-- at the second jump of a fork
pub record IsAtSecond (layout : Layout) (p : Program) (names : Naming) (older : Context) (ends : Ends) (bottom : ℕ) (t : Situation) (top : Activation) (file : File) (function : ProgramFunction) (item : Item) (g : ℕ) (handle : Reg) : Type 0 where
  pub accepted : IsAccepted p
  pub size : IsSized layout p
  pub has : HasItem p top.function function top.next item
  pub kind : item.kind ≡ Fork g handle
  pub body : IsInBody p names older ends bottom t top file function
  pub sees : SeesOutside older bottom (bottom + function.frame_bytes)
  pub at : t.state.pc ≡ address_in layout p top.function function top.next + 4
  pub whole : t.state.half ≡ None

-- at the third one
pub record IsThird (layout : Layout) (p : Program) (pc : ℕ) : Type 0 where
  pub jumps : JumpsTo layout p pc registers.Ra fork_out
  pub behind : IsBehind layout p pc

-- at the entry that ends a child, which the fork of an activation has called: the activation is behind its fork again, with the registers that it
-- kept, and the child's value is in a0
pub record AtChildEnd (layout : Layout) (p : Program) (names : Naming) (older : Context) (ends : Ends) (bottom : ℕ) (u : Situation) (a : Activation) (kept : File) (function : ProgramFunction) (value : ℕ) : Type 0 where
  pub body : IsInBody p names older ends bottom u a kept function
  pub begun : 0 < a.next
  pub at : u.state.pc ≡ fork_out
  pub back : register u.state registers.Ra ≡ address_in layout p a.function function a.next
  pub value_is : register u.state registers.A0 ≡ value
  pub whole : u.state.half ≡ None
