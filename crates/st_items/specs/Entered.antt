-- An activation that is entered, before its prologue (IsEntered): nothing of its own lies in memory, and what is older stands on the machine. Read
-- IsAtPrologue (its stack has room for the frame, whose words are held) and lowered (the machine's ends behind the prologue).
use Rattle.std.specs.Prelude.{◌≡◌, ℕ, ◌+◌, ◌-◌, ◌%◌, ◌^◌, ◌<◌, ◌≤◌, Bool, None, replicate}
use Rattle.st_base.specs.declared.reg.Reg.TheVariants as registers
use Rattle.st_base.specs.declared.thread.Activation.{Activation}
use Rattle.st_model.specs.declared.code.Layout.{Layout}
use Rattle.st_model.specs.declared.program.Item.{Item}
use Rattle.st_model.specs.declared.program.ItemKind.TheVariants.{Prologue}
use Rattle.st_model.specs.declared.program.Program.{Program}
use Rattle.st_model.specs.declared.program.ProgramFunction.{ProgramFunction}
use Rattle.st_model.specs.Accepted.{IsAccepted}
use Rattle.st_model.specs.Effect.{File}
use Rattle.st_step.specs.Frames.{address_in, Naming, value_in, HasFile, IsFrameless}
use Rattle.st_step.specs.Moves.{register}
use Rattle.st_step.specs.Runs.{Situation, HoldsFrame}
use Rattle.st_items.specs.Code.{HasItem, IsSized}
use Rattle.st_items.specs.Body.{Ends, IsOn, Context, SeesOutside}

-- at the first word of its function; ra, s0 and the saved registers are still its caller's
pub record IsEntered (layout : Layout) (p : Program) (names : Naming) (older : Context) (ends : Ends) (t : Situation) (top : Activation) (file : File) (function : ProgramFunction) (item : Item) : Type 0 where
  pub accepted : IsAccepted p
  pub size : IsSized layout p
  pub first : top.next ≡ 0
  pub has : HasItem p top.function function top.next item
  pub kind : item.kind ≡ Prologue
  pub machine : IsOn ends t
  pub holding : HasFile names file (value_in t.state)
  pub frameless : IsFrameless file
  pub bytes : top.bytes ≡ replicate function.frame_bytes None
  pub handles : top.handles ≡ replicate function.slots None
  pub below : older top.kind top.kept t.word (value_in t.state) (register t.state registers.S0) (register t.state registers.Ra)
  pub at : t.state.pc ≡ address_in layout p top.function function top.next
  pub whole : t.state.half ≡ None

pub record IsAtPrologue (layout : Layout) (p : Program) (held : ℕ → Bool) (names : Naming) (older : Context) (ends : Ends) (t : Situation) (top : Activation) (file : File) (function : ProgramFunction) (item : Item) : Type 0 where
  pub entered : IsEntered layout p names older ends t top file function item
  pub sees : SeesOutside older (ends.sp - function.frame_bytes) ends.sp
  pub low : 0x8000_0000 ≤ ends.lo
  pub room : ends.lo + function.frame_bytes ≤ ends.sp
  pub high : ends.sp < 0x8000_0000 + 2 ^ 32
  pub multiple : ends.sp % 16 ≡ 0
  pub holds : HoldsFrame held function.frame_bytes ends.sp

-- with a frame of so many bytes
abbrev pub lowered : Ends → ℕ → Ends
lowered ends bytes = record ends { sp = ends.sp - bytes }
