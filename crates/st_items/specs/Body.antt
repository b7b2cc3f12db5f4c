-- An activation behind its prologue, over a machine, the words that the machine's worker holds, and what is older than the activation
-- (Context, which the caller says). Read SeesOutside (what a context sees), IsInBody, IsAtLine (at an item behind the prologue) and
-- EffectStands (what an item of one line leads to).
use Rattle.std.specs.Prelude.{◌≡◌, ◌⊎◌, ℕ, ◌+◌, ◌%◌, ◌^◌, ◌<◌, ◌≤◌, Bool, true, Some, None, slice_get}
use Rattle.st_base.specs.declared.reg.Reg.TheVariants as registers
use Rattle.st_base.specs.declared.thread.Activation.{Activation}
use Rattle.st_base.specs.declared.thread.Held.{Held}
use Rattle.st_base.specs.declared.thread.ActivationKind.{ActivationKind}
use Rattle.st_rv.specs.declared.ins.Ins.{Ins}
use Rattle.st_model.specs.declared.code.Layout.{Layout}
use Rattle.st_model.specs.declared.effect.Effect.{Effect}
use Rattle.st_model.specs.declared.effect.Effect.TheVariants.{Undefined, Goes, Traps}
use Rattle.st_model.specs.declared.program.Item.{Item}
use Rattle.st_model.specs.declared.program.ItemKind.{ItemKind}
use Rattle.st_model.specs.declared.program.ItemKind.TheVariants.{Plain, Li, Branch, Jump}
use Rattle.st_model.specs.declared.program.Program.{Program}
use Rattle.st_model.specs.declared.program.ProgramFunction.{ProgramFunction}
use Rattle.st_model.specs.Accepted.{IsAccepted}
use Rattle.st_model.specs.Effect.{File}
use Rattle.st_model.specs.Layout.{saved_of}
use Rattle.st_model.specs.Memory.{Data}
use Rattle.st_words.specs.Steps.{place_of}
use Rattle.st_step.specs.declared.machine.StepEnd.TheVariants.{Trap}
use Rattle.st_step.specs.Moves.{Stops, move_of, register}
use Rattle.st_step.specs.Runs.{Situation, HasRegisters, AreWords, AreValues, HoldsFrame, return_word, caller_word}
use Rattle.st_items.specs.Code.{code_at, HasItem, IsSized}
use Rattle.st_step.specs.Frames.{address_in, Naming, value_in, HasFile, IsFrameless, HasSlots, is_kept, with_saved_values}
use Rattle.st_items.specs.Ways.{Leads}

-- what no item of one line changes: the ends of the stack, sp and gp
pub record Ends : Type 0 where
  pub lo : ℕ
  pub hi : ℕ
  pub sp : ℕ
  pub gp : ℕ

-- a machine with these
pub record IsOn (ends : Ends) (t : Situation) : Type 0 where
  pub has_registers : HasRegisters t.state
  pub values : AreValues t.state
  pub words : AreWords t.word
  pub lo : t.state.lo ≡ ends.lo
  pub hi : t.state.hi ≡ ends.hi
  pub sp : register t.state registers.Sp ≡ ends.sp
  pub gp : register t.state registers.Gp ≡ ends.gp

-- what is older than an activation of this kind, which keeps these registers: over the words, the registers of its caller by their numbers, the
-- caller's s0 and the return place
abbrev pub Context : Type 1
Context = ActivationKind → File → (ℕ → ℕ) → (ℕ → ℕ) → ℕ → ℕ → Type 0

-- it sees no change of the words of one frame, nor of registers that no call keeps
abbrev pub SeesOutside : Context → ℕ → ℕ → Type 0
SeesOutside older bottom base =
    (kind : ActivationKind) (kept : File) (word word' value value' : ℕ → ℕ) (fp ret : ℕ) → ((q : ℕ) → (q < place_of bottom) ⊎ (place_of base ≤ q) → word q ≡ word' q) → ((x : ℕ) → is_kept x ≡ true → value x ≡ value' x) → older kind kept word value fp ret → older kind kept word' value' fp ret

-- a naming that knows more names
abbrev pub Grows : Naming → Naming → Type 0
Grows names names' = (held : Held) (n : ℕ) → names held n → names' held n

-- what is older by one context is so by another
abbrev pub Widens : Context → Context → Type 0
Widens older older' = (kind : ActivationKind) (kept : File) (word value : ℕ → ℕ) (fp ret : ℕ) → older kind kept word value fp ret → older' kind kept word value fp ret

-- the frame of a function from bottom to its base is that of an activation, and what is older stands behind it
pub record IsFramed (names : Naming) (older : Context) (word value : ℕ → ℕ) (bottom fp : ℕ) (function : ProgramFunction) (a : Activation) : Type 0 where
  pub base : fp ≡ bottom + function.frame_bytes
  pub slots : HasSlots names function a word bottom
  pub below : older a.kind a.kept word (with_saved_values word fp 0 (saved_of function) value) (word (caller_word fp)) (word (return_word fp))

-- an activation behind its prologue
pub record IsInBody (p : Program) (names : Naming) (older : Context) (ends : Ends) (bottom : ℕ) (t : Situation) (top : Activation) (holding : File) (function : ProgramFunction) : Type 0 where
  pub here : slice_get p.functions top.function ≡ Some function
  pub machine : IsOn ends t
  pub file : HasFile names holding (value_in t.state)
  pub frameless : IsFrameless holding
  pub framed : IsFramed names older t.word (value_in t.state) bottom (register t.state registers.S0) function top

-- where its frame lies, all words of which are held
pub record IsFrameAt (held : ℕ → Bool) (bottom : ℕ) (function : ProgramFunction) : Type 0 where
  pub above : 0x8000_0000 ≤ bottom
  pub multiple : bottom % 16 ≡ 0
  pub high : bottom + function.frame_bytes < 0x8000_0000 + 2 ^ 32
  pub holds : HoldsFrame held function.frame_bytes (bottom + function.frame_bytes)

-- an item of one line that leads to an item of the same activation
abbrev pub IsLine : ItemKind → Type 0
IsLine (Plain i) = Prim.Unit
IsLine (Li rd value) = Prim.Unit
IsLine (Branch op rs1 rs2 to) = Prim.Unit
IsLine (Jump to) = Prim.Unit
IsLine _ = ⊥

-- at the first word of an item behind the prologue, over the words that are held
pub record IsAtLine (layout : Layout) (p : Program) (held : ℕ → Bool) (names : Naming) (older : Context) (ends : Ends) (bottom : ℕ) (t : Situation) (top : Activation) (file : File) (function : ProgramFunction) (item : Item) : Type 0 where
  pub accepted : IsAccepted p
  pub size : IsSized layout p
  pub has : HasItem p top.function function top.next item
  pub body : IsInBody p names older ends bottom t top file function
  pub frame : IsFrameAt held bottom function
  pub sees : SeesOutside older bottom (bottom + function.frame_bytes)
  pub at : t.state.pc ≡ address_in layout p top.function function top.next
  pub whole : t.state.half ≡ None

-- the machine stands at an item of the activation
pub record StandsAt (layout : Layout) (p : Program) (names : Naming) (older : Context) (ends : Ends) (bottom : ℕ) (u : Situation) (top : Activation) (file : File) (function : ProgramFunction) : Type 0 where
  pub body : IsInBody p names older ends bottom u top file function
  pub begun : 0 < top.next
  pub at : u.state.pc ≡ address_in layout p top.function function top.next
  pub whole : u.state.half ≡ None

-- what an item leads to on the machine, by its effect: the next item of the activation, or the same trap
abbrev pub EffectStands : Layout → Program → Data → (ℕ → Bool) → Naming → Context → Ends → ℕ → Situation → ProgramFunction → Effect → Type 0
EffectStands layout p d held names older ends bottom t function (Goes top file) = (u : Situation) × Leads layout p d held t u × StandsAt layout p names older ends bottom u top file function
EffectStands layout p d held names older ends bottom t function (Traps kind) = (i : Ins) × (code_at layout p t.state.pc ≡ Some i) × (move_of d t.state i ≡ Stops (Trap kind))
EffectStands layout p d held names older ends bottom t function Undefined = Prim.Unit
EffectStands layout p d held names older ends bottom t function _ = ⊥
