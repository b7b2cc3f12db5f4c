-- The machine with its stack words stands for a state of the ordinary-call run. Read StandsIn (registers and frames), Stands (at the first
-- instruction of the newest activation's item), AtCall (at an entry that this item calls) and AtEnd (at the entry behind a thread's last epilogue).
use Rattle.std.specs.Prelude.{◌≡◌, ℕ, zero, suc, ◌+◌, ◌/◌, ◌≤◌, nat_lt, Bool, List, replicate, Some, None, slice_get, slice_index}
use Rattle.st_base.specs.declared.reg.Reg.TheVariants as registers
use Rattle.st_base.specs.declared.thread.Held.{Held}
use Rattle.st_base.specs.declared.thread.ActivationKind.{ActivationKind}
use Rattle.st_base.specs.declared.thread.ActivationKind.TheVariants.{Called, Forked, Root}
use Rattle.st_model.specs.declared.code.Layout.TheVariants.{Unchanged}
use Rattle.st_model.specs.declared.program.Item.{Item}
use Rattle.st_model.specs.declared.program.ItemKind.TheVariants.{Epilogue}
use Rattle.st_model.specs.declared.program.Program.{Program}
use Rattle.st_model.specs.declared.program.ProgramFunction.{ProgramFunction}
use Rattle.st_model.specs.declared.ordinary.State.{State}
use Rattle.st_model.specs.Effect.{int}
use Rattle.st_model.specs.Layout.{saved_of, fork_out}
use Rattle.st_step.specs.declared.state.State.{State as MachineState}
use Rattle.st_step.specs.Moves.{register}
use Rattle.st_step.specs.Runs.{Situation, HasRegisters, AreWords, AreValues, return_word, caller_word}
use Rattle.st_items.specs.Called.{Enters}
use Rattle.st_step.specs.Frames.{address_in, value_in, IsFrameless, with_saved_values}
use Rattle.st_plain.specs.Frames.{HasFile, HasSlots, end_entry, Below}

-- the stack begins here
abbrev pub stack_start : ℕ
stack_start = 0x8000_0000

-- the machine with the words of its stack, of which there are so many
abbrev pub situation : MachineState → List ℕ → Situation
situation m words = record { state = m; word = λ q. slice_index words q }

-- every word of the stack is held
abbrev pub on_stack : ℕ → ℕ → Bool
on_stack stack q = nat_lt q (stack / 8)

-- a machine on a stack of so many bytes
pub record IsMachine (stack : ℕ) (t : Situation) : Type 0 where
  pub has_registers : HasRegisters t.state
  pub values : AreValues t.state
  pub words : AreWords t.word
  pub lo : t.state.lo ≡ stack_start
  pub hi : t.state.hi ≡ stack_start + stack
  pub above : stack_start ≤ register t.state registers.Sp

-- before its prologue an activation has no frame and nothing in its slots, and ra, s0 and the saved registers are still its caller's; behind it sp is the frame's low end and s0 its base
abbrev pub HasFrames : Program → ℕ → List Held → Situation → ProgramFunction → State → ℕ → Type 0
HasFrames p stack names t function s zero =
    (s.top.bytes ≡ replicate function.frame_bytes None) × (s.top.handles ≡ replicate function.slots None) × Below p names t.word (stack_start + stack) (value_in t.state) (register t.state registers.Sp) (register t.state registers.S0) (register t.state registers.Ra) s.top.kind s.top.kept s.rest.older s.rest.parents
HasFrames p stack names t function s (suc next) =
    (register t.state registers.S0 ≡ register t.state registers.Sp + function.frame_bytes) × HasSlots names function s.top t.word (register t.state registers.Sp) × Below p names t.word (stack_start + stack) (with_saved_values t.word (register t.state registers.S0) 0 (saved_of function) (value_in t.state)) (register t.state registers.S0) (t.word (caller_word (register t.state registers.S0))) (t.word (return_word (register t.state registers.S0))) s.top.kind s.top.kept s.rest.older s.rest.parents

pub record StandsIn (p : Program) (stack : ℕ) (names : List Held) (t : Situation) (s : State) : Type 0 where
  pub function : ProgramFunction
  pub here : slice_get p.functions s.top.function ≡ Some function
  pub machine : IsMachine stack t
  pub file : HasFile names s.registers (value_in t.state)
  pub frameless : IsFrameless s.registers
  pub frames : HasFrames p stack names t function s s.top.next

-- at the first instruction of its item
pub record Stands (p : Program) (stack : ℕ) (names : List Held) (t : Situation) (s : State) : Type 0 where
  pub stands : StandsIn p stack names t s
  pub at : t.state.pc ≡ address_in Unchanged p s.top.function stands.function s.top.next
  pub whole : t.state.half ≡ None

-- at an entry, which goes on behind the word that called it
pub record AtCall (p : Program) (stack : ℕ) (names : List Held) (t : Situation) (s : State) : Type 0 where
  pub stands : StandsIn p stack names t s
  pub item : Item
  pub placed : slice_get stands.function.items s.top.next ≡ Some item
  pub enters : Enters item.kind t.state.pc
  pub back : register t.state registers.Ra ≡ address_in Unchanged p s.top.function stands.function s.top.next + 4
  pub whole : t.state.half ≡ None

-- the entry that ends a thread: of a forked one the third jump of its fork calls it, from where the call came back to
abbrev pub EndsAt : ActivationKind → ℕ → ℕ → ℕ → Type 0
EndsAt Called ret entry ra = ⊥
EndsAt Forked ret entry ra = (entry ≡ fork_out) × (ra ≡ ret + 4)
EndsAt Root ret entry ra = entry ≡ end_entry

-- the thread's first call has freed its frame: the machine's registers are those of its parent but for a0, which has the thread's value
pub record AtEnd (p : Program) (stack : ℕ) (names : List Held) (t : Situation) (s : State) : Type 0 where
  pub function : ProgramFunction
  pub here : slice_get p.functions s.top.function ≡ Some function
  pub item : Item
  pub placed : slice_get function.items s.top.next ≡ Some item
  pub epilogue : item.kind ≡ Epilogue
  pub machine : IsMachine stack t
  pub value : int s.registers registers.A0 ≡ Some (register t.state registers.A0)
  pub ret : ℕ
  pub ends : EndsAt s.top.kind ret t.state.pc (register t.state registers.Ra)
  pub below : Below p names t.word (stack_start + stack) (value_in t.state) (register t.state registers.Sp) (register t.state registers.S0) ret s.top.kind s.top.kept s.rest.older s.rest.parents
  pub whole : t.state.half ≡ None
