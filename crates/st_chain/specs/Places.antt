-- What a walk does at its places, as its code does it: place_of (what it comes to next), counted (the stage behind one more instruction of a copy), begun
-- (a copy begins), Joins (a frame is exported with it), chain_at (the chain of a machine), and gone_below and gone_to_bottom (it goes on in the thread
-- below).
use Rattle.std.specs.Prelude.{◌≡◌, ◌⊎◌, ℕ, ◌+◌, ◌-◌, ◌/◌, ◌==◌, nat_lt, Bool, true, List, map, Option, Some, None, is_some, if◌then◌else◌}
use Rattle.std.specs.List.{Contains}
use Rattle.st_base.specs.declared.chain.Chain.{Chain}
use Rattle.st_base.specs.declared.chain.Frame.{Frame}
use Rattle.st_base.specs.declared.chain.Note.{Note}
use Rattle.st_base.specs.declared.chain.Waiting.{Waiting}
use Rattle.st_base.specs.declared.chain.Waiting.TheVariants as waits
use Rattle.st_base.specs.declared.image.ForkRow.{ForkRow}
use Rattle.st_base.specs.declared.image.FrameRow.{FrameRow}
use Rattle.st_base.specs.declared.reg.Reg.{Reg}
use Rattle.st_base.specs.declared.reg.Reg.TheVariants as registers
use Rattle.st_model.specs.Layout.{saveable}
use Rattle.st_step.specs.declared.state.State.{State}
use Rattle.st_step.specs.Moves.{register, written, at_place}
use Rattle.st_stack.specs.Exported.{Exports, IsFrameOn}
use Rattle.st_chain.specs.declared.walk.Place.{Place}
use Rattle.st_chain.specs.declared.walk.Place.TheVariants as places
use Rattle.st_chain.specs.declared.walk.Stage.{Stage}
use Rattle.st_chain.specs.declared.walk.Stage.TheVariants as stages
use Rattle.st_chain.specs.declared.walk.Walk.{Walk}
use Rattle.st_chain.specs.Forks.{handle_behind}

-- ---- places

abbrev pub place_by : Option Reg → Place
place_by None = places.Frame
place_by (Some handle) = places.Fork handle

abbrev pub place_at : List ForkRow → ℕ → Place
place_at forks pc = if pc == 0x30 then places.End else place_by (handle_behind forks pc)

abbrev pub place_of : List ForkRow → Stage → ℕ → Place
place_of forks (stages.Copy left) pc = places.Copy
place_of forks stages.Frame pc = place_at forks pc

-- ---- copies

abbrev pub counted : Stage → Stage
counted (stages.Copy left) = if nat_lt 1 left then stages.Copy (left - 1) else stages.Frame
counted stages.Frame = stages.Frame

-- the frame of a function whose base is in s0
abbrev pub frame_of : FrameRow → State → Frame
frame_of row m = record { low = register m registers.S0 - row.frame_bytes; base = register m registers.S0 }

-- the copy stands at the end of the function's code
abbrev pub begun : FrameRow → Walk → Walk
begun row walk = record walk { machine = at_place row.pure_at walk.machine; stage = stages.Copy ((row.code_to - row.pure_at) / 4); base = register walk.machine registers.S0 }

-- a frame is exported where its thread is taken and it lies on the stack
pub record Joins (is_taken : Bool) (s : Exports) (f : Frame) (s' : Exports) : Type 0 where
  pub lo : s'.lo ≡ s.lo
  pub hi : s'.hi ≡ s.hi
  pub stay : (g : Frame) → Contains s.exported g → Contains s'.exported g
  pub come : is_taken ≡ true → IsFrameOn s.lo s.hi f → Contains s'.exported f
  pub were : (g : Frame) → Contains s'.exported g → Contains s.exported g ⊎ ((g ≡ f) × (is_taken ≡ true) × IsFrameOn s.lo s.hi f)

-- ---- chains

-- s1 to s11
abbrev pub saved_in : State → List ℕ
saved_in m = map (register m) saveable

abbrev pub chain_at : State → ℕ → Note → Waiting → Chain
chain_at m pc note wait = record { cell = note.cell; pc = pc; fp = register m registers.S0; saved = saved_in m; note = note; wait = wait }

-- the walk of a suspension that begins: over the frames of the top thread, by its place in the notes
abbrev pub first_walk : State → ℕ → Note → Waiting → ℕ → Walk
first_walk m pc note wait thread = record { machine = at_place pc m; stage = stages.Frame; base = 0; thread = thread; chain = Some (chain_at m pc note wait) }

-- ---- all threads

-- where the walk over all threads begins: where the machine is, or, where that has just forked the top thread, at the third jump of the fork
abbrev pub first_place : List ForkRow → ℕ → ℕ
first_place forks pc = if is_some (handle_behind forks (pc + 4)) then pc + 4 else pc

-- the walk of a giving that begins: over the frames of all threads, the top one first
abbrev pub whole_walk : List ForkRow → State → ℕ → Walk
whole_walk forks m thread = record { machine = at_place (first_place forks m.pc) m; stage = stages.Frame; base = 0; thread = thread; chain = None }

-- behind the fork at whose third jump the machine is, with the cell of the thread above in the fork's register
abbrev pub downward : State → Reg → ℕ → State
downward m handle cell = at_place (m.pc + 4) (written m handle cell)

abbrev pub gone_below : Walk → Reg → ℕ → Walk
gone_below walk handle cell = record walk { machine = downward walk.machine handle cell; thread = walk.thread - 1 }

-- the bottom thread has its chain then
abbrev pub gone_to_bottom : Walk → Reg → ℕ → Note → Walk
gone_to_bottom walk handle cell note =
    record walk { machine = downward walk.machine handle cell; thread = 0; chain = Some (chain_at (downward walk.machine handle cell) (walk.machine.pc + 4) note waits.Ready) }
