-- A worker as it is opened: IsOpened. It has no thread, its stack is empty, and a round is to begin.
use Rattle.std.specs.Prelude.{◌≡◌, ℕ, ◌+◌, ◌*◌, false, [], None}
use Rattle.st_base.specs.declared.image.Image.{Image}
use Rattle.st_base.specs.declared.limits.Limits.{Limits}
use Rattle.st_base.specs.declared.reg.Reg.TheVariants as registers
use Rattle.st_model.specs.declared.code.Layout.{Layout}
use Rattle.st_model.specs.declared.program.Program.{Program}
use Rattle.st_model.specs.Layout.{IsCodeOf, code_of}
use Rattle.st_step.specs.declared.state.State.{State}
use Rattle.st_step.specs.Moves.{first_state, written}
use Rattle.st_items.specs.Tables.{instructions_of, begins_of}
use Rattle.st_phases.specs.declared.automaton.Automaton.{Automaton}
use Rattle.st_phases.specs.declared.phase.Phase.TheVariants as phases

-- where the stack of a worker begins
abbrev pub stack_low : Limits → ℕ → ℕ
stack_low limits number = 0x8000_0000 + number * limits.stack

-- sp and gp are at the high end
abbrev pub empty_machine : ℕ → ℕ → State
empty_machine lo hi = written (written (first_state lo hi) registers.Sp hi) registers.Gp hi

pub record IsOpened (image : Image) (limits : Limits) (own workers length_is : ℕ) (x : Automaton) : Type 0 where
  pub number : x.number ≡ own
  pub workers_are : x.workers ≡ workers
  pub cells : x.cells ≡ limits.cells
  pub steps : x.steps ≡ limits.steps
  pub input : x.length ≡ length_is
  -- the image's instructions, each with whether an item begins with it
  pub instructions : (layout : Layout) (p : Program) → IsCodeOf layout p image → instructions_of x.code.instructions.items ≡ code_of layout p
  pub begins : begins_of x.code.instructions.items ≡ image.begins
  pub machine : x.machine ≡ empty_machine (stack_low limits own) (stack_low limits own + limits.stack)
  pub lo : x.stack.lo ≡ stack_low limits own
  pub hi : x.stack.hi ≡ stack_low limits own + limits.stack
  pub none_exported : x.stack.exported ≡ []
  pub no_threads : x.threads.notes ≡ []
  pub room : x.threads.room ≡ limits.cells
  pub not_open : x.threads.open ≡ None
  pub none_ready : x.ready.numbers ≡ []
  pub ready_room : x.ready.room ≡ limits.cells
  pub phase : x.phase ≡ phases.Settled
  pub items : x.items ≡ 0
  pub frame_bytes : x.frame_bytes ≡ 0
  pub since : x.since ≡ 0
  pub not_asked : x.asked ≡ None
  pub not_begun : x.begun ≡ false
  pub last : x.last ≡ own
