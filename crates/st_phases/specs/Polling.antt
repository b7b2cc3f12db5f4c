-- What the phases of a poll do to a worker.
use Rattle.std.specs.Prelude.{◌≡◌, ℕ, ◌==◌, Option, Some, None, if◌then◌else◌}
use Rattle.std.specs.List.{Contains}
use Rattle.st_base.specs.declared.chain.Frame.{Frame}
use Rattle.st_base.specs.declared.image.FrameRow.{FrameRow}
use Rattle.st_base.specs.declared.reg.Reg.TheVariants as registers
use Rattle.st_step.specs.Moves.{written}
use Rattle.st_stack.specs.Exported.{IsFrameOn, IsLimit}
use Rattle.st_stack.specs.declared.stack.Shrunk.{Shrunk}
use Rattle.st_stack.specs.declared.stack.Shrunk.TheVariants as shrunks
use Rattle.st_chain.specs.Places.{frame_of}
use Rattle.st_phases.specs.declared.automaton.Automaton.{Automaton}
use Rattle.st_phases.specs.declared.phase.Phase.{Phase}
use Rattle.st_phases.specs.declared.phase.Phase.TheVariants as phases
use Rattle.st_phases.specs.declared.turn.Point.TheVariants as points
use Rattle.st_phases.specs.declared.turn.Turn.{Turn}
use Rattle.st_phases.specs.declared.turn.Turn.TheVariants.{Ran, Over}

-- ---- the stop word

-- it was read, and the phase comes next where it is 0
abbrev pub heeded : Phase → ℕ → Automaton → Automaton
heeded next found x = record x { since = 0; phase = if found == 0 then next else x.phase }

abbrev pub over_or_step : ℕ → Turn
over_or_step found = if found == 0 then Ran points.Step else Over found

-- ---- frames are taken back

-- the frame of the newest activation, where it is on the worker's stack and not exported
abbrev pub IsTopFrame : Option FrameRow → Automaton → Option Frame → Type 0
IsTopFrame None x top = top ≡ None
IsTopFrame (Some row) x None = IsFrameOn x.stack.lo x.stack.hi (frame_of row x.machine) → Contains x.stack.exported (frame_of row x.machine)
IsTopFrame (Some row) x (Some top) = (top ≡ frame_of row x.machine) × IsFrameOn x.stack.lo x.stack.hi top × (Contains x.stack.exported top → ⊥)

-- the thread goes on: gp is the limit of the stack
pub record RunsOn (x y : Automaton) : Type 0 where
  pub limit : ℕ
  pub is_limit : IsLimit x.stack.hi x.stack.exported limit
  pub same : y ≡ record x { machine = written x.machine registers.Gp limit; phase = phases.Running }

-- with sp there
abbrev pub with_sp : ℕ → Automaton → Automaton
with_sp sp x = record x { machine = written x.machine registers.Sp sp }

-- the request is answered, or the thread goes on
abbrev pub AnswersOrRuns : Option ℕ → Automaton → Automaton → Type 0
AnswersOrRuns (Some asker) x y = y ≡ record x { phase = phases.Answering asker }
AnswersOrRuns None x y = RunsOn x y

abbrev pub IsShrunk : Option ℕ → Shrunk → Automaton → Automaton → Type 0
IsShrunk asker shrunks.More x y = (y ≡ record x { stack = y.stack }) × (y.stack.lo ≡ x.stack.lo) × (y.stack.hi ≡ x.stack.hi)
IsShrunk asker (shrunks.Done sp) x y = AnswersOrRuns asker (with_sp sp (record x { stack = y.stack })) y × (y.stack.lo ≡ x.stack.lo) × (y.stack.hi ≡ x.stack.hi)
