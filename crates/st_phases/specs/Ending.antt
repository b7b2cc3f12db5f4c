-- What the phases of a thread's end do to a worker.
use Rattle.std.specs.Prelude.{ℕ, ◌-◌, ◌==◌, false, List, Option, Some, None, if◌then◌else◌}
use Rattle.st_base.specs.declared.image.ForkRow.{ForkRow}
use Rattle.st_base.specs.declared.reg.Reg.{Reg}
use Rattle.st_words.specs.Encodings.{full_word}
use Rattle.st_step.specs.Moves.{at_place}
use Rattle.st_chain.specs.Forks.{handle_behind}
use Rattle.st_phases.specs.declared.automaton.Automaton.{Automaton}
use Rattle.st_phases.specs.declared.phase.Rest.{Rest}
use Rattle.st_phases.specs.declared.phase.Phase.TheVariants as phases
use Rattle.st_phases.specs.declared.turn.Point.TheVariants as points
use Rattle.st_phases.specs.declared.turn.Turn.{Turn}
use Rattle.st_phases.specs.declared.turn.Turn.TheVariants.{Ran}
use Rattle.st_phases.specs.Automaton.{back, with_phase, own_note, popped}
use Rattle.st_phases.specs.Entries.{with_register}

-- the cell comes into the register of a fork's handle, where the fork has one
abbrev pub in_handle : Option Reg → ℕ → Automaton → Automaton
in_handle None cell x = x
in_handle (Some handle) cell x = with_register handle cell x

abbrev pub moved_to : ℕ → Automaton → Automaton
moved_to pc x = record x { machine = at_place pc x.machine }

-- at st_fork_out the thread below goes on behind its fork, whose register gets the cell
abbrev pub below_goes_on : List ForkRow → ℕ → Automaton → Automaton
below_goes_on forks cell x = if x.machine.pc == 0x20 then moved_to (back x.machine) (in_handle (handle_behind forks (back x.machine - 4)) cell x) else x

abbrev pub filled : List ForkRow → ℕ → ℕ → Automaton → Automaton
filled forks seen found x =
    if found == seen then with_phase (phases.Ending (own_note x).cell seen) (below_goes_on forks (own_note x).cell (popped x)) else with_phase (phases.Filling found) x

abbrev pub ended_or_step : ℕ → ℕ → Turn
ended_or_step seen found = if found == seen then Ran points.Ended else Ran points.Step

-- the waiters of a future that has become full
abbrev pub rest_of : ℕ → ℕ → Rest
rest_of cell head = record { cell = cell; counter = false; word = full_word; next = head }
