-- What phases of a worker do to it, beside their steps of the board.
use Rattle.std.specs.Prelude.{ℕ, ◌-◌, ◌%◌, ◌^◌, ◌==◌, List, [], ◌∷◌, ◌++◌, length, take, slice_index_or, None, if◌then◌else◌}
use Rattle.st_base.specs.declared.chain.Note.{Note}
use Rattle.st_base.specs.declared.reg.Reg.TheVariants as registers
use Rattle.st_step.specs.declared.state.State.{State}
use Rattle.st_step.specs.Moves.{register, at_place}
use Rattle.st_phases.specs.declared.automaton.Automaton.{Automaton}
use Rattle.st_phases.specs.declared.phase.Leaving.{Leaving}
use Rattle.st_phases.specs.declared.phase.Rest.{Rest}
use Rattle.st_phases.specs.declared.phase.Phase.{Phase}
use Rattle.st_phases.specs.declared.phase.Phase.TheVariants as phases

-- the place behind the jump that called an entry of the runtime
abbrev pub back : State → ℕ
back m = register m registers.Ra % 2 ^ 32

abbrev pub with_phase : Phase → Automaton → Automaton
with_phase phase x = record x { phase = phase }

-- the machine goes on there, after a poll
abbrev pub goes_back : Automaton → Automaton
goes_back x = record x { machine = at_place (back x.machine) x.machine; phase = phases.Polling }

-- where the thread that called an entry may have left, a worker with a thread polls, and one without begins a round
abbrev pub round_or_poll : List Note → Phase
round_or_poll [] = phases.Settled
round_or_poll (note ∷ notes) = phases.Polling

abbrev pub went_on : Automaton → Automaton
went_on x = with_phase (round_or_poll x.threads.notes) x

-- ---- notes

-- of some notes the last, which is the top thread's
abbrev pub no_note : Note
no_note = record { cell = 0; forks = 0; counters = 0; bytes = 0 }

abbrev pub top : List Note → Note
top notes = slice_index_or notes (length notes - 1) no_note

-- the last one becomes another note
abbrev pub replaced : Note → List Note → List Note
replaced note notes = take (length notes - 1) notes ++ note ∷ []

abbrev pub own_note : Automaton → Note
own_note x = top x.threads.notes

abbrev pub with_notes : List Note → Automaton → Automaton
with_notes notes x = record x { threads = record x.threads { notes = notes } }

abbrev pub with_top : Note → Automaton → Automaton
with_top note x = with_notes (replaced note x.threads.notes) x

-- the top thread goes out
abbrev pub popped : Automaton → Automaton
popped x = with_notes (take (length x.threads.notes - 1) x.threads.notes) x

-- ---- ready numbers

abbrev pub with_ready : List ℕ → Automaton → Automaton
with_ready numbers x = record x { ready = record x.ready { numbers = numbers } }

-- ---- what comes next

-- the top thread leaves: a unit is added first where another thread stays
abbrev pub leaves : Leaving → Automaton → Automaton
leaves leaving x = with_phase (if length x.threads.notes == 1 then phases.Suspending leaving else phases.Parting leaving) x

-- a thread that has ended with nothing below it leaves its unit
abbrev pub unit_or_poll : List Note → Phase
unit_or_poll [] = phases.Lowering None
unit_or_poll (note ∷ notes) = phases.Polling

-- the waiters of a list, the next one first
abbrev pub wakes : Rest → Automaton → Automaton
wakes rest x = with_phase (if rest.next == 0 then unit_or_poll x.threads.notes else phases.Following rest) x
