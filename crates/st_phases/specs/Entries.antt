-- What the phases of an item that calls an entry of the runtime do to a worker, by the word that was found.
use Rattle.std.specs.Prelude.{ℕ, ◌+◌, ◌%◌, ◌^◌, ◌==◌, Bool, true, false, nat_lt, [], ◌∷◌, ◌++◌, if◌then◌else◌}
use Rattle.st_base.specs.declared.chain.Note.{Note}
use Rattle.st_base.specs.declared.chain.Waiting.{Waiting}
use Rattle.st_base.specs.declared.chain.Waiting.TheVariants as waits
use Rattle.st_base.specs.declared.limits.LimitKind.TheVariants as limits
use Rattle.st_base.specs.declared.reg.Reg.{Reg}
use Rattle.st_base.specs.declared.reg.Reg.TheVariants as registers
use Rattle.st_base.specs.declared.thread.TrapKind.TheVariants as traps
use Rattle.st_words.specs.Encodings.{full_word, count_in, head_in, trap_number}
use Rattle.st_cells.specs.Cells.{counted_up}
use Rattle.st_cells.specs.declared.found.Owner.{Owner}
use Rattle.st_step.specs.declared.state.State.{State}
use Rattle.st_step.specs.Moves.{register, written}
use Rattle.st_phases.specs.declared.automaton.Automaton.{Automaton}
use Rattle.st_phases.specs.declared.phase.Phase.TheVariants as phases
use Rattle.st_phases.specs.Automaton.{with_phase, goes_back, own_note, replaced, with_top, with_notes, leaves, wakes}

-- with a number in a register of its machine
abbrev pub with_register : Reg → ℕ → Automaton → Automaton
with_register r n x = record x { machine = written x.machine r n }

-- ---- cells that are made

abbrev pub drawn : ℕ → Automaton → Automaton
drawn found x = with_phase (if nat_lt found x.cells then phases.Naming found else phases.Stopping (limits.Cell x.cells)) x

-- the machine is at st_counter, and not at a fork
abbrev pub counts : Automaton → Bool
counts x = x.machine.pc == 0x50

-- the name that the cell gets, by the top thread's cell and how many counters or children it has made
abbrev pub owner_of : Automaton → Owner
owner_of x = record { counter = counts x; parent = (own_note x).cell; number = if counts x then (own_note x).counters else (own_note x).forks }

-- the counter is made: its number comes into a6
abbrev pub counter_made : ℕ → Note → Automaton → Automaton
counter_made cell note x = goes_back (with_register registers.A6 cell (with_top (record note { counters = note.counters + 1 }) x))

abbrev pub named : ℕ → Automaton → Automaton
named cell x = if counts x then counter_made cell (own_note x) x else with_phase (phases.Beginning cell) x

abbrev pub child_note : ℕ → Note
child_note cell = record { cell = cell; forks = 0; counters = 0; bytes = 0 }

-- the child comes on top of its parent
abbrev pub begins_child : ℕ → Automaton → Automaton
begins_child cell x = goes_back (with_notes (replaced (record (own_note x) { forks = (own_note x).forks + 1 }) x.threads.notes ++ child_note cell ∷ []) x)

-- ---- cells that are named in a6

abbrev pub handle_in : State → ℕ
handle_in m = register m registers.A6 % 2 ^ 32

-- the thread stops, or waits, at the entry that it has called
abbrev pub stops_at_call : ℕ → Automaton → Automaton
stops_at_call kind x = leaves (record { wait = waits.Trapped; kind = kind; seen = 0; at_call = true }) x

abbrev pub waits_at : Waiting → ℕ → Automaton → Automaton
waits_at wait seen x = leaves (record { wait = wait; kind = 0; seen = seen; at_call = true }) x

abbrev pub wrong_handle : Automaton → Automaton
wrong_handle x = stops_at_call (trap_number traps.WrongHandle) x

abbrev pub right_handle : Automaton → Automaton
right_handle x = with_phase (phases.Looking (handle_in x.machine)) x

-- st_touch wants a future, and st_done and st_join a counter
abbrev pub kind_seen : Bool → Automaton → Automaton
kind_seen true x = if x.machine.pc == 0x40 then wrong_handle x else right_handle x
kind_seen false x = if x.machine.pc == 0x40 then right_handle x else wrong_handle x

abbrev pub touch_looked : ℕ → ℕ → Automaton → Automaton
touch_looked cell found x = if found == full_word then with_phase (phases.Valuing cell) x else waits_at (waits.Touch cell) found x

abbrev pub join_looked : ℕ → ℕ → ℕ → Automaton → Automaton
join_looked cell least found x = if nat_lt (count_in found) least then waits_at (waits.Join cell least) found x else goes_back x

abbrev pub looked : ℕ → ℕ → Automaton → Automaton
looked cell found x =
    if x.machine.pc == 0x40 then touch_looked cell found x else (if x.machine.pc == 0x60 then with_phase (phases.Adding cell found) x else join_looked cell (register x.machine registers.A0) found x)

abbrev pub got : ℕ → Automaton → Automaton
got value x = goes_back (with_register registers.A0 value x)

abbrev pub added : ℕ → ℕ → ℕ → Automaton → Automaton
added cell seen found x = if found == seen then wakes (record { cell = cell; counter = true; word = counted_up seen; next = head_in seen }) (goes_back x) else with_phase (phases.Adding cell found) x
