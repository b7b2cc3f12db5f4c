-- What the phases of a chain that comes in do to a worker.
use Rattle.std.specs.Prelude.{◌≡◌, ℕ, [], ◌∷◌, Option, Some, None}
use Rattle.st_base.specs.declared.chain.Chain.{Chain}
use Rattle.st_base.specs.declared.chain.Waiting.{Waiting}
use Rattle.st_base.specs.declared.chain.Waiting.TheVariants as waits
use Rattle.st_base.specs.declared.reg.Reg.TheVariants as registers
use Rattle.st_step.specs.declared.state.State.{State}
use Rattle.st_step.specs.Moves.{written, at_place}
use Rattle.st_step.specs.Runs.{AreValues}
use Rattle.st_chain.specs.Logical.{restarted}
use Rattle.st_phases.specs.declared.automaton.Automaton.{Automaton}
use Rattle.st_phases.specs.declared.phase.Phase.TheVariants as phases
use Rattle.st_phases.specs.declared.turn.Point.TheVariants as points
use Rattle.st_phases.specs.declared.turn.Turn.{Turn}
use Rattle.st_phases.specs.declared.turn.Turn.TheVariants.{Ran}
use Rattle.st_phases.specs.Automaton.{with_phase}
use Rattle.st_phases.specs.Entries.{with_register}
use Rattle.st_phases.specs.Polling.{RunsOn}

-- the root begins: it comes back to st_end, and has the length of the input in a0
abbrev pub first_machine : ℕ → ℕ → State → State
first_machine length main_at m = at_place main_at (written (written (written m registers.Ra 0x30) registers.A0 length) registers.S0 0)

abbrev pub started : Waiting → ℕ → Automaton → Automaton
started waits.Start main_at x = record x { machine = first_machine x.length main_at x.machine }
started _ main_at x = x

abbrev pub with_value : Option ℕ → Automaton → Automaton
with_value None x = x
with_value (Some value) x = with_register registers.A0 value x

-- the machine of the chain, whose thread is the only one
abbrev pub resumed : Chain → Automaton → Automaton
resumed chain x = record x { machine = restarted chain x.machine; threads = record x.threads { notes = chain.note ∷ [] } }

abbrev pub arrived : Chain → Option ℕ → ℕ → Automaton → Automaton
arrived chain value main_at x = with_value value (started chain.wait main_at (resumed chain x))

-- the thread of the chain runs, without a value
abbrev pub Arrives : Chain → ℕ → Automaton → Turn → Automaton → Type 0
Arrives chain main_at x turn y = (turn ≡ Ran points.Took) × RunsOn (arrived chain None main_at x) y × (AreValues x.machine → AreValues y.machine)

-- the State of the cell at which it waited is loaded next
abbrev pub Waits : Chain → Automaton → Turn → Automaton → Type 0
Waits chain x turn y = (turn ≡ Ran points.Step) × (y ≡ with_phase (phases.Seeing chain) x)

-- a chain that waited at a cell has that looked at first; any other runs
abbrev pub TakesOn : Waiting → Chain → ℕ → Automaton → Turn → Automaton → Type 0
TakesOn (waits.Touch cell) chain main_at x turn y = Waits chain x turn y
TakesOn (waits.Join cell least) chain main_at x turn y = Waits chain x turn y
TakesOn _ chain main_at x turn y = Arrives chain main_at x turn y

-- the State was loaded: of a future the value is loaded next, and behind a counter the thread runs
abbrev pub Sees : Waiting → Chain → ℕ → Automaton → Turn → Automaton → Type 0
Sees (waits.Touch cell) chain main_at x turn y = (turn ≡ Ran points.Step) × (y ≡ with_phase (phases.Getting chain) x)
Sees _ chain main_at x turn y = Arrives chain main_at x turn y
