-- What the phases of a thread that leaves do to a worker.
use Rattle.std.specs.Prelude.{◌≡◌, ℕ, ◌-◌, ◌==◌, Bool, true, false, None, if◌then◌else◌}
use Rattle.std.specs.List.{Contains}
use Rattle.st_base.specs.declared.chain.Chain.{Chain}
use Rattle.st_base.specs.declared.chain.Frame.{Frame}
use Rattle.st_words.specs.Encodings.{waits_word, trapped}
use Rattle.st_step.specs.Runs.{AreValues}
use Rattle.st_chain.specs.declared.logical.Moved.{Moved}
use Rattle.st_chain.specs.declared.logical.Moved.TheVariants as moves
use Rattle.st_phases.specs.declared.automaton.Automaton.{Automaton}
use Rattle.st_phases.specs.declared.phase.Leaving.{Leaving}
use Rattle.st_phases.specs.declared.phase.Phase.{Phase}
use Rattle.st_phases.specs.declared.phase.Phase.TheVariants as phases
use Rattle.st_phases.specs.Automaton.{with_phase}
use Rattle.st_phases.specs.Waking.{settled}

-- ---- a step of the suspension

abbrev pub phase_behind : Leaving → Moved → Phase → Phase
phase_behind leaving moves.More phase = phase
phase_behind leaving (moves.Done chain) phase = phases.Marking chain leaving

-- it changes the machine, the exported frames and the threads alone, and the phase where it is done
pub record IsSuspended (leaving : Leaving) (moved : Moved) (x y : Automaton) : Type 0 where
  pub same : y ≡ record x { machine = y.machine; stack = y.stack; threads = y.threads; phase = phase_behind leaving moved x.phase }
  pub room : y.threads.room ≡ x.threads.room
  pub lo : y.stack.lo ≡ x.stack.lo
  pub hi : y.stack.hi ≡ x.stack.hi
  -- no exported frame is taken back
  pub stay : (f : Frame) → Contains x.stack.exported f → Contains y.stack.exported f
  pub values : AreValues x.machine → AreValues y.machine

-- ---- what is told of it

-- a call's item is one word before the place at which it goes on
abbrev pub item_place : ℕ → Bool → ℕ
item_place pc true = pc - 4
item_place pc false = pc

abbrev pub standing_word : ℕ → ℕ
standing_word kind = if kind == 0 then waits_word else trapped

-- it is made ready or parked, or its unit is taken away
abbrev pub slotted : Chain → Leaving → Automaton → Automaton
slotted chain leaving x =
    if leaving.kind == 0 then settled (record { waiter = chain.cell; wait = leaving.wait; seen = leaving.seen; rest = None }) x else with_phase (phases.Lowering None) x
