-- A worker whose thread runs: at an instruction, or at an entry of the runtime that it has called. Read MayGoOn (what its turn asks) and Goes (what it does).
use Rattle.std.specs.Prelude.{◌≡◌, ◌≢◌, ℕ, ◌≤◌, [], length, Option, Some, None, slice_get}
use Rattle.st_base.specs.declared.entry.Entry.{Entry}
use Rattle.st_base.specs.declared.entry.Entry.TheVariants as entries
use Rattle.st_base.specs.declared.reg.Reg.TheVariants as registers
use Rattle.st_model.specs.Memory.{Data}
use Rattle.st_words.specs.declared.view.CellWord.TheVariants as words
use Rattle.st_words.specs.Encodings.{is_counter}
use Rattle.st_words.specs.Steps.{Step, CellLoad, CellStore, Draw, RequestLoad, Answer, Done, Number}
use Rattle.st_cells.specs.declared.found.Owner.{Owner}
use Rattle.st_step.specs.declared.decoded.Decoded.{Decoded}
use Rattle.st_step.specs.Moves.{register}
use Rattle.st_steal.specs.Words.{IsAsker}
use Rattle.st_items.specs.Code.{word_index}
use Rattle.st_phases.specs.declared.automaton.Automaton.{Automaton}
use Rattle.st_phases.specs.declared.phase.Phase.TheVariants as phases
use Rattle.st_phases.specs.declared.turn.Point.TheVariants as points
use Rattle.st_phases.specs.declared.turn.Turn.{Turn}
use Rattle.st_phases.specs.declared.turn.Turn.TheVariants.{Ran}
use Rattle.st_phases.specs.Automaton.{own_note, with_phase, goes_back}
use Rattle.st_phases.specs.Entries.{drawn, handle_in, kind_seen}
use Rattle.st_phases.specs.Running.{MayRun, Runs, MayPrint, Prints}

-- it has a thread, and room for their notes
pub record HasTop (x : Automaton) : Type 0 where
  pub some : x.threads.notes ≢ []
  pub room : length x.threads.notes ≤ x.threads.room

-- the value of the top thread is stored
abbrev pub value_step : Automaton → Step
value_step x = CellStore (own_note x).cell words.Value (register x.machine registers.A0)

-- the Owner word of the cell in a6 is loaded
abbrev pub owner_step : Automaton → Step
owner_step x = CellLoad (handle_in x.machine) words.Owner

-- ---- what the turn asks

pub record MayPrintNow (asks : Step → Type 0) (x : Automaton) : Type 0 where
  pub has : HasTop x
  pub few : (own_note x).bytes ≤ 1048576
  pub may : MayPrint asks x

pub record MayEnd (asks : Step → Type 0) (x : Automaton) : Type 0 where
  pub has : HasTop x
  pub may : asks (value_step x)

abbrev pub MayServe : (Step → Type 0) → Automaton → Entry → Type 0
MayServe asks x entries.ForkIn = asks Draw
MayServe asks x entries.Counter = asks Draw
MayServe asks x entries.ForkOut = MayEnd asks x
MayServe asks x entries.End = MayEnd asks x
MayServe asks x entries.Touch = asks (owner_step x)
MayServe asks x entries.Done = asks (owner_step x)
MayServe asks x entries.Join = asks (owner_step x)
MayServe asks x entries.Poll = asks (RequestLoad x.number)
MayServe asks x entries.Putc = MayPrintNow asks x

abbrev pub MayGoOn : (Step → Type 0) → Data → Automaton → Option Entry → Type 0
MayGoOn asks d x (Some entry) = MayServe asks x entry
MayGoOn asks d x None = MayRun asks d x

-- ---- what it does

module _ {Board : Type 0} (made : Step → Answer → Board → Type 0) (old : Board) where
  abbrev pub Draws : Automaton → Turn → Automaton → Board → Type 0
  Draws x turn y new = (found : ℕ) × made Draw (Number found) new × (y ≡ drawn found x) × (turn ≡ Ran points.Step)

  abbrev pub Ends : Automaton → Turn → Automaton → Board → Type 0
  Ends x turn y new = made (value_step x) Done new × (y ≡ with_phase phases.Finding x) × (turn ≡ Ran points.Step)

  abbrev pub SeesKind : Automaton → Turn → Automaton → Board → Type 0
  SeesKind x turn y new = (found : ℕ) × (owner : Owner) × made (owner_step x) (Number found) new × (owner.counter ≡ is_counter found) × (y ≡ kind_seen owner.counter x) × (turn ≡ Ran points.Step)

  -- the own request word is read
  abbrev pub Polls : Automaton → Turn → Automaton → Board → Type 0
  Polls x turn y new = (found : ℕ) × (asker : Option ℕ) × made (RequestLoad x.number) (Number found) new × IsAsker found asker × (y ≡ with_phase (phases.Heeding asker) x) × (turn ≡ Ran points.Polled)

  abbrev pub Serves : Automaton → Entry → Turn → Automaton → Board → Type 0
  Serves x entries.ForkIn turn y new = Draws x turn y new
  Serves x entries.Counter turn y new = Draws x turn y new
  Serves x entries.ForkOut turn y new = Ends x turn y new
  Serves x entries.End turn y new = Ends x turn y new
  Serves x entries.Touch turn y new = SeesKind x turn y new
  Serves x entries.Done turn y new = SeesKind x turn y new
  Serves x entries.Join turn y new = SeesKind x turn y new
  Serves x entries.Poll turn y new = Polls (goes_back x) turn y new
  Serves x entries.Putc turn y new = Prints made old x y new × (turn ≡ Ran points.Step)

  abbrev pub Goes : Data → Automaton → Option Entry → Turn → Automaton → Board → Type 0
  Goes d x (Some entry) turn y new = Serves x entry turn y new
  Goes d x None turn y new = ((row : Decoded) → slice_get x.code.instructions.items (word_index x.machine.pc) ≡ Some row → Runs made old d x row y new) × (turn ≡ Ran points.Step)
