-- What an instruction, a byte that is printed, and a limit that is met do to a worker.
use Rattle.std.specs.Prelude.{◌≡◌, ℕ, ◌+◌, ◌-◌, ◌%◌, ◌^◌, ◌<◌, ◌≤◌, ◌==◌, Bool, true, false, not, ◌&&◌, nat_lt, Some, is_some, slice_get, if◌then◌else◌}
use Rattle.st_base.specs.declared.chain.Waiting.TheVariants as waits
use Rattle.st_base.specs.declared.limits.LimitKind.{LimitKind}
use Rattle.st_base.specs.declared.limits.LimitKind.TheVariants as limits
use Rattle.st_base.specs.declared.reg.Reg.TheVariants as registers
use Rattle.st_base.specs.declared.thread.TrapKind.TheVariants as traps
use Rattle.st_model.specs.Memory.{Data}
use Rattle.st_words.specs.Encodings.{trap_number, printed, stack_code, cell_code, step_code}
use Rattle.st_words.specs.Steps.{Step, OutStore, Answer, Done}
use Rattle.st_step.specs.Acts.{IsBounded}
use Rattle.st_step.specs.declared.decoded.Decoded.{Decoded}
use Rattle.st_step.specs.declared.machine.StepEnd.{StepEnd}
use Rattle.st_step.specs.declared.machine.StepEnd.TheVariants as ends
use Rattle.st_step.specs.declared.state.State.{State}
use Rattle.st_step.specs.Moves.{register, move_of, MayMove, Moves}
use Rattle.st_items.specs.Code.{word_index}
use Rattle.st_phases.specs.declared.automaton.Automaton.{Automaton}
use Rattle.st_phases.specs.declared.phase.Phase.TheVariants as phases
use Rattle.st_phases.specs.declared.turn.Turn.{Turn}
use Rattle.st_phases.specs.declared.turn.Turn.TheVariants as turns
use Rattle.st_phases.specs.Automaton.{with_phase, goes_back, own_note, with_top, leaves}
use Rattle.st_phases.specs.Entries.{stops_at_call}

-- ---- an instruction

-- it may be carried out: its row is in the table, and the step of the board that it needs may be asked
pub record MayRun (asks : Step → Type 0) (d : Data) (x : Automaton) : Type 0 where
  pub code : 0x10000 ≤ x.machine.pc
  pub row : Decoded
  pub there : slice_get x.code.instructions.items (word_index x.machine.pc) ≡ Some row
  pub bounded : IsBounded row.ins
  pub may : MayMove asks (move_of d x.machine row.ins)
  pub few_items : x.items + 1 < 2 ^ 64
  pub few_bytes : x.frame_bytes + register x.machine registers.Sp < 2 ^ 64

-- an item begins with it; not in the middle of a short store
abbrev pub begins_with : Decoded → Automaton → Bool
begins_with row x = row.begins && not (is_some x.machine.half)

abbrev pub counted : Bool → Automaton → Automaton
counted begins x = record x { items = if begins then x.items + 1 else x.items }

-- what comes after it, where sp was `before` ahead of it: the bytes of a frame that it has made are counted
abbrev pub went : Bool → ℕ → StepEnd → Automaton → Automaton
went begins before (ends.Trap kind) x = leaves (record { wait = waits.Trapped; kind = trap_number kind; seen = 0; at_call = false }) x
went begins before (ends.StackFull frame) x = with_phase (phases.Stopping (limits.Stack x.number frame)) x
went begins before _ x = record x { frame_bytes = if begins then x.frame_bytes + (before - register x.machine registers.Sp) else x.frame_bytes }

abbrev pub moved : State → Automaton → Automaton
moved m x = record x { machine = m }

module _ {Board : Type 0} (made : Step → Answer → Board → Type 0) (old : Board) where
  -- the worker has begun more items than it may
  abbrev pub Stops : Automaton → Automaton → Board → Type 0
  Stops x y new = (new ≡ old) × (y ≡ with_phase (phases.Stopping (limits.Step x.number)) (counted true x))

  -- it is carried out, where the item is counted
  abbrev pub Carries : Data → Automaton → Decoded → Bool → Automaton → Board → Type 0
  Carries d x row begins y new = (end : StepEnd) × (m : State) × Moves made old x.machine (move_of d x.machine row.ins) end m new × (y ≡ went begins (register x.machine registers.Sp) end (moved m x))

  abbrev pub by_limit : Bool → Type 0 → Type 0 → Type 0
  by_limit true stops carries = stops
  by_limit false stops carries = carries

  -- the instruction of the row
  abbrev pub Runs : Data → Automaton → Decoded → Automaton → Board → Type 0
  Runs d x row y new = by_limit (begins_with row x && nat_lt x.steps (x.items + 1)) (Stops x y new) (Carries d (counted (begins_with row x) x) row (begins_with row x) y new)

-- ---- a byte

abbrev pub is_root : Automaton → Bool
is_root x = (own_note x).cell == 0

abbrev pub is_full : Automaton → Bool
is_full x = (own_note x).bytes == 1048576

-- the byte is the low one of a0
abbrev pub out_step : Automaton → Step
out_step x = OutStore (own_note x).bytes (printed (own_note x).forks (register x.machine registers.A0 % 256))

abbrev pub MayPrint : (Step → Type 0) → Automaton → Type 0
MayPrint asks x = is_root x ≡ true → is_full x ≡ false → asks (out_step x)

abbrev pub has_printed : Automaton → Automaton
has_printed x = goes_back (with_top (record (own_note x) { bytes = (own_note x).bytes + 1 }) x)

-- a child may not print, and the root as many bytes as there is room for
abbrev pub prints : {Board : Type 0} → (Step → Answer → Board → Type 0) → Board → Bool → Bool → Automaton → Automaton → Board → Type 0
prints made old true false x y new = made (out_step x) Done new × (y ≡ has_printed x)
prints made old true true x y new = (new ≡ old) × (y ≡ stops_at_call 15 x)
prints made old false full x y new = (new ≡ old) × (y ≡ stops_at_call (trap_number traps.PutInChild) x)

abbrev pub Prints : {Board : Type 0} → (Step → Answer → Board → Type 0) → Board → Automaton → Automaton → Board → Type 0
Prints made old x y new = prints made old (is_root x) (is_full x) x y new

-- ---- a limit

abbrev pub stop_code : ℕ → LimitKind → ℕ
stop_code number (limits.Stack worker frame) = stack_code worker frame
stop_code number (limits.Step worker) = step_code worker
stop_code number _ = cell_code number

-- the code was written, or another limit was met first
abbrev pub stop_turn : LimitKind → ℕ → Turn
stop_turn kind found = if found == 0 then turns.Limit kind else turns.Over found
