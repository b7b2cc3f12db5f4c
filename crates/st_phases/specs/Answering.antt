-- What the phases of an answer do to a worker.
use Rattle.std.specs.Prelude.{◌≡◌, ℕ, ◌+◌, ◌==◌, Bool, true, false, not, ◌&&◌, ◌||◌, nat_lt, List, [], ◌∷◌, length, Option, Some, None, is_some, if◌then◌else◌}
use Rattle.std.specs.List.{Contains}
use Rattle.st_base.specs.declared.chain.Frame.{Frame}
use Rattle.st_base.specs.declared.chain.Note.{Note}
use Rattle.st_base.specs.declared.image.ForkRow.{ForkRow}
use Rattle.st_words.specs.Encodings.{asking}
use Rattle.st_steal.specs.Ready.{IsPopped}
use Rattle.st_chain.specs.declared.logical.Moved.{Moved}
use Rattle.st_chain.specs.declared.logical.Moved.TheVariants as moves
use Rattle.st_chain.specs.Forks.{handle_behind}
use Rattle.st_phases.specs.declared.automaton.Automaton.{Automaton}
use Rattle.st_phases.specs.declared.phase.Phase.{Phase}
use Rattle.st_phases.specs.declared.phase.Phase.TheVariants as phases
use Rattle.st_phases.specs.Automaton.{with_phase, with_ready}
use Rattle.st_phases.specs.Polling.{RunsOn}

-- after an answer a worker without a thread goes on with the next place of its round
abbrev pub GoesOnAnswered : List Note → Automaton → Automaton → Type 0
GoesOnAnswered [] x y = y ≡ with_phase phases.Mail x
GoesOnAnswered (note ∷ notes) x y = RunsOn x y

-- there are two threads and the second one from the bottom has a frame; a child that was just forked has none
abbrev pub has_two : List ForkRow → Automaton → Bool
has_two forks x = nat_lt 2 (length x.threads.notes) || ((length x.threads.notes == 2) && not (is_some (handle_behind forks (x.machine.pc + 4))))

-- a ready number is given, or the bottom thread, or the request is refused
abbrev pub chosen : ℕ → Option ℕ → List ForkRow → Automaton → Automaton
chosen asker (Some cell) forks x = with_phase (phases.Picking asker cell) x
chosen asker None forks x = with_phase (if has_two forks x then phases.Sharing asker else phases.Telling asker false) x

-- where the request was withdrawn there is no answer
abbrev pub answers : Bool → ℕ → List ForkRow → Automaton → Automaton → Type 0
answers true asker forks x y = (popped : Option ℕ) × IsPopped x.ready.numbers popped y.ready.numbers × (y ≡ chosen asker popped forks (with_ready y.ready.numbers x))
answers false asker forks x y = GoesOnAnswered x.threads.notes x y

abbrev pub IsAnswered : ℕ → List ForkRow → ℕ → Automaton → Automaton → Type 0
IsAnswered asker forks found x y = answers (found == asking asker) asker forks x y

-- ---- a step of giving

abbrev pub given_phase : ℕ → Moved → Phase → Phase
given_phase asker moves.More phase = phase
given_phase asker (moves.Done chain) phase = phases.Mailing asker chain

-- it changes the exported frames and the threads alone, and the phase where it is done
pub record IsGiven (asker : ℕ) (moved : Moved) (x y : Automaton) : Type 0 where
  pub same : y ≡ record x { stack = y.stack; threads = y.threads; phase = given_phase asker moved x.phase }
  pub room : y.threads.room ≡ x.threads.room
  pub lo : y.stack.lo ≡ x.stack.lo
  pub hi : y.stack.hi ≡ x.stack.hi
  -- no exported frame is taken back
  pub stay : (f : Frame) → Contains x.stack.exported f → Contains y.stack.exported f
