-- A worker's thread goes on where it polls: gp, or sp, has another number then, and no thread has anything there. Read SparesGp (no thread of a worker has anything in gp), PollSet (the threads
-- are where a worker polls, with another number in sp or gp) and GoesRunning (the top thread runs).
use Rattle.std.specs.Prelude.{◌≡◌, ℕ, ◌^◌, ◌<◌, List, [], Option, None, slice_index_or}
use Rattle.std.specs.List.{Contains}
use Rattle.st_base.specs.declared.chain.Frame.{Frame}
use Rattle.st_base.specs.declared.reg.Reg.{Reg}
use Rattle.st_base.specs.declared.reg.Reg.TheVariants as registers
use Rattle.st_base.specs.declared.thread.Held.{Held}
use Rattle.st_words.specs.declared.view.Known.{Known}
use Rattle.st_words.specs.declared.view.View.{View}
use Rattle.st_model.specs.declared.code.Layout.TheVariants.{Postprocessed}
use Rattle.st_model.specs.declared.program.Program.{Program}
use Rattle.st_model.specs.Accepted.{IsAccepted}
use Rattle.st_model.specs.Effect.{File}
use Rattle.st_model.specs.Memory.{Data}
use Rattle.st_made.specs.Runs.{all_known}
use Rattle.st_step.specs.declared.state.State.{State}
use Rattle.st_step.specs.Moves.{written}
use Rattle.st_items.specs.Body.{Ends}
use Rattle.st_items.specs.Code.{IsSized}
use Rattle.st_chain.specs.Walk.{is_held}
use Rattle.st_chain.specs.Copying.{over}
use Rattle.st_moving.specs.Moving.{AtPoll}
use Rattle.st_run.specs.Behind.{IsBehind}
use Rattle.st_phases.specs.declared.automaton.Automaton.{Automaton}
use Rattle.st_phases.specs.Polling.{RunsOn}
use Rattle.st_fits.specs.Threads.{ends_of, Polls, Runs}

-- nothing is in gp
abbrev pub Spares : File → Type 0
Spares file = slice_index_or file 3 None ≡ None

abbrev pub SparesGp : Program → Data → Type 0
SparesGp p d = (u : View) (t : Known) → IsAccepted p → IsBehind p d u → Contains (all_known u) t → Spares t.thread.registers

-- sp, or gp
abbrev pub IsStackEnd : Reg → Type 0
IsStackEnd registers.Sp = Prim.Unit
IsStackEnd registers.Gp = Prim.Unit
IsStackEnd _ = ⊥

abbrev pub PollSet : Program → Type 0
PollSet p =
    (names : List (Held × ℕ)) (held : List (Option ℕ)) (ends : Ends) (m : State) (r : Reg) (n : ℕ) (t : Known) (fs : List Frame) (ts : List Known) (rest : List (List Frame)) → IsAccepted p → IsStackEnd r → n < 2 ^ 64 → Spares t.thread.registers
    → AtPoll p names (is_held held) ends (over held m) t fs ts rest → AtPoll p names (is_held held) (ends_of (written m r n)) (over held (written m r n)) t fs ts rest

abbrev pub GoesRunning : Program → Data → Type 0
GoesRunning p d = (x y : Automaton) (u : View) → IsAccepted p → IsSized Postprocessed p → IsBehind p d u → Polls p d x u [] → RunsOn x y → Runs p d y u

pub record GoingLaws (p : Program) (d : Data) : Type 0 where
  pub spares : SparesGp p d
  pub poll_set : PollSet p
  pub goes_running : GoesRunning p d
