-- Where a worker polls: its threads may be walked (may_walk), and what is left of them stands there (stays). all_poll has both.
use Rattle.std.proofs.Common.{◌≡◌, inl, inr, ℕ, ◌+◌, Bool, List, [], ◌∷◌, Option, subst}
use Rattle.st_base.specs.declared.chain.Frame.{Frame}
use Rattle.st_base.specs.declared.reg.Reg.TheVariants as registers
use Rattle.st_base.specs.declared.thread.Activation.{Activation}
use Rattle.st_base.specs.declared.thread.ActivationKind.{ActivationKind}
use Rattle.st_base.specs.declared.thread.ActivationKind.TheVariants.{Forked}
use Rattle.st_base.specs.declared.thread.Held.{Held}
use Rattle.st_model.specs.declared.program.Program.{Program}
use Rattle.st_model.specs.Effect.{File}
use Rattle.st_words.specs.declared.view.Known.{Known}
use Rattle.st_step.specs.declared.state.State.{State}
use Rattle.st_step.specs.Frames.{Naming, value_in}
use Rattle.st_step.specs.Moves.{register}
use Rattle.st_step.specs.Runs.{AreWords}
use Rattle.st_items.specs.Body.{Context, Ends}
use Rattle.st_chain.specs.Walk.{word_in, is_held, named_by, FromNewest}
use Rattle.st_chain.specs.Threads.{Lower}
use Rattle.st_chain.specs.Copying.{over}
use Rattle.st_chain.specs.Taking.{TopStands}
use Rattle.st_standing.specs.Standing.{under, StandsOn, IsForked}
use Rattle.st_moving.specs.Moving.{AtPoll, AllPoll}
use Rattle.st_moving.proofs.Below.{over_words}

-- a thread behind its prologue has a frame
framed : (p : Program) (names : Naming) (holds : ℕ → Bool) (end : Context) (ahead pc fp : ℕ) (word value : ℕ → ℕ) (acts : List Activation) → FromNewest p names holds end ahead pc fp word value acts [] → ⊥
framed p names holds end ahead pc fp word value [] newest = newest
framed p names holds end ahead pc fp word value (a ∷ older) newest = newest

-- the threads below one don't read what it keeps
lower_keeps : (p : Program) (names : Naming) (holds : ℕ → Bool) (cell : ℕ) (ks : List Known) (rest : List (List Frame)) (kind : ActivationKind) (kept kept' : File) (word value : ℕ → ℕ) (fp ret : ℕ) → Lower p names holds cell ks rest kind kept word value fp ret → Lower p names holds cell ks rest kind kept' word value fp ret
lower_keeps p names holds cell [] [] kind kept kept' word value fp ret lower = lower
lower_keeps p names holds cell (k ∷ ks) (fs ∷ rest) kind kept kept' word value fp ret lower = lower
lower_keeps p names holds cell [] (fs ∷ rest) kind kept kept' word value fp ret lower = absurd lower
lower_keeps p names holds cell (k ∷ ks) [] kind kept kept' word value fp ret lower = absurd lower

module _ (p : Program) (names : List (Held × ℕ)) (ends : Ends) (m : State) (k : Known) (fs : List Frame) where
  pub may_walk : (held : List (Option ℕ)) (ks : List Known) (rest : List (List Frame)) → AtPoll p names (is_held held) ends (over held m) k fs ks rest → TopStands p names held m (k ∷ ks) (fs ∷ rest)
  may_walk held ks rest (inl (on, behind)) = inl behind
  may_walk held ks rest (inr (none, forked)) = inr (none, (forked.first.kept, forked.below))

  module _ (held held' : List (Option ℕ)) (ks ks' : List Known) (rest rest' : List (List Frame)) (words : AreWords (word_in held')) where
    abbrev Newest : List (Option ℕ) → List Known → List (List Frame) → List Frame → Type 0
    Newest words us frames own = FromNewest p (named_by names) (is_held words) (under p names (is_held words) k.note.cell us frames) 0 m.pc (register m registers.S0) (word_in words) (value_in m) k.thread.activations own

    no_frame : (words : List (Option ℕ)) (us : List Known) (frames : List (List Frame)) → fs ≡ [] → Newest words us frames fs → ⊥
    no_frame words us frames none newest =
        framed p (named_by names) (is_held words) (under p names (is_held words) k.note.cell us frames) 0 m.pc (register m registers.S0) (word_in words) (value_in m) k.thread.activations (subst (Newest words us frames) none newest)

    on_stays : StandsOn p names (is_held held) ends (over held m) k fs ks rest → Newest held' ks' rest' fs → StandsOn p names (is_held held') ends (over held' m) k fs ks' rest'
    on_stays on newest = record { machine = over_words ends m held held' words on.machine; whole = on.whole; file = on.file; frameless = on.frameless; stands = inr newest }

    forked_stays : (kept : File) → IsForked p names (is_held held) ends (over held m) k ks rest → Lower p (named_by names) (is_held held') k.note.cell ks' rest' Forked kept (word_in held') (value_in m) (register m registers.S0) (m.pc + 4)
        → IsForked p names (is_held held') ends (over held' m) k ks' rest'
    forked_stays kept is lower = record {
      machine = over_words ends m held held' words is.machine;
      whole = is.whole;
      file = is.file;
      frameless = is.frameless;
      first = is.first;
      acts = is.acts;
      function = is.function;
      here = is.here;
      start = is.start;
      bytes = is.bytes;
      handles = is.handles;
      kind = is.kind;
      behind = is.behind;
      jumps = is.jumps;
      below = lower_keeps p (named_by names) (is_held held') k.note.cell ks' rest' Forked kept is.first.kept (word_in held') (value_in m) (register m registers.S0) (m.pc + 4) lower;
    }

    pub stays : AtPoll p names (is_held held) ends (over held m) k fs ks rest → TopStands p names held' m (k ∷ ks') (fs ∷ rest') → AtPoll p names (is_held held') ends (over held' m) k fs ks' rest'
    stays (inl (on, behind)) (inl newest) = inl (on_stays on newest, newest)
    stays (inl (on, behind)) (inr (none, lower)) = absurd (no_frame held ks rest none behind)
    stays (inr (none, forked)) (inl newest) = absurd (no_frame held' ks' rest' none newest)
    stays (inr (none, forked)) (inr (none', (kept, lower))) = inr (none, forked_stays kept forked lower)

pub all_poll : AllPoll
all_poll p accepted = record {
  top = λ names held ends m k fs ks rest at. may_walk p names ends m k fs held ks rest at;
  stays = λ names held held' ends m k fs ks ks' rest rest' words at top. stays p names ends m k fs held held' ks ks' rest rest' words at top;
}
