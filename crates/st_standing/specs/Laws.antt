-- The law of a worker's threads on its machine, StandingSame: they are read from the words of their frames and from the names that the worker has, and from nothing else. So they
-- stand over more names, and over words that are the same in these frames, whatever else is held.
use Rattle.std.specs.Prelude.{ℕ, Bool, List, ◌∷◌}
use Rattle.st_base.specs.declared.chain.Frame.{Frame}
use Rattle.st_base.specs.declared.thread.Held.{Held}
use Rattle.st_model.specs.declared.program.Program.{Program}
use Rattle.st_model.specs.Accepted.{IsAccepted}
use Rattle.st_words.specs.declared.view.Known.{Known}
use Rattle.st_step.specs.declared.state.State.{State}
use Rattle.st_step.specs.Runs.{Situation, AreWords}
use Rattle.st_items.specs.Body.{Ends}
use Rattle.st_chain.specs.Laws.{HasNames}
use Rattle.st_chain.specs.Seen.{AllSame, joined}
use Rattle.st_standing.specs.Standing.{StandsOn, IsForked, AtCall, AtLast}

-- more names, and words that are the same in these frames
pub record SeesSame (names names' : List (Held × ℕ)) (holds holds' : ℕ → Bool) (word word' : ℕ → ℕ) (frames : List Frame) : Type 0 where
  pub names_have : HasNames names names'
  pub same : AllSame holds holds' word word' frames
  pub words : AreWords word'

module _ (p : Program) (names names' : List (Held × ℕ)) (holds holds' : ℕ → Bool) (word word' : ℕ → ℕ) (ends : Ends) (m : State) where
  abbrev before : Situation
  before = record { state = m; word = word }

  abbrev after : Situation
  after = record { state = m; word = word' }

  pub record Same : Type 0 where
    pub on : (k : Known) (fs : List Frame) (ks : List Known) (rest : List (List Frame)) → SeesSame names names' holds holds' word word' (joined (fs ∷ rest)) → StandsOn p names holds ends before k fs ks rest → StandsOn p names' holds' ends after k fs ks rest
    pub forked : (k : Known) (ks : List Known) (rest : List (List Frame)) → SeesSame names names' holds holds' word word' (joined rest) → IsForked p names holds ends before k ks rest → IsForked p names' holds' ends after k ks rest
    pub call : (k : Known) (fs : List Frame) (ks : List Known) (rest : List (List Frame)) (entry : ℕ) → SeesSame names names' holds holds' word word' (joined (fs ∷ rest)) → AtCall p names holds ends before k fs ks rest entry → AtCall p names' holds' ends after k fs ks rest entry
    pub last : (cell value : ℕ) (ks : List Known) (rest : List (List Frame)) → SeesSame names names' holds holds' word word' (joined rest) → AtLast p names holds ends before cell value ks rest → AtLast p names' holds' ends after cell value ks rest

abbrev pub StandingSame : Type 0
StandingSame = (p : Program) (names names' : List (Held × ℕ)) (holds holds' : ℕ → Bool) (word word' : ℕ → ℕ) (ends : Ends) (m : State) → IsAccepted p → Same p names names' holds holds' word word' ends m
