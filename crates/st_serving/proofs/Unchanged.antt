-- What is read of a worker's threads where no word is changed, and no register that a call keeps: what lies below a thread (under_sees), and a thread from
-- its newest activation on (newest_sees).
use Rattle.std.proofs.Common.{ℕ, Bool, List, [], ◌∷◌, refl}
use Rattle.st_base.specs.declared.chain.Frame.{Frame}
use Rattle.st_base.specs.declared.thread.Activation.{Activation}
use Rattle.st_base.specs.declared.thread.ActivationKind.{ActivationKind}
use Rattle.st_base.specs.declared.thread.Held.{Held}
use Rattle.st_model.specs.declared.program.Program.{Program}
use Rattle.st_model.specs.Accepted.{IsAccepted}
use Rattle.st_model.specs.Effect.{File}
use Rattle.st_words.specs.declared.view.Known.{Known}
use Rattle.st_chain.specs.Walk.{named_by, FromNewest}
use Rattle.st_chain.specs.Seen.{AllSame, SameKept, joined}
use Rattle.st_chain.proofs.Frames.{newest_same, lower_same}
use Rattle.st_standing.specs.Standing.{under}

pub all_same : (holds : ℕ → Bool) (word : ℕ → ℕ) (fs : List Frame) → AllSame holds holds word word fs
all_same holds word [] = tt
all_same holds word (f ∷ fs) = (record { held = λ q inside is. is; words = λ q inside. refl }, all_same holds word fs)

module _ (p : Program) (names : List (Held × ℕ)) (holds : ℕ → Bool) (accepted : IsAccepted p) (cell : ℕ) (ks : List Known) (rest : List (List Frame)) (word : ℕ → ℕ) where
  pub under_sees : (kind : ActivationKind) (kept : File) (value value' : ℕ → ℕ) (fp ret : ℕ) → SameKept value value' → under p names holds cell ks rest kind kept word value fp ret → under p names holds cell ks rest kind kept word value' fp ret
  under_sees kind kept value value' fp ret same below = lower_same p (named_by names) (named_by names) (λ held n is. is) holds holds word word accepted ks rest cell (all_same holds word (joined rest)) kind kept value value' fp ret same below

  pub newest_sees : (acts : List Activation) (fs : List Frame) (ahead pc fp : ℕ) (value value' : ℕ → ℕ) → SameKept value value' → FromNewest p (named_by names) holds (under p names holds cell ks rest) ahead pc fp word value acts fs → FromNewest p (named_by names) holds (under p names holds cell ks rest) ahead pc fp word value' acts fs
  newest_sees acts fs ahead pc fp value value' same newest =
      newest_same p (named_by names) (named_by names) (λ held n is. is) holds holds word word accepted (under p names holds cell ks rest) (under p names holds cell ks rest) under_sees acts fs ahead pc fp value value' (all_same holds word fs) same newest
