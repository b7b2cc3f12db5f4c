-- A thread in memory: its activations, each with its frame, wherever these lie, over words that one worker or one chain holds. Read IsActivation
-- (one of them), FromNewest (a thread from its newest activation on) and Below (the activations below one: a Context of st_items, so that the
-- laws of items hold above it).
use Rattle.std.specs.Prelude.{◌≡◌, ℕ, ◌+◌, ◌*◌, ◌<◌, Bool, List, [], ◌∷◌, Option, Some, None, is_some, slice_get}
use Rattle.std.specs.List.{Contains}
use Rattle.st_base.specs.declared.chain.Frame.{Frame}
use Rattle.st_base.specs.declared.thread.Activation.{Activation}
use Rattle.st_base.specs.declared.thread.ActivationKind.TheVariants.{Called}
use Rattle.st_base.specs.declared.thread.Held.{Held}
use Rattle.st_model.specs.declared.code.Layout.TheVariants.{Postprocessed}
use Rattle.st_model.specs.declared.program.Program.{Program}
use Rattle.st_model.specs.declared.program.ProgramFunction.{ProgramFunction}
use Rattle.st_words.specs.Steps.{kept}
use Rattle.st_step.specs.Frames.{Naming, address_in}
use Rattle.st_items.specs.Body.{Context, IsFramed, IsFrameAt}
use Rattle.st_items.specs.Called.{Calling}

-- ---- words and names

abbrev pub number_or : Option ℕ → ℕ
number_or None = 0
number_or (Some n) = n

-- the words that are held, by their places; one that isn't held is 0, so that IsFrameAt is asked beside
abbrev pub word_in : List (Option ℕ) → ℕ → ℕ
word_in held q = number_or (kept held q)

abbrev pub is_held : List (Option ℕ) → ℕ → Bool
is_held held q = is_some (kept held q)

-- a name stands as the number of a cell that a list has for it
abbrev pub named_by : List (Held × ℕ) → Naming
named_by names held n = Contains names (held, n)

-- ---- one thread

-- a frame of the function with this base, all words of which are held
pub record LiesAt (holds : ℕ → Bool) (function : ProgramFunction) (fp : ℕ) (f : Frame) : Type 0 where
  pub base : fp ≡ f.base
  pub place : IsFrameAt holds f.low function

-- An activation behind its prologue, with its frame and what is older than it. The pc is so many words behind its next item's first: 1 where it stands
-- at a call of the runtime that it has made, else 0.
pub record IsActivation (p : Program) (names : Naming) (holds : ℕ → Bool) (older : Context) (word value : ℕ → ℕ) (ahead pc fp : ℕ) (a : Activation) (function : ProgramFunction) (f : Frame) : Type 0 where
  pub here : slice_get p.functions a.function ≡ Some function
  pub begun : 0 < a.next
  pub at : pc ≡ address_in Postprocessed p a.function function a.next + 4 * ahead
  pub lies : LiesAt holds function fp f
  pub framed : IsFramed names older word value f.low fp function a

-- the activations below one, the newest first, each with its frame: each has called the one above it. Behind the thread's first one `end` is asked.
abbrev pub Below : Program → Naming → (ℕ → Bool) → Context → List Activation → List Frame → Context
Below p names holds end [] [] kind kept word value fp ret = end kind kept word value fp ret
Below p names holds end (a ∷ older) (f ∷ fs) kind kept word value fp ret =
    (function : ProgramFunction) × (kind ≡ Called) × LiesAt holds function fp f × Calling Postprocessed p names (Below p names holds end older fs) f.low function a kind kept word value fp ret
Below p names holds end [] (f ∷ fs) kind kept word value fp ret = ⊥
Below p names holds end (a ∷ older) [] kind kept word value fp ret = ⊥

-- a thread from its newest activation on
abbrev pub FromNewest : Program → Naming → (ℕ → Bool) → Context → ℕ → ℕ → ℕ → (ℕ → ℕ) → (ℕ → ℕ) → List Activation → List Frame → Type 0
FromNewest p names holds end ahead pc fp word value (a ∷ older) (f ∷ fs) = (function : ProgramFunction) × IsActivation p names holds (Below p names holds end older fs) word value ahead pc fp a function f
FromNewest p names holds end ahead pc fp word value [] fs = ⊥
FromNewest p names holds end ahead pc fp word value (a ∷ older) [] = ⊥
