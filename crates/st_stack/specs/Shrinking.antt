-- What a step of shrinking does: Shrinks, over LooksAt, the step of the board that it makes.
use Rattle.std.specs.Prelude.{◌≡◌, ◌≢◌, ◌⊎◌, ℕ, ◌+◌, ◌*◌, ◌<◌, List, [], Option, Some, None, min}
use Rattle.st_base.specs.declared.chain.Frame.{Frame}
use Rattle.st_words.specs.declared.view.View.{View}
use Rattle.st_words.specs.declared.view.Cargo.{Cargo}
use Rattle.st_words.specs.Made.{StepMade}
use Rattle.st_words.specs.Steps.{Step, Look, Answer, Looked, return_place}
use Rattle.st_stack.specs.declared.stack.Shrunk.{Shrunk}
use Rattle.st_stack.specs.declared.stack.Shrunk.TheVariants.{More, Done}
use Rattle.st_stack.specs.Exported.{IsWithout, IsLimit, IsLowest}

-- the stack of a worker, where each stack has so many bytes; there are at most 16 workers
pub record IsStackOf (w lo hi : ℕ) : Type 0 where
  pub worker : w < 16
  pub low : (bytes : ℕ) × (lo ≡ 0x8000_0000 + w * bytes) × (hi ≡ lo + bytes)

-- the lesser of the limit and the low end of the worker's lowest frame, if it has one
abbrev pub lesser : ℕ → Option Frame → ℕ
lesser limit None = limit
lesser limit (Some f) = min limit f.low

-- over the members of a board, the view that the caller names, the board before, and the worker
module _ {Board : Type 0} (board_view : Board → ℕ → View) (board_serves : Board → ℕ → Type 0) (board_says : Board → ℕ → Step → Answer → Type 0) (board_did : Board → ℕ → Step → Answer → Board → Type 0) (after : View → Step → Answer → View) (old : Board) (w : ℕ) where
  -- the return word of the frame was looked at, and is this number
  abbrev pub LooksAt : Frame → ℕ → Board → Type 0
  LooksAt f n new = (cargo : Cargo) × StepMade board_view board_serves board_says board_did after old w (Look (return_place f)) (Looked n cargo) new

  -- the exported frame of least low end is taken back exactly where its return word is 0
  abbrev pub Shrinks : ℕ → List Frame → List Frame → Option Frame → Shrunk → Board → Type 0
  Shrinks hi fs fs' top More new = (f : Frame) × IsLowest fs f × LooksAt f 0 new × IsWithout fs f fs'
  Shrinks hi fs fs' top (Done sp) new =
      (fs' ≡ fs) × ((limit : ℕ) × IsLimit hi fs limit × (sp ≡ lesser limit top)) × (((fs ≡ []) × (new ≡ old)) ⊎ ((f : Frame) × (n : ℕ) × IsLowest fs f × LooksAt f n new × (n ≢ 0)))
