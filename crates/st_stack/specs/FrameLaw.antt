-- The law of frames on one stack: no live frame lies below sp, each is its worker's or exported, sp is at most the limit, and exported frames
-- overlap neither one another nor, once they were left for ever, a live frame. A frame is live while its thread hasn't ended; it was left for
-- ever where its return word is 0.
use Rattle.std.specs.Prelude.{◌≡◌, ◌≢◌, ◌⊎◌, ℕ, ◌≤◌, Bool, true, List, Option, Some, None}
use Rattle.std.specs.List.{Contains}
use Rattle.st_base.specs.declared.chain.Frame.{Frame}
use Rattle.st_words.specs.Steps.{return_place}
use Rattle.st_stack.specs.declared.stack.Shrunk.{Shrunk}
use Rattle.st_stack.specs.declared.stack.Shrunk.TheVariants.{More, Done}
use Rattle.st_stack.specs.Exported.{Apart, IsWithout, IsLimit, IsLowest}

-- live: the live frames on the stack; own: those frames on it that are of the worker's threads; is_zero: which words are 0
pub record FrameLaw (is_zero : ℕ → Bool) (hi sp : ℕ) (exported live own : List Frame) : Type 0 where
  -- a live frame has its low end at or above sp
  pub above : (f : Frame) → Contains live f → sp ≤ f.low
  -- it is of the worker's threads, or exported
  pub placed : (f : Frame) → Contains live f → Contains own f ⊎ Contains exported f
  -- the worker's are live
  pub own_live : (f : Frame) → Contains own f → Contains live f
  -- sp is at most the limit
  pub limit : (n : ℕ) → IsLimit hi exported n → sp ≤ n
  -- exported frames are disjoint
  pub apart : (f g : Frame) → Contains exported f → Contains exported g → f ≢ g → Apart f g
  -- no live frame overlaps an exported one whose return word is 0
  pub clear : (f g : Frame) → Contains exported f → is_zero (return_place f) ≡ true → Contains live g → Apart f g

-- what a frame is to have that is exported: it isn't below sp, and overlaps no live frame if its return word is 0
pub record MayJoin (is_zero : ℕ → Bool) (sp : ℕ) (live : List Frame) (f : Frame) : Type 0 where
  pub above : sp ≤ f.low
  pub clear : (g : Frame) → is_zero (return_place f) ≡ true → Contains live g → Apart f g

-- the lowest of the worker's frames that isn't exported
abbrev pub IsTop : List Frame → List Frame → Option Frame → Type 0
IsTop exported own None = (f : Frame) → Contains own f → Contains exported f
IsTop exported own (Some top) = Contains own top × ((f : Frame) → Contains own f → Contains exported f ⊎ (top.low ≤ f.low))

-- where a frame was taken back whose return word is 0, the law stays; where shrinking is done, it holds with sp as told, which isn't lower
abbrev pub KeepsLaw : (ℕ → Bool) → ℕ → ℕ → List Frame → List Frame → List Frame → List Frame → Shrunk → Type 0
KeepsLaw is_zero hi sp fs fs' live own More = (f : Frame) → IsLowest fs f → IsWithout fs f fs' → is_zero (return_place f) ≡ true → FrameLaw is_zero hi sp fs' live own
KeepsLaw is_zero hi sp fs fs' live own (Done sp') = FrameLaw is_zero hi sp' fs' live own × (sp ≤ sp')
