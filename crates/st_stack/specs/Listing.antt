-- The list of exported frames as it is kept: `turned` is the list of which the frames from one place on are kept the other way round, FallsLow
-- asks for its order. Listing is what contracts see of it.
use Rattle.std.specs.Prelude.{ℕ, ◌≤◌, ◌<◌, List, ◌++◌, length, take, drop, reverse}
use Rattle.st_base.specs.declared.chain.Frame.{Frame}
use Rattle.st_stack.specs.Exported.{frame_at}

-- the frames from the first to the last, and for how many there is memory
pub record Listing : Type 0 where
  pub frames : List Frame
  pub room : ℕ

-- the list that is kept so: its frames from n on stand from the last to the first
abbrev pub turned : ℕ → List Frame → List Frame
turned n fs = take n fs ++ reverse (drop n fs)

-- no frame's low end is above that of one before it
abbrev pub FallsLow : List Frame → Type 0
FallsLow fs = (j k : ℕ) → j ≤ k → k < length fs → (frame_at fs k).low ≤ (frame_at fs j).low
