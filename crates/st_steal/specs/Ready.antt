-- A list of ready numbers, first in, first out. Contracts see it as Ready; IsPopped says what a pop takes out and leaves.
use Rattle.std.specs.Prelude.{◌≡◌, ℕ, ◌*◌, ◌≤◌, List, [], ◌∷◌, length, Option, Some, None}

-- the numbers, the oldest first, and how many there is room for
pub record Ready : Type 0 where
  pub numbers : List ℕ
  pub room : ℕ

-- the oldest is taken out, or there is none
abbrev pub IsPopped : List ℕ → Option ℕ → List ℕ → Type 0
IsPopped old (Some first) new = old ≡ first ∷ new
IsPopped old None new = (old ≡ []) × (new ≡ [])

-- as they are kept: those from the head on are there, and the memory is twice the room
pub record HasRoom (items : List ℕ) (head room capacity : ℕ) : Type 0 where
  pub within : head ≤ length items
  pub most : length items ≤ 2 * room
  pub reserved : 2 * room ≤ capacity
