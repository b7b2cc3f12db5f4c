-- Drawn numbers. Read Draws, which is of a world: a number is drawn once, and is then with the worker that drew it until its cell is named. Only the drawer of a number
-- may name its cell, so each cell is named once. Numbers beyond the cells are drawn at most once by each worker, so Drawn doesn't wrap.
use Rattle.std.specs.Prelude.{◌≡◌, ◌≢◌, ◌⊎◌, ℕ, ◌+◌, ◌≤◌, ◌<◌, nat_le, List, [], ◌∷◌, if◌then◌else◌}
use Rattle.std.specs.List.{Contains}
use Rattle.st_words.specs.declared.view.View.{View}
use Rattle.st_world.specs.Functions.{total}
use Rattle.st_world.specs.World.{World}

-- how many of the numbers are not of a cell
abbrev pub beyond : ℕ → List ℕ → ℕ
beyond cells [] = 0
beyond cells (c ∷ cs) = (if nat_le cells c then 1 else 0) + beyond cells cs

-- those that so many workers have drawn and not named
abbrev pub all_beyond : ℕ → (ℕ → View) → ℕ → ℕ
all_beyond cells view n = total (λ w. beyond cells (view w).drawn) n

-- the numbers that a worker has drawn and not yet named
pub record HasDrawn (drawn : ℕ) (owner : ℕ → ℕ) (drawer : ℕ → ℕ) (w : ℕ) (v : View) : Type 0 where
  pub below : (c : ℕ) → Contains v.drawn c → c < drawn
  pub unnamed : (c : ℕ) → Contains v.drawn c → owner c ≡ 0
  pub drew : (c : ℕ) → Contains v.drawn c → drawer c ≡ w
  -- one at a time
  pub one : (v.drawn ≡ []) ⊎ ((c : ℕ) × (v.drawn ≡ c ∷ []))

pub record Drawing (workers cells drawn : ℕ) (owner state : ℕ → ℕ) (view : ℕ → View) : Type 0 where
  -- who drew a number
  pub drawer : ℕ → ℕ
  pub few_workers : workers ≤ 31
  pub few_cells : cells ≤ 65536
  pub sized : (w : ℕ) → w < workers → (view w).cells ≡ cells
  pub views : (w : ℕ) → HasDrawn drawn owner drawer w (view w)
  -- a named cell's number was drawn; each that was drawn is named, or is with its drawer, who is one of the workers
  pub named : (c : ℕ) → owner c ≢ 0 → c < drawn
  pub each : (c : ℕ) → c < drawn → (owner c ≢ 0) ⊎ (Contains (view (drawer c)).drawn c × (drawer c < workers))
  -- a cell that isn't named has the State word 0
  pub unnamed : (c : ℕ) → owner c ≡ 0 → state c ≡ 0
  pub bound : drawn ≤ cells + all_beyond cells view workers

abbrev pub Draws : World → Type 0
Draws x = Drawing x.workers x.cells x.drawn x.owner x.state x.view
