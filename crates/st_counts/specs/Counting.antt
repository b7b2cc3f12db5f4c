-- The active count. Read Counts, which is of a world: the active count is the sum of the workers' shares and of the units of what goes with the chains in
-- slots; a worker's share covers its threads and its turn, and who has a number in hand has a share.
use Rattle.std.specs.Prelude.{◌≡◌, ℕ, ◌+◌, ◌^◌, ◌≤◌, ◌<◌, true, Option, Some, None}
use Rattle.st_base.specs.declared.chain.Chain.{Chain}
use Rattle.st_words.specs.declared.view.Cargo.{Cargo}
use Rattle.st_words.specs.declared.view.View.{View}
use Rattle.st_words.specs.Shares.{Covered}
use Rattle.st_world.specs.Functions.{total}
use Rattle.st_world.specs.World.{World}

-- the sum of the units of what goes with the chains in so many slots
abbrev pub units : (ℕ → Cargo) → ℕ → ℕ
units cargo n = total (λ c. (cargo c).unit) n

-- the sum of the shares of so many workers
abbrev pub shares : (ℕ → View) → ℕ → ℕ
shares view n = total (λ w. (view w).share) n

-- how many chains are in a slot
abbrev pub filling : Option Chain → ℕ
filling None = 0
filling (Some chain) = 1

-- a view has the numbers of its world
abbrev pub IsNumbered : ℕ → ℕ → View → Type 0
IsNumbered workers cells v = (v.workers ≡ workers) × (v.cells ≡ cells)

pub record Counting (workers cells active : ℕ) (home : ℕ → Option Chain) (home_cargo : ℕ → Cargo) (post : ℕ → Option Chain) (post_cargo : ℕ → Cargo) (view : ℕ → View) : Type 0 where
  pub few_workers : workers ≤ 31
  pub few_cells : cells ≤ 65536
  pub numbered : (w : ℕ) → w < workers → IsNumbered workers cells (view w)
  pub sum : active ≡ shares view workers + (units home_cargo cells + units post_cargo workers)
  -- the share covers threads and turn, and who has a number in hand has a share
  pub covered : (w : ℕ) → Covered (view w)
  pub small : (w : ℕ) → (view w).share < 2 ^ 32
  -- a chain in its cell's slot counts as active or not, each chain in mail does, and an empty slot never
  pub homes : (c : ℕ) → (home_cargo c).unit ≤ filling (home c)
  pub posts : (v : ℕ) → (post_cargo v).unit ≡ filling (post v)
  -- who has seen that nothing is active is right about it still
  pub inactive : (w : ℕ) → (view w).inactive ≡ true → active ≡ 0

abbrev pub Counts : World → Type 0
Counts x = Counting x.workers x.cells x.active x.home x.home_cargo x.post x.post_cargo x.view
