-- The laws of lists that speak of no step. Read ViewLaws (what is always so of a view).
use Rattle.std.specs.Prelude.{◌≡◌, ◌⊎◌, ℕ, ◌<◌, true, false, Some}
use Rattle.std.specs.List.{Contains}
use Rattle.st_words.specs.declared.view.Waiter.{Waiter}
use Rattle.st_words.specs.Steps.{HasInHand}
use Rattle.st_world.specs.World.{World}
use Rattle.st_spots.specs.Listing.{Once, Lists}

-- what is always so of a view
pub record ViewLaws : Type 0 where
  -- a number is once in a hand, and in no other hand; hands and ready numbers are apart
  pub once : (x : World) (w : ℕ) → Lists x → Once (x.view w).hand
  pub one_hand : (x : World) (v w c : ℕ) → Lists x → HasInHand (x.view v) c → HasInHand (x.view w) c → v ≡ w
  pub one_ready : (x : World) (v w c : ℕ) → Lists x → Contains (x.view v).ready c → Contains (x.view w).ready c → v ≡ w
  pub apart : (x : World) (v w c : ℕ) → Lists x → Contains (x.view v).ready c → HasInHand (x.view w) c → ⊥
  -- who found the root's number may take its chain alone, and has it neither in hand nor ready
  pub one_finder : (x : World) (v w : ℕ) → Lists x → (x.view v).root ≡ true → (x.view w).root ≡ true → v ≡ w
  pub root_apart : (x : World) (v w : ℕ) → Lists x → (x.view v).root ≡ true → HasInHand (x.view w) 0 ⊎ Contains (x.view w).ready 0 → ⊥
  pub below : (x : World) (w c : ℕ) → Lists x → w < x.workers → HasInHand (x.view w) c ⊎ Contains (x.view w).ready c → c < (x.view w).cells
  -- a Next word is stored only after what was behind the waiter is known
  pub linked : (x : World) (w : ℕ) (y : Waiter) (n : ℕ) → Lists x → Contains (x.view w).hand y → y.next ≡ Some n → y.leads ≡ false
