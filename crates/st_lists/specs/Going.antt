-- How numbers move by each kind of step: Goes, between where they were and what they waited for and where they are and what they wait for then. Others
-- who have a number by where it is (a chain in its slot, in a turn or in mail) read this alone.
use Rattle.std.specs.Prelude.{◌≡◌, ◌⊎◌, ℕ, zero, suc, Bool, true, false, ◌&&◌, ◌==◌, Option, Some, None}
use Rattle.st_base.specs.declared.chain.Waiting.{Waiting}
use Rattle.st_base.specs.declared.chain.Waiting.TheVariants as waits
use Rattle.st_words.specs.declared.view.CellWord.TheVariants.{Next, Standing}
use Rattle.st_words.specs.declared.view.Slot.TheVariants.{Cell}
use Rattle.st_words.specs.declared.view.View.{View}
use Rattle.st_words.specs.Encodings.{ready}
use Rattle.st_words.specs.Steps.{Step, CellLoad, CellStore, CellChange, RootTake, SlotTake, SlotPut, Answer, Number, Took}
use Rattle.st_words.specs.Careful.{IsAtHome}
use Rattle.st_words.specs.Views.{in_hand}
use Rattle.st_world.specs.Functions.{put}
use Rattle.st_spots.specs.Listing.{Spot, Nowhere, Listed, Held, Behind, Readied, Rooted}

-- in a list or a hand
abbrev pub IsQueued : Spot → Type 0
IsQueued (Listed c k) = Prim.Unit
IsQueued (Held w) = Prim.Unit
IsQueued (Behind w c k) = Prim.Unit
IsQueued _ = ⊥

-- ---- where numbers were and what they waited for, and where they are and what they wait for

module _ (spot : ℕ → Spot) (wait : ℕ → Waiting) (spot' : ℕ → Spot) (wait' : ℕ → Waiting) where
  abbrev pub Stays : Type 0
  Stays = ((d : ℕ) → spot' d ≡ spot d) × ((d : ℕ) → wait' d ≡ wait d)

  -- the number c alone goes there
  abbrev pub GoesTo : ℕ → Spot → Type 0
  GoesTo c at = ((d : ℕ) → spot' d ≡ put spot c at d) × ((d : ℕ) → wait' d ≡ wait d)

  -- the number c alone comes into the hand of w, and waits for this
  abbrev pub ComesInto : ℕ → ℕ → Waiting → Type 0
  ComesInto w c k = ((d : ℕ) → spot' d ≡ put spot c (Held w) d) × ((d : ℕ) → wait' d ≡ put wait c k d)

  -- numbers of lists and hands go into lists and hands. Who is in a hand goes out of it by being parked, by the worker w, while its chain is in its slot
  abbrev pub Passes : ℕ → View → Type 0
  Passes w u = ((d : ℕ) → (spot' d ≡ spot d) ⊎ (IsQueued (spot d) × IsQueued (spot' d) × ((v : ℕ) → spot d ≡ Held v → (v ≡ w) × IsAtHome u d))) × ((d : ℕ) → wait' d ≡ wait d)

  -- ---- by each step

  -- a waiter in hand becomes ready
  abbrev pub GoesReady : Bool → ℕ → ℕ → Type 0
  GoesReady true w c = GoesTo c (Readied w)
  GoesReady false w c = Stays

  -- Root was found 1 or not
  abbrev pub GoesRooted : ℕ → ℕ → Type 0
  GoesRooted w zero = Stays
  GoesRooted w (suc n) = GoesTo 0 (Rooted (Some w))

  -- a chain that is taken leaves its number in the hand, where it is there
  abbrev pub GoesTaken : {A : Type 0} → Bool → Option A → ℕ → Type 0
  GoesTaken true chain c = Stays
  GoesTaken false None c = Stays
  GoesTaken false (Some chain) c = GoesTo c Nowhere

  -- the number of a chain that waits is in the hand once it is put
  abbrev pub GoesPut : Bool → ℕ → ℕ → Waiting → Type 0
  GoesPut true w c k = Stays
  GoesPut false w c (waits.Touch cell) = ComesInto w c (waits.Touch cell)
  GoesPut false w c (waits.Join cell least) = ComesInto w c (waits.Join cell least)
  GoesPut false w c _ = Stays

  abbrev pub Goes : ℕ → View → Step → Answer → Type 0
  Goes w u (CellLoad c Next) a = Passes w u
  Goes w u (CellChange c old new) a = Passes w u
  Goes w u (CellStore c Standing n) a = GoesReady ((n == ready) && in_hand c u.hand) w c
  Goes w u RootTake (Number n) = GoesRooted w n
  Goes w u (SlotTake (Cell c)) (Took chain cargo) = GoesTaken (in_hand c u.hand) chain c
  Goes w u (SlotPut (Cell c) chain cargo) a = GoesPut (in_hand c u.hand) w c chain.wait
  Goes w u s a = Stays
