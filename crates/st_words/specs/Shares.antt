-- That a worker's share covers its threads and the chains of its turn, and that who has a number in hand has a share: Covered. Careful steps keep it
-- (CoveredLaws). The item that goes with a step is not in it: it takes a thread out at most.
use Rattle.std.specs.Prelude.{◌≡◌, ◌≢◌, ℕ, ◌≤◌, Bool, [], Some, None}
use Rattle.std.specs.List.{Contains}
use Rattle.st_base.specs.declared.chain.Chain.{Chain}
use Rattle.st_words.specs.declared.view.CellWord.TheVariants as words
use Rattle.st_words.specs.declared.view.Slot.{Slot}
use Rattle.st_words.specs.declared.view.Carried.{Carried}
use Rattle.st_words.specs.declared.view.Cargo.{Cargo}
use Rattle.st_words.specs.declared.view.View.{View}
use Rattle.st_words.specs.Steps.{CellStore, ActiveAdd, SlotTake, SlotPut, Done, Number, Took, Can, HasInHand, taken_share}
use Rattle.st_words.specs.Views.{view_after}
use Rattle.st_words.specs.Promises.{Promises}
use Rattle.st_words.specs.Laws.{taking, putting}
use Rattle.st_words.specs.Careful.{Meaning, Careful}

pub record Covered (v : View) : Type 0 where
  pub covers : taken_share v ≤ v.share
  pub holds : v.hand ≢ [] → 1 ≤ v.share

pub record CoveredLaws (m : Meaning) : Type 0 where
  -- a unit is added, or one that can be spared is taken
  pub added_covered : (u : View) (up : Bool) (n : ℕ) → Covered u → Can u (ActiveAdd up) → Careful m u (ActiveAdd up) → Covered (view_after u (ActiveAdd up) (Number n))
  pub taken_covered : (u : View) (slot : Slot) (chain : Chain) (cargo : Cargo) → Covered u → Can u (SlotTake slot) → Careful m u (SlotTake slot) → Promises u (SlotTake slot) (Took (Some chain) cargo) → taken_share (taking u slot chain cargo) ≤ (taking u slot chain cargo).share
  pub put_covered : (u : View) (slot : Slot) (chain : Chain) (cargo : Cargo) → Covered u → Can u (SlotPut slot chain cargo) → Careful m u (SlotPut slot chain cargo) → Covered (putting u slot chain cargo)
  -- no chain of the turn whose number is in the hand was just suspended
  pub ready_covered : (u : View) (c : ℕ) → Covered u → HasInHand u c → ((x : Carried) → Contains u.chains x → HasInHand u x.known.note.cell → x.standing ≢ None) → Careful m u (CellStore c words.Standing 3) → Covered (view_after u (CellStore c words.Standing 3) Done)
