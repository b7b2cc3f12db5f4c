-- What a worker keeps of its leased frames from step to step: KeepsLeased, with a law for each step that moves words or frames (LeasedLaws).
use Rattle.std.specs.Prelude.{◌≡◌, ℕ, ◌<◌, length, Some, None}
use Rattle.std.specs.List.{Contains}
use Rattle.st_base.specs.declared.chain.Chain.{Chain}
use Rattle.st_base.specs.declared.chain.Frame.{Frame}
use Rattle.st_words.specs.declared.view.Slot.{Slot}
use Rattle.st_words.specs.declared.view.Cargo.{Cargo}
use Rattle.st_words.specs.declared.view.View.{View}
use Rattle.st_words.specs.Steps.{StackStore, Mark, Look, SlotTake, Done, Looked, Took, place_of, home_of, return_place, Inside, kept, Holds, IsLeased}
use Rattle.st_words.specs.Views.{view_after}
use Rattle.st_words.specs.Promises.{Promises}
use Rattle.st_words.specs.Careful.{MayCarry}
use Rattle.st_words.specs.Names.{KnowsNames}
use Rattle.st_words.specs.Laws.{AreApart, HasFrames, taking, putting}

-- its leased frames are apart; it holds all words of those that are away from their stack, and the exported ones lie on its own
pub record KeepsLeased (u : View) : Type 0 where
  pub apart : AreApart u
  pub holds : (f : Frame) (p : ℕ) → Contains u.away f → Inside f p → Holds u p
  pub home : (f : Frame) (p : ℕ) → Contains u.exported f → Inside f p → home_of u.each p ≡ u.number

pub record LeasedLaws : Type 0 where
  pub store : (u : View) (p n : ℕ) → KeepsLeased u → Holds u p → KeepsLeased (view_after u (StackStore p n) Done)
  pub mark : (u : View) (f : Frame) → KeepsLeased u → IsLeased u f → KeepsLeased (view_after u (Mark (return_place f)) Done)
  pub look : (u : View) (f : Frame) (n : ℕ) (cargo : Cargo) → KeepsLeased u → Contains u.exported f → return_place f < length u.held → Promises u (Look (return_place f)) (Looked n cargo) → KeepsLeased (view_after u (Look (return_place f)) (Looked n cargo))
  pub take : (u : View) (slot : Slot) (chain : Chain) (cargo : Cargo) → KeepsLeased u → Promises u (SlotTake slot) (Took (Some chain) cargo) → KeepsLeased (taking u slot chain cargo)
  pub put : (u : View) (slot : Slot) (chain : Chain) (cargo : Cargo) → KeepsLeased u → MayCarry u chain cargo → KeepsLeased (putting u slot chain cargo)
  -- a chain that was taken may be put again
  pub again : (u : View) (slot : Slot) (chain : Chain) (cargo : Cargo) → Promises u (SlotTake slot) (Took (Some chain) cargo) → KnowsNames (taking u slot chain cargo) → HasFrames (taking u slot chain cargo) chain cargo.carried cargo.frames
