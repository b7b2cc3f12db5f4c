-- The chains in slots, by what the program means to a board. Read Walking: each walks, over the words that go with it, to the thread that goes with it, and one in the slot of its
-- cell shows where it waits or why it has stopped; the root's first chain shows nothing.
use Rattle.std.specs.Prelude.{◌≢◌, Option, Some, None}
use Rattle.st_base.specs.declared.chain.Chain.{Chain}
use Rattle.st_base.specs.declared.chain.Waiting.TheVariants as waits
use Rattle.st_words.specs.declared.view.Slot.{Slot}
use Rattle.st_words.specs.declared.view.Slot.TheVariants.{Cell, Mail}
use Rattle.st_words.specs.declared.view.Cargo.{Cargo}
use Rattle.st_words.specs.Careful.{Meaning, ShowsPlace}

module _ (m : Meaning) where
  abbrev pub SlotWalks : Slot → Option Chain → Cargo → Type 0
  SlotWalks z None cargo = Prim.Unit
  SlotWalks (Cell c) (Some chain) cargo = m.walks cargo chain × (cargo.carried.wait ≢ waits.Start → ShowsPlace m cargo.carried cargo.carried.wait)
  SlotWalks (Mail v) (Some chain) cargo = m.walks cargo chain

  abbrev pub Walking : (Slot → Option Chain) → (Slot → Cargo) → Type 0
  Walking slot cargo = (z : Slot) → SlotWalks z (slot z) (cargo z)
