-- Who has what only one may have: a worker, the chain in a slot, or nobody.
use Rattle.std.specs.Prelude.{ℕ}
use Rattle.st_words.specs.declared.view.Slot.{Slot}

pub data Holder : Type 0 where
  InView : ℕ → Holder
  InSlot : Slot → Holder
  Nobody : Holder
