-- The laws of the leases that speak of no step. Read HeldLaws (what follows for held words and leased frames).
use Rattle.std.specs.Prelude.{◌≡◌, ℕ, Some}
use Rattle.std.specs.List.{Contains}
use Rattle.st_base.specs.declared.chain.Frame.{Frame}
use Rattle.st_words.specs.declared.view.Slot.{Slot}
use Rattle.st_words.specs.Steps.{Inside, return_place, kept, IsLeased}
use Rattle.st_world.specs.World.{World, cargo_of}
use Rattle.st_holders.specs.Leasing.{Leasing}

pub record HeldLaws : Type 0 where
  -- a held word is what its keeper says, and has one keeper
  pub value : (x : World) (w p n : ℕ) → Leasing x → kept (x.view w).held p ≡ Some n → x.stack p ≡ n
  pub value_in_slot : (x : World) (z : Slot) (p n : ℕ) → Leasing x → kept (cargo_of x z).words p ≡ Some n → x.stack p ≡ n
  pub one_view : (x : World) (v w p m n : ℕ) → Leasing x → kept (x.view v).held p ≡ Some m → kept (x.view w).held p ≡ Some n → v ≡ w
  pub one_slot : (x : World) (y z : Slot) (p m n : ℕ) → Leasing x → kept (cargo_of x y).words p ≡ Some m → kept (cargo_of x z).words p ≡ Some n → y ≡ z
  pub not_both : (x : World) (w : ℕ) (z : Slot) (p m n : ℕ) → Leasing x → kept (x.view w).held p ≡ Some m → kept (cargo_of x z).words p ≡ Some n → ⊥
  -- leased frames are apart, whoever knows of them; those of a chain in a slot too
  pub apart : (x : World) (v w p : ℕ) (f g : Frame) → Leasing x → IsLeased (x.view v) f → IsLeased (x.view w) g → Inside f p → Inside g p → f ≡ g
  pub apart_in_slot : (x : World) (w p : ℕ) (z : Slot) (f g : Frame) → Leasing x → IsLeased (x.view w) f → Contains (cargo_of x z).frames g → Inside f p → Inside g p → f ≡ g
  -- an exported frame whose return word is 0 is held by nobody
  pub given_up : (x : World) (v w p n : ℕ) (f : Frame) → Leasing x → Contains (x.view v).exported f → x.stack (return_place f) ≡ 0 → Inside f p → kept (x.view w).held p ≡ Some n → ⊥
