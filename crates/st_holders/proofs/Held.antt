-- What follows for held words and leased frames: held_laws.
use Rattle.std.proofs.Common.{◌≡◌, ℕ, Some, sym, ◌∙◌}
use Rattle.std.specs.List.{Contains}
use Rattle.st_base.specs.declared.chain.Frame.{Frame}
use Rattle.st_words.specs.declared.view.Slot.{Slot}
use Rattle.st_words.specs.Steps.{Inside, return_place, kept, IsLeased}
use Rattle.st_world.specs.World.{World, slot_of, cargo_of}
use Rattle.st_world.specs.Holders.{InView, InSlot}
use Rattle.st_holders.specs.Leasing.{Leasing}
use Rattle.st_holders.specs.Laws.{HeldLaws}
use Rattle.st_holders.proofs.Shifts.{one, view_slot, view_nobody}
use Rattle.st_holders.proofs.Changes.{is_leased, leased_word}
use Rattle.st_holders.proofs.Chains.{frame_word}

view_one : (v w : ℕ) → InView v ≡ InView w → v ≡ w
view_one v w e = cc

slot_one : (y z : Slot) → InSlot y ≡ InSlot z → y ≡ z
slot_one y z e = cc

-- the leased frame in which a word lies
pub in_frame : (x : World) (w p : ℕ) (f : Frame) → (G : Leasing x) → IsLeased (x.view w) f → Inside f p → G.keeping.frame p ≡ Some f
in_frame x w p f G m i = let h = is_leased x.workers x.each x.stack (slot_of x) (cargo_of x) x.view G w f m in ((leased_word x.workers x.each x.stack (slot_of x) (cargo_of x) x.view G (return_place f) f h.0 h.1).all p i).0

gave_up : (x : World) (v w p n : ℕ) (f : Frame) → Leasing x → Contains (x.view v).exported f → x.stack (return_place f) ≡ 0 → Inside f p → kept (x.view w).held p ≡ Some n → ⊥
gave_up x v w p n f G m z i e =
    let h = (G.views v).exported f m in
    let lw = leased_word x.workers x.each x.stack (slot_of x) (cargo_of x) x.view G (return_place f) f h.0 h.1 in
    view_nobody w (sym ((G.views w).held p n e).1 ∙ ((lw.all p i).1 ∙ lw.given z))

pub held_laws : HeldLaws
held_laws = record {
  value = λ x w p n G e. ((G.views w).held p n e).2;
  value_in_slot = λ x z p n G e. ((G.slots z).has p n e).2;
  one_view = λ x v w p m n G a b. view_one v w (sym ((G.views v).held p m a).1 ∙ ((G.views w).held p n b).1);
  one_slot = λ x y z p m n G a b. slot_one y z (sym ((G.slots y).has p m a).1 ∙ ((G.slots z).has p n b).1);
  not_both = λ x w z p m n G a b. view_slot w z (sym ((G.views w).held p m a).1 ∙ ((G.slots z).has p n b).1);
  apart = λ x v w p f g G a b i j. one (sym (in_frame x v p f G a i) ∙ in_frame x w p g G b j);
  apart_in_slot = λ x w p z f g G a b i j. one (sym (in_frame x w p f G a i) ∙ ((frame_word x.workers x.each x.stack (slot_of x) (cargo_of x) x.view G z g p b j).1.all p j).0);
  given_up = gave_up;
}
