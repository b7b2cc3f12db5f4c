-- A line of a body without a fault fits the program (plain-fits, for the instructions of the table).
use Rattle.std.proofs.Common.{◌≡◌, ◌⊎◌, inl, inr, ℕ, ◌+◌, ◌*◌, ◌-◌, ◌≤◌, Bool, true, false, not, ◌&&◌, ◌||◌, ◌==◌, List, refl, ap, sym, subst, cond, nat_le}
use Rattle.std.proofs.lemmas.Bool.{eqb-true, leb-true, or_cases}
use Rattle.st_base.specs.declared.reg.Reg.{Reg}
use Rattle.st_base.specs.Reg.{reg_number}
use Rattle.st_rv.specs.declared.ins.Ins.{Ins}
use Rattle.st_rv.specs.declared.ins.OpKind.{OpKind}
use Rattle.st_rv.specs.declared.ins.OpKind.TheVariants as kinds
use Rattle.st_rv.specs.Results.{access_size}
use Rattle.st_asm.specs.declared.unit.Function.{Function}
use Rattle.st_model.specs.Memory.{slot_place}
use Rattle.st_model.specs.Effect.{is_handle, is_frame, is_move}
use Rattle.st_model.specs.Accepted.{is_int, IsSlot, LoadFits, PlainFitsAs, slots_end as program_slots_end}
use Rattle.st_check.specs.Shape.{Formed, formed, saved_registers}
use Rattle.st_check.specs.Faults.{is_integer, is_slot_register, are_integers, is_handle_move, is_slot, is_in_slots, is_aligned, slots_end, slot_fault, load_keeps, store_keeps, plain_keeps, plain_writes, may_write}
use Rattle.st_check.specs.Programs.{function_by}
use Rattle.st_check.proofs.SavedBits.{AreAmong}
use Rattle.st_check.proofs.ShapeFacts.{saved_bits-ones}
use Rattle.st_check.proofs.Frames.{and-both, may_write-bits}

not-false : (b : Bool) → not b ≡ false → b ≡ true
not-false true h = refl
not-false false h = cc

or-false : (a b : Bool) → (a || b) ≡ false → (a ≡ false) × (b ≡ false)
or-false true b h = cc
or-false false b h = (refl, h)

and-false : (a b : Bool) → a ≡ true → (a && b) ≡ false → b ≡ false
and-false true b e h = h
and-false false b e h = cc

or-right-false : (a b : Bool) → (a || b) ≡ true → b ≡ false → a ≡ true
or-right-false true b h e = refl
or-right-false false b h e = cc

-- where the integer slots of a shape and of its function end is the same
ends-same : (functions : List Function) (function : Function) (shape : Formed) → AreAmong shape.saved saved_registers → program_slots_end (function_by functions function (formed shape)) ≡ slots_end shape
ends-same functions function shape among = ap (λ n. shape.frame - (16 + 8 * n)) (saved_bits-ones shape.saved among)

integer-slot : (h size place end : ℕ) (int : Bool) → (not int || (nat_le (8 * h) place && nat_le (place + size) end)) ≡ true → int ≡ true → (8 * h ≤ place) × (place + size ≤ end)
integer-slot h size place end true test e =
    let s = and-both (nat_le (8 * h) place) (nat_le (place + size) end) test in
    (leb-true _ _ s.0, leb-true _ _ s.1)
integer-slot h size place end false test e = cc

-- an access in its slots, by the class of its register
in-slots : (functions : List Function) (function : Function) (shape : Formed) (i : Ins) (r : Reg) (handle : Bool) → AreAmong shape.saved saved_registers → is_handle r ≡ handle → cond handle ((access_size i.op == 8) && nat_le (slot_place shape.frame i.imm + 8) (8 * function.slots)) (not (is_integer r) || (nat_le (8 * function.slots) (slot_place shape.frame i.imm) && nat_le (slot_place shape.frame i.imm + access_size i.op) (slots_end shape))) ≡ true → is_slot_register r ≡ true → ((is_int (reg_number r) ≡ true) × (8 * function.slots ≤ slot_place shape.frame i.imm) × (slot_place shape.frame i.imm + access_size i.op ≤ program_slots_end (function_by functions function (formed shape)))) ⊎ ((is_handle r ≡ true) × (access_size i.op ≡ 8) × (slot_place shape.frame i.imm + 8 ≤ 8 * function.slots))
in-slots functions function shape i r true among e test class =
    let s = and-both (access_size i.op == 8) (nat_le (slot_place shape.frame i.imm + 8) (8 * function.slots)) test in
    inr (e, eqb-true _ _ s.0, leb-true _ _ s.1)
in-slots functions function shape i r false among e test class =
    let int : is_integer r ≡ true = or-right-false (is_integer r) (is_handle r) class e in
    let parts = integer-slot function.slots (access_size i.op) (slot_place shape.frame i.imm) (slots_end shape) (is_integer r) test int in
    inl (int, parts.0, subst (λ n. slot_place shape.frame i.imm + access_size i.op ≤ n) (sym (ends-same functions function shape among)) parts.1)

-- an access in its slots
slot-fits : (functions : List Function) (function : Function) (shape : Formed) (i : Ins) (r : Reg) → AreAmong shape.saved saved_registers → is_slot function.slots shape i r ≡ true → is_slot_register r ≡ true → IsSlot (function_by functions function (formed shape)) i r
slot-fits functions function shape i r among test class =
    let s = and-both (is_aligned shape i) (is_in_slots function.slots shape i r) test in
    (eqb-true _ _ s.0, in-slots functions function shape i r (is_handle r) among refl s.1 class)

load-fits : (functions : List Function) (function : Function) (shape : Formed) (i : Ins) (frame : Bool) → AreAmong shape.saved saved_registers → (frame && not (is_slot function.slots shape i i.rd)) ≡ false → load_keeps frame i ≡ true → LoadFits frame (function_by functions function (formed shape)) i
load-fits functions function shape i true among slot keeps = slot-fits functions function shape i i.rd among (not-false (is_slot function.slots shape i i.rd) slot) keeps
load-fits functions function shape i false among slot keeps = and-both (is_integer i.rd) (is_integer i.rs1) keeps

immediate-fits : (i : Ins) → (are_integers i.rd i.rs1 || is_handle_move i) ≡ true → ((is_int (reg_number i.rd) ≡ true) × (is_int (reg_number i.rs1) ≡ true)) ⊎ ((is_handle i.rd ≡ true) × (is_handle i.rs1 ≡ true) × (is_move i.op i.imm ≡ true))
immediate-fits i keeps = elim (or_cases (are_integers i.rd i.rs1) (is_handle_move i) keeps) [
  | inl ints ↦ inl (and-both (is_integer i.rd) (is_integer i.rs1) ints)
  | inr move ↦
      (let s = and-both (is_move i.op i.imm && is_handle i.rd) (is_handle i.rs1) move in
      let t = and-both (is_move i.op i.imm) (is_handle i.rd) s.0 in
      inr (t.1, s.1, t.0))
]

store-fits : (functions : List Function) (function : Function) (shape : Formed) (i : Ins) (frame : Bool) → AreAmong shape.saved saved_registers → (not frame || not (is_slot function.slots shape i i.rs2)) ≡ false → store_keeps frame i ≡ true → (frame ≡ true) × IsSlot (function_by functions function (formed shape)) i i.rs2
store-fits functions function shape i true among slot keeps = (refl, slot-fits functions function shape i i.rs2 among (not-false (is_slot function.slots shape i i.rs2) slot) keeps)
store-fits functions function shape i false among slot keeps = cc

-- an instruction of the table
pub plain-fits : (functions : List Function) (function : Function) (shape : Formed) (kind : OpKind) (i : Ins) → AreAmong shape.saved saved_registers → (kind ≡ kinds.Branch → ⊥) → (kind ≡ kinds.Jump → ⊥) → slot_fault kind function.slots shape i ≡ false → plain_keeps kind i ≡ true → may_write shape (plain_writes kind i) ≡ true → PlainFitsAs kind (function_by functions function (formed shape)) i
plain-fits functions function shape kinds.Register i among branch jump slot keeps may =
    let s = and-both (is_integer i.rd) (are_integers i.rs1 i.rs2) keeps in
    let t = and-both (is_integer i.rs1) (is_integer i.rs2) s.1 in
    (s.0, t.0, t.1, may_write-bits functions function shape i.rd among may)
plain-fits functions function shape kinds.Immediate i among branch jump slot keeps may = (immediate-fits i keeps, may_write-bits functions function shape i.rd among may)
plain-fits functions function shape kinds.Upper i among branch jump slot keeps may = (keeps, may_write-bits functions function shape i.rd among may)
plain-fits functions function shape kinds.Load i among branch jump slot keeps may = (load-fits functions function shape i (is_frame i.rs1) among slot keeps, may_write-bits functions function shape i.rd among may)
plain-fits functions function shape kinds.Store i among branch jump slot keeps may = store-fits functions function shape i (is_frame i.rs1) among slot keeps
plain-fits functions function shape kinds.Branch i among branch jump slot keeps may = absurd (branch refl)
plain-fits functions function shape kinds.Jump i among branch jump slot keeps may = absurd (jump refl)
plain-fits functions function shape kinds.Break i among branch jump slot keeps may = tt
