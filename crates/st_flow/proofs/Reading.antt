-- Where the places end that a formed function's items read: read_within.
use Rattle.std.proofs.Common.{◌≡◌, ℕ, ◌+◌, ◌<◌, ◌≤◌, Bool, true, false, ◌==◌, Option, Some, None, arith, inl, inr}
use Rattle.std.specs.Prelude.{◌||◌, slice_get, nat_le, nat_lt}
use Rattle.std.proofs.lemmas.Bool.Decides.{Decides-eqb, Decides-ltb}
use Rattle.st_base.specs.declared.reg.Reg.{Reg}
use Rattle.st_base.specs.Reg.{reg_number}
use Rattle.st_model.proofs.Places.{number_below}
use Rattle.st_rv.specs.declared.ins.Ins.{Ins}
use Rattle.st_rv.specs.declared.ins.OpKind.{OpKind}
use Rattle.st_rv.specs.declared.ins.OpKind.TheVariants.{Register, Immediate, Upper, Load, Store, Branch as Branch', Jump as Jump', Break}
use Rattle.st_rv.specs.Op.{kind_of}
use Rattle.st_rv.specs.Results.{access_size}
use Rattle.st_model.specs.declared.program.Program.{Program}
use Rattle.st_model.specs.declared.program.ProgramFunction.{ProgramFunction}
use Rattle.st_model.specs.declared.program.Item.{Item}
use Rattle.st_model.specs.declared.program.ItemKind.{ItemKind}
use Rattle.st_model.specs.declared.program.ItemKind.TheVariants.{Prologue, Epilogue, Plain, Li, Branch, Jump, Call, Entry, Fork}
use Rattle.st_model.specs.declared.program.RuntimeCall.{RuntimeCall}
use Rattle.st_model.specs.declared.program.RuntimeCall.TheVariants.{Touch, Counter, Done, Join, Poll, Putc}
use Rattle.st_model.specs.Memory.{slot_place}
use Rattle.st_model.specs.Effect.{is_frame, runtime_call}
use Rattle.st_model.specs.Flow.{reads, reads_as, load_reads, call_reads, slot_bytes}
use Rattle.st_model.specs.Accepted.{IsFormed, Fits, PlainFitsAs, LoadFits, IsSlot, HasFrame}
use Rattle.st_flow.specs.Undefined.{ReadsPlace}
use Rattle.st_flow.specs.Tables.{callee_argument}
use Rattle.st_flow.proofs.Words.{or_cases, and_parts}

at_register : (r : Reg) (x frame end : ℕ) → 32 + frame ≤ end → x == reg_number r ≡ true → x < end
at_register r x frame end room e =
    let same = (Decides-eqb x (reg_number r)).0 e in
    let low = number_below r in
    omega arith

at_registers : (r s : Reg) (x frame end : ℕ) → 32 + frame ≤ end → x == reg_number r || x == reg_number s ≡ true → x < end
at_registers r s x frame end room e =
    elim (or_cases (x == reg_number r) (x == reg_number s) e) as (λ y. x < end) [
      | inl a ↦ at_register r x frame end room a
      | inr a ↦ at_register s x frame end room a
    ]

at_number : (n x frame end : ℕ) → n < 32 → 32 + frame ≤ end → x == n ≡ true → x < end
at_number n x frame end low room e = let same = (Decides-eqb x n).0 e in omega arith

at_slot : (function : ProgramFunction) (i : Ins) (r : Reg) (x end : ℕ) → HasFrame function → IsSlot function i r → 32 + function.frame_bytes ≤ end → slot_bytes function.frame_bytes (access_size i.op) i x ≡ true → x < end
at_slot function i r x end frame slot room e =
    let low = 32 + slot_place function.frame_bytes i.imm in
    let two = and_parts (nat_le low x) (nat_lt x (low + access_size i.op)) e in
    let less = (Decides-ltb x (low + access_size i.op)).0 two.1 in
    let most = frame.room in
    elim slot.1 as (λ y. x < end) [
      | inl a ↦ let high = a.2 in omega arith
      | inr a ↦ let size = a.1 in let high = a.2 in omega arith
    ]

load_within : (w : Bool) (function : ProgramFunction) (i : Ins) (x end : ℕ) → HasFrame function → LoadFits w function i → 32 + function.frame_bytes ≤ end → load_reads w function.frame_bytes i x ≡ true → x < end
load_within true function i x end frame fits room e = at_slot function i i.rd x end frame fits room e
load_within false function i x end frame fits room e = at_register i.rs1 x function.frame_bytes end room e

plain_within : (k : OpKind) (function : ProgramFunction) (i : Ins) (x end : ℕ) → HasFrame function → PlainFitsAs k function i → 32 + function.frame_bytes ≤ end → reads_as k function.frame_bytes i x ≡ true → x < end
plain_within Register function i x end frame fits room e = at_registers i.rs1 i.rs2 x function.frame_bytes end room e
plain_within Immediate function i x end frame fits room e = at_register i.rs1 x function.frame_bytes end room e
plain_within Upper function i x end frame fits room e = absurd (cc)
plain_within Load function i x end frame fits room e = load_within (is_frame i.rs1) function i x end frame fits.0 room e
plain_within Store function i x end frame fits room e = at_register i.rs2 x function.frame_bytes end room e
plain_within Branch' function i x end frame fits room e = absurd (cc)
plain_within Jump' function i x end frame fits room e = absurd (cc)
plain_within Break function i x end frame fits room e = absurd (cc)

call_within : (o : Option RuntimeCall) (x frame end : ℕ) → 32 + frame ≤ end → call_reads o x ≡ true → x < end
call_within None x frame end room e = absurd (cc)
call_within (Some Touch) x frame end room e = at_number 16 x frame end (omega arith) room e
call_within (Some Counter) x frame end room e = absurd (cc)
call_within (Some Done) x frame end room e = at_number 16 x frame end (omega arith) room e
call_within (Some Join) x frame end room e =
    elim (or_cases (x == 16) (x == 10) e) as (λ y. x < end) [
      | inl a ↦ at_number 16 x frame end (omega arith) room a
      | inr a ↦ at_number 10 x frame end (omega arith) room a
    ]
call_within (Some Poll) x frame end room e = absurd (cc)
call_within (Some Putc) x frame end room e = at_number 10 x frame end (omega arith) room e

kind_within : (p : Program) (function : ProgramFunction) (kind : ItemKind) (x end : ℕ) → HasFrame function → Fits p function kind → 32 + function.frame_bytes ≤ end → (callee_argument p kind x ≡ true → x < end) → reads p function.frame_bytes kind x ≡ true → x < end
kind_within p function Prologue x end frame fits room callee e = absurd (cc)
kind_within p function Epilogue x end frame fits room callee e = at_number 10 x function.frame_bytes end (omega arith) room e
kind_within p function (Plain i) x end frame fits room callee e = plain_within (kind_of i.op) function i x end frame fits.1 room e
kind_within p function (Li rd value) x end frame fits room callee e = absurd (cc)
kind_within p function (Branch op rs1 rs2 to) x end frame fits room callee e = at_registers rs1 rs2 x function.frame_bytes end room e
kind_within p function (Jump to) x end frame fits room callee e = absurd (cc)
kind_within p function (Call f) x end frame fits room callee e = callee e
kind_within p function (Entry at) x end frame fits room callee e = call_within (runtime_call at) x function.frame_bytes end room e
kind_within p function (Fork f handle) x end frame fits room callee e = callee e

-- what an item of a formed function reads lies in the frame, or is an argument of the function that it calls
pub read_within : (p : Program) (function : ProgramFunction) (i x end : ℕ) → IsFormed p function → 32 + function.frame_bytes ≤ end → ((i x : ℕ) (item : Item) → slice_get function.items i ≡ Some item → callee_argument p item.kind x ≡ true → x < end) → ReadsPlace p function i x → x < end
read_within p function i x end formed room callee read =
    kind_within p function read.0.kind x end formed.frame (formed.fits i read.0 read.1) room (callee i x read.0 read.1) read.2
