-- What an item's effect keeps of the activation: item_shape, for any item of any program (HasShape, one clause an effect).
use Rattle.std.proofs.Common.{◌≡◌, ℕ, Bool, true, false, cond, Option, Some, None, refl, sym, subst}
use Rattle.std.specs.Prelude.{slice_get, slice_set, slice_index_or, ◌/◌}
use Rattle.st_base.specs.declared.thread.Held.{Held}
use Rattle.st_base.specs.declared.thread.Held.TheVariants.{Number, Future, Counter}
use Rattle.st_base.specs.declared.thread.Activation.{Activation}
use Rattle.st_base.specs.declared.thread.ActivationKind.{ActivationKind}
use Rattle.st_base.specs.declared.thread.ActivationKind.TheVariants.{Called, Forked, Root}
use Rattle.st_base.specs.declared.reg.Reg.{Reg}
use Rattle.st_base.specs.declared.reg.Reg.TheVariants.{A0, A6}
use Rattle.st_model.specs.declared.program.Program.{Program}
use Rattle.st_model.specs.declared.program.ProgramFunction.{ProgramFunction}
use Rattle.st_rv.specs.declared.ins.Ins.{Ins}
use Rattle.st_model.specs.declared.program.ItemKind.{ItemKind}
use Rattle.st_model.specs.declared.program.ItemKind.TheVariants.{Prologue, Epilogue, Plain, Li, Branch, Jump, Call, Entry, Fork}
use Rattle.st_model.specs.declared.program.RuntimeCall.{RuntimeCall}
use Rattle.st_model.specs.declared.program.RuntimeCall.TheVariants.{Touch, Counter as CounterCall, Done, Join, Poll, Putc}
use Rattle.st_model.specs.declared.effect.Effect.{Effect}
use Rattle.st_model.specs.declared.effect.Effect.TheVariants.{Undefined, Goes, Calls, Returns, Ends, Traps, Prints, Forks, Touches, Counts, Adds, Joins}
use Rattle.st_model.specs.Memory.{Data, load_from, slot_byte}
use Rattle.st_model.specs.Effect.{IsFirst, runtime_call, runtime_effect, File, goes, loaded, item_effect, with_number, with_name, moved, call_into, fork_into, left_by, entry_effect, int, name_of, at_item, advanced, name_moved, within, slot_load, data_when, load_by, slot_store, is_frame, is_handle, plain_as}
use Rattle.st_rv.specs.Results.{access_size, is_taken}
use Rattle.st_rv.specs.Op.{kind_of}
use Rattle.st_rv.specs.declared.ins.OpKind.{OpKind}
use Rattle.st_rv.specs.declared.ins.OpKind.TheVariants.{Register, Immediate, Upper, Load, Store, Branch as Branch', Jump as Jump', Break}
use Rattle.st_base.specs.Slots.{store_bytes}
use Rattle.st_model.proofs.EffectFlow.{SameEntry}
use Rattle.st_base.specs.Registers.{read_register, write_register}

abbrev pub HasShape : Activation → Effect → Type 0
HasShape top Undefined = Unit {0}
HasShape top (Goes next file) = SameEntry top next
HasShape top (Calls next callee file) = SameEntry top next × (callee.kind ≡ Called)
HasShape top (Returns file) = top.kind ≡ Called
HasShape top (Ends v kept) = IsFirst top.kind × (kept ≡ top.kept)
HasShape top (Traps kind) = Unit {0}
HasShape top (Prints byte next file) = SameEntry top next
HasShape top (Forks next child handle passed file) = SameEntry top next × IsFirst child.kind × (child.kept ≡ file)
HasShape top (Touches name next file) = SameEntry top next
HasShape top (Counts next file) = SameEntry top next
HasShape top (Adds name next file) = SameEntry top next
HasShape top (Joins name least next file) = SameEntry top next

with_number_shape : (top : Activation) (o : Option ℕ) (go : ℕ → Effect) → ((n : ℕ) → HasShape top (go n)) → HasShape top (with_number o go)
with_number_shape top None go h = tt
with_number_shape top (Some n) go h = h n

with_name_shape : (top : Activation) (o : Option Held) (go : Held → Effect) → ((n : Held) → HasShape top (go n)) → HasShape top (with_name o go)
with_name_shape top None go h = tt
with_name_shape top (Some n) go h = h n

name_moved_shape : (b : Bool) (i : Ins) (name : Held) (top : Activation) (file : File) → HasShape top (name_moved b i name top file)
name_moved_shape true i name top file = record { kind = refl; kept = refl }
name_moved_shape false i name top file = tt

moved_shape : (i : Ins) (top : Activation) (file : File) (o : Option Held) → HasShape top (moved i top file o)
moved_shape i top file None = tt
moved_shape i top file (Some (Number n)) = record { kind = refl; kept = refl }
moved_shape i top file (Some (Future p)) = name_moved_shape _ i (Future p) top file
moved_shape i top file (Some (Counter p n)) = name_moved_shape _ i (Counter p n) top file

within_shape : (top : Activation) (b : Bool) (effect : Effect) → HasShape top effect → HasShape top (within b effect)
within_shape top true effect h = h
within_shape top false effect h = tt

slot_load_shape : (b : Bool) (i : Ins) (at : ℕ) (top : Activation) (file : File) → HasShape top (slot_load b i at top file)
slot_load_shape true i at top file =
    with_name_shape top (name_of (slice_index_or top.handles (at / 8) None)) (λ name. goes top (write_register file i.rd name)) (λ n. record { kind = refl; kept = refl })
slot_load_shape false i at top file =
    within_shape top _ _ (with_number_shape top (load_from (slot_byte top.bytes) at (access_size i.op)) (loaded i top file) (λ n. record { kind = refl; kept = refl }))

data_when_shape : (b : Bool) (o : Option ℕ) (i : Ins) (top : Activation) (file : File) → HasShape top (data_when b o i top file)
data_when_shape false o i top file = tt
data_when_shape true None i top file = tt
data_when_shape true (Some v) i top file = record { kind = refl; kept = refl }

load_shape : (b : Bool) (source : Data) (i : Ins) (top : Activation) (file : File) → HasShape top (load_by b source i top file)
load_shape true source i top file = slot_load_shape _ i _ top file
load_shape false source i top file = with_number_shape top (int file i.rs1) _ (λ base. data_when_shape _ _ i top file)

slot_store_shape : (b : Bool) (i : Ins) (at : ℕ) (top : Activation) (file : File) → HasShape top (slot_store b i at top file)
slot_store_shape true i at top file =
    with_name_shape top (name_of (read_register file i.rs2)) _
    (λ name. within_shape top _ (goes (record top { handles = slice_set top.handles (at / 8) (Some name) }) file) (record { kind = refl; kept = refl }))
slot_store_shape false i at top file =
    with_number_shape top (int file i.rs2) _
    (λ v. within_shape top _ (goes (record top { bytes = store_bytes top.bytes at (access_size i.op) v }) file) (record { kind = refl; kept = refl }))

plain_shape : (kind : OpKind) (source : Data) (i : Ins) (top : Activation) (file : File) → HasShape top (plain_as kind source i top file)
plain_shape Register source i top file = with_number_shape top (int file i.rs1) _ (λ a. with_number_shape top (int file i.rs2) _ (λ b. record { kind = refl; kept = refl }))
plain_shape Immediate source i top file = moved_shape i top file (read_register file i.rs1)
plain_shape Load source i top file = load_shape (is_frame i.rs1) source i top file
plain_shape Store source i top file = within_shape top _ _ (slot_store_shape (is_handle i.rs2) i _ top file)
plain_shape Break source i top file = tt
plain_shape Upper source i top file = record { kind = refl; kept = refl }
plain_shape Branch' source i top file = tt
plain_shape Jump' source i top file = tt

taken_same : (b : Bool) (to : ℕ) (top : Activation) → SameEntry top (cond b (at_item to top) (advanced top))
taken_same true to top = record { kind = refl; kept = refl }
taken_same false to top = record { kind = refl; kept = refl }

left_shape : (top : Activation) (kind : ActivationKind) (v : ℕ) → top.kind ≡ kind → HasShape top (left_by kind top.kept v)
left_shape top Called v e = e
left_shape top Forked v e = (subst IsFirst (sym e) tt, refl)
left_shape top Root v e = (subst IsFirst (sym e) tt, refl)

call_shape : (f : ℕ) (o : Option ProgramFunction) (top : Activation) (file : File) → HasShape top (call_into f o top file)
call_shape f None top file = tt
call_shape f (Some function) top file = (record { kind = refl; kept = refl }, refl)

fork_shape : (f : ℕ) (handle : Reg) (o : Option ProgramFunction) (top : Activation) (file : File) → HasShape top (fork_into f handle o top file)
fork_shape f handle None top file = tt
fork_shape f handle (Some function) top file = (record { kind = refl; kept = refl }, tt, refl)

entry_shape : (call : RuntimeCall) (top : Activation) (file : File) → HasShape top (entry_effect call top file)
entry_shape Touch top file = with_name_shape top (name_of (read_register file A6)) _ (λ n. record { kind = refl; kept = refl })
entry_shape CounterCall top file = record { kind = refl; kept = refl }
entry_shape Done top file = with_name_shape top (name_of (read_register file A6)) _ (λ n. record { kind = refl; kept = refl })
entry_shape Join top file =
    with_name_shape top (name_of (read_register file A6)) _ (λ n. with_number_shape top (int file A0) _ (λ m. record { kind = refl; kept = refl }))
entry_shape Poll top file = record { kind = refl; kept = refl }
entry_shape Putc top file = with_number_shape top (int file A0) _ (λ n. record { kind = refl; kept = refl })

runtime_shape : (call : Option RuntimeCall) (top : Activation) (file : File) → HasShape top (runtime_effect call top file)
runtime_shape None top file = tt
runtime_shape (Some call) top file = entry_shape call top file

pub item_shape : (p : Program) (source : Data) (kind : ItemKind) (top : Activation) (file : File) → HasShape top (item_effect p source kind top file)
item_shape p source Prologue top file = record { kind = refl; kept = refl }
item_shape p source Epilogue top file = with_number_shape top (int file A0) _ (λ v. left_shape top top.kind v refl)
item_shape p source (Plain i) top file = plain_shape (kind_of i.op) source i top file
item_shape p source (Li rd value) top file = record { kind = refl; kept = refl }
item_shape p source (Branch op rs1 rs2 to) top file =
    with_number_shape top (int file rs1) _ (λ a. with_number_shape top (int file rs2) _ (λ b. taken_same (is_taken op a b) to top))
item_shape p source (Jump to) top file = record { kind = refl; kept = refl }
item_shape p source (Call f) top file = call_shape f (slice_get p.functions f) top file
item_shape p source (Entry at) top file = runtime_shape (runtime_call at) top file
item_shape p source (Fork f handle) top file = fork_shape f handle (slice_get p.functions f) top file
