-- The cells that an item draws are those that its effect makes: one for a child or a counter, else none (item_draws).
use Rattle.std.proofs.Common.{◌≡◌, ℕ, Bool, true, false, Option, Some, None, refl}
use Rattle.std.specs.Prelude.{slice_get, slice_set, slice_index_or, ◌/◌}
use Rattle.st_base.specs.declared.thread.Held.{Held}
use Rattle.st_base.specs.declared.thread.Held.TheVariants.{Number, Future, Counter}
use Rattle.st_base.specs.declared.thread.Activation.{Activation}
use Rattle.st_base.specs.declared.thread.ActivationKind.{ActivationKind}
use Rattle.st_base.specs.declared.thread.ActivationKind.TheVariants.{Called, Forked, Root}
use Rattle.st_base.specs.declared.reg.Reg.{Reg}
use Rattle.st_base.specs.declared.reg.Reg.TheVariants.{A0, A6}
use Rattle.st_base.specs.Registers.{read_register, write_register}
use Rattle.st_base.specs.Slots.{store_bytes}
use Rattle.st_rv.specs.declared.ins.Ins.{Ins}
use Rattle.st_rv.specs.declared.ins.OpKind.{OpKind}
use Rattle.st_rv.specs.declared.ins.OpKind.TheVariants.{Register, Immediate, Upper, Load, Store, Branch as Branch', Jump as Jump', Break}
use Rattle.st_rv.specs.Op.{kind_of}
use Rattle.st_rv.specs.Results.{access_size}
use Rattle.st_model.specs.declared.program.Program.{Program}
use Rattle.st_model.specs.declared.program.ProgramFunction.{ProgramFunction}
use Rattle.st_model.specs.declared.program.ItemKind.{ItemKind}
use Rattle.st_model.specs.declared.program.ItemKind.TheVariants.{Prologue, Epilogue, Plain, Li, Branch, Jump, Call, Entry, Fork}
use Rattle.st_model.specs.declared.program.RuntimeCall.{RuntimeCall}
use Rattle.st_model.specs.declared.program.RuntimeCall.TheVariants.{Touch as TouchCall, Counter as CounterCall, Done, Join as JoinCall, Poll, Putc}
use Rattle.st_model.specs.declared.effect.Effect.{Effect}
use Rattle.st_model.specs.declared.effect.Effect.TheVariants.{Undefined, Forks, Counts}
use Rattle.st_model.specs.Memory.{Data, load_from, slot_byte}
use Rattle.st_model.specs.Effect.{runtime_call, runtime_effect, File, goes, loaded, item_effect, with_number, with_name, moved, call_into, fork_into, left_by, entry_effect, int, name_of, name_moved, within, slot_load, data_when, load_by, slot_store, is_frame, is_handle, plain_as}
use Rattle.st_model.specs.Draws.{draws, call_draws}

-- so many cells go with the effect
abbrev pub Draws : ℕ → Effect → Type 0
Draws n Undefined = Unit {0}
Draws n (Forks top child handle passed file) = n ≡ 1
Draws n (Counts top file) = n ≡ 1
Draws n _ = n ≡ 0

number_draws : (o : Option ℕ) (go : ℕ → Effect) → ((v : ℕ) → Draws 0 (go v)) → Draws 0 (with_number o go)
number_draws None go h = tt
number_draws (Some v) go h = h v

name_draws : (o : Option Held) (go : Held → Effect) → ((v : Held) → Draws 0 (go v)) → Draws 0 (with_name o go)
name_draws None go h = tt
name_draws (Some v) go h = h v

name_moved_draws : (b : Bool) (i : Ins) (name : Held) (top : Activation) (file : File) → Draws 0 (name_moved b i name top file)
name_moved_draws true i name top file = refl
name_moved_draws false i name top file = tt

moved_draws : (i : Ins) (top : Activation) (file : File) (o : Option Held) → Draws 0 (moved i top file o)
moved_draws i top file None = tt
moved_draws i top file (Some (Number k)) = refl
moved_draws i top file (Some (Future p)) = name_moved_draws _ i (Future p) top file
moved_draws i top file (Some (Counter p k)) = name_moved_draws _ i (Counter p k) top file

within_draws : (b : Bool) (effect : Effect) → Draws 0 effect → Draws 0 (within b effect)
within_draws true effect h = h
within_draws false effect h = tt

slot_load_draws : (b : Bool) (i : Ins) (at : ℕ) (top : Activation) (file : File) → Draws 0 (slot_load b i at top file)
slot_load_draws true i at top file =
    name_draws (name_of (slice_index_or top.handles (at / 8) None)) (λ name. goes top (write_register file i.rd name)) (λ v. refl)
slot_load_draws false i at top file =
    within_draws _ _ (number_draws (load_from (slot_byte top.bytes) at (access_size i.op)) (loaded i top file) (λ v. refl))

data_when_draws : (b : Bool) (o : Option ℕ) (i : Ins) (top : Activation) (file : File) → Draws 0 (data_when b o i top file)
data_when_draws false o i top file = refl
data_when_draws true None i top file = refl
data_when_draws true (Some v) i top file = refl

load_draws : (b : Bool) (source : Data) (i : Ins) (top : Activation) (file : File) → Draws 0 (load_by b source i top file)
load_draws true source i top file = slot_load_draws _ i _ top file
load_draws false source i top file = number_draws (int file i.rs1) _ (λ base. data_when_draws _ _ i top file)

slot_store_draws : (b : Bool) (i : Ins) (at : ℕ) (top : Activation) (file : File) → Draws 0 (slot_store b i at top file)
slot_store_draws true i at top file =
    name_draws (name_of (read_register file i.rs2)) _
    (λ name. within_draws _ (goes (record top { handles = slice_set top.handles (at / 8) (Some name) }) file) refl)
slot_store_draws false i at top file =
    number_draws (int file i.rs2) _
    (λ v. within_draws _ (goes (record top { bytes = store_bytes top.bytes at (access_size i.op) v }) file) refl)

plain_draws : (kind : OpKind) (source : Data) (i : Ins) (top : Activation) (file : File) → Draws 0 (plain_as kind source i top file)
plain_draws Register source i top file = number_draws (int file i.rs1) _ (λ a. number_draws (int file i.rs2) _ (λ b. refl))
plain_draws Immediate source i top file = moved_draws i top file (read_register file i.rs1)
plain_draws Load source i top file = load_draws (is_frame i.rs1) source i top file
plain_draws Store source i top file = within_draws _ _ (slot_store_draws (is_handle i.rs2) i _ top file)
plain_draws Break source i top file = refl
plain_draws Upper source i top file = refl
plain_draws Branch' source i top file = tt
plain_draws Jump' source i top file = tt

left_draws : (kind : ActivationKind) (kept : File) (v : ℕ) → Draws 0 (left_by kind kept v)
left_draws Called kept v = refl
left_draws Forked kept v = refl
left_draws Root kept v = refl

call_draws_none : (f : ℕ) (o : Option ProgramFunction) (top : Activation) (file : File) → Draws 0 (call_into f o top file)
call_draws_none f None top file = tt
call_draws_none f (Some function) top file = refl

fork_draws : (f : ℕ) (handle : Reg) (o : Option ProgramFunction) (top : Activation) (file : File) → Draws 1 (fork_into f handle o top file)
fork_draws f handle None top file = tt
fork_draws f handle (Some function) top file = refl

entry_draws : (call : RuntimeCall) (top : Activation) (file : File) → Draws (call_draws (Some call)) (entry_effect call top file)
entry_draws TouchCall top file = name_draws (name_of (read_register file A6)) _ (λ v. refl)
entry_draws CounterCall top file = refl
entry_draws Done top file = name_draws (name_of (read_register file A6)) _ (λ v. refl)
entry_draws JoinCall top file = name_draws (name_of (read_register file A6)) _ (λ v. number_draws (int file A0) _ (λ m. refl))
entry_draws Poll top file = refl
entry_draws Putc top file = number_draws (int file A0) _ (λ v. refl)

runtime_draws : (call : Option RuntimeCall) (top : Activation) (file : File) → Draws (call_draws call) (runtime_effect call top file)
runtime_draws None top file = tt
runtime_draws (Some call) top file = entry_draws call top file

pub item_draws : (p : Program) (source : Data) (kind : ItemKind) (top : Activation) (file : File) → Draws (draws kind) (item_effect p source kind top file)
item_draws p source Prologue top file = refl
item_draws p source Epilogue top file = number_draws (int file A0) _ (λ v. left_draws top.kind top.kept v)
item_draws p source (Plain i) top file = plain_draws (kind_of i.op) source i top file
item_draws p source (Li rd value) top file = refl
item_draws p source (Branch op rs1 rs2 to) top file = number_draws (int file rs1) _ (λ a. number_draws (int file rs2) _ (λ b. refl))
item_draws p source (Jump to) top file = refl
item_draws p source (Call f) top file = call_draws_none f (slice_get p.functions f) top file
item_draws p source (Entry at) top file = runtime_draws (runtime_call at) top file
item_draws p source (Fork f handle) top file = fork_draws f handle (slice_get p.functions f) top file
