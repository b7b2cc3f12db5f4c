-- An item makes no names but those that its thread held: item_knows (EffectKnows, one clause an effect). Files and slots: known_write,
-- known_picked, known_replicate.
use Rattle.std.proofs.Common.{length, ℕ, zero, suc, Bool, true, false, cond, List, [], ◌∷◌, map, replicate, Option, Some, None, ◌==◌}
use Rattle.std.specs.Prelude.{slice_get, slice_set, slice_index_or, ◌/◌}
use Rattle.std.specs.List.{range_with_len}
use Rattle.st_base.specs.declared.thread.Held.{Held}
use Rattle.st_base.specs.declared.thread.Held.TheVariants.{Number, Future, Counter}
use Rattle.st_base.specs.declared.thread.Activation.{Activation}
use Rattle.st_base.specs.declared.thread.ActivationKind.{ActivationKind}
use Rattle.st_base.specs.declared.thread.ActivationKind.TheVariants.{Called, Forked, Root}
use Rattle.st_base.specs.declared.reg.Reg.{Reg}
use Rattle.st_base.specs.declared.reg.Reg.TheVariants.{A0, A6}
use Rattle.st_base.specs.declared.registers.Pick.{Pick}
use Rattle.st_base.specs.declared.registers.Pick.TheVariants.{Saved, Arguments}
use Rattle.st_base.specs.Reg.{reg_number}
use Rattle.st_base.specs.Registers.{read_register, write_register, picked, picked_at, is_picked}
use Rattle.st_base.specs.Slots.{store_bytes}
use Rattle.st_model.specs.declared.program.Program.{Program}
use Rattle.st_model.specs.declared.program.ProgramFunction.{ProgramFunction}
use Rattle.st_rv.specs.declared.ins.Ins.{Ins}
use Rattle.st_model.specs.declared.program.ItemKind.{ItemKind}
use Rattle.st_model.specs.declared.program.ItemKind.TheVariants.{Prologue, Epilogue, Plain, Li, Branch, Jump, Call, Entry, Fork}
use Rattle.st_model.specs.declared.program.RuntimeCall.{RuntimeCall}
use Rattle.st_model.specs.declared.program.RuntimeCall.TheVariants.{Touch, Counter as CounterCall, Done, Join, Poll, Putc}
use Rattle.st_model.specs.declared.effect.Effect.{Effect}
use Rattle.st_model.specs.declared.effect.Effect.TheVariants.{Undefined, Goes, Calls, Returns, Ends, Traps, Prints, Forks, Touches, Counts, Adds, Joins}
use Rattle.st_rv.specs.Results.{access_size, is_taken}
use Rattle.st_rv.specs.Op.{kind_of}
use Rattle.st_rv.specs.declared.ins.OpKind.{OpKind}
use Rattle.st_rv.specs.declared.ins.OpKind.TheVariants.{Register, Immediate, Upper, Load, Store, Branch as Branch', Jump as Jump', Break}
use Rattle.st_model.specs.Memory.{load_from, slot_byte, slot_place, Data}
use Rattle.st_model.specs.Effect.{runtime_call, runtime_effect, File, goes, loaded, item_effect, with_number, with_name, moved, call_into, fork_into, left_by, entry_effect, int, name_of, at_item, advanced, name_moved, within, slot_load, data_when, load_by, slot_store, is_frame, is_handle, plain_as}
use Rattle.st_model.specs.Heap.{Path}
use Rattle.st_laws.specs.Names.{IsKnown, IsKnownCell, AreKnown, KnowsNames}

module _ (F : Path → Type 0) (C : Path → ℕ → Type 0) where
  -- ---- files
  known_set_at : (cells : List (Option Held)) (n i : ℕ) (held : Held) → AreKnown F C cells → IsKnown F C held → IsKnownCell F C (slice_index_or (slice_set cells n (Some held)) i None)
  known_set_at [] n i held all k = all i
  known_set_at (c ∷ cells) zero zero held all k = k
  known_set_at (c ∷ cells) zero (suc i) held all k = all (suc i)
  known_set_at (c ∷ cells) (suc n) zero held all k = all 0
  known_set_at (c ∷ cells) (suc n) (suc i) held all k = known_set_at cells n i held (λ j. all (suc j)) k

  pub known_set : (cells : List (Option Held)) (n : ℕ) (held : Held) → AreKnown F C cells → IsKnown F C held → AreKnown F C (slice_set cells n (Some held))
  known_set cells n held all k i = known_set_at cells n i held all k

  write_by : (b : Bool) (file : File) (n : ℕ) (held : Held) → AreKnown F C file → IsKnown F C held → AreKnown F C (cond b file (slice_set file n (Some held)))
  write_by true file n held all k = all
  write_by false file n held all k = known_set file n held all k

  pub known_write : (file : File) (r : Reg) (held : Held) → AreKnown F C file → IsKnown F C held → AreKnown F C (write_register file r held)
  known_write file r held all k = write_by (reg_number r == 0) file (reg_number r) held all k

  known_map : (f : ℕ → Option Held) (xs : List ℕ) (i : ℕ) → ((x : ℕ) → IsKnownCell F C (f x)) → IsKnownCell F C (slice_index_or (map f xs) i None)
  known_map f [] i all = tt
  known_map f (x ∷ xs) zero all = all x
  known_map f (x ∷ xs) (suc i) all = known_map f xs i all

  picked_by : (b : Bool) (o : Option Held) → IsKnownCell F C o → IsKnownCell F C (cond b o None)
  picked_by true o k = k
  picked_by false o k = tt

  pub known_picked : (pick : Pick) (file : File) → AreKnown F C file → AreKnown F C (picked pick file)
  unfolding picked
  known_picked pick file all i =
      known_map (picked_at pick file) (range_with_len 0 32) i (λ at. picked_by (is_picked pick at) (slice_index_or file at None) (all at))

  known_none : (n i : ℕ) → IsKnownCell F C (slice_index_or (replicate n None) i None)
  known_none zero i = tt
  known_none (suc n) zero = tt
  known_none (suc n) (suc i) = known_none n i

  pub known_replicate : (n : ℕ) → AreKnown F C (replicate n None)
  known_replicate n i = known_none n i

  -- ---- effects
  abbrev pub EffectKnows : Effect → Type 0
  EffectKnows Undefined = Unit {0}
  EffectKnows (Goes top file) = KnowsNames F C top × AreKnown F C file
  EffectKnows (Calls top callee file) = KnowsNames F C top × KnowsNames F C callee × AreKnown F C file
  EffectKnows (Returns file) = AreKnown F C file
  EffectKnows (Ends v kept) = AreKnown F C kept
  EffectKnows (Traps kind) = Unit {0}
  EffectKnows (Prints byte top file) = KnowsNames F C top × AreKnown F C file
  EffectKnows (Forks top child handle passed file) = KnowsNames F C top × KnowsNames F C child × AreKnown F C passed × AreKnown F C file
  EffectKnows (Touches name top file) = IsKnown F C name × KnowsNames F C top × AreKnown F C file
  EffectKnows (Counts top file) = KnowsNames F C top × AreKnown F C file
  EffectKnows (Adds name top file) = IsKnown F C name × KnowsNames F C top × AreKnown F C file
  EffectKnows (Joins name least top file) = IsKnown F C name × KnowsNames F C top × AreKnown F C file

  number_knows : (o : Option ℕ) (go : ℕ → Effect) → ((n : ℕ) → EffectKnows (go n)) → EffectKnows (with_number o go)
  number_knows None go h = tt
  number_knows (Some n) go h = h n

  name_knows : (o : Option Held) (go : Held → Effect) → IsKnownCell F C o → ((name : Held) → IsKnown F C name → EffectKnows (go name)) → EffectKnows (with_name (name_of o) go)
  name_knows None go k h = tt
  name_knows (Some (Number n)) go k h = tt
  name_knows (Some (Future p)) go k h = h (Future p) k
  name_knows (Some (Counter p n)) go k h = h (Counter p n) k

  within_knows : (b : Bool) (effect : Effect) → EffectKnows effect → EffectKnows (within b effect)
  within_knows true effect h = h
  within_knows false effect h = tt

  name_moved_knows : (b : Bool) (i : Ins) (name : Held) (top : Activation) (file : File) → KnowsNames F C top → AreKnown F C file → IsKnown F C name → EffectKnows (name_moved b i name top file)
  name_moved_knows true i name top file t f k = (t, known_write file i.rd name f k)
  name_moved_knows false i name top file t f k = tt

  moved_knows : (i : Ins) (top : Activation) (file : File) (o : Option Held) → KnowsNames F C top → AreKnown F C file → IsKnownCell F C o → EffectKnows (moved i top file o)
  moved_knows i top file None t f k = tt
  moved_knows i top file (Some (Number n)) t f k = (t, known_write file i.rd _ f tt)
  moved_knows i top file (Some (Future p)) t f k = name_moved_knows _ i (Future p) top file t f k
  moved_knows i top file (Some (Counter p n)) t f k = name_moved_knows _ i (Counter p n) top file t f k

  loaded_knows : (i : Ins) (top : Activation) (file : File) (v : ℕ) → KnowsNames F C top → AreKnown F C file → EffectKnows (loaded i top file v)
  loaded_knows i top file v t f = (t, known_write file i.rd _ f tt)

  slot_load_knows : (b : Bool) (i : Ins) (at : ℕ) (top : Activation) (file : File) → KnowsNames F C top → AreKnown F C file → EffectKnows (slot_load b i at top file)
  slot_load_knows true i at top file t f =
      name_knows (slice_index_or top.handles (at / 8) None) _ (t.1 (at / 8)) (λ name k. (t, known_write file i.rd name f k))
  slot_load_knows false i at top file t f =
      within_knows _ _ (number_knows (load_from (slot_byte top.bytes) at (access_size i.op)) (loaded i top file) (λ v. loaded_knows i top file v t f))

  data_when_knows : (b : Bool) (o : Option ℕ) (i : Ins) (top : Activation) (file : File) → KnowsNames F C top → AreKnown F C file → EffectKnows (data_when b o i top file)
  data_when_knows false o i top file t f = tt
  data_when_knows true None i top file t f = tt
  data_when_knows true (Some v) i top file t f = loaded_knows i top file v t f

  load_knows : (b : Bool) (source : Data) (i : Ins) (top : Activation) (file : File) → KnowsNames F C top → AreKnown F C file → EffectKnows (load_by b source i top file)
  load_knows true source i top file t f = slot_load_knows (is_handle i.rd) i (slot_place (length top.bytes) i.imm) top file t f
  load_knows false source i top file t f = number_knows (int file i.rs1) _ (λ base. data_when_knows _ _ i top file t f)

  slot_store_knows : (b : Bool) (i : Ins) (at : ℕ) (top : Activation) (file : File) → KnowsNames F C top → AreKnown F C file → EffectKnows (slot_store b i at top file)
  slot_store_knows true i at top file t f =
      name_knows (read_register file i.rs2) _ (f (reg_number i.rs2))
      (λ name k. within_knows _ (goes (record top { handles = slice_set top.handles (at / 8) (Some name) }) file) ((t.0, known_set top.handles (at / 8) name t.1 k), f))
  slot_store_knows false i at top file t f =
      number_knows (int file i.rs2) _
      (λ v. within_knows _ (goes (record top { bytes = store_bytes top.bytes at (access_size i.op) v }) file) (t, f))

  plain_knows : (kind : OpKind) (source : Data) (i : Ins) (top : Activation) (file : File) → KnowsNames F C top → AreKnown F C file → EffectKnows (plain_as kind source i top file)
  plain_knows Register source i top file t f =
      number_knows (int file i.rs1) _ (λ a. number_knows (int file i.rs2) _ (λ b. (t, known_write file i.rd _ f tt)))
  plain_knows Immediate source i top file t f = moved_knows i top file (read_register file i.rs1) t f (f (reg_number i.rs1))
  plain_knows Load source i top file t f = load_knows (is_frame i.rs1) source i top file t f
  plain_knows Store source i top file t f = within_knows (is_frame i.rs1) (slot_store (is_handle i.rs2) i (slot_place (length top.bytes) i.imm) top file) (slot_store_knows (is_handle i.rs2) i (slot_place (length top.bytes) i.imm) top file t f)
  plain_knows Break source i top file t f = tt
  plain_knows Upper source i top file t f = (t, known_write file i.rd _ f tt)
  plain_knows Branch' source i top file t f = tt
  plain_knows Jump' source i top file t f = tt

  taken_knows : (b : Bool) (to : ℕ) (top : Activation) → KnowsNames F C top → KnowsNames F C (cond b (at_item to top) (advanced top))
  taken_knows true to top t = t
  taken_knows false to top t = t

  call_knows : (g : ℕ) (o : Option ProgramFunction) (top : Activation) (file : File) → KnowsNames F C top → AreKnown F C file → EffectKnows (call_into g o top file)
  call_knows g None top file t f = tt
  call_knows g (Some function) top file t f = (t, (known_picked Saved file f, known_replicate function.slots), known_picked (Arguments function.ints function.handles) file f)

  fork_knows : (g : ℕ) (handle : Reg) (o : Option ProgramFunction) (top : Activation) (file : File) → KnowsNames F C top → AreKnown F C file → EffectKnows (fork_into g handle o top file)
  fork_knows g handle None top file t f = tt
  fork_knows g handle (Some function) top file t f =
      (t, (known_picked Saved file f, known_replicate function.slots), known_picked (Arguments function.ints function.handles) file f, known_picked Saved file f)

  left_knows : (kind : ActivationKind) (kept : File) (v : ℕ) → AreKnown F C kept → EffectKnows (left_by kind kept v)
  left_knows Called kept v k = known_write kept A0 (Number v) k tt
  left_knows Forked kept v k = k
  left_knows Root kept v k = k

  entry_knows : (call : RuntimeCall) (top : Activation) (file : File) → KnowsNames F C top → AreKnown F C file → EffectKnows (entry_effect call top file)
  entry_knows Touch top file t f = name_knows (read_register file A6) _ (f 16) (λ name k. (k, t, known_picked Saved file f))
  entry_knows CounterCall top file t f = (t, known_picked Saved file f)
  entry_knows Done top file t f = name_knows (read_register file A6) _ (f 16) (λ name k. (k, t, known_picked Saved file f))
  entry_knows Join top file t f =
      name_knows (read_register file A6) _ (f 16) (λ name k. number_knows (int file A0) _ (λ n. (k, t, known_picked Saved file f)))
  entry_knows Poll top file t f = (t, known_picked Saved file f)
  entry_knows Putc top file t f = number_knows (int file A0) _ (λ n. (t, known_picked Saved file f))

  runtime_knows : (call : Option RuntimeCall) (top : Activation) (file : File) → KnowsNames F C top → AreKnown F C file → EffectKnows (runtime_effect call top file)
  runtime_knows None top file t f = tt
  runtime_knows (Some call) top file t f = entry_knows call top file t f

  pub item_knows : (p : Program) (source : Data) (kind : ItemKind) (top : Activation) (file : File) → KnowsNames F C top → AreKnown F C file → EffectKnows (item_effect p source kind top file)
  item_knows p source Prologue top file t f = (t, f)
  item_knows p source Epilogue top file t f = number_knows (int file A0) _ (λ v. left_knows top.kind top.kept v t.0)
  item_knows p source (Plain i) top file t f = plain_knows (kind_of i.op) source i top file t f
  item_knows p source (Li rd value) top file t f = (t, known_write file rd _ f tt)
  item_knows p source (Branch op rs1 rs2 to) top file t f =
      number_knows (int file rs1) _ (λ a. number_knows (int file rs2) _ (λ b. (taken_knows (is_taken op a b) to top t, f)))
  item_knows p source (Jump to) top file t f = (t, f)
  item_knows p source (Call g) top file t f = call_knows g (slice_get p.functions g) top file t f
  item_knows p source (Entry at) top file t f = runtime_knows (runtime_call at) top file t f
  item_knows p source (Fork g handle) top file t f = fork_knows g handle (slice_get p.functions g) top file t f
