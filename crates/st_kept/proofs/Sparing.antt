-- No thread of a heap that an accepted program reaches has anything in gp, nor any activation of it among what it keeps: spares_reached. No item writes gp.
use Rattle.std.proofs.Common.{◌≡◌, ◌≢◌, inl, inr, ℕ, ◌+◌, ◌/◌, ◌%◌, ◌^◌, ◌==◌, Bool, true, false, cond, List, [], ◌∷◌, ◌++◌, length, Option, Some, None, refl, sym, ◌∙◌, subst, arith, slice_get}
use Rattle.std.specs.Prelude.{slice_index_or, slice_set, nat_lt, nat_le}
use Rattle.std.specs.Str.{bytes_eq}
use Rattle.std.proofs.Common.{get_or-set_other}
use Rattle.st_base.specs.declared.line.Line.{Line}
use Rattle.st_base.specs.declared.reg.Reg.{Reg}
use Rattle.st_base.specs.declared.reg.Reg.TheVariants as registers
use Rattle.st_base.specs.declared.registers.Pick.TheVariants.{Saved, Arguments}
use Rattle.st_base.specs.declared.thread.Activation.{Activation}
use Rattle.st_base.specs.declared.thread.ActivationKind.{ActivationKind}
use Rattle.st_base.specs.declared.thread.ActivationKind.TheVariants.{Called, Forked, Root}
use Rattle.st_base.specs.declared.thread.Held.{Held}
use Rattle.st_base.specs.declared.thread.Held.TheVariants.{Number, Future, Counter}
use Rattle.st_base.specs.declared.thread.Standing.{Standing}
use Rattle.st_base.specs.declared.thread.Standing.TheVariants as standings
use Rattle.st_base.specs.declared.thread.Thread.{Thread}
use Rattle.st_base.specs.Reg.{reg_number}
use Rattle.st_base.specs.Registers.{write_register, picked, read_register, zeroed}
use Rattle.st_rv.specs.declared.ins.Ins.{Ins}
use Rattle.st_rv.specs.declared.ins.OpKind.{OpKind}
use Rattle.st_rv.specs.declared.ins.OpKind.TheVariants as kinds
use Rattle.st_rv.specs.Op.{kind_of}
use Rattle.st_model.specs.declared.effect.Effect.{Effect}
use Rattle.st_model.specs.declared.effect.Effect.TheVariants.{Undefined, Goes, Calls, Returns, Ends, Traps, Prints, Forks, Touches, Counts, Adds, Joins}
use Rattle.st_model.specs.declared.ordinary.State.{State}
use Rattle.st_model.specs.declared.program.Item.{Item}
use Rattle.st_model.specs.declared.program.ItemKind.{ItemKind}
use Rattle.st_model.specs.declared.program.ItemKind.TheVariants as items
use Rattle.st_model.specs.declared.program.Program.{Program}
use Rattle.st_model.specs.declared.program.ProgramFunction.{ProgramFunction}
use Rattle.st_model.specs.declared.program.RuntimeCall.{RuntimeCall}
use Rattle.st_model.specs.declared.program.RuntimeCall.TheVariants as calls
use Rattle.st_model.specs.Accepted.{IsAccepted, Fits, PlainFitsAs, LoadFits, IsSlot}
use Rattle.st_model.specs.Effect as effects
use Rattle.st_model.specs.Effect.{File, item_effect, with_number, with_name, within, int, name_of, entered, is_frame, is_handle, is_move, runtime_call}
use Rattle.st_model.specs.Heap.{Path, Heap, Change, Move, Stays, Moves, Touch, Join, Enabled, HStep, Run, Reached, move, move_standing, move_of, move_at, effect_move, printed_move, touch_move, add_move, join_move, put_child, first_heap, new_thread}
use Rattle.st_model.specs.Memory.{Data, load_from, slot_byte, data_byte, slot_place}
use Rattle.st_rv.specs.Results.{word_of, alu, is_taken, access_size, extended}
use Rattle.st_base.specs.Slots.{store_bytes}
use Rattle.st_model.specs.Ordinary.{is_root, started}
use Rattle.st_items.proofs.KeptFiles.{picked_is}
use Rattle.st_kept.specs.Going.{Spares}
use Rattle.st_items.proofs.Registers.{IsOfBody, body_apart, fork_handle}

-- ---- one file

written_by : (b : Bool) (file : File) (x : ℕ) (held : Held) → x ≢ 3 → Spares file → Spares (cond b file (slice_set file x (Some held)))
written_by true file x held other spares = spares
written_by false file x held other spares = get_or-set_other file x 3 (Some held) None (λ e. other (sym e)) ∙ spares

write_spares : (file : File) (r : Reg) (held : Held) → reg_number r ≢ 3 → Spares file → Spares (write_register file r held)
write_spares file r held other spares = written_by (reg_number r == 0) file (reg_number r) held other spares

saved_spares : (file : File) → Spares (picked Saved file)
saved_spares file = picked_is Saved file 3 (omega arith)

arguments_spares : (ints handles : ℕ) (file : File) → Spares (picked (Arguments ints handles) file)
arguments_spares ints handles file = picked_is (Arguments ints handles) file 3 (omega arith)

zeroed_spares : Spares zeroed
unfolding zeroed
zeroed_spares = refl

of_body : (r : Reg) → IsOfBody r → reg_number r ≢ 3
of_body r is = (body_apart r is).gp

-- ---- an item

-- what an effect leads to
abbrev EffectSpares : Activation → Effect → Type 0
EffectSpares top Undefined = Prim.Unit
EffectSpares top (Goes next file) = (next.kept ≡ top.kept) × Spares file
EffectSpares top (Calls next callee file) = (next.kept ≡ top.kept) × Spares callee.kept × Spares file
EffectSpares top (Returns file) = Spares file
EffectSpares top (Ends v kept) = Prim.Unit
EffectSpares top (Traps kind) = Prim.Unit
EffectSpares top (Prints byte next file) = (next.kept ≡ top.kept) × Spares file
EffectSpares top (Forks next child handle passed file) = (next.kept ≡ top.kept) × Spares child.kept × (reg_number handle ≢ 3) × Spares passed × Spares file
EffectSpares top (Touches name next file) = (next.kept ≡ top.kept) × Spares file
EffectSpares top (Counts next file) = (next.kept ≡ top.kept) × Spares file
EffectSpares top (Adds name next file) = (next.kept ≡ top.kept) × Spares file
EffectSpares top (Joins name least next file) = (next.kept ≡ top.kept) × Spares file

module _ (top : Activation) where
  number_spares : (o : Option ℕ) (go : ℕ → Effect) → ((n : ℕ) → EffectSpares top (go n)) → EffectSpares top (with_number o go)
  number_spares None go each = tt
  number_spares (Some n) go each = each n

  name_spares : (o : Option Held) (go : Held → Effect) → ((name : Held) → EffectSpares top (go name)) → EffectSpares top (with_name o go)
  name_spares None go each = tt
  name_spares (Some name) go each = each name

  within_spares : (b : Bool) (effect : Effect) → EffectSpares top effect → EffectSpares top (within b effect)
  within_spares true effect is = is
  within_spares false effect is = tt

  module _ (file : File) (spares : Spares file) where
    goes_written : (r : Reg) (held : Held) → reg_number r ≢ 3 → EffectSpares top (effects.goes top (write_register file r held))
    goes_written r held other = (refl, write_spares file r held other spares)

    -- ---- one instruction

    name_moved : (b : Bool) (i : Ins) (name : Held) → reg_number i.rd ≢ 3 → EffectSpares top (effects.name_moved b i name top file)
    name_moved true i name other = goes_written i.rd name other
    name_moved false i name other = tt

    moved : (i : Ins) (o : Option Held) → reg_number i.rd ≢ 3 → EffectSpares top (effects.moved i top file o)
    moved i None other = tt
    moved i (Some (Number a)) other = goes_written i.rd (Number (alu i.op a (word_of i.imm))) other
    moved i (Some (Future q)) other = name_moved (is_move i.op i.imm) i (Future q) other
    moved i (Some (Counter q n)) other = name_moved (is_move i.op i.imm) i (Counter q n) other

    slot_load : (b : Bool) (i : Ins) (at : ℕ) → reg_number i.rd ≢ 3 → EffectSpares top (effects.slot_load b i at top file)
    slot_load true i at other = name_spares (name_of (slice_index_or top.handles (at / 8) None)) (λ name. effects.goes top (write_register file i.rd name)) (λ name. goes_written i.rd name other)
    slot_load false i at other = within_spares (nat_le (at + access_size i.op) (length top.bytes)) (with_number (load_from (slot_byte top.bytes) at (access_size i.op)) (effects.loaded i top file))
        (number_spares (load_from (slot_byte top.bytes) at (access_size i.op)) (effects.loaded i top file) (λ v. goes_written i.rd (Number (extended i.op v)) other))

    data_when : (b : Bool) (o : Option ℕ) (i : Ins) → reg_number i.rd ≢ 3 → EffectSpares top (effects.data_when b o i top file)
    data_when false o i other = tt
    data_when true None i other = tt
    data_when true (Some v) i other = goes_written i.rd (Number (extended i.op v)) other

    data_load : (d : Data) (i : Ins) (address : ℕ) → reg_number i.rd ≢ 3 → EffectSpares top (effects.data_load d i address top file)
    data_load d i address other = data_when (address % access_size i.op == 0) (load_from (data_byte d) address (access_size i.op)) i other

    slot_class : (function : ProgramFunction) (i : Ins) → IsSlot function i i.rd → reg_number i.rd ≢ 3
    slot_class function i (aligned, inl int) = of_body i.rd (inl int.0)
    slot_class function i (aligned, inr handle) = of_body i.rd (inr handle.0)

    load_by : (b : Bool) (d : Data) (function : ProgramFunction) (i : Ins) → LoadFits b function i → EffectSpares top (effects.load_by b d i top file)
    load_by true d function i fits = slot_load (is_handle i.rd) i (slot_place (length top.bytes) i.imm) (slot_class function i fits)
    load_by false d function i fits = number_spares (int file i.rs1) (λ base. effects.data_load d i ((base + word_of i.imm) % 2 ^ 64) top file) (λ base. data_load d i ((base + word_of i.imm) % 2 ^ 64) (of_body i.rd (inl fits.0)))

    slot_store : (b : Bool) (i : Ins) (at : ℕ) → EffectSpares top (effects.slot_store b i at top file)
    slot_store true i at =
        name_spares (name_of (read_register file i.rs2)) (λ name. within (nat_lt (at / 8) (length top.handles)) (effects.goes (record top { handles = slice_set top.handles (at / 8) (Some name) }) file))
        (λ name. within_spares (nat_lt (at / 8) (length top.handles)) (effects.goes (record top { handles = slice_set top.handles (at / 8) (Some name) }) file) (refl, spares))
    slot_store false i at =
        number_spares (int file i.rs2) (λ v. within (nat_le (at + access_size i.op) (length top.bytes)) (effects.goes (record top { bytes = store_bytes top.bytes at (access_size i.op) v }) file))
        (λ v. within_spares (nat_le (at + access_size i.op) (length top.bytes)) (effects.goes (record top { bytes = store_bytes top.bytes at (access_size i.op) v }) file) (refl, spares))

    immediate_class : (function : ProgramFunction) (i : Ins) → PlainFitsAs kinds.Immediate function i → reg_number i.rd ≢ 3
    immediate_class function i (inl int, may) = of_body i.rd (inl int.0)
    immediate_class function i (inr handle, may) = of_body i.rd (inr handle.0)

    plain : (k : OpKind) (d : Data) (function : ProgramFunction) (i : Ins) → PlainFitsAs k function i → EffectSpares top (effects.plain_as k d i top file)
    plain kinds.Register d function i fits =
        number_spares (int file i.rs1) (λ a. with_number (int file i.rs2) (λ b. effects.goes top (write_register file i.rd (Number (alu i.op a b)))))
        (λ a. number_spares (int file i.rs2) (λ b. effects.goes top (write_register file i.rd (Number (alu i.op a b)))) (λ b. goes_written i.rd (Number (alu i.op a b)) (of_body i.rd (inl fits.0))))
    plain kinds.Immediate d function i fits = moved i (read_register file i.rs1) (immediate_class function i fits)
    plain kinds.Upper d function i fits = goes_written i.rd (Number (alu i.op 0 (word_of i.imm))) (of_body i.rd (inl fits.0))
    plain kinds.Load d function i fits = load_by (is_frame i.rs1) d function i fits.0
    plain kinds.Store d function i fits = within_spares (is_frame i.rs1) (effects.slot_store (is_handle i.rs2) i (slot_place (length top.bytes) i.imm) top file) (slot_store (is_handle i.rs2) i (slot_place (length top.bytes) i.imm))
    plain kinds.Branch d function i fits = absurd fits
    plain kinds.Jump d function i fits = absurd fits
    plain kinds.Break d function i fits = tt

    -- ---- other items

    left_by : (kind : ActivationKind) (kept : File) (v : ℕ) → Spares kept → EffectSpares top (effects.left_by kind kept v)
    left_by Called kept v is = write_spares kept registers.A0 (Number v) (λ e. absurd (omega (arith, e))) is
    left_by Forked kept v is = tt
    left_by Root kept v is = tt

    either : (b : Bool) (to : ℕ) → (cond b (effects.at_item to top) (effects.advanced top)).kept ≡ top.kept
    either true to = refl
    either false to = refl

    call_into : (f : ℕ) (o : Option ProgramFunction) → EffectSpares top (effects.call_into f o top file)
    call_into f None = tt
    call_into f (Some function) = (refl, saved_spares file, arguments_spares function.ints function.handles file)

    fork_into : (f : ℕ) (handle : Reg) (o : Option ProgramFunction) → reg_number handle ≢ 3 → EffectSpares top (effects.fork_into f handle o top file)
    fork_into f handle None other = tt
    fork_into f handle (Some function) other = (refl, saved_spares file, other, arguments_spares function.ints function.handles file, saved_spares file)

    entry : (call : RuntimeCall) → EffectSpares top (effects.entry_effect call top file)
    entry calls.Touch = name_spares (name_of (read_register file registers.A6)) (λ name. Touches name (effects.advanced top) (picked Saved file)) (λ name. (refl, saved_spares file))
    entry calls.Counter = (refl, saved_spares file)
    entry calls.Done = name_spares (name_of (read_register file registers.A6)) (λ name. Adds name (effects.advanced top) (picked Saved file)) (λ name. (refl, saved_spares file))
    entry calls.Join =
        name_spares (name_of (read_register file registers.A6)) (λ name. with_number (int file registers.A0) (λ n. Joins name n (effects.advanced top) (picked Saved file)))
        (λ name. number_spares (int file registers.A0) (λ n. Joins name n (effects.advanced top) (picked Saved file)) (λ n. (refl, saved_spares file)))
    entry calls.Poll = (refl, saved_spares file)
    entry calls.Putc = number_spares (int file registers.A0) (λ n. Prints (n % 256) (effects.advanced top) (picked Saved file)) (λ n. (refl, saved_spares file))

    runtime : (o : Option RuntimeCall) → EffectSpares top (effects.runtime_effect o top file)
    runtime None = tt
    runtime (Some call) = entry call

    item_spares : (p : Program) (d : Data) (function : ProgramFunction) (kind : ItemKind) → Fits p function kind → Spares top.kept → EffectSpares top (item_effect p d kind top file)
    item_spares p d function items.Prologue fits kept = (refl, spares)
    item_spares p d function items.Epilogue fits kept = number_spares (int file registers.A0) (effects.left_by top.kind top.kept) (λ v. left_by top.kind top.kept v kept)
    item_spares p d function (items.Plain i) fits kept = plain (kind_of i.op) d function i fits.1
    item_spares p d function (items.Li rd value) fits kept = goes_written rd (Number (word_of value)) (of_body rd (inl fits.0))
    item_spares p d function (items.Branch op rs1 rs2 to) fits kept =
        number_spares (int file rs1) (λ a. with_number (int file rs2) (λ b. Goes (cond (is_taken op a b) (effects.at_item to top) (effects.advanced top)) file))
        (λ a. number_spares (int file rs2) (λ b. Goes (cond (is_taken op a b) (effects.at_item to top) (effects.advanced top)) file) (λ b. (either (is_taken op a b) to, spares)))
    item_spares p d function (items.Jump to) fits kept = (refl, spares)
    item_spares p d function (items.Call f) fits kept = call_into f (slice_get p.functions f)
    item_spares p d function (items.Entry at) fits kept = runtime (runtime_call at)
    item_spares p d function (items.Fork f handle) fits kept = fork_into f handle (slice_get p.functions f) (of_body handle (inr (fork_handle handle fits.1)))

-- ---- a thread

abbrev AllSpare : List Activation → Type 0
AllSpare [] = Prim.Unit
AllSpare (a ∷ older) = Spares a.kept × AllSpare older

abbrev ThreadSpares : Thread → Type 0
ThreadSpares t = Spares t.registers × AllSpare t.activations

abbrev OptionSpares : Option Thread → Type 0
OptionSpares None = Prim.Unit
OptionSpares (Some t) = ThreadSpares t

abbrev ChangeSpares : Change → Type 0
ChangeSpares c = ThreadSpares c.own × OptionSpares c.child

abbrev MoveSpares : Move → Type 0
MoveSpares Stays = Prim.Unit
MoveSpares (Moves c) = ChangeSpares c
MoveSpares (Touch q f) = (v : ℕ) → ChangeSpares (f v)
MoveSpares (Join q n least c) = ChangeSpares c

enabled_spares : (h : Heap) (m : Move) (c : Change) → MoveSpares m → Enabled h m c → ChangeSpares c
enabled_spares h Stays c m e = absurd e
enabled_spares h (Moves d) c m e = subst ChangeSpares e m
enabled_spares h (Touch q f) c m e = subst ChangeSpares e.2 (m e.0)
enabled_spares h (Join q n least d) c m e = subst ChangeSpares e.1 m

next_kept : (top next : Activation) → next.kept ≡ top.kept → Spares top.kept → Spares next.kept
next_kept top next same kept = subst Spares (sym same) kept

module _ (path : Path) (t : Thread) (top : Activation) (older : List Activation) (line : Line) (was : ThreadSpares t) (kept : Spares top.kept) (below : AllSpare older) where
  printed_spares : (root room : Bool) (byte : ℕ) (next : Thread) → ThreadSpares next → MoveSpares (printed_move root room byte t next line)
  printed_spares true true byte next is = (is, tt)
  printed_spares true false byte next is = (was, tt)
  printed_spares false room byte next is = (was, tt)

  touch_spares : (name : Held) (next : Thread) → ThreadSpares next → MoveSpares (touch_move name t next line)
  touch_spares (Number n) next is = (was, tt)
  touch_spares (Future q) next is = λ v. ((write_spares next.registers registers.A0 (Number v) (λ e. absurd (omega (arith, e))) is.0, is.1), tt)
  touch_spares (Counter q n) next is = (was, tt)

  add_spares : (name : Held) (next : Thread) → ThreadSpares next → MoveSpares (add_move name t next line)
  add_spares (Number n) next is = (was, tt)
  add_spares (Future q) next is = (was, tt)
  add_spares (Counter q n) next is = (is, tt)

  join_spares : (name : Held) (least : ℕ) (next : Thread) → ThreadSpares next → MoveSpares (join_move name least t next line)
  join_spares (Number n) least next is = (was, tt)
  join_spares (Future q) least next is = (was, tt)
  join_spares (Counter q n) least next is = (is, tt)

  effect_spares : (effect : Effect) → EffectSpares top effect → MoveSpares (effect_move path t older line effect)
  effect_spares Undefined is = tt
  effect_spares (Goes next file) is = ((is.1, (next_kept top next is.0 kept, below)), tt)
  effect_spares (Calls next callee file) is = ((is.2, (is.1, (next_kept top next is.0 kept, below))), tt)
  effect_spares (Returns file) is = ((is, below), tt)
  effect_spares (Ends v file) is = (was, tt)
  effect_spares (Traps kind) is = (was, tt)
  effect_spares (Prints byte next file) is = printed_spares (is_root path) (nat_lt t.bytes 1048576) byte _ (is.1, (next_kept top next is.0 kept, below))
  effect_spares (Forks next child handle passed file) is = ((write_spares file handle _ is.2 is.4, (next_kept top next is.0 kept, below)), (is.3, (is.1, tt)))
  effect_spares (Touches name next file) is = touch_spares name _ (is.1, (next_kept top next is.0 kept, below))
  effect_spares (Counts next file) is = ((write_spares file registers.A6 _ (λ e. absurd (omega (arith, e))) is.1, (next_kept top next is.0 kept, below)), tt)
  effect_spares (Adds name next file) is = add_spares name _ (is.1, (next_kept top next is.0 kept, below))
  effect_spares (Joins name least next file) is = join_spares name least _ (is.1, (next_kept top next is.0 kept, below))

-- ---- the heap

-- the item of a function at a place
abbrev item_in : Option ProgramFunction → ℕ → Option Item
item_in None next = None
item_in (Some function) next = slice_get function.items next

module _ (p : Program) (d : Data) (accepted : IsAccepted p) where
  function_spares : (path : Path) (t : Thread) (top : Activation) (older : List Activation) (function : ProgramFunction) (o : Option Item) → slice_get p.functions top.function ≡ Some function → slice_get function.items top.next ≡ o → ThreadSpares t → Spares top.kept → AllSpare older
      → MoveSpares (move_at p d path t top older o)
  function_spares path t top older function None here at was kept below = tt
  function_spares path t top older function (Some item) here at was kept below =
      effect_spares path t top older item.line was kept below (item_effect p d item.kind top t.registers) (item_spares top t.registers was.0 p d function item.kind ((accepted.functions top.function function here).formed.fits top.next item at) kept)

  at_spares : (path : Path) (t : Thread) (top : Activation) (older : List Activation) (o : Option ProgramFunction) → slice_get p.functions top.function ≡ o → ThreadSpares t → Spares top.kept → AllSpare older → MoveSpares (move_at p d path t top older (item_in o top.next))
  at_spares path t top older None here was kept below = tt
  at_spares path t top older (Some function) here was kept below = function_spares path t top older function (slice_get function.items top.next) here refl was kept below

  frames_spare : (path : Path) (t : Thread) (frames : List Activation) → ThreadSpares t → AllSpare frames → MoveSpares (move_of p d path t frames)
  frames_spare path t [] was all = tt
  frames_spare path t (top ∷ older) was all = at_spares path t top older (slice_get p.functions top.function) refl was all.0 all.1

  move_spares : (path : Path) (t : Thread) (s : Standing) → ThreadSpares t → MoveSpares (move_standing p d path t s)
  move_spares path t standings.Going was = frames_spare path t t.activations was was.1
  move_spares path t (standings.Ended v) was = tt
  move_spares path t (standings.Trapped kind line) was = tt
  move_spares path t standings.Full was = tt

  abbrev HeapSpares : Heap → Type 0
  HeapSpares h = (q : Path) → OptionSpares (h.thread q)

  put_spares : (b : Bool) (o u : Option Thread) → OptionSpares o → OptionSpares u → OptionSpares (cond b o u)
  put_spares true o u f g = f
  put_spares false o u f g = g

  child_spares : (path q : Path) (child : Option Thread) (f : Path → Option Thread) → OptionSpares child → OptionSpares (f q) → OptionSpares (put_child path child f q)
  child_spares path q None f g h = h
  child_spares path q (Some c) f g h = put_spares (bytes_eq q path) (Some c) (f q) g h

  step_spares : (h : Heap) (path : Path) (h' : Heap) → HeapSpares h → HStep p d h path h' → HeapSpares h'
  unfolding move
  step_spares h path h' all step =
      let t = step.thread in
      let here : ThreadSpares t = subst OptionSpares step.here (all path) in
      let c : ChangeSpares step.change = enabled_spares h (move p d path t) step.change (move_spares path t t.standing here) step.enabled in
      subst HeapSpares step.next (λ q. put_spares (bytes_eq q path) (Some step.change.own) _ c.0 (child_spares (path ++ t.forks ∷ []) q step.change.child h.thread c.1 (all q)))

  run_spares : (h : Heap) (ps : List Path) (h' : Heap) → HeapSpares h → Run p d h ps h' → HeapSpares h'
  run_spares h [] h' all run = subst HeapSpares run all
  run_spares h (q ∷ ps) h' all run = run_spares run.0 ps h' (step_spares h q run.0 all run.1) run.2

  abbrev FirstSpares : Option State → Type 0
  FirstSpares None = Prim.Unit
  FirstSpares (Some s) = HeapSpares (first_heap s)

  first_spares : (o : Option ProgramFunction) → FirstSpares (started p (length d.input) o)
  first_spares None = tt
  first_spares (Some function) = λ q. put_spares (bytes_eq q []) (Some (new_thread (entered p.main function zeroed Root) (picked (Arguments function.ints 0) (write_register zeroed registers.A0 (Number (length d.input)))))) None (arguments_spares function.ints 0 _, (zeroed_spares, tt)) tt

  pub spares_reached : (h : Heap) (path : Path) (t : Thread) → Reached p d h → h.thread path ≡ Some t → Spares t.registers
  spares_reached h path t reached here =
      let first : HeapSpares (first_heap reached.first) = subst FirstSpares reached.is_first (first_spares (slice_get p.functions p.main)) in
      (subst OptionSpares here (run_spares (first_heap reached.first) reached.steps h first reached.run path)).0
