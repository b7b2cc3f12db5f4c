-- The registers that get futures, through a run: each item of the ordinary-call run keeps that a thread's handle is that of its fork. Read
-- HandlesIn (what is kept) and step_handles.
use Rattle.std.proofs.Common.{◌≡◌, ℕ, ◌+◌, ◌-◌, ◌/◌, ◌%◌, ◌^◌, ◌==◌, Bool, true, false, cond, List, [], ◌∷◌, Option, Some, None, slice_get, length, refl, ap, sym, ◌∙◌, subst, arith}
use Rattle.std.specs.Prelude.{nat_lt, nat_le, slice_index_or}
use Rattle.st_base.specs.declared.line.Line.{Line}
use Rattle.st_base.specs.declared.reg.Reg.{Reg}
use Rattle.st_base.specs.declared.reg.Reg.TheVariants.{A0, A6}
use Rattle.st_base.specs.declared.thread.Activation.{Activation}
use Rattle.st_base.specs.declared.thread.ActivationKind.{ActivationKind}
use Rattle.st_base.specs.declared.thread.ActivationKind.TheVariants.{Called, Forked, Root}
use Rattle.st_base.specs.declared.thread.Held.{Held}
use Rattle.st_base.specs.declared.thread.Held.TheVariants.{Number, Future, Counter}
use Rattle.st_base.specs.Registers.{read_register}
use Rattle.st_rv.specs.declared.ins.Ins.{Ins}
use Rattle.st_rv.specs.declared.ins.OpKind.{OpKind}
use Rattle.st_rv.specs.declared.ins.OpKind.TheVariants as kinds
use Rattle.st_rv.specs.Op.{kind_of}
use Rattle.st_rv.specs.Results.{word_of, access_size}
use Rattle.st_model.specs.declared.effect.Effect.{Effect}
use Rattle.st_model.specs.declared.effect.Effect.TheVariants as effects
use Rattle.st_model.specs.declared.ordinary.Rest.{Rest}
use Rattle.st_model.specs.declared.ordinary.State.{State}
use Rattle.st_model.specs.declared.ordinary.Tally.{Tally}
use Rattle.st_model.specs.declared.ordinary.Turn.{Turn}
use Rattle.st_model.specs.declared.ordinary.Turn.TheVariants.{Undefined, Goes, Over}
use Rattle.st_model.specs.declared.program.Item.{Item}
use Rattle.st_model.specs.declared.program.ItemKind.{ItemKind}
use Rattle.st_model.specs.declared.program.ItemKind.TheVariants as items
use Rattle.st_model.specs.declared.program.Program.{Program}
use Rattle.st_model.specs.declared.program.ProgramFunction.{ProgramFunction}
use Rattle.st_model.specs.declared.program.RuntimeCall.{RuntimeCall}
use Rattle.st_model.specs.declared.program.RuntimeCall.TheVariants as calls
use Rattle.st_model.specs.Effect.{File, IsFirst, with_number, with_name, name_of, name_moved, moved, within, slot_load, slot_store, data_when, load_by, plain_as, call_into, fork_into, left_by, entry_effect, runtime_effect, runtime_call, item_effect, int, is_move, is_frame, is_handle, is_frame}
use Rattle.st_model.specs.Memory.{Data, load_from, data_byte, slot_byte, slot_place}
use Rattle.st_model.specs.Ordinary.{step, step_at, apply, item_at, returned_to, ended_in, got, printed_when, joined_when, value_of}
use Rattle.st_plain.specs.Threads.{ForksInto, IsBehindFork, HandlesStand}

-- below an activation of this kind
abbrev pub HandlesBelow : Program → ActivationKind → Rest → Type 0
HandlesBelow p kind rest = HandlesStand p kind rest.older rest.thread.handle rest.parents

-- in a state
abbrev pub HandlesIn : Program → State → Type 0
HandlesIn p s = HandlesBelow p s.top.kind s.rest

-- ---- effects

-- an effect leaves the running activation's kind, and a fork goes on behind itself
abbrev EffectKeeps : Program → Activation → Effect → Type 0
EffectKeeps p top effects.Undefined = Prim.Unit
EffectKeeps p top (effects.Goes next file) = next.kind ≡ top.kind
EffectKeeps p top (effects.Calls next callee file) = (next.kind ≡ top.kind) × (callee.kind ≡ Called)
EffectKeeps p top (effects.Returns file) = top.kind ≡ Called
EffectKeeps p top (effects.Ends v kept) = IsFirst top.kind
EffectKeeps p top (effects.Traps kind) = Prim.Unit
EffectKeeps p top (effects.Prints byte next file) = next.kind ≡ top.kind
EffectKeeps p top (effects.Forks next child handle passed file) = (next.kind ≡ top.kind) × (child.kind ≡ Forked) × IsBehindFork p handle next
EffectKeeps p top (effects.Touches name next file) = next.kind ≡ top.kind
EffectKeeps p top (effects.Counts next file) = next.kind ≡ top.kind
EffectKeeps p top (effects.Adds name next file) = next.kind ≡ top.kind
EffectKeeps p top (effects.Joins name least next file) = next.kind ≡ top.kind

module _ (p : Program) (top : Activation) where
  number_keeps : (o : Option ℕ) (go : ℕ → Effect) → ((n : ℕ) → EffectKeeps p top (go n)) → EffectKeeps p top (with_number o go)
  number_keeps None go keeps = tt
  number_keeps (Some n) go keeps = keeps n

  name_keeps : (o : Option Held) (go : Held → Effect) → ((name : Held) → EffectKeeps p top (go name)) → EffectKeeps p top (with_name o go)
  name_keeps None go keeps = tt
  name_keeps (Some name) go keeps = keeps name

  within_keeps : (b : Bool) (effect : Effect) → EffectKeeps p top effect → EffectKeeps p top (within b effect)
  within_keeps true effect keeps = keeps
  within_keeps false effect keeps = tt

  name_moved_keeps : (b : Bool) (i : Ins) (name : Held) (file : File) → EffectKeeps p top (name_moved b i name top file)
  name_moved_keeps true i name file = refl
  name_moved_keeps false i name file = tt

  moved_keeps : (i : Ins) (file : File) (o : Option Held) → EffectKeeps p top (moved i top file o)
  moved_keeps i file None = tt
  moved_keeps i file (Some (Number n)) = refl
  moved_keeps i file (Some (Future path)) = name_moved_keeps (is_move i.op i.imm) i (Future path) file
  moved_keeps i file (Some (Counter path n)) = name_moved_keeps (is_move i.op i.imm) i (Counter path n) file

  slot_load_keeps : (b : Bool) (i : Ins) (at : ℕ) (file : File) → EffectKeeps p top (slot_load b i at top file)
  slot_load_keeps true i at file = name_keeps (name_of (slice_index_or top.handles (at / 8) None)) _ (λ name. refl)
  slot_load_keeps false i at file =
      within_keeps (nat_le (at + access_size i.op) (length top.bytes)) _ (number_keeps (load_from (slot_byte top.bytes) at (access_size i.op)) _ (λ n. refl))

  slot_store_keeps : (b : Bool) (i : Ins) (at : ℕ) (file : File) → EffectKeeps p top (slot_store b i at top file)
  slot_store_keeps true i at file = name_keeps (name_of (read_register file i.rs2)) _ (λ name. within_keeps (nat_lt (at / 8) (length top.handles)) _ refl)
  slot_store_keeps false i at file = number_keeps (int file i.rs2) _ (λ n. within_keeps (nat_le (at + access_size i.op) (length top.bytes)) _ refl)

  data_keeps : (b : Bool) (o : Option ℕ) (i : Ins) (file : File) → EffectKeeps p top (data_when b o i top file)
  data_keeps false o i file = tt
  data_keeps true None i file = tt
  data_keeps true (Some n) i file = refl

  load_keeps : (b : Bool) (d : Data) (i : Ins) (file : File) → EffectKeeps p top (load_by b d i top file)
  load_keeps true d i file = slot_load_keeps (is_handle i.rd) i (slot_place (length top.bytes) i.imm) file
  load_keeps false d i file =
      number_keeps (int file i.rs1) _
      (λ base.
      let address = (base + word_of i.imm) % 2 ^ 64 in
      data_keeps (address % access_size i.op == 0) (load_from (data_byte d) address (access_size i.op)) i file)

  plain_keeps : (kind : OpKind) (d : Data) (i : Ins) (file : File) → EffectKeeps p top (plain_as kind d i top file)
  plain_keeps kinds.Register d i file = number_keeps (int file i.rs1) _ (λ a. number_keeps (int file i.rs2) _ (λ b. refl))
  plain_keeps kinds.Immediate d i file = moved_keeps i file (read_register file i.rs1)
  plain_keeps kinds.Upper d i file = refl
  plain_keeps kinds.Load d i file = load_keeps (is_frame i.rs1) d i file
  plain_keeps kinds.Store d i file = within_keeps (is_frame i.rs1) _ (slot_store_keeps (is_handle i.rs2) i (slot_place (length top.bytes) i.imm) file)
  plain_keeps kinds.Branch d i file = tt
  plain_keeps kinds.Jump d i file = tt
  plain_keeps kinds.Break d i file = tt

  branch_keeps : (b : Bool) (to : ℕ) (file : File) → EffectKeeps p top (effects.Goes (cond b (record top { next = to }) (record top { next = top.next + 1 })) file)
  branch_keeps true to file = refl
  branch_keeps false to file = refl

  call_keeps : (f : ℕ) (o : Option ProgramFunction) (file : File) → EffectKeeps p top (call_into f o top file)
  call_keeps f None file = tt
  call_keeps f (Some function) file = (refl, refl)

  fork_keeps : (f : ℕ) (handle : Reg) (o : Option ProgramFunction) (file : File) → IsBehindFork p handle (record top { next = top.next + 1 }) → EffectKeeps p top (fork_into f handle o top file)
  fork_keeps f handle None file behind = tt
  fork_keeps f handle (Some function) file behind = (refl, refl, behind)

  left_keeps : (kind : ActivationKind) (kept : File) (v : ℕ) → top.kind ≡ kind → EffectKeeps p top (left_by kind kept v)
  left_keeps Called kept v is = is
  left_keeps Forked kept v is = subst IsFirst (sym is) tt
  left_keeps Root kept v is = subst IsFirst (sym is) tt

  entry_keeps : (call : RuntimeCall) (file : File) → EffectKeeps p top (entry_effect call top file)
  entry_keeps calls.Touch file = name_keeps (name_of (read_register file A6)) _ (λ name. refl)
  entry_keeps calls.Counter file = refl
  entry_keeps calls.Done file = name_keeps (name_of (read_register file A6)) _ (λ name. refl)
  entry_keeps calls.Join file = name_keeps (name_of (read_register file A6)) _ (λ name. number_keeps (int file A0) _ (λ n. refl))
  entry_keeps calls.Poll file = refl
  entry_keeps calls.Putc file = number_keeps (int file A0) _ (λ n. refl)

  runtime_keeps : (o : Option RuntimeCall) (file : File) → EffectKeeps p top (runtime_effect o top file)
  runtime_keeps None file = tt
  runtime_keeps (Some call) file = entry_keeps call file

  item_keeps : (d : Data) (kind : ItemKind) (file : File) → ((handle : Reg) → ForksInto handle kind → IsBehindFork p handle (record top { next = top.next + 1 })) → EffectKeeps p top (item_effect p d kind top file)
  item_keeps d items.Prologue file behind = refl
  item_keeps d items.Epilogue file behind = number_keeps (int file A0) _ (λ v. left_keeps top.kind top.kept v refl)
  item_keeps d (items.Plain i) file behind = plain_keeps (kind_of i.op) d i file
  item_keeps d (items.Li rd value) file behind = refl
  item_keeps d (items.Branch op rs1 rs2 to) file behind = number_keeps (int file rs1) _ (λ a. number_keeps (int file rs2) _ (λ b. branch_keeps _ to file))
  item_keeps d (items.Jump to) file behind = refl
  item_keeps d (items.Call f) file behind = call_keeps f (slice_get p.functions f) file
  item_keeps d (items.Entry at) file behind = runtime_keeps (runtime_call at) file
  item_keeps d (items.Fork f handle) file behind = fork_keeps f handle (slice_get p.functions f) file (behind handle refl)

-- ---- turns

abbrev TurnKeeps : Program → Turn → Type 0
TurnKeeps p Undefined = Prim.Unit
TurnKeeps p (Goes s) = HandlesIn p s
TurnKeeps p (Over end) = Prim.Unit

returned_keeps : (p : Program) (older : List Activation) (rest : Rest) (file : File) → HandlesStand p Called older rest.thread.handle rest.parents → TurnKeeps p (returned_to older rest file)
returned_keeps p [] rest file h = tt
returned_keeps p (a ∷ older) rest file h = h

ended_keeps : (p : Program) (kind : ActivationKind) (parents : List Tally) (older : List Activation) (rest : Rest) (v : ℕ) (kept : File) → IsFirst kind → HandlesStand p kind older rest.thread.handle parents → TurnKeeps p (ended_in parents older rest v kept)
ended_keeps p Called parents older rest v kept first h = absurd first
ended_keeps p kind [] older rest v kept first h = tt
ended_keeps p kind (parent ∷ parents) [] rest v kept first h = tt
ended_keeps p Forked (parent ∷ parents) (a ∷ older) rest v kept first h = h.1
ended_keeps p Root (parent ∷ parents) (a ∷ older) rest v kept first h = absurd (let never : ⊥ = cc in never)

got_keeps : (p : Program) (o : Option ℕ) (rest : Rest) (top : Activation) (file : File) → HandlesBelow p top.kind rest → TurnKeeps p (got o rest top file)
got_keeps p None rest top file h = tt
got_keeps p (Some v) rest top file h = h

printed_keeps : (p : Program) (root room : Bool) (rest : Rest) (line : Line) (byte : ℕ) (top : Activation) (file : File) → HandlesBelow p top.kind rest → TurnKeeps p (printed_when root room rest line byte top file)
printed_keeps p true true rest line byte top file h = h
printed_keeps p true false rest line byte top file h = tt
printed_keeps p false room rest line byte top file h = tt

joined_keeps : (p : Program) (less : Bool) (rest : Rest) (line : Line) (top : Activation) (file : File) → HandlesBelow p top.kind rest → TurnKeeps p (joined_when less rest line top file)
joined_keeps p true rest line top file h = tt
joined_keeps p false rest line top file h = h

apply_keeps : (p : Program) (rest : Rest) (line : Line) (top : Activation) (effect : Effect) → EffectKeeps p top effect → HandlesBelow p top.kind rest → TurnKeeps p (apply rest line effect)
apply_keeps p rest line top effects.Undefined keeps h = tt
apply_keeps p rest line top (effects.Goes next file) keeps h = subst (λ k. HandlesBelow p k rest) (sym keeps) h
apply_keeps p rest line top (effects.Calls next callee file) keeps h =
    subst (λ k. HandlesStand p k (next ∷ rest.older) rest.thread.handle rest.parents) (sym keeps.1) (subst (λ k. HandlesBelow p k rest) (sym keeps.0) h)
apply_keeps p rest line top (effects.Returns file) keeps h = returned_keeps p rest.older rest file (subst (λ k. HandlesBelow p k rest) keeps h)
apply_keeps p rest line top (effects.Ends v kept) keeps h = ended_keeps p top.kind rest.parents rest.older rest v kept keeps h
apply_keeps p rest line top (effects.Traps kind) keeps h = tt
apply_keeps p rest line top (effects.Prints byte next file) keeps h = printed_keeps p _ _ rest line byte next file (subst (λ k. HandlesBelow p k rest) (sym keeps) h)
apply_keeps p rest line top (effects.Forks next child handle passed file) keeps h =
    subst (λ k. HandlesStand p k (next ∷ rest.older) handle (record rest.thread { forks = rest.thread.forks + 1 } ∷ rest.parents)) (sym keeps.1)
    (keeps.2, subst (λ k. HandlesBelow p k rest) (sym keeps.0) h)
apply_keeps p rest line top (effects.Touches (Number n) next file) keeps h = tt
apply_keeps p rest line top (effects.Touches (Future q) next file) keeps h = got_keeps p (value_of rest.ended q) rest next file (subst (λ k. HandlesBelow p k rest) (sym keeps) h)
apply_keeps p rest line top (effects.Touches (Counter q n) next file) keeps h = tt
apply_keeps p rest line top (effects.Counts next file) keeps h = subst (λ k. HandlesBelow p k rest) (sym keeps) h
apply_keeps p rest line top (effects.Adds (Number n) next file) keeps h = tt
apply_keeps p rest line top (effects.Adds (Future q) next file) keeps h = tt
apply_keeps p rest line top (effects.Adds (Counter q n) next file) keeps h = subst (λ k. HandlesBelow p k rest) (sym keeps) h
apply_keeps p rest line top (effects.Joins (Number n) least next file) keeps h = tt
apply_keeps p rest line top (effects.Joins (Future q) least next file) keeps h = tt
apply_keeps p rest line top (effects.Joins (Counter q n) least next file) keeps h = joined_keeps p _ rest line next file (subst (λ k. HandlesBelow p k rest) (sym keeps) h)

-- ---- a step

behind_fork : (p : Program) (function : ProgramFunction) (item : Item) (top : Activation) (handle : Reg) → slice_get p.functions top.function ≡ Some function → slice_get function.items top.next ≡ Some item → ForksInto handle item.kind
    → IsBehindFork p handle (record top { next = top.next + 1 })
behind_fork p function item top handle here placed forks =
    let back : top.next + 1 - 1 ≡ top.next = omega arith in
    record { function = function; here = here; item = item; placed = ap (slice_get function.items) back ∙ placed; forks = forks }

at_keeps : (p : Program) (d : Data) (s : State) (function : ProgramFunction) (o : Option Item) → slice_get p.functions s.top.function ≡ Some function → slice_get function.items s.top.next ≡ o → HandlesIn p s → TurnKeeps p (step_at p d s o)
at_keeps p d s function None here placed h = tt
at_keeps p d s function (Some item) here placed h =
    apply_keeps p s.rest item.line s.top (item_effect p d item.kind s.top s.registers) (item_keeps p s.top d item.kind s.registers (λ handle forks. behind_fork p function item s.top handle here placed forks)) h

in_keeps : (p : Program) (d : Data) (s : State) (o : Option ProgramFunction) → slice_get p.functions s.top.function ≡ o → HandlesIn p s → TurnKeeps p (step p d s)
unfolding step
in_keeps p d s None here h = subst (λ x. TurnKeeps p (step_at p d s x)) (sym (none_there p s here)) tt
  where
    none_there : (p : Program) (s : State) → slice_get p.functions s.top.function ≡ None → item_at p s.top ≡ None
    none_there p s here = rw here
in_keeps p d s (Some function) here h = subst (λ x. TurnKeeps p (step_at p d s x)) (sym (there p s function here)) (at_keeps p d s function (slice_get function.items s.top.next) here refl h)
  where
    there : (p : Program) (s : State) (function : ProgramFunction) → slice_get p.functions s.top.function ≡ Some function → item_at p s.top ≡ slice_get function.items s.top.next
    there p s function here = rw here

-- each item keeps the threads' handles
pub step_handles : (p : Program) (d : Data) (s s' : State) → step p d s ≡ Goes s' → HandlesIn p s → HandlesIn p s'
step_handles p d s s' goes h = subst (TurnKeeps p) goes (in_keeps p d s (slice_get p.functions s.top.function) refl h)
