-- Which item a run is at where the machine is at an entry: the call of that entry (calling), its fork (forking), or the epilogue of a thread's
-- first call (ending). Each says what the item's step is and which limit it meets. Behind the jump that called an entry the machine goes on at
-- a low address, of the item's line (back_low, back_line).
use Rattle.std.proofs.Common.{◌≡◌, ◌≢◌, ◌⊎◌, inl, inr, ℕ, ◌+◌, ◌-◌, ◌*◌, ◌^◌, ◌<◌, ◌≤◌, ◌==◌, Bool, true, false, cond, List, length, Option, Some, None, slice_get, refl, ap, sym, ◌∙◌, subst, arith}
use Rattle.std.specs.Prelude.{nat_lt}
use Rattle.std.proofs.lemmas.Bool.{ne_eqb, le-ltb}
use Rattle.st_base.specs.declared.image.Image.{Image}
use Rattle.st_base.specs.declared.limits.Limits.{Limits}
use Rattle.st_base.specs.declared.reg.Reg.{Reg}
use Rattle.st_base.specs.declared.reg.Reg.TheVariants as registers
use Rattle.st_base.specs.declared.thread.ActivationKind.{ActivationKind}
use Rattle.st_base.specs.declared.thread.ActivationKind.TheVariants.{Called, Forked, Root}
use Rattle.st_base.specs.declared.thread.Held.{Held}
use Rattle.st_model.specs.declared.code.Layout.TheVariants.{Unchanged}
use Rattle.st_model.specs.declared.ordinary.State.{State}
use Rattle.st_model.specs.declared.program.Item.{Item}
use Rattle.st_model.specs.declared.program.ItemKind.{ItemKind}
use Rattle.st_model.specs.declared.program.ItemKind.TheVariants as items
use Rattle.st_model.specs.declared.program.Program.{Program}
use Rattle.st_model.specs.declared.program.ProgramFunction.{ProgramFunction}
use Rattle.st_model.specs.declared.program.RuntimeCall.{RuntimeCall}
use Rattle.st_model.specs.declared.program.RuntimeCall.TheVariants.{Poll, Putc}
use Rattle.st_model.specs.Accepted.{IsAccepted, Fits, IsPrologue}
use Rattle.st_model.specs.Bounded.{limit_at, limit_when, overflows}
use Rattle.st_model.specs.Draws.{call_draws, draws, drawn_by}
use Rattle.st_model.specs.Effect.{runtime_call, entry_effect, runtime_effect, item_effect}
use Rattle.st_model.specs.Layout.{item_size}
use Rattle.st_model.specs.Memory.{Data}
use Rattle.st_model.specs.Ordinary.{step, apply, item_at}
use Rattle.st_step.specs.Moves.{register}
use Rattle.st_step.specs.Runs.{Situation}
use Rattle.st_plain.specs.declared.run.PlainRun.{PlainRun}
use Rattle.st_plain.specs.Answer.{IsPlainImage}
use Rattle.st_items.specs.Code.{word_index, HasItem, IsSized}
use Rattle.st_step.specs.Frames.{address_in}
use Rattle.st_plain.specs.Running.{IsAtEntry, limit_met}
use Rattle.st_items.specs.Called.{Enters}
use Rattle.st_plain.specs.Standing.{situation, EndsAt, AtCall, AtEnd}
use Rattle.st_items.proofs.Addresses.{address_bounds}
use Rattle.st_items.proofs.Tables.{lines_at}
use Rattle.st_items.proofs.ItemCode.{formed_of, behind_prologue}
use Rattle.st_plain.proofs.ItemBegins.{has_word}
use Rattle.st_plain.proofs.Turning.{step_is}

-- ---- the item

pub item_there : (p : Program) (s : State) (function : ProgramFunction) (item : Item) → slice_get p.functions s.top.function ≡ Some function → slice_get function.items s.top.next ≡ Some item → item_at p s.top ≡ Some item
item_there p s function item here placed = rw here placed

-- a step by the item's kind
pub step_by : (p : Program) (d : Data) (s : State) (function : ProgramFunction) (item : Item) (kind : ItemKind) → slice_get p.functions s.top.function ≡ Some function → slice_get function.items s.top.next ≡ Some item → item.kind ≡ kind
    → step p d s ≡ apply s.rest item.line (item_effect p d kind s.top s.registers)
step_by p d s function item kind here placed is = step_is p d s item kind (item_there p s function item here placed) is

-- and the limit that it meets
pub limit_by : (p : Program) (limits : Limits) (drawn : ℕ) (s : State) (function : ProgramFunction) (item : Item) (kind : ItemKind) → slice_get p.functions s.top.function ≡ Some function → slice_get function.items s.top.next ≡ Some item → item.kind ≡ kind
    → limit_met p limits drawn s ≡ limit_when (nat_lt (limits.cells - drawn) (draws kind)) (overflows limits.stack kind s) (length s.top.bytes)
limit_by p limits drawn s function item kind here placed is =
    ap (limit_at limits.stack (limits.cells - drawn) s) (item_there p s function item here placed)
    ∙ ap (λ (k : ItemKind). limit_when (nat_lt (limits.cells - drawn) (draws k)) (overflows limits.stack k s) (length s.top.bytes)) is

-- and the cells that it draws
pub drawn_at : (p : Program) (s : State) (function : ProgramFunction) (item : Item) (kind : ItemKind) → slice_get p.functions s.top.function ≡ Some function → slice_get function.items s.top.next ≡ Some item → item.kind ≡ kind
    → drawn_by (item_at p s.top) ≡ draws kind
drawn_at p s function item kind here placed is = ap drawn_by (item_there p s function item here placed) ∙ ap draws is

-- an item that draws no cell and makes no frame
pub no_limit : (cells bytes : ℕ) → limit_when (nat_lt cells 0) false bytes ≡ None
no_limit cells bytes = ap (λ (b : Bool). limit_when b false bytes) (le-ltb cells 0 (omega arith))

-- ---- calls

ends_elsewhere : (kind : ActivationKind) (ret entry ra : ℕ) → EndsAt kind ret entry ra → entry ≢ 0x20 → entry ≢ 0x30 → ⊥
ends_elsewhere Called ret entry ra ends not_out not_end = ends
ends_elsewhere Forked ret entry ra ends not_out not_end = not_out ends.0
ends_elsewhere Root ret entry ra ends not_out not_end = not_end ends

pub call_at : (p : Program) (limits : Limits) (r : PlainRun) (names : List Held) (s : State) → IsAtEntry p limits r names s → r.machine.pc ≢ 0x20 → r.machine.pc ≢ 0x30 → AtCall p limits.stack names (situation r.machine r.board.words.stack) s
call_at p limits r names s at not_out not_end = elim at.at [ inl call ↦ call | inr end ↦ absurd (ends_elsewhere s.top.kind end.ret r.machine.pc (register r.machine registers.Ra) end.ends not_out not_end) ]

entry_kind : (kind : ItemKind) (entry n : ℕ) → Enters kind entry → entry ≡ n → n ≢ 0x10 → kind ≡ items.Entry n
entry_kind (items.Entry at) entry n enters is other = ap items.Entry (sym enters ∙ is)
entry_kind (items.Fork f handle) entry n enters is other = absurd (other (sym is ∙ enters))
entry_kind items.Prologue entry n enters is other = absurd enters
entry_kind items.Epilogue entry n enters is other = absurd enters
entry_kind (items.Plain i) entry n enters is other = absurd enters
entry_kind (items.Li rd value) entry n enters is other = absurd enters
entry_kind (items.Branch op rs1 rs2 to) entry n enters is other = absurd enters
entry_kind (items.Jump to) entry n enters is other = absurd enters
entry_kind (items.Call f) entry n enters is other = absurd enters

-- at the entry of a runtime call
pub record IsCalling (p : Program) (d : Data) (limits : Limits) (names : List Held) (t : Situation) (s : State) (call : RuntimeCall) : Type 0 where
  pub at : AtCall p limits.stack names t s
  pub size : item_size Unchanged at.stands.function at.item.kind ≡ 1
  pub begun : 0 < s.top.next
  pub steps : step p d s ≡ apply s.rest at.item.line (entry_effect call s.top s.registers)
  pub limit : (drawn : ℕ) → limit_met p limits drawn s ≡ limit_when (nat_lt (limits.cells - drawn) (call_draws (Some call))) false (length s.top.bytes)
  pub drawn : drawn_by (item_at p s.top) ≡ call_draws (Some call)

calling_at : (p : Program) (d : Data) (limits : Limits) (names : List Held) (t : Situation) (s : State) (n : ℕ) (call : RuntimeCall) → IsAccepted p → (at : AtCall p limits.stack names t s) → at.item.kind ≡ items.Entry n → runtime_call n ≡ Some call → IsCalling p d limits names t s call
calling_at p d limits names t s n call accepted at is calls = record {
  at = at;
  size = ap (item_size Unchanged at.stands.function) is;
  begun = behind_prologue p at.stands.function s.top.next at.item (formed_of p s.top.function at.stands.function accepted at.stands.here) at.placed (λ prologue. subst IsPrologue is prologue);
  steps =
      step_by p d s at.stands.function at.item (items.Entry n) at.stands.here at.placed is
      ∙ ap (λ (o : Option RuntimeCall). apply s.rest at.item.line (runtime_effect o s.top s.registers)) calls;
  limit = λ drawn.
      limit_by p limits drawn s at.stands.function at.item (items.Entry n) at.stands.here at.placed is
      ∙ ap (λ (o : Option RuntimeCall). limit_when (nat_lt (limits.cells - drawn) (call_draws o)) false (length s.top.bytes)) calls;
  drawn = drawn_at p s at.stands.function at.item (items.Entry n) at.stands.here at.placed is ∙ ap call_draws calls;
}

pub calling : (p : Program) (d : Data) (image : Image) (limits : Limits) (r : PlainRun) (names : List Held) (s : State) (n : ℕ) (call : RuntimeCall) → IsPlainImage p image → IsAtEntry p limits r names s → r.machine.pc ≡ n
    → n ≢ 0x10 → n ≢ 0x20 → n ≢ 0x30 → runtime_call n ≡ Some call → IsCalling p d limits names (situation r.machine r.board.words.stack) s call
calling p d image limits r names s n call pi entry is not_in not_out not_end calls =
    let at = call_at p limits r names s entry (λ e. not_out (sym is ∙ e)) (λ e. not_end (sym is ∙ e)) in
    calling_at p d limits names (situation r.machine r.board.words.stack) s n call pi.accepted at (entry_kind at.item.kind r.machine.pc n at.enters is not_in) calls

other_call : {X : Type 0} (n at : ℕ) (x y : X) → at ≢ n → cond (at == n) x y ≡ y
other_call n at x y other = ap (λ (b : Bool). cond b x y) (ne_eqb at n other)

poll_left : (b : Bool) (call : RuntimeCall) → cond b (Some Poll) None ≡ Some call → call ≡ Poll
poll_left true call is = let same : Poll ≡ call = cc in sym same
poll_left false call is = absurd (let never : ⊥ = cc in never)

poll_alone : (at : ℕ) (call : RuntimeCall) → runtime_call at ≡ Some call → at ≢ 0x40 → at ≢ 0x50 → at ≢ 0x60 → at ≢ 0x70 → at ≢ 0x90 → call ≡ Poll
poll_alone at call is touch counter done join putc =
    poll_left (at == 0x80) call
    (ap (λ (o : Option RuntimeCall). cond (at == 0x80) (Some Poll) o) (sym (other_call 0x90 at (Some Putc) None putc))
    ∙ sym (other_call 0x40 at _ _ touch ∙ other_call 0x50 at _ _ counter ∙ other_call 0x60 at _ _ done ∙ other_call 0x70 at _ _ join) ∙ is)

-- at another entry
pub polling : (p : Program) (d : Data) (image : Image) (limits : Limits) (r : PlainRun) (names : List Held) (s : State) → IsPlainImage p image → IsAtEntry p limits r names s
    → r.machine.pc ≢ 0x10 → r.machine.pc ≢ 0x20 → r.machine.pc ≢ 0x30 → r.machine.pc ≢ 0x40 → r.machine.pc ≢ 0x50 → r.machine.pc ≢ 0x60 → r.machine.pc ≢ 0x70 → r.machine.pc ≢ 0x90
    → IsCalling p d limits names (situation r.machine r.board.words.stack) s Poll
polling p d image limits r names s pi entry fork_in fork_out end touch counter done join putc =
    let at = call_at p limits r names s entry fork_out end in
    let pc = r.machine.pc in
    let is = entry_kind at.item.kind pc pc at.enters refl fork_in in
    let fits : Fits p at.stands.function (items.Entry pc) = subst (Fits p at.stands.function) is ((formed_of p s.top.function at.stands.function pi.accepted at.stands.here).fits s.top.next at.item at.placed) in
    calling_at p d limits names (situation r.machine r.board.words.stack) s pc Poll pi.accepted at is (fits.1 ∙ ap Some (poll_alone pc fits.0 fits.1 touch counter done join putc))

-- ---- forks

fork_kind : (p : Program) (function : ProgramFunction) (kind : ItemKind) (entry : ℕ) → Fits p function kind → Enters kind entry → entry ≡ 0x10 → (g : ℕ) × (handle : Reg) × (kind ≡ items.Fork g handle)
fork_kind p function (items.Entry at) entry fits enters is =
    let calls = fits.1 in
    let none : runtime_call at ≡ None = ap runtime_call (sym enters ∙ is) in
    absurd (let never : ⊥ = cc in never)
fork_kind p function (items.Fork f handle) entry fits enters is = (f, handle, refl)
fork_kind p function items.Prologue entry fits enters is = absurd enters
fork_kind p function items.Epilogue entry fits enters is = absurd enters
fork_kind p function (items.Plain i) entry fits enters is = absurd enters
fork_kind p function (items.Li rd value) entry fits enters is = absurd enters
fork_kind p function (items.Branch op rs1 rs2 to) entry fits enters is = absurd enters
fork_kind p function (items.Jump to) entry fits enters is = absurd enters
fork_kind p function (items.Call f) entry fits enters is = absurd enters

-- at the entry that makes a thread
pub record IsForking (p : Program) (d : Data) (limits : Limits) (names : List Held) (t : Situation) (s : State) : Type 0 where
  pub at : AtCall p limits.stack names t s
  pub f : ℕ
  pub handle : Reg
  pub kind : at.item.kind ≡ items.Fork f handle
  pub begun : 0 < s.top.next
  pub fits : Fits p at.stands.function (items.Fork f handle)
  pub steps : step p d s ≡ apply s.rest at.item.line (item_effect p d (items.Fork f handle) s.top s.registers)
  pub limit : (drawn : ℕ) → limit_met p limits drawn s ≡ limit_when (nat_lt (limits.cells - drawn) 1) false (length s.top.bytes)
  pub drawn : drawn_by (item_at p s.top) ≡ 1

pub forking : (p : Program) (d : Data) (image : Image) (limits : Limits) (r : PlainRun) (names : List Held) (s : State) → IsPlainImage p image → IsAtEntry p limits r names s → r.machine.pc ≡ 0x10
    → IsForking p d limits names (situation r.machine r.board.words.stack) s
forking p d image limits r names s pi entry is =
    let at = call_at p limits r names s entry (λ e. omega (arith, e, is)) (λ e. omega (arith, e, is)) in
    let formed = formed_of p s.top.function at.stands.function pi.accepted at.stands.here in
    let fits = formed.fits s.top.next at.item at.placed in
    let fork = fork_kind p at.stands.function at.item.kind r.machine.pc fits at.enters is in
    record {
      at = at;
      f = fork.0;
      handle = fork.1;
      kind = fork.2;
      begun = behind_prologue p at.stands.function s.top.next at.item formed at.placed (λ prologue. subst IsPrologue {x = at.item.kind} {y = items.Fork fork.0 fork.1} fork.2 prologue);
      fits = subst (Fits p at.stands.function) {x = at.item.kind} {y = items.Fork fork.0 fork.1} fork.2 fits;
      steps = step_by p d s at.stands.function at.item (items.Fork fork.0 fork.1) at.stands.here at.placed fork.2;
      limit = λ drawn. limit_by p limits drawn s at.stands.function at.item (items.Fork fork.0 fork.1) at.stands.here at.placed fork.2;
      drawn = drawn_at p s at.stands.function at.item (items.Fork fork.0 fork.1) at.stands.here at.placed fork.2;
    }

-- ---- ends

never_called : (p : Program) (function : ProgramFunction) (kind : ItemKind) (entry : ℕ) → Fits p function kind → Enters kind entry → entry ≢ 0x10 → runtime_call entry ≡ None → ⊥
never_called p function (items.Entry at) entry fits enters other none =
    let calls = fits.1 in
    let same = ap runtime_call enters in
    let never : ⊥ = cc in
    never
never_called p function (items.Fork f handle) entry fits enters other none = other enters
never_called p function items.Prologue entry fits enters other none = enters
never_called p function items.Epilogue entry fits enters other none = enters
never_called p function (items.Plain i) entry fits enters other none = enters
never_called p function (items.Li rd value) entry fits enters other none = enters
never_called p function (items.Branch op rs1 rs2 to) entry fits enters other none = enters
never_called p function (items.Jump to) entry fits enters other none = enters
never_called p function (items.Call f) entry fits enters other none = enters

-- at an entry that ends a thread
pub record IsEnding (p : Program) (d : Data) (limits : Limits) (names : List Held) (t : Situation) (s : State) : Type 0 where
  pub at : AtEnd p limits.stack names t s
  pub steps : step p d s ≡ apply s.rest at.item.line (item_effect p d items.Epilogue s.top s.registers)
  pub limit : (drawn : ℕ) → limit_met p limits drawn s ≡ None
  pub drawn : drawn_by (item_at p s.top) ≡ 0

pub ending : (p : Program) (d : Data) (image : Image) (limits : Limits) (r : PlainRun) (names : List Held) (s : State) (n : ℕ) → IsPlainImage p image → IsAtEntry p limits r names s → r.machine.pc ≡ n → n ≢ 0x10 → runtime_call n ≡ None
    → IsEnding p d limits names (situation r.machine r.board.words.stack) s
ending p d image limits r names s n pi entry is other none = by_case entry.at
  where
    by_case : AtCall p limits.stack names (situation r.machine r.board.words.stack) s ⊎ AtEnd p limits.stack names (situation r.machine r.board.words.stack) s → IsEnding p d limits names (situation r.machine r.board.words.stack) s
    by_case (inl call) =
        let fits = (formed_of p s.top.function call.stands.function pi.accepted call.stands.here).fits s.top.next call.item call.placed in
        absurd (never_called p call.stands.function call.item.kind r.machine.pc fits call.enters (λ e. other (sym is ∙ e)) (ap runtime_call is ∙ none))
    by_case (inr at) = record {
      at = at;
      steps = step_by p d s at.function at.item items.Epilogue at.here at.placed at.epilogue;
      limit = λ drawn. limit_by p limits drawn s at.function at.item items.Epilogue at.here at.placed at.epilogue ∙ no_limit (limits.cells - drawn) (length s.top.bytes);
      drawn = drawn_at p s at.function at.item items.Epilogue at.here at.placed at.epilogue;
    }

-- ---- the way back

-- the word of the call, behind which the machine goes on
pub back_low : (p : Program) (stack : ℕ) (names : List Held) (t : Situation) (s : State) → IsSized Unchanged p → (at : AtCall p stack names t s) → (0x10004 ≤ register t.state registers.Ra) × (register t.state registers.Ra < 2 ^ 32)
back_low p stack names t s size at =
    let has : HasItem p s.top.function at.stands.function s.top.next at.item = record { named = at.stands.here; placed = at.placed } in
    let bounds = address_bounds Unchanged p s.top.function at.stands.function s.top.next at.item size has in
    let back = at.back in
    (omega (arith, bounds.0, back), omega (arith, bounds.1, back))

pub back_word : (p : Program) (stack : ℕ) (names : List Held) (t : Situation) (s : State) (at : AtCall p stack names t s) → register t.state registers.Ra - 4 ≡ address_in Unchanged p s.top.function at.stands.function s.top.next
back_word p stack names t s at = let back = at.back in omega (arith, back)

pub back_line : (p : Program) (image : Image) (stack : ℕ) (names : List Held) (t : Situation) (s : State) → IsPlainImage p image → (at : AtCall p stack names t s) → slice_get image.lines (word_index (register t.state registers.Ra - 4)) ≡ Some at.item.line
back_line p image stack names t s pi at =
    let has : HasItem p s.top.function at.stands.function s.top.next at.item = record { named = at.stands.here; placed = at.placed } in
    let first : register t.state registers.Ra - 4 ≡ address_in Unchanged p s.top.function at.stands.function s.top.next + 4 * 0 = omega (arith, back_word p stack names t s at) in
    ap (λ (n : ℕ). slice_get image.lines (word_index n)) first ∙ lines_at Unchanged p image s.top.function at.stands.function s.top.next at.item 0 pi has (has_word at.stands.function at.item.kind)
