-- Where a run is at the first instruction of an item: at an item it is (begins_ready), amid an item it isn't (amid_elsewhere), but for the
-- item's own first instruction. item_defined: there is an item where nothing undefined is read. entry_low: an entry stands below the code.
use Rattle.std.proofs.Common.{◌≡◌, ◌≢◌, ◌⊎◌, inl, inr, ℕ, zero, suc, ◌+◌, ◌*◌, pos, cond, ◌<◌, ◌≤◌, Bool, true, false, Option, Some, None, List, [], ◌∷◌, length, slice_get, refl, ap, sym, ◌∙◌, subst, arith}
use Rattle.std.specs.Option.{is_some}
use Rattle.std.specs.Prelude.{◌==◌}
use Rattle.std.proofs.lemmas.Bool.{ne_eqb}
use Rattle.st_base.specs.declared.image.Image.{Image}
use Rattle.st_base.specs.declared.limits.Limits.{Limits}
use Rattle.st_base.specs.declared.reg.Reg.TheVariants as registers
use Rattle.st_base.specs.declared.thread.ActivationKind.TheVariants.{Called, Forked, Root}
use Rattle.st_base.specs.declared.thread.ActivationKind.{ActivationKind}
use Rattle.st_base.specs.declared.thread.Held.{Held}
use Rattle.st_rv.specs.declared.ins.Op.TheVariants as ops
use Rattle.st_model.specs.declared.code.Layout.TheVariants.{Unchanged}
use Rattle.st_model.specs.declared.code.PostedIns.TheVariants as posted
use Rattle.st_model.specs.declared.ordinary.State.{State}
use Rattle.st_model.specs.declared.program.Item.{Item}
use Rattle.st_model.specs.declared.program.ItemKind.TheVariants as items
use Rattle.st_model.specs.declared.program.ItemKind.{ItemKind}
use Rattle.st_model.specs.declared.program.Program.{Program}
use Rattle.st_model.specs.declared.program.ProgramFunction.{ProgramFunction}
use Rattle.st_model.specs.Accepted.{IsAccepted}
use Rattle.st_model.specs.Layout.{addi, high_part, is_short, item_size, low_part, upper_ins, with_low_part}
use Rattle.st_model.specs.Memory.{Data}
use Rattle.st_model.specs.Ordinary.{after_turn, item_at, run, step, step_at}
use Rattle.st_step.specs.Runs.{Situation}
use Rattle.st_step.specs.declared.state.State.{State as MachineState}
use Rattle.st_plain.specs.declared.run.PlainRun.{PlainRun}
use Rattle.st_plain.specs.Answer.{IsPlainImage}
use Rattle.st_items.specs.Code.{HasItem, word_index}
use Rattle.st_step.specs.Frames.{address_in}
use Rattle.st_items.specs.Ways.{IsBehind, IsInside, OnWay}
use Rattle.st_plain.specs.Running.{IsAmid, IsDefinedFrom, IsReady, IsUnderWay}
use Rattle.st_items.specs.Called.{Enters}
use Rattle.st_plain.specs.Standing.{AtCall, AtEnd, EndsAt, Stands, situation, on_stack}
use Rattle.st_items.proofs.Jumps.{entry_small}
use Rattle.st_items.proofs.Tables.{begins_at}

-- ---- an item is there

none_undefined : (p : Program) (d : Data) (s : State) (o : Option Item) → item_at p s.top ≡ o → run p d 1 s ≢ None → o ≢ None
unfolding run step
none_undefined p d s o is defined none =
    defined (ap (λ (i : Option Item). after_turn (run p d 0) (step_at p d s i)) (is ∙ none))

-- the item at which s is, unless something undefined is read
some_item : (p : Program) (d : Data) (s : State) (o : Option Item) → item_at p s.top ≡ o → run p d 1 s ≢ None → (item : Item) × (o ≡ Some item)
some_item p d s None is defined = absurd (none_undefined p d s None is defined refl)
some_item p d s (Some item) is defined = (item, refl)

pub item_defined : (p : Program) (d : Data) (s : State) (function : ProgramFunction) → slice_get p.functions s.top.function ≡ Some function → IsDefinedFrom p d s → (item : Item) × HasItem p s.top.function function s.top.next item
item_defined p d s function here defined =
    let at : item_at p s.top ≡ slice_get function.items s.top.next = rw here refl in
    let found = some_item p d s (slice_get function.items s.top.next) at (defined 1) in
    (found.0, record { named = here; placed = found.1 })

-- ---- at the first instruction

either_some : {X : Type 0} (b : Bool) (xs ys : List X) → 0 < length xs → 0 < length ys → 0 < length (cond b xs ys)
either_some true xs ys h k = h
either_some false xs ys h k = k

-- an item has a word
pub has_word : (function : ProgramFunction) (kind : ItemKind) → 0 < item_size Unchanged function kind
has_word function items.Prologue = omega arith
has_word function items.Epilogue = omega arith
has_word function (items.Plain i) = omega arith
has_word function (items.Li rd value) = either_some (is_short value) (addi rd registers.Zero value ∷ []) (posted.Plain (upper_ins ops.Lui rd (pos (high_part value))) ∷ with_low_part rd (low_part value)) (omega arith) (omega arith)
has_word function (items.Branch op rs1 rs2 to) = omega arith
has_word function (items.Jump to) = omega arith
has_word function (items.Call f) = omega arith
has_word function (items.Entry at) = omega arith
has_word function (items.Fork f handle) = omega arith

pub begins_standing : (p : Program) (image : Image) (d : Data) (stack : ℕ) (names : List Held) (t : Situation) (s : State) → IsPlainImage p image → Stands p stack names t s → IsDefinedFrom p d s → slice_get image.begins (word_index t.state.pc) ≡ Some true
begins_standing p image d stack names t s pi stands defined =
    let function = stands.stands.function in
    let found = item_defined p d s function stands.stands.here defined in
    let first = begins_at Unchanged p image s.top.function function s.top.next found.0 0 pi found.1 (has_word function found.0.kind) in
    let same : address_in Unchanged p s.top.function function s.top.next + 4 * 0 ≡ t.state.pc = omega (arith, stands.at) in
    subst (λ a. slice_get image.begins (word_index a) ≡ Some true) same first

pub begins_ready : (p : Program) (image : Image) (d : Data) (limits : Limits) (r : PlainRun) (s : State) → IsReady p image d limits r s → slice_get image.begins (word_index r.machine.pc) ≡ Some true
begins_ready p image d limits r s ready =
    begins_standing p image d limits.stack ready.at.names (situation r.machine r.board.words.stack) s ready.tables.is_plain ready.at.stands ready.defined

-- ---- amid an item

no_beginning : (p : Program) (image : Image) (pc : ℕ) → IsPlainImage p image → IsBehind Unchanged p pc → slice_get image.begins (word_index pc) ≡ Some false
no_beginning p image pc pi behind =
    let found = begins_at Unchanged p image behind.f behind.function behind.i behind.item behind.k pi behind.has behind.few in
    let later : (behind.k == 0) ≡ false = ne_eqb behind.k 0 (λ e. omega (arith, e, behind.some)) in
    subst (λ a. slice_get image.begins (word_index a) ≡ Some false) (sym behind.at) (found ∙ ap (λ b. Some b) later)

pub entered_low : (p : Program) (f : ℕ) (function : ProgramFunction) (i : ℕ) (item : Item) (kind : ItemKind) (entry : ℕ) → IsAccepted p → HasItem p f function i item → item.kind ≡ kind → Enters kind entry → entry < 0x10000
entered_low p f function i item (items.Entry at) entry accepted has is enters = omega (arith, enters, entry_small Unchanged p f function i item at accepted has is)
entered_low p f function i item (items.Fork g handle) entry accepted has is enters = omega (arith, enters)
entered_low p f function i item items.Prologue entry accepted has is enters = absurd enters
entered_low p f function i item items.Epilogue entry accepted has is enters = absurd enters
entered_low p f function i item (items.Plain x) entry accepted has is enters = absurd enters
entered_low p f function i item (items.Li rd value) entry accepted has is enters = absurd enters
entered_low p f function i item (items.Branch op rs1 rs2 to) entry accepted has is enters = absurd enters
entered_low p f function i item (items.Jump to) entry accepted has is enters = absurd enters
entered_low p f function i item (items.Call g) entry accepted has is enters = absurd enters

pub call_low : (p : Program) (stack : ℕ) (names : List Held) (t : Situation) (s : State) → IsAccepted p → AtCall p stack names t s → t.state.pc < 0x10000
call_low p stack names t s accepted at =
    entered_low p s.top.function at.stands.function s.top.next at.item at.item.kind t.state.pc accepted (record { named = at.stands.here; placed = at.placed }) refl at.enters

pub ending_low : (kind : ActivationKind) (ret entry ra : ℕ) → EndsAt kind ret entry ra → entry < 0x10000
ending_low Called ret entry ra ends = absurd ends
ending_low Forked ret entry ra ends = omega (arith, ends.0)
ending_low Root ret entry ra ends = omega (arith, ends)

pub entry_low : (p : Program) (stack : ℕ) (names : List Held) (t : Situation) (s : State) → IsAccepted p → AtCall p stack names t s ⊎ AtEnd p stack names t s → t.state.pc < 0x10000
entry_low p stack names t s accepted (inl at) = call_low p stack names t s accepted at
entry_low p stack names t s accepted (inr at) = ending_low s.top.kind at.ret t.state.pc _ at.ends

-- the machine is whole: so a word behind an item's first
whole_inside : (p : Program) (m : MachineState) → IsInside Unchanged p m → m.half ≡ None → IsBehind Unchanged p m.pc
whole_inside p m (inl half) whole = absurd (half whole)
whole_inside p m (inr behind) whole = behind

calls_behind : (p : Program) (d : Data) (stack n : ℕ) (names : List Held) (u t : Situation) (s : State) → IsAccepted p → OnWay Unchanged p d (on_stack stack) n u t → AtCall p stack names t s ⊎ AtEnd p stack names t s → 0x10000 ≤ u.state.pc → u.state.half ≡ None → IsBehind Unchanged p u.state.pc
calls_behind p d stack zero names u t s accepted way at code whole =
    let low = entry_low p stack names t s accepted at in
    let same = ap (λ (v : Situation). v.state.pc) way in
    let never : ⊥ = omega (arith, low, same, code) in
    absurd never
calls_behind p d stack (suc n) names u t s accepted way at code whole = whole_inside p u.state way.0 whole

passes_behind : (p : Program) (d : Data) (stack n : ℕ) (u t : Situation) → 1 ≤ n → OnWay Unchanged p d (on_stack stack) n u t → u.state.half ≡ None → IsBehind Unchanged p u.state.pc
passes_behind p d stack zero u t some way whole = let never : ⊥ = omega (arith, some) in absurd never
passes_behind p d stack (suc n) u t some way whole = whole_inside p u.state way.0 whole

amid_behind : (p : Program) (d : Data) (limits : Limits) (drawn : ℕ) (r : PlainRun) (s : State) (left : ℕ) → IsAccepted p → IsAmid p d limits drawn r s left → left < 42 → 0x10000 ≤ r.machine.pc → r.machine.half ≡ None → IsBehind Unchanged p r.machine.pc
amid_behind p d limits drawn r s left accepted (inl starts) few code whole = let never : ⊥ = omega (arith, starts.0, few) in absurd never
amid_behind p d limits drawn r s left accepted (inr (inl calls)) few code whole =
    calls_behind p d limits.stack calls.n calls.names (situation r.machine r.board.words.stack) calls.t s accepted calls.way calls.at code whole
amid_behind p d limits drawn r s left accepted (inr (inr passes)) few code whole =
    passes_behind p d limits.stack passes.goes.comes.n (situation r.machine r.board.words.stack) passes.goes.comes.t passes.some passes.goes.comes.way whole

pub amid_elsewhere : (p : Program) (image : Image) (d : Data) (limits : Limits) (drawn : ℕ) (r : PlainRun) (s : State) (left : ℕ) → IsUnderWay p image d limits drawn r s left → left < 42 → 0x10000 ≤ r.machine.pc → r.machine.half ≡ None → slice_get image.begins (word_index r.machine.pc) ≡ Some false
amid_elsewhere p image d limits drawn r s left under few code whole =
    let pi = under.tables.is_plain in
    no_beginning p image r.machine.pc pi (amid_behind p d limits drawn r s left pi.accepted under.amid few code whole)

-- ---- a look at the table

-- a machine that isn't half done is whole
pub whole_where : {T : Type 0} (half : Option T) (is_half : Bool) → is_half ≡ is_some half → is_half ≡ false → half ≡ None
whole_where None is_half is whole = refl
whole_where (Some word) is_half is whole = cc
