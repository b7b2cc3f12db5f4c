-- The runtime calls on futures and counters: from what they do with the machine and the cells to what the ordinary-call run does. Read
-- touch_goes, counter_goes, done_goes and join_goes, and beside them how each ends a run.
use Rattle.std.proofs.Common.{◌≡◌, ℕ, ◌+◌, ◌-◌, ◌^◌, ◌<◌, ◌≤◌, Bool, true, false, List, [], ◌∷◌, ◌++◌, length, length-append, Option, Some, None, slice_get, slice_set, refl, ap, sym, ◌∙◌, subst, arith, inl, inr}
use Rattle.std.specs.Prelude.{nat_lt, reverse}
use Rattle.std.proofs.lemmas.Bool.{ltb-true}
use Rattle.std.proofs.lemmas.List.{length-set}
use Rattle.st_base.specs.declared.image.Image.{Image}
use Rattle.st_base.specs.declared.limits.Limits.{Limits}
use Rattle.st_base.specs.declared.limits.LimitKind.TheVariants as limit_kinds
use Rattle.st_base.specs.declared.line.Line.{Line}
use Rattle.st_base.specs.declared.reg.Reg.TheVariants as registers
use Rattle.st_base.specs.declared.registers.Pick.TheVariants.{Saved}
use Rattle.st_base.specs.declared.thread.Held.{Held}
use Rattle.st_base.specs.declared.thread.Held.TheVariants.{Number, Future, Counter}
use Rattle.st_base.specs.declared.thread.TrapKind.TheVariants.{WrongHandle}
use Rattle.st_base.specs.Registers.{read_register, write_register, picked}
use Rattle.st_model.specs.declared.effect.Effect.{Effect}
use Rattle.st_model.specs.declared.effect.Effect.TheVariants.{Touches, Adds, Joins}
use Rattle.st_model.specs.declared.ordinary.OrdEnd.TheVariants as ends
use Rattle.st_model.specs.declared.ordinary.Rest.{Rest}
use Rattle.st_model.specs.declared.ordinary.State.{State}
use Rattle.st_model.specs.declared.ordinary.Turn.TheVariants.{Undefined, Over}
use Rattle.st_model.specs.declared.program.Program.{Program}
use Rattle.st_model.specs.declared.program.ProgramFunction.{ProgramFunction}
use Rattle.st_model.specs.declared.program.RuntimeCall.{RuntimeCall}
use Rattle.st_model.specs.declared.program.RuntimeCall.TheVariants as calls
use Rattle.st_model.specs.Accepted.{MayWrite}
use Rattle.st_model.specs.Effect.{advanced, int, number_of, name_of, with_number, with_name, entry_effect}
use Rattle.st_model.specs.Memory.{Data}
use Rattle.st_model.specs.Ordinary.{step, apply, trapped, touched, got, added, joined, joined_when, value_of, count_of, counted, counted_up}
use Rattle.st_step.specs.Moves.{register, written, at_place}
use Rattle.st_plain.specs.declared.cells.Cell.{Cell}
use Rattle.st_plain.specs.declared.cells.Cell.TheVariants.{Future as FutureCell, Counter as CounterCell}
use Rattle.st_plain.specs.declared.cells.Note.{Note}
use Rattle.st_plain.specs.declared.run.PlainRun.{PlainRun}
use Rattle.st_plain.specs.declared.stop.Ending.TheVariants as endings
use Rattle.st_items.specs.Code.{word_index}
use Rattle.st_plain.specs.Frames.{IsHeldAs}
use Rattle.st_plain.specs.Running.{HasTables, IsAtEntry, GoesOn, EndsBy}
use Rattle.st_plain.specs.Standing.{situation}
use Rattle.st_plain.specs.Threads.{NamesStand, NotesStand, counted_notes}
use Rattle.st_plain.proofs.AtEntry.{IsCalling, calling, no_limit, back_line}
use Rattle.st_plain.proofs.GoingBack.{goes_by, kept_stands, written_stands}
use Rattle.st_plain.proofs.Growing.{get_new, call_grows}
use Rattle.st_plain.proofs.Naming.{fits_length, value_there, count_there, after_counter, after_add}
use Rattle.st_items.proofs.Registers.{IsApart, body_apart}
use Rattle.st_plain.proofs.RunEnds.{trap_ends, waits_end, cells_end, cells_left}
use Rattle.st_plain.proofs.RunningThread.{within_list, notes_counted}

-- ---- names and numbers in registers

abbrev IsName : Held → Type 0
IsName (Number n) = ⊥
IsName _ = Prim.Unit

-- where nothing undefined is read, a name is there
named_by : (rest : Rest) (line : Line) (o : Option Held) (go : Held → Effect) → (apply rest line (with_name (name_of o) go) ≡ Undefined → ⊥) → (name : Held) × IsName name × (o ≡ Some name) × (with_name (name_of o) go ≡ go name)
named_by rest line None go defined = absurd (defined refl)
named_by rest line (Some (Number n)) go defined = absurd (defined refl)
named_by rest line (Some (Future path)) go defined = (Future path, tt, refl, refl)
named_by rest line (Some (Counter path n)) go defined = (Counter path n, tt, refl, refl)

-- and so is a number
pub number_by : (rest : Rest) (line : Line) (o : Option Held) (go : ℕ → Effect) → (apply rest line (with_number (number_of o) go) ≡ Undefined → ⊥) → (n : ℕ) × (o ≡ Some (Number n)) × (with_number (number_of o) go ≡ go n)
number_by rest line None go defined = absurd (defined refl)
number_by rest line (Some (Number n)) go defined = (n, refl, refl)
number_by rest line (Some (Future path)) go defined = absurd (defined refl)
number_by rest line (Some (Counter path n)) go defined = absurd (defined refl)

held_named : (names : List Held) (name : Held) (n : ℕ) → IsName name → IsHeldAs names name n → slice_get names n ≡ Some name
held_named names (Number k) n is holds = absurd is
held_named names (Future path) n is holds = holds
held_named names (Counter maker k) n is holds = holds

-- the name of a future's cell, and of a counter's
cell_future : (names : List Held) (cells : List Cell) (rest : Rest) (n : ℕ) (name : Held) (v : Option ℕ) → NamesStand names cells rest → IsName name → slice_get names n ≡ Some name → slice_get cells n ≡ Some (FutureCell v)
    → (path : List ℕ) × (name ≡ Future path) × (value_of rest.ended path ≡ v)
cell_future names cells rest n (Number k) v stand is at cell = absurd is
cell_future names cells rest n (Future path) v stand is at cell =
    let there = value_there names cells rest n path stand at in
    let found = there.1 in
    let same : there.0 ≡ v = cc in
    (path, refl, sym there.2 ∙ same)
cell_future names cells rest n (Counter maker k) v stand is at cell =
    let there = count_there names cells rest n maker k stand at in
    let found = there.1 in
    absurd (let never : ⊥ = cc in never)

cell_counter : (names : List Held) (cells : List Cell) (rest : Rest) (n : ℕ) (name : Held) (count : ℕ) → NamesStand names cells rest → IsName name → slice_get names n ≡ Some name → slice_get cells n ≡ Some (CounterCell count)
    → (maker : List ℕ) × (number : ℕ) × (name ≡ Counter maker number) × (count_of rest.counts maker number ≡ count)
cell_counter names cells rest n (Number k) count stand is at cell = absurd is
cell_counter names cells rest n (Future path) count stand is at cell =
    let there = value_there names cells rest n path stand at in
    let found = there.1 in
    absurd (let never : ⊥ = cc in never)
cell_counter names cells rest n (Counter maker k) count stand is at cell =
    let there = count_there names cells rest n maker k stand at in
    let found = there.1 in
    let same : there.0 ≡ count = cc in
    (maker, k, refl, sym there.2 ∙ same)

-- ---- registers of calls

pub a0_apart : IsApart registers.A0
a0_apart = body_apart registers.A0 (inl refl)

pub a6_apart : IsApart registers.A6
a6_apart = body_apart registers.A6 (inr refl)

a0_written : (function : ProgramFunction) → MayWrite function registers.A0
a0_written function = ((λ e. absurd (omega (arith, e))), (λ e. absurd (let never : ⊥ = cc in never)))

a6_written : (function : ProgramFunction) → MayWrite function registers.A6
a6_written function = ((λ e. absurd (omega (arith, e))), (λ e. absurd (let never : ⊥ = cc in never)))

-- ---- the calls

module _ (p : Program) (d : Data) (image : Image) (limits : Limits) (r r' : PlainRun) (names : List Held) (s : State) (tables : HasTables p image limits r) (entry : IsAtEntry p limits r names s) (defined : step p d s ≡ Undefined → ⊥) where
  -- the name in a6
  pub named : (call : RuntimeCall) (go : Held → Effect) (at : IsCalling p d limits names (situation r.machine r.board.words.stack) s call) → entry_effect call s.top s.registers ≡ with_name (name_of (read_register s.registers registers.A6)) go
      → (name : Held) × IsName name × (slice_get names (register r.machine registers.A6) ≡ Some name) × (step p d s ≡ apply s.rest at.at.item.line (go name))
  named call go at is =
      let steps = at.steps ∙ ap (apply s.rest at.at.item.line) is in
      let name = named_by s.rest at.at.item.line (read_register s.registers registers.A6) go (λ e. defined (steps ∙ e)) in (
        name.0,
        name.1,
        held_named names name.0 (register r.machine registers.A6) name.1 (at.at.stands.file 16 name.0 name.2),
        steps ∙ ap (apply s.rest at.at.item.line) name.3,
      )

  module _ (is_touch : r.machine.pc ≡ 0x40) where
    touching : IsCalling p d limits names (situation r.machine r.board.words.stack) s calls.Touch
    touching = calling p d image limits r names s 0x40 calls.Touch tables.is_plain entry is_touch (λ e. omega arith) (λ e. omega arith) (λ e. omega arith) refl

    pub touch_inside : register r.machine registers.A6 < length r.threads.cells.items.items
    touch_inside =
        let name = named calls.Touch (λ name. Touches name (advanced s.top) (picked Saved s.registers)) touching refl in
        let less = within_list names (register r.machine registers.A6) name.0 name.2 in
        let long = fits_length names r.threads.cells.items.items s.rest entry.kept.stand in
        omega (arith, less, long)

    touch_steps : (v : Option ℕ) → slice_get r.threads.cells.items.items (register r.machine registers.A6) ≡ Some (FutureCell v) → step p d s ≡ got v s.rest (advanced s.top) (picked Saved s.registers)
    touch_steps v cell =
        let name = named calls.Touch (λ name. Touches name (advanced s.top) (picked Saved s.registers)) touching refl in
        let future = cell_future names r.threads.cells.items.items s.rest (register r.machine registers.A6) name.0 v entry.kept.stand name.1 name.2 cell in
        name.3
        ∙ ap (λ (h : Held). touched s.rest touching.at.item.line h (advanced s.top) (picked Saved s.registers)) future.1
        ∙ ap (λ (o : Option ℕ). got o s.rest (advanced s.top) (picked Saved s.registers)) future.2

    -- a thread that hasn't ended isn't touched
    pub touch_ended : slice_get r.threads.cells.items.items (register r.machine registers.A6) ≡ Some (FutureCell None) → ⊥
    touch_ended cell = defined (touch_steps None cell)

    pub touch_goes : (v : ℕ) → slice_get r.threads.cells.items.items (register r.machine registers.A6) ≡ Some (FutureCell (Some v)) → v < 2 ^ 64
        → r'.machine ≡ at_place (register r.machine registers.Ra) (written r.machine registers.A0 v) → r'.board.words.stack ≡ r.board.words.stack → r'.threads ≡ r.threads → GoesOn p d limits (length r.threads.cells.items.items) r' s
    touch_goes v cell less machine_is words_are threads_are =
        let kept = entry.kept in
        goes_by p d limits (length r.threads.cells.items.items) r' s (record { top = advanced s.top; registers = write_register (picked Saved s.registers) registers.A0 (Number v); rest = s.rest }) names 0
        (situation (at_place (register r.machine registers.Ra) (written r.machine registers.A0 v)) r.board.words.stack) (at_place (register r.machine registers.Ra) (written r.machine registers.A0 v)) r.board.words.stack r.threads.cells.items.items r.threads.out.items.items
        (touching.limit (length r.threads.cells.items.items) ∙ no_limit (limits.cells - length r.threads.cells.items.items) (length s.top.bytes)) (touch_steps (Some v) cell) kept.handles (omega arith) refl
        (written_stands p limits.stack names (situation r.machine r.board.words.stack) s registers.A0 v (Number v) s.rest tables.is_plain.accepted touching.at touching.size touching.begun (inl refl) a0_written less refl refl refl)
        kept.stand (subst (λ (threads : _). NotesStand names (reverse threads.notes.items.items) (s.rest.thread ∷ s.rest.parents)) (sym threads_are) kept.notes_stand) kept.printed kept.few_cells kept.few_bytes (let none = touching.drawn in omega (arith, none)) machine_is words_are
        (ap (λ threads. threads.cells.items.items) threads_are) (ap (λ threads. threads.out.items.items) threads_are)

    pub touch_traps : (count : ℕ) (line : Line) → slice_get r.threads.cells.items.items (register r.machine registers.A6) ≡ Some (CounterCell count) → slice_get image.lines (word_index (register r.machine registers.Ra - 4)) ≡ Some line
        → EndsBy p d limits (length r.threads.cells.items.items) r.threads.notes.items.items r.threads.out.items.items s (endings.Trap WrongHandle line)
    touch_traps count line cell there =
        let name = named calls.Touch (λ name. Touches name (advanced s.top) (picked Saved s.registers)) touching refl in
        let counter = cell_counter names r.threads.cells.items.items s.rest (register r.machine registers.A6) name.0 count entry.kept.stand name.1 name.2 cell in
        let found = back_line p image limits.stack names (situation r.machine r.board.words.stack) s tables.is_plain touching.at in
        let same : touching.at.item.line ≡ line = cc in
        trap_ends p d limits (length r.threads.cells.items.items) names r.threads.cells.items.items r.threads.notes.items.items r.threads.out.items.items s entry.kept (touching.limit (length r.threads.cells.items.items) ∙ no_limit (limits.cells - length r.threads.cells.items.items) (length s.top.bytes)) WrongHandle line
        (name.3 ∙ ap (λ (h : Held). touched s.rest touching.at.item.line h (advanced s.top) (picked Saved s.registers)) counter.2 ∙ ap (λ (l : Line). trapped s.rest WrongHandle l) same)

  module _ (is_counter : r.machine.pc ≡ 0x50) where
    counting : IsCalling p d limits names (situation r.machine r.board.words.stack) s calls.Counter
    counting = calling p d image limits r names s 0x50 calls.Counter tables.is_plain entry is_counter (λ e. omega arith) (λ e. omega arith) (λ e. omega arith) refl

    pub counter_goes : nat_lt (length r.threads.cells.items.items) r.threads.cells.most ≡ true → r.threads.cells.most ≤ 65536
        → r'.machine ≡ at_place (register r.machine registers.Ra) (written r.machine registers.A6 (length r.threads.cells.items.items)) → r'.board.words.stack ≡ r.board.words.stack
        → r'.threads.cells.items.items ≡ r.threads.cells.items.items ++ CounterCell 0 ∷ [] → reverse r'.threads.notes.items.items ≡ counted_notes (reverse r.threads.notes.items.items) → r'.threads.out.items.items ≡ r.threads.out.items.items
        → GoesOn p d limits (length r.threads.cells.items.items) r' s
    counter_goes room few machine_is words_are cells_are notes_are out_is =
        let kept = entry.kept in
        let cells = r.threads.cells.items.items in
        let n = length cells in
        let name : Held = Counter s.rest.thread.path s.rest.thread.counters in
        let t = situation r.machine r.board.words.stack in
        let m = at_place (register r.machine registers.Ra) (written r.machine registers.A6 n) in
        let next : State = record {
          top = advanced s.top;
          registers = write_register (picked Saved s.registers) registers.A6 name;
          rest = record s.rest {
            thread = record s.rest.thread { counters = s.rest.thread.counters + 1 };
            counts = s.rest.counts ++ record { maker = s.rest.thread.path; number = s.rest.thread.counters; count = 0 } ∷ [];
          };
        } in
        let inside : n < r.threads.cells.most = ltb-true n r.threads.cells.most room in
        let most = tables.most in
        let long = length-append cells (CounterCell 0 ∷ []) in
        let there : slice_get (names ++ name ∷ []) n ≡ Some name = ap (slice_get (names ++ name ∷ [])) (sym (fits_length names cells s.rest kept.stand)) ∙ get_new names name in
        let grown = call_grows names (name ∷ []) p limits.stack t s counting.begun counting.at in
        goes_by p d limits n r' s next (names ++ name ∷ []) 0 (situation m r.board.words.stack) m r.board.words.stack (cells ++ CounterCell 0 ∷ []) r.threads.out.items.items
        (cells_left p limits n r.threads.cells.most (length s.top.bytes) s (counting.limit n) most room) counting.steps kept.handles (omega arith) refl
        (written_stands p limits.stack (names ++ name ∷ []) t s registers.A6 n name next.rest tables.is_plain.accepted grown counting.size counting.begun (inr refl) a6_written (omega arith) there refl refl)
        (after_counter names cells s.rest next.rest kept.stand refl)
        (subst (λ (notes : List Note). NotesStand (names ++ name ∷ []) notes (next.rest.thread ∷ next.rest.parents)) (sym notes_are) (notes_counted names (reverse r.threads.notes.items.items) s.rest next.rest kept.notes_stand refl))
        kept.printed (omega (arith, long, inside, most)) kept.few_bytes (let one = counting.drawn in omega (arith, one, long)) machine_is words_are cells_are out_is

    pub counter_full : nat_lt (length r.threads.cells.items.items) r.threads.cells.most ≡ false
        → EndsBy p d limits (length r.threads.cells.items.items) r.threads.notes.items.items r.threads.out.items.items s (endings.Limit (limit_kinds.Cell r.threads.cells.most))
    counter_full full =
        cells_end p d limits (length r.threads.cells.items.items) r.threads.cells.most (length s.top.bytes) r.threads.notes.items.items r.threads.out.items.items s (counting.limit (length r.threads.cells.items.items)) tables.most full

  module _ (is_done : r.machine.pc ≡ 0x60) where
    adding : IsCalling p d limits names (situation r.machine r.board.words.stack) s calls.Done
    adding = calling p d image limits r names s 0x60 calls.Done tables.is_plain entry is_done (λ e. omega arith) (λ e. omega arith) (λ e. omega arith) refl

    adding_name : (name : Held) × IsName name × (slice_get names (register r.machine registers.A6) ≡ Some name) × (step p d s ≡ added s.rest adding.at.item.line name (advanced s.top) (picked Saved s.registers))
    adding_name = named calls.Done (λ name. Adds name (advanced s.top) (picked Saved s.registers)) adding refl

    pub done_inside : register r.machine registers.A6 < length r.threads.cells.items.items
    done_inside =
        let name = adding_name in
        let less = within_list names (register r.machine registers.A6) name.0 name.2 in
        let long = fits_length names r.threads.cells.items.items s.rest entry.kept.stand in
        omega (arith, less, long)

    pub done_goes : (count : ℕ) → slice_get r.threads.cells.items.items (register r.machine registers.A6) ≡ Some (CounterCell count) → r'.machine ≡ at_place (register r.machine registers.Ra) r.machine → r'.board.words.stack ≡ r.board.words.stack
        → r'.threads.cells.items.items ≡ slice_set r.threads.cells.items.items (register r.machine registers.A6) (CounterCell (counted count)) → r'.threads.notes.items.items ≡ r.threads.notes.items.items → r'.threads.out.items.items ≡ r.threads.out.items.items
        → GoesOn p d limits (length r.threads.cells.items.items) r' s
    done_goes count cell machine_is words_are cells_are notes_are out_is =
        let kept = entry.kept in
        let cells = r.threads.cells.items.items in
        let n = register r.machine registers.A6 in
        let t = situation r.machine r.board.words.stack in
        let m = at_place (register r.machine registers.Ra) r.machine in
        let name = adding_name in
        let counter = cell_counter names cells s.rest n name.0 count kept.stand name.1 name.2 cell in
        let next : State = record { top = advanced s.top; registers = picked Saved s.registers; rest = record s.rest { counts = counted_up s.rest.counts counter.0 counter.1 } } in
        let long = length-set cells n (CounterCell (counted count)) in
        let few = kept.few_cells in
        goes_by p d limits (length cells) r' s next names 0 (situation m r.board.words.stack) m r.board.words.stack (slice_set cells n (CounterCell (counted count))) r.threads.out.items.items
        (adding.limit (length cells) ∙ no_limit (limits.cells - length cells) (length s.top.bytes)) (name.3 ∙ ap (λ (h : Held). added s.rest adding.at.item.line h (advanced s.top) (picked Saved s.registers)) counter.2) kept.handles (omega arith) refl
        (kept_stands p limits.stack names t s next.rest adding.at adding.size adding.begun refl refl)
        (after_add names cells s.rest next.rest counter.0 counter.1 n count kept.stand refl (name.2 ∙ ap (λ (h : Held). Some h) counter.2) cell)
        (subst (λ (notes : List Note). NotesStand names (reverse notes) (next.rest.thread ∷ next.rest.parents)) (sym notes_are) kept.notes_stand)
        kept.printed (omega (arith, long, few)) kept.few_bytes (let none = adding.drawn in omega (arith, none, long)) machine_is words_are cells_are out_is

    pub done_traps : (v : Option ℕ) (line : Line) → slice_get r.threads.cells.items.items (register r.machine registers.A6) ≡ Some (FutureCell v) → slice_get image.lines (word_index (register r.machine registers.Ra - 4)) ≡ Some line
        → EndsBy p d limits (length r.threads.cells.items.items) r.threads.notes.items.items r.threads.out.items.items s (endings.Trap WrongHandle line)
    done_traps v line cell there =
        let name = adding_name in
        let future = cell_future names r.threads.cells.items.items s.rest (register r.machine registers.A6) name.0 v entry.kept.stand name.1 name.2 cell in
        let found = back_line p image limits.stack names (situation r.machine r.board.words.stack) s tables.is_plain adding.at in
        let same : adding.at.item.line ≡ line = cc in
        trap_ends p d limits (length r.threads.cells.items.items) names r.threads.cells.items.items r.threads.notes.items.items r.threads.out.items.items s entry.kept (adding.limit (length r.threads.cells.items.items) ∙ no_limit (limits.cells - length r.threads.cells.items.items) (length s.top.bytes)) WrongHandle line
        (name.3 ∙ ap (λ (h : Held). added s.rest adding.at.item.line h (advanced s.top) (picked Saved s.registers)) future.1 ∙ ap (λ (l : Line). trapped s.rest WrongHandle l) same)

  module _ (is_join : r.machine.pc ≡ 0x70) where
    joining : IsCalling p d limits names (situation r.machine r.board.words.stack) s calls.Join
    joining = calling p d image limits r names s 0x70 calls.Join tables.is_plain entry is_join (λ e. omega arith) (λ e. omega arith) (λ e. omega arith) refl

    -- the name in a6, and the count in a0
    joining_name : (name : Held) × IsName name × (slice_get names (register r.machine registers.A6) ≡ Some name) × (step p d s ≡ joined s.rest joining.at.item.line name (register r.machine registers.A0) (advanced s.top) (picked Saved s.registers))
    joining_name =
        let go = λ (name : Held). with_number (int s.registers registers.A0) (λ n. Joins name n (advanced s.top) (picked Saved s.registers)) in
        let name = named calls.Join go joining refl in
        let number = number_by s.rest joining.at.item.line (read_register s.registers registers.A0) (λ n. Joins name.0 n (advanced s.top) (picked Saved s.registers)) (λ e. defined (name.3 ∙ e)) in
        let least : register r.machine registers.A0 ≡ number.0 = joining.at.stands.file 10 (Number number.0) number.1 in (
          name.0,
          name.1,
          name.2,
          name.3 ∙ ap (apply s.rest joining.at.item.line) number.2 ∙ ap (λ (n : ℕ). joined s.rest joining.at.item.line name.0 n (advanced s.top) (picked Saved s.registers)) (sym least),
        )

    pub join_inside : register r.machine registers.A6 < length r.threads.cells.items.items
    join_inside =
        let name = joining_name in
        let less = within_list names (register r.machine registers.A6) name.0 name.2 in
        let long = fits_length names r.threads.cells.items.items s.rest entry.kept.stand in
        omega (arith, less, long)

    join_steps : (count : ℕ) (less : Bool) → slice_get r.threads.cells.items.items (register r.machine registers.A6) ≡ Some (CounterCell count) → nat_lt count (register r.machine registers.A0) ≡ less
        → step p d s ≡ joined_when less s.rest joining.at.item.line (advanced s.top) (picked Saved s.registers)
    join_steps count less cell is =
        let name = joining_name in
        let least = register r.machine registers.A0 in
        let counter = cell_counter names r.threads.cells.items.items s.rest (register r.machine registers.A6) name.0 count entry.kept.stand name.1 name.2 cell in
        name.3
        ∙ ap (λ (h : Held). joined s.rest joining.at.item.line h least (advanced s.top) (picked Saved s.registers)) counter.2
        ∙ ap (λ (k : ℕ). joined_when (nat_lt k least) s.rest joining.at.item.line (advanced s.top) (picked Saved s.registers)) counter.3
        ∙ ap (λ (b : Bool). joined_when b s.rest joining.at.item.line (advanced s.top) (picked Saved s.registers)) is

    pub join_goes : (count : ℕ) → slice_get r.threads.cells.items.items (register r.machine registers.A6) ≡ Some (CounterCell count) → nat_lt count (register r.machine registers.A0) ≡ false
        → r'.machine ≡ at_place (register r.machine registers.Ra) r.machine → r'.board.words.stack ≡ r.board.words.stack → r'.threads ≡ r.threads → GoesOn p d limits (length r.threads.cells.items.items) r' s
    join_goes count cell is machine_is words_are threads_are =
        let kept = entry.kept in
        let cells = r.threads.cells.items.items in
        let m = at_place (register r.machine registers.Ra) r.machine in
        goes_by p d limits (length cells) r' s (record { top = advanced s.top; registers = picked Saved s.registers; rest = s.rest }) names 0 (situation m r.board.words.stack) m r.board.words.stack cells r.threads.out.items.items
        (joining.limit (length cells) ∙ no_limit (limits.cells - length cells) (length s.top.bytes)) (join_steps count false cell is) kept.handles (omega arith) refl
        (kept_stands p limits.stack names (situation r.machine r.board.words.stack) s s.rest joining.at joining.size joining.begun refl refl)
        kept.stand (subst (λ (threads : _). NotesStand names (reverse threads.notes.items.items) (s.rest.thread ∷ s.rest.parents)) (sym threads_are) kept.notes_stand) kept.printed kept.few_cells kept.few_bytes (let none = joining.drawn in omega (arith, none)) machine_is words_are
        (ap (λ threads. threads.cells.items.items) threads_are) (ap (λ threads. threads.out.items.items) threads_are)

    pub join_waits : (count : ℕ) (line : Line) → slice_get r.threads.cells.items.items (register r.machine registers.A6) ≡ Some (CounterCell count) → nat_lt count (register r.machine registers.A0) ≡ true
        → slice_get image.lines (word_index (register r.machine registers.Ra - 4)) ≡ Some line → EndsBy p d limits (length r.threads.cells.items.items) r.threads.notes.items.items r.threads.out.items.items s (endings.Waits line)
    join_waits count line cell is there =
        let found = back_line p image limits.stack names (situation r.machine r.board.words.stack) s tables.is_plain joining.at in
        let same : joining.at.item.line ≡ line = cc in
        waits_end p d limits (length r.threads.cells.items.items) names r.threads.cells.items.items r.threads.notes.items.items r.threads.out.items.items s entry.kept (joining.limit (length r.threads.cells.items.items) ∙ no_limit (limits.cells - length r.threads.cells.items.items) (length s.top.bytes)) line
        (join_steps count true cell is ∙ ap (λ (l : Line). Over (ends.Waits l s.rest.thread.path s.rest.out)) same)

    pub join_traps : (v : Option ℕ) (line : Line) → slice_get r.threads.cells.items.items (register r.machine registers.A6) ≡ Some (FutureCell v) → slice_get image.lines (word_index (register r.machine registers.Ra - 4)) ≡ Some line
        → EndsBy p d limits (length r.threads.cells.items.items) r.threads.notes.items.items r.threads.out.items.items s (endings.Trap WrongHandle line)
    join_traps v line cell there =
        let name = joining_name in
        let future = cell_future names r.threads.cells.items.items s.rest (register r.machine registers.A6) name.0 v entry.kept.stand name.1 name.2 cell in
        let found = back_line p image limits.stack names (situation r.machine r.board.words.stack) s tables.is_plain joining.at in
        let same : joining.at.item.line ≡ line = cc in
        trap_ends p d limits (length r.threads.cells.items.items) names r.threads.cells.items.items r.threads.notes.items.items r.threads.out.items.items s entry.kept (joining.limit (length r.threads.cells.items.items) ∙ no_limit (limits.cells - length r.threads.cells.items.items) (length s.top.bytes)) WrongHandle line
        (name.3 ∙ ap (λ (h : Held). joined s.rest joining.at.item.line h (register r.machine registers.A0) (advanced s.top) (picked Saved s.registers)) future.1 ∙ ap (λ (l : Line). trapped s.rest WrongHandle l) same)
