-- A run that is opened stands for the first state of the ordinary-call run: opened_ready. Before it come its parts: opened and opened_by (the
-- machine's state), machine_opened (the machine with its stack words), board_opened (the board), started_stands (the registers and the
-- activation of main) and kept_opened (names, cells and notes).
use Rattle.std.proofs.Common.{◌≡◌, ℕ, zero, suc, ◌+◌, ◌*◌, ◌/◌, ◌<◌, ◌≤◌, ◌^◌, cond, List, [], ◌∷◌, length, replicate, reverse, get_or, Option, Some, None, slice_get, refl, ap, sym, ◌∙◌, subst, subst₂, arith, lit<}
use Rattle.std.specs.Prelude.{nat_le, nat_lt, ◌&&◌, slice_index, slice_index_or}
use Rattle.std.proofs.lemmas.List.{length-replicate}
use Rattle.std.proofs.lemmas.List.FromFn.{get_or-map-range_with_len}
use Rattle.std.proofs.lemmas.Option.{same_Some}
use Rattle.st_base.specs.declared.image.Image.{Image}
use Rattle.st_base.specs.declared.limits.Limits.{Limits}
use Rattle.st_base.specs.declared.reg.Reg.TheVariants as registers
use Rattle.st_base.specs.declared.registers.Pick.TheVariants.{Arguments}
use Rattle.st_base.specs.declared.thread.Held.{Held}
use Rattle.st_base.specs.declared.thread.Held.TheVariants.{Number, Future}
use Rattle.st_base.specs.Registers.{picked, write_register, zeroed}
use Rattle.st_model.specs.declared.code.Layout.TheVariants.{Unchanged}
use Rattle.st_model.specs.declared.ordinary.State.{State}
use Rattle.st_model.specs.declared.program.Program.{Program}
use Rattle.st_model.specs.declared.program.ProgramFunction.{ProgramFunction}
use Rattle.st_model.specs.Layout.{code_of, function_address}
use Rattle.st_model.specs.Memory.{Data}
use Rattle.st_model.specs.Ordinary.{start, started}
use Rattle.st_model.proofs.Places.{between_from}
use Rattle.st_words.specs.declared.plain.PlainBoard.{PlainBoard}
use Rattle.st_words.specs.declared.view.View.{View}
use Rattle.st_words.specs.declared.words.Words.{Words}
use Rattle.st_words.specs.Plain.{view_at, first_view, first_views, first_words}
use Rattle.st_words.specs.Steps.{Holds}
use Rattle.st_words.proofs.Opening.{first_view_at, first_views_count}
use Rattle.st_step.specs.declared.state.State.{State as MachineState}
use Rattle.st_step.specs.Moves.{first_state, written, at_place}
use Rattle.st_step.specs.Runs.{AreValues, AreWords}
use Rattle.st_step.proofs.Writes.{values-written}
use Rattle.st_plain.specs.declared.cells.Cell.{Cell}
use Rattle.st_plain.specs.declared.cells.Cell.TheVariants.{Future as FutureCell}
use Rattle.st_plain.specs.declared.cells.Note.{Note}
use Rattle.st_plain.specs.declared.run.PlainRun.{PlainRun}
use Rattle.st_plain.specs.Answer.{IsPlainImage}
use Rattle.st_items.specs.Tables.{begins_of, handles_of, instructions_of}
use Rattle.st_step.specs.Frames.{value_in}
use Rattle.st_plain.specs.Frames.{by_place, HasFile, IsHeldAs, end_entry}
use Rattle.st_plain.specs.Running.{HasBoard, IsDefinedFrom, IsKept, IsReady}
use Rattle.st_plain.specs.Standing.{IsMachine, Stands, situation, stack_start}
use Rattle.st_plain.specs.Threads.{NamesStand, NotesStand, HandlesStand}
use Rattle.st_items.proofs.Addresses.{first_address}
use Rattle.st_items.proofs.KeptFiles.{file_returned, frameless_arguments, picked_file}
use Rattle.st_plain.proofs.Naming.{first_names}
use Rattle.st_plain.proofs.Notes.{first_notes}
use Rattle.st_plain.proofs.Rests.{first_rest, started_gives}

-- a list that repeats one element has it everywhere, also past its end where that is what is read there
same_everywhere : {X : Type 0} (n x : ℕ) (d : X) → get_or (replicate n d) x d ≡ d
same_everywhere zero x d = refl
same_everywhere (suc n) zero d = refl
same_everywhere (suc n) (suc x) d = same_everywhere n x d

-- ---- the machine

-- on a stack up to high: sp is there, ra is the entry behind the root's first call, a0 has the length of the input
abbrev pub opened : ℕ → ℕ → ℕ → MachineState
opened high input pc = at_place pc (written (written (written (first_state stack_start high) registers.Sp high) registers.Ra end_entry) registers.A0 input)

-- by the states on the way to it
pub opened_by : (high input pc : ℕ) (first with_sp with_ra with_input last : MachineState) → first ≡ first_state stack_start high → with_sp ≡ written first registers.Sp high → with_ra ≡ written with_sp registers.Ra end_entry
    → with_input ≡ written with_ra registers.A0 input → last ≡ at_place pc with_input → last ≡ opened high input pc
opened_by high input pc first with_sp with_ra with_input last new sp ra length_in place =
    place ∙ ap (at_place pc) (length_in ∙ ap (λ m. written m registers.A0 input) (ra ∙ ap (λ m. written m registers.Ra end_entry) (sp ∙ ap (λ m. written m registers.Sp high) new)))

first_values : (lo hi : ℕ) → AreValues (first_state lo hi)
first_values lo hi x = subst (λ n. n < 2 ^ 64) (sym (same_everywhere 32 x 0)) (lit< tt)

zero_words : (count : ℕ) → AreWords (λ q. slice_index (replicate count 0) q)
zero_words count q = subst (λ n. n < 2 ^ 64) (sym (same_everywhere count q 0)) (lit< tt)

opened_values : (high input pc : ℕ) → high < 2 ^ 64 → input < 2 ^ 64 → AreValues (opened high input pc)
opened_values high input pc few less =
    let with_sp = values-written (first_state stack_start high) registers.Sp high (first_values stack_start high) few in
    let with_ra = values-written (written (first_state stack_start high) registers.Sp high) registers.Ra end_entry with_sp (lit< tt) in
    values-written (written (written (first_state stack_start high) registers.Sp high) registers.Ra end_entry) registers.A0 input with_ra less

pub machine_opened : (stack input pc count : ℕ) → stack ≤ 1048576 → input < 2 ^ 64 → IsMachine stack (situation (opened (stack_start + stack) input pc) (replicate count 0))
machine_opened stack input pc count few less = record {
  has_registers = record { count = refl; origin = refl };
  values = opened_values (stack_start + stack) input pc (omega arith) less;
  words = zero_words count;
  lo = refl;
  hi = refl;
  above = omega arith;
}

-- ---- the board

one_view : (limits : Limits) → view_at (first_views limits 1) 0 ≡ first_view limits 1 0
one_view limits = first_view_at limits 1 0 (omega arith)

all_held : (limits : Limits) (q : ℕ) → q < limits.stack / 8 → Holds (first_view limits 1 0) q
all_held limits q inside =
    let each = limits.stack / 8 in
    let own = between_from (0 * each) ((0 + 1) * each) q (omega arith) (omega arith) in
    (0, get_or-map-range_with_len (λ p. cond (nat_le (0 * each) p && nat_lt p ((0 + 1) * each)) (Some 0) None) 0 (1 * each) q q None (omega arith) (omega arith) ∙ ap (λ b. cond b (Some 0) None) own)

stack_opened : (limits : Limits) (words : Words) → words ≡ first_words limits 1 → words.stack ≡ replicate (1 * (limits.stack / 8)) 0
unfolding first_words
stack_opened limits words is = ap (λ (x : Words). x.stack) is

pub long_opened : (limits : Limits) (words : Words) → words ≡ first_words limits 1 → length words.stack ≡ limits.stack / 8
long_opened limits words is =
    let stack = ap length (stack_opened limits words is) ∙ length-replicate (1 * (limits.stack / 8)) 0 in
    omega (arith, stack)

pub board_opened : (limits : Limits) (board : PlainBoard) → board.words ≡ first_words limits 1 → board.kept.views ≡ first_views limits 1 → HasBoard board
board_opened limits board words views =
    let view : view_at board.kept.views 0 ≡ first_view limits 1 0 = ap (λ (vs : List View). view_at vs 0) views ∙ one_view limits in
    let long = long_opened limits board.words words in
    record {
      one = first_views_count limits 1 board.kept.views views;
      holds = λ q inside. subst (λ (v : View). Holds v q) (sym view) (all_held limits q (omega (arith, inside, long)));
      none_exported = ap (λ (v : View). v.exported) view;
      none_away = ap (λ (v : View). v.away) view;
    }

-- ---- registers and frames

zeroed_long : length zeroed ≡ 32
unfolding zeroed
zeroed_long = refl

zeroed_at : (names : List Held) (value : ℕ → ℕ) (x : ℕ) (held : Held) → value 0 ≡ 0 → slice_index_or zeroed x None ≡ Some held → IsHeldAs names held (value x)
unfolding zeroed
zeroed_at names value zero held origin there = subst (λ (h : Held). IsHeldAs names h (value 0)) (same_Some (Number 0) held there) origin
zeroed_at names value (suc x) held origin there = let none : Option Held = None in let nothing = same_everywhere 31 x none in let never : ⊥ = cc in absurd never

-- main's arguments are in their registers
file_opened : (names : List Held) (ints input : ℕ) (value : ℕ → ℕ) → value 0 ≡ 0 → value 10 ≡ input → HasFile names (picked (Arguments ints 0) (write_register zeroed registers.A0 (Number input))) value
file_opened names ints input value origin first =
    picked_file (by_place names) (Arguments ints 0) (write_register zeroed registers.A0 (Number input)) value
    (file_returned (by_place names) zeroed (Number input) value zeroed_long (λ x held there. zeroed_at names value x held origin there) first)

pub started_stands : (p : Program) (stack input pc count : ℕ) (function : Option ProgramFunction) (s : State) → stack ≤ 1048576 → input < 2 ^ 64 → pc ≡ function_address Unchanged p p.main → slice_get p.functions p.main ≡ function → started p input function ≡ Some s
    → Stands p stack (Future [] ∷ []) (situation (opened (stack_start + stack) input pc) (replicate count 0)) s
started_stands p stack input pc count None s few less at here starts = let never : ⊥ = cc in absurd never
started_stands p stack input pc count (Some function) s few less at here starts =
    let names : List Held = Future [] ∷ [] in
    let machine : MachineState = opened (stack_start + stack) input pc in
    subst (λ (t : State). Stands p stack names (situation machine (replicate count 0)) t) (same_Some _ s starts)
    record {
      stands = record {
        function = function;
        here = here;
        machine = machine_opened stack input pc count few less;
        file = file_opened names function.ints input (value_in machine) refl refl;
        frameless = frameless_arguments function.ints 0 (write_register zeroed registers.A0 (Number input));
        frames = (refl, refl, (refl, refl, refl, refl));
      };
      at = at ∙ sym (first_address Unchanged p p.main function);
      whole = refl;
    }

-- ---- the threads

-- the root stands below no fork
handles_opened : (p : Program) (input : ℕ) (o : Option ProgramFunction) (s : State) → started p input o ≡ Some s → HandlesStand p s.top.kind s.rest.older s.rest.thread.handle s.rest.parents
handles_opened p input None s e = let no : ⊥ = cc in absurd no
handles_opened p input (Some function) s e = subst (λ (t : State). HandlesStand p t.top.kind t.rest.older t.rest.thread.handle t.rest.parents) (same_Some _ s e) refl

pub kept_opened : (p : Program) (limits : Limits) (cells : List Cell) (notes : List Note) (out : List ℕ) (s : State) → s.rest ≡ first_rest → cells ≡ FutureCell None ∷ [] → notes ≡ record { cell = 0; forks = 0; counters = 0; handle = registers.Zero } ∷ [] → out ≡ [] → 1 ≤ limits.cells → HandlesStand p s.top.kind s.rest.older s.rest.thread.handle s.rest.parents
    → IsKept p limits (Future [] ∷ []) cells notes out s
kept_opened p limits cells notes out s rest are note none least handles = record {
  handles = handles;
  stand = subst₂ (NamesStand (Future [] ∷ [])) (sym are) (sym rest) first_names;
  notes_stand = subst₂ (λ (ns : List Note) r. NotesStand (Future [] ∷ []) (reverse ns) (r.thread ∷ r.parents)) (sym note) (sym rest) first_notes;
  printed = ap (λ r. r.out) rest ∙ sym none;
  few_cells = let one = ap length are in omega (arith, one, least);
  few_bytes = let empty = ap length none in omega (arith, empty);
}

-- ---- the run

pub opened_ready : (p : Program) (image : Image) (d : Data) (limits sizes : Limits) (r : PlainRun) (s : State) → sizes.stack ≡ limits.stack → IsPlainImage p image → start p d ≡ Some s → IsDefinedFrom p d s → limits.stack ≤ 1048576 → 1 ≤ limits.cells → length d.input < 2 ^ 64
    → r.machine ≡ opened (stack_start + limits.stack) (length d.input) image.main_at → r.board.words ≡ first_words sizes 1 → r.board.kept.views ≡ first_views sizes 1
    → instructions_of r.code.instructions.items ≡ code_of Unchanged p → begins_of r.code.instructions.items ≡ image.begins → r.code.handles.items ≡ handles_of image.forks (replicate (length image.words) registers.Zero)
    → r.threads.cells.most ≡ limits.cells → r.threads.cells.items.items ≡ FutureCell None ∷ [] → r.threads.notes.items.items ≡ record { cell = 0; forks = 0; counters = 0; handle = registers.Zero } ∷ [] → r.threads.out.items.items ≡ []
    → IsReady p image d limits r s
opened_ready p image d limits sizes r s same pi starts defined few least less machine words views instructions begins handles most cells notes out = record {
  tables = record { is_plain = pi; instructions = instructions; begins = begins; handles = handles; most = most; long = long_opened sizes r.board.words words ∙ ap (λ (n : ℕ). n / 8) same };
  at = record {
    names = Future [] ∷ [];
    kept = kept_opened p limits r.threads.cells.items.items r.threads.notes.items.items r.threads.out.items.items s (started_gives p (length d.input) (slice_get p.functions p.main) s starts) cells notes out least (handles_opened p (length d.input) (slice_get p.functions p.main) s starts);
    stands =
        subst₂ (λ (m : MachineState) (stack : List ℕ). Stands p limits.stack (Future [] ∷ []) (situation m stack) s) (sym machine) (sym (stack_opened sizes r.board.words words))
        (started_stands p limits.stack (length d.input) image.main_at (1 * (sizes.stack / 8)) (slice_get p.functions p.main) s few less pi.is_image.main refl starts);
  };
  defined = defined;
}
