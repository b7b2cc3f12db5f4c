-- The entry that makes a thread, from what it does with the notes and the cells to what the ordinary-call run does: behind it the fork's second jump
-- calls the function (fork_goes), unless no cell is left (fork_full). The table has the fork's register
-- (fork_inside).
use Rattle.std.proofs.Common.{◌≡◌, inr, ℕ, ◌+◌, ◌-◌, ◌<◌, true, false, List, [], ◌∷◌, ◌++◌, length, length-append, Option, Some, None, slice_get, refl, ap, sym, ◌∙◌, subst, arith}
use Rattle.std.specs.Prelude.{nat_lt, reverse, replicate}
use Rattle.std.proofs.lemmas.Bool.{ltb-true}
use Rattle.st_base.specs.declared.image.Image.{Image}
use Rattle.st_base.specs.declared.limits.Limits.{Limits}
use Rattle.st_base.specs.declared.limits.LimitKind.TheVariants as limit_kinds
use Rattle.st_base.specs.declared.reg.Reg.{Reg}
use Rattle.st_base.specs.declared.reg.Reg.TheVariants as registers
use Rattle.st_base.specs.declared.registers.Pick.TheVariants.{Saved, Arguments}
use Rattle.st_base.specs.declared.thread.ActivationKind.TheVariants.{Forked}
use Rattle.st_base.specs.declared.thread.Held.{Held}
use Rattle.st_base.specs.declared.thread.Held.TheVariants.{Future}
use Rattle.st_base.specs.Registers.{picked}
use Rattle.st_model.specs.declared.code.Layout.TheVariants.{Unchanged}
use Rattle.st_model.specs.declared.ordinary.State.{State}
use Rattle.st_model.specs.declared.ordinary.Turn.TheVariants.{Goes}
use Rattle.st_model.specs.declared.program.ItemKind.{ItemKind}
use Rattle.st_model.specs.declared.program.ItemKind.TheVariants as items
use Rattle.st_model.specs.declared.program.Program.{Program}
use Rattle.st_model.specs.declared.program.ProgramFunction.{ProgramFunction}
use Rattle.st_model.specs.Effect.{advanced, entered, fork_into}
use Rattle.st_model.specs.Layout.{item_size}
use Rattle.st_model.specs.Memory.{Data}
use Rattle.st_model.specs.Ordinary.{step, apply}
use Rattle.st_model.proofs.Ending.{step_ordered}
use Rattle.st_step.specs.Moves.{register, at_place}
use Rattle.st_step.specs.Runs.{Situation}
use Rattle.st_plain.specs.declared.cells.Cell.TheVariants.{Future as FutureCell}
use Rattle.st_plain.specs.declared.cells.Note.{Note}
use Rattle.st_plain.specs.declared.run.PlainRun.{PlainRun}
use Rattle.st_plain.specs.declared.stop.Ending.TheVariants as endings
use Rattle.st_items.specs.Code.{word_index, HasItem}
use Rattle.st_items.specs.Tables.{handles_of}
use Rattle.st_items.specs.Ways.{Makes, OnWay}
use Rattle.st_plain.specs.Running.{HasTables, IsAtEntry, GoesOn, EndsBy}
use Rattle.st_plain.specs.Standing.{on_stack, situation, Stands, AtCall}
use Rattle.st_plain.specs.Threads.{NotesStand, forked_notes}
use Rattle.st_items.proofs.Addresses.{sized}
use Rattle.st_plain.proofs.AtEntry.{IsForking, forking, back_word}
use Rattle.st_plain.proofs.GoingBack.{goes_by}
use Rattle.st_plain.proofs.Growing.{call_grows}
use Rattle.st_plain.proofs.OnItems.{OlderThan, ends_at, are_ends, body_of, older_sees, at_entry, stands_entered}
use Rattle.st_items.proofs.Linking.{Entering, fork_back, fork_enters}
use Rattle.st_items.specs.Called.{IsAtSecond}
use Rattle.st_plain.specs.Frames.{by_place}
use Rattle.st_plain.proofs.Naming.{after_fork}
use Rattle.st_plain.proofs.RunEnds.{cells_end, cells_left}
use Rattle.st_plain.proofs.RunningThread.{within_list, notes_forked}
use Rattle.st_items.proofs.Tables.{handle_at}

fork_size : (function : ProgramFunction) (kind : ItemKind) (g : ℕ) (handle : Reg) → kind ≡ items.Fork g handle → item_size Unchanged function kind ≡ 3
fork_size function kind g handle is = ap (item_size Unchanged function) is

module _ (p : Program) (d : Data) (image : Image) (limits : Limits) (r r' : PlainRun) (names : List Held) (s : State) (tables : HasTables p image limits r) (entry : IsAtEntry p limits r names s) (is_fork : r.machine.pc ≡ 0x10) where
  making : IsForking p d limits names (situation r.machine r.board.words.stack) s
  making = forking p d image limits r names s tables.is_plain entry is_fork

  has_fork : HasItem p s.top.function making.at.stands.function s.top.next making.at.item
  has_fork = record { named = making.at.stands.here; placed = making.at.placed }

  -- the table has the fork's register
  fork_handle : slice_get r.code.handles.items (word_index (register r.machine registers.Ra - 4)) ≡ Some making.handle
  fork_handle =
      let word = back_word p limits.stack names (situation r.machine r.board.words.stack) s making.at in
      ap (λ (table : List Reg). slice_get table (word_index (register r.machine registers.Ra - 4))) tables.handles
      ∙ ap (λ (n : ℕ). slice_get (handles_of image.forks (replicate (length image.words) registers.Zero)) (word_index n)) word
      ∙ handle_at Unchanged p image s.top.function making.at.stands.function s.top.next making.at.item making.f making.handle tables.is_plain has_fork making.kind

  pub fork_inside : word_index (register r.machine registers.Ra - 4) < length r.code.handles.items
  fork_inside = within_list r.code.handles.items (word_index (register r.machine registers.Ra - 4)) making.handle fork_handle

  callee : ProgramFunction
  callee = making.fits.0.0

  callee_is : slice_get p.functions making.f ≡ Some callee
  unfolding callee
  callee_is = making.fits.0.1

  next : State
  next = record {
    top = entered making.f callee (picked Saved s.registers) Forked;
    registers = picked (Arguments callee.ints callee.handles) s.registers;
    rest = record {
      older = advanced s.top ∷ s.rest.older;
      thread = record { path = s.rest.thread.path ++ s.rest.thread.forks ∷ []; forks = 0; counters = 0; handle = making.handle };
      parents = record s.rest.thread { forks = s.rest.thread.forks + 1 } ∷ s.rest.parents;
      ended = s.rest.ended;
      counts = s.rest.counts;
      out = s.rest.out;
    };
  }

  fork_steps : step p d s ≡ Goes next
  unfolding next
  fork_steps = making.steps ∙ ap (λ (o : Option ProgramFunction). apply s.rest making.at.item.line (fork_into making.f making.handle o s.top s.registers)) callee_is

  -- ---- the fork's second jump, under one more name

  abbrev more : List Held
  more = names ++ Future (s.rest.thread.path ++ s.rest.thread.forks ∷ []) ∷ []

  abbrev here : Situation
  here = situation r.machine r.board.words.stack

  abbrev before : Situation
  before = situation (at_place (register r.machine registers.Ra) r.machine) r.board.words.stack

  abbrev grown : AtCall p limits.stack more here s
  grown = call_grows names (Future (s.rest.thread.path ++ s.rest.thread.forks ∷ []) ∷ []) p limits.stack here s making.begun making.at

  second : IsAtSecond Unchanged p (by_place more) (OlderThan p limits.stack more here s) (ends_at here) (register r.machine registers.Sp) before s.top s.registers making.at.stands.function making.at.item making.f making.handle
  second =
      fork_back Unchanged p (by_place more) (OlderThan p limits.stack more here s) (ends_at here) (register r.machine registers.Sp) here s.top s.registers making.at.stands.function making.at.item making.f making.handle r.machine.pc tables.is_plain.accepted
      (sized Unchanged p tables.is_plain.accepted tables.is_plain.size) has_fork making.kind (older_sees p limits.stack more here s tables.is_plain.accepted grown.stands making.begun) (at_entry p limits.stack more here s grown making.begun)

  -- where it leads
  enters : (u : Situation) × Makes Unchanged p d (on_stack limits.stack) before u × (u.word ≡ before.word) × Entering Unchanged p (by_place more) (OlderThan p limits.stack more here s) (ends_at here) (register r.machine registers.Sp) u s.top s.registers making.at.stands.function Forked making.f callee
  enters = fork_enters Unchanged p d (on_stack limits.stack) (by_place more) (OlderThan p limits.stack more here s) (ends_at here) (register r.machine registers.Sp) before s.top s.registers making.at.stands.function making.at.item making.f making.handle callee second callee_is

  fork_way : OnWay Unchanged p d (on_stack limits.stack) 1 before enters.0
  fork_way =
      let function = making.at.stands.function in
      let size = fork_size function making.at.item.kind making.f making.handle making.kind in
      let at = second.at in
      (inr (record { f = s.top.function; function = function; i = s.top.next; item = making.at.item; has = has_fork; k = 1; some = omega arith; few = omega (arith, size); at = omega (arith, at) }), (enters.0, enters.1, refl))

  fork_stands : Stands p limits.stack more enters.0 next
  unfolding next
  fork_stands =
      let base = (body_of p limits.stack more here s grown.stands making.begun).framed.base in
      stands_entered p limits.stack more (ends_at here) (register r.machine registers.Sp) (register r.machine registers.S0) enters.0 next making.at.stands.function callee (advanced s.top) s.rest.older s.rest.parents enters.3.0 (are_ends limits.stack here making.at.stands.machine) refl base refl tt refl enters.3.1

  pub fork_goes : (handle : Reg) → slice_get r.code.handles.items (word_index (register r.machine registers.Ra - 4)) ≡ Some handle → nat_lt (length r.threads.cells.items.items) r.threads.cells.most ≡ true
      → r'.machine ≡ at_place (register r.machine registers.Ra) r.machine → r'.board.words.stack ≡ r.board.words.stack
      → r'.threads.cells.items.items ≡ r.threads.cells.items.items ++ FutureCell None ∷ [] → reverse r'.threads.notes.items.items ≡ forked_notes (length r.threads.cells.items.items) handle (reverse r.threads.notes.items.items)
      → r'.threads.out.items.items ≡ r.threads.out.items.items → GoesOn p d limits (length r.threads.cells.items.items) r' s
  unfolding next
  fork_goes handle there room machine_is words_are cells_are notes_are out_is =
      let kept = entry.kept in
      let cells = r.threads.cells.items.items in
      let name : Held = Future (s.rest.thread.path ++ s.rest.thread.forks ∷ []) in
      let m = at_place (register r.machine registers.Ra) r.machine in
      let own = fork_handle in
      let same : handle ≡ making.handle = cc in
      let inside = ltb-true (length cells) r.threads.cells.most room in
      let most = tables.most in
      let long = length-append cells (FutureCell None ∷ []) in
      let one = making.drawn in
      goes_by p d limits (length cells) r' s next (names ++ name ∷ []) 1 enters.0 m r.board.words.stack (cells ++ FutureCell None ∷ []) r.threads.out.items.items
      (cells_left p limits (length cells) r.threads.cells.most (length s.top.bytes) s (making.limit (length cells)) most room) fork_steps kept.handles (omega arith) fork_way fork_stands
      (after_fork names cells s.rest next.rest making.handle kept.stand refl (step_ordered p d s next kept.stand.ordered fork_steps))
      (subst (λ (notes : List Note). NotesStand (names ++ name ∷ []) notes (next.rest.thread ∷ next.rest.parents)) (sym notes_are)
      (subst (λ (h : Reg). NotesStand (names ++ name ∷ []) (forked_notes (length cells) h (reverse r.threads.notes.items.items)) (next.rest.thread ∷ next.rest.parents)) (sym same)
      (notes_forked names cells (reverse r.threads.notes.items.items) s.rest next.rest making.handle kept.stand kept.notes_stand refl)))
      kept.printed (omega (arith, long, inside, most)) kept.few_bytes (omega (arith, one, long)) machine_is words_are cells_are out_is

  pub fork_full : nat_lt (length r.threads.cells.items.items) r.threads.cells.most ≡ false
      → EndsBy p d limits (length r.threads.cells.items.items) r.threads.notes.items.items r.threads.out.items.items s (endings.Limit (limit_kinds.Cell r.threads.cells.most))
  fork_full full =
      cells_end p d limits (length r.threads.cells.items.items) r.threads.cells.most (length s.top.bytes) r.threads.notes.items.items r.threads.out.items.items s (making.limit (length r.threads.cells.items.items)) tables.most full
