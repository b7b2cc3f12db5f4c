-- What an entry may count on where it is served, of a run that merely is at such an entry: the way back and the line of the call (way_back, back_few, line_inside),
-- cells of names in registers (touch_inside, touch_ended, done_inside, join_inside), room for the numbers of threads and counters (make_room,
-- end_inside), and the table of handles (handle_inside, out_back).
use Rattle.std.proofs.Common.{◌≡◌, ◌≢◌, ℕ, ◌-◌, ◌^◌, ◌<◌, ◌≤◌, List, [], ◌∷◌, length, Some, None, slice_get, refl, ap, ◌∙◌, subst, arith}
use Rattle.std.specs.Prelude.{reverse}
use Rattle.std.specs.Coded.{le_prop}
use Rattle.std.proofs.Math.Logic.{∥∥₁_elim}
use Rattle.st_base.specs.declared.image.Image.{Image}
use Rattle.st_base.specs.declared.limits.Limits.{Limits}
use Rattle.st_base.specs.declared.reg.Reg.{Reg}
use Rattle.st_base.specs.declared.reg.Reg.TheVariants as registers
use Rattle.st_base.specs.declared.thread.Held.{Held}
use Rattle.st_model.specs.declared.ordinary.State.{State}
use Rattle.st_model.specs.declared.ordinary.Turn.TheVariants.{Undefined}
use Rattle.st_model.specs.declared.program.Program.{Program}
use Rattle.st_model.specs.Memory.{Data}
use Rattle.st_model.specs.Ordinary.{step}
use Rattle.st_step.specs.declared.state.State.{State as MachineState}
use Rattle.st_step.specs.Moves.{register, written}
use Rattle.st_plain.specs.declared.cells.Cell.TheVariants.{Future as FutureCell}
use Rattle.st_plain.specs.declared.cells.Note.{Note}
use Rattle.st_plain.specs.declared.run.PlainRun.{PlainRun}
use Rattle.st_plain.specs.declared.stop.Ending.{Ending}
use Rattle.st_items.specs.Code.{word_index}
use Rattle.st_plain.specs.Running.{HasTables, IsAtEntry, GoesOn, EndsBy, IsServing, Served}
use Rattle.st_plain.specs.Standing.{situation}
use Rattle.st_plain.specs.Threads.{MayMake, HasCell}
use Rattle.st_plain.proofs.AtEntry.{call_at, back_low, back_line}
use Rattle.st_plain.proofs.ForkIn.{fork_inside}
use Rattle.st_plain.proofs.GoingBack.{back_written}
use Rattle.st_plain.proofs.Handles as handles
use Rattle.st_plain.proofs.Naming.{fits_length}
use Rattle.st_items.proofs.Registers.{IsApart}
use Rattle.st_plain.proofs.RunningThread.{within_list, may_make, has_cell}
use Rattle.st_plain.proofs.ThreadEnds.{handle_apart, out_low}
use Rattle.st_model.specs.declared.code.Layout.TheVariants.{Unchanged}
use Rattle.st_items.proofs.Addresses.{sized}

-- ---- of an image

module _ (image : Image) (r : PlainRun) (serving : ∥ IsServing image r ∥₁) where
  pub back_few : 0x40 ≤ r.machine.pc → register r.machine registers.Ra < 2 ^ 32
  back_few call =
      ∥∥₁_elim serving (hlevel le_prop)
      (λ is. (back_low is.0 is.2.stack is.3 (situation r.machine r.board.words.stack) is.4 (sized Unchanged is.0 is.5.is_plain.accepted is.5.is_plain.size) (call_at is.0 is.2 r is.3 is.4 is.6 (λ e. omega (arith, e, call)) (λ e. omega (arith, e, call)))).1)

  pub back_least : 0x40 ≤ r.machine.pc → 0x10004 ≤ register r.machine registers.Ra
  back_least call =
      ∥∥₁_elim serving (hlevel le_prop)
      (λ is. (back_low is.0 is.2.stack is.3 (situation r.machine r.board.words.stack) is.4 (sized Unchanged is.0 is.5.is_plain.accepted is.5.is_plain.size) (call_at is.0 is.2 r is.3 is.4 is.6 (λ e. omega (arith, e, call)) (λ e. omega (arith, e, call)))).0)

  pub line_inside : 0x40 ≤ r.machine.pc → word_index (register r.machine registers.Ra - 4) < length image.lines
  line_inside call =
      ∥∥₁_elim serving (hlevel le_prop)
      (λ is.
      let at = call_at is.0 is.2 r is.3 is.4 is.6 (λ e. omega (arith, e, call)) (λ e. omega (arith, e, call)) in
      within_list image.lines (word_index (register r.machine registers.Ra - 4)) at.item.line (back_line is.0 image is.2.stack is.3 (situation r.machine r.board.words.stack) is.4 is.5.is_plain at))

  pub touch_inside : r.machine.pc ≡ 0x40 → register r.machine registers.A6 < length r.threads.cells.items.items
  touch_inside at = ∥∥₁_elim serving (hlevel le_prop) (λ is. handles.touch_inside is.0 is.1 image is.2 r r is.3 is.4 is.5 is.6 is.7 at)

  pub touch_ended : r.machine.pc ≡ 0x40 → slice_get r.threads.cells.items.items (register r.machine registers.A6) ≡ Some (FutureCell None) → ⊥
  touch_ended at cell = ∥∥₁_elim serving (hlevel le_prop) (λ is. handles.touch_ended is.0 is.1 image is.2 r r is.3 is.4 is.5 is.6 is.7 at cell)

  pub done_inside : r.machine.pc ≡ 0x60 → register r.machine registers.A6 < length r.threads.cells.items.items
  done_inside at = ∥∥₁_elim serving (hlevel le_prop) (λ is. handles.done_inside is.0 is.1 image is.2 r r is.3 is.4 is.5 is.6 is.7 at)

  pub join_inside : r.machine.pc ≡ 0x70 → register r.machine registers.A6 < length r.threads.cells.items.items
  join_inside at = ∥∥₁_elim serving (hlevel le_prop) (λ is. handles.join_inside is.0 is.1 image is.2 r r is.3 is.4 is.5 is.6 is.7 at)

  -- where a register that isn't ra was written
  pub written_back : 0x40 ≤ r.machine.pc → (m : MachineState) (reg : Reg) (n : ℕ) → IsApart reg → m ≡ written r.machine reg n → register m registers.Ra < 2 ^ 32
  written_back call m reg n apart is =
      let same = ap (λ (x : MachineState). register x registers.Ra) is ∙ back_written r.machine reg n apart in
      let few = back_few call in
      omega (arith, same, few)

-- ---- what serving gives

-- the run ends
pub served_end : (image : Image) (r : PlainRun) (ending : Ending) → ((p : Program) → (d : Data) → (limits : Limits) → (names : List Held) → (s : State) → HasTables p image limits r → IsAtEntry p limits r names s → (step p d s ≡ Undefined → ⊥)
    → EndsBy p d limits (length r.threads.cells.items.items) r.threads.notes.items.items r.threads.out.items.items s ending) → Served image r r (Some ending)
served_end image r ending over = record { board = refl; code = refl; most = refl; going = λ none. absurd (let never : ⊥ = cc in never); over = over }

-- it goes on
pub served_on : (image : Image) (r r' : PlainRun) → r'.board ≡ r.board → r'.code ≡ r.code → r'.threads.cells.most ≡ r.threads.cells.most
    → ((p : Program) → (d : Data) → (limits : Limits) → (names : List Held) → (s : State) → HasTables p image limits r → IsAtEntry p limits r names s → (step p d s ≡ Undefined → ⊥) → GoesOn p d limits (length r.threads.cells.items.items) r' s)
    → Served image r r' None
served_on image r r' board code most going = record { board = board; code = code; most = most; going = λ none. going; over = tt }

-- ---- of some image

make_prop : (notes : List Note) → IsProp (MayMake notes)
make_prop [] = hlevel le_prop
make_prop (note ∷ notes) = hlevel le_prop

cell_prop : (n : ℕ) (notes : List Note) → IsProp (HasCell n notes)
cell_prop n [] = hlevel le_prop
cell_prop n (note ∷ notes) = hlevel le_prop

module _ (r : PlainRun) (serving : ∥ ((image : Image) × IsServing image r) ∥₁) where
  pub way_back : r.machine.pc ≢ 0x20 → r.machine.pc ≢ 0x30 → (0x10004 ≤ register r.machine registers.Ra) × (register r.machine registers.Ra < 2 ^ 32)
  way_back not_out not_end =
      ∥∥₁_elim serving (hlevel le_prop)
      (λ is. back_low is.1.0 is.1.2.stack is.1.3 (situation r.machine r.board.words.stack) is.1.4 (sized Unchanged is.1.0 is.1.5.is_plain.accepted is.1.5.is_plain.size) (call_at is.1.0 is.1.2 r is.1.3 is.1.4 is.1.6 not_out not_end))

  pub make_room : r.threads.cells.most ≤ 65536 → MayMake (reverse r.threads.notes.items.items)
  make_room few =
      ∥∥₁_elim serving (make_prop (reverse r.threads.notes.items.items))
      (λ is.
      let kept = is.1.6.kept in
      let rest = is.1.4.rest in
      let long = fits_length is.1.3 r.threads.cells.items.items rest kept.stand in
      let inside = kept.few_cells in
      let most = is.1.5.most in
      may_make is.1.3 (reverse r.threads.notes.items.items) rest.thread rest.parents kept.notes_stand (omega (arith, long, inside, most)))

  pub end_inside : HasCell (length r.threads.cells.items.items) (reverse r.threads.notes.items.items)
  end_inside =
      ∥∥₁_elim serving (cell_prop (length r.threads.cells.items.items) (reverse r.threads.notes.items.items))
      (λ is.
      let kept = is.1.6.kept in
      let rest = is.1.4.rest in
      subst (λ (n : ℕ). HasCell n (reverse r.threads.notes.items.items)) (fits_length is.1.3 r.threads.cells.items.items rest kept.stand)
      (has_cell is.1.3 (reverse r.threads.notes.items.items) rest.thread rest.parents kept.notes_stand))

  pub handle_inside : r.machine.pc ≡ 0x10 → word_index (register r.machine registers.Ra - 4) < length r.code.handles.items
  handle_inside at = ∥∥₁_elim serving (hlevel le_prop) (λ is. fork_inside is.1.0 is.1.1 is.0 is.1.2 r r is.1.3 is.1.4 is.1.5 is.1.6 at)

  pub out_back : r.machine.pc ≡ 0x20 → (note : Note) (notes : List Note) → reverse r.threads.notes.items.items ≡ note ∷ notes → register (written r.machine note.handle note.cell) registers.Ra < 2 ^ 32
  out_back at note notes is_note =
      ∥∥₁_elim serving (hlevel le_prop)
      (λ is.
      let same = back_written r.machine note.handle note.cell (handle_apart is.1.0 is.1.1 is.0 is.1.2 r r is.1.3 is.1.4 is.1.5 is.1.6 at note notes is_note) in
      let low = out_low is.1.0 is.1.1 is.0 is.1.2 r r is.1.3 is.1.4 is.1.5 is.1.6 at note notes is_note in
      omega (arith, same, low))
