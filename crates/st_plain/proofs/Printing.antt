-- The runtime call that prints, from what it does with the bytes to what the ordinary-call run does: putc_goes, putc_traps and putc_full; and
-- poll_goes, where nothing is done.
use Rattle.std.proofs.Common.{◌≡◌, ◌≢◌, ℕ, ◌-◌, ◌%◌, ◌==◌, Bool, true, false, List, [], ◌∷◌, ◌++◌, length, length-append, Some, None, slice_get, refl, ap, sym, ◌∙◌, subst, arith}
use Rattle.std.specs.Prelude.{nat_lt, reverse}
use Rattle.std.proofs.lemmas.Bool.{ltb-true}
use Rattle.std.proofs.lemmas.List.{length-reverse}
use Rattle.st_base.specs.declared.image.Image.{Image}
use Rattle.st_base.specs.declared.limits.Limits.{Limits}
use Rattle.st_base.specs.declared.line.Line.{Line}
use Rattle.st_base.specs.declared.reg.Reg.TheVariants as registers
use Rattle.st_base.specs.declared.registers.Pick.TheVariants.{Saved}
use Rattle.st_base.specs.declared.thread.Held.{Held}
use Rattle.st_base.specs.declared.thread.Held.TheVariants.{Number}
use Rattle.st_base.specs.declared.thread.TrapKind.TheVariants.{PutInChild}
use Rattle.st_base.specs.Registers.{read_register, picked}
use Rattle.st_model.specs.declared.effect.Effect.TheVariants.{Prints}
use Rattle.st_model.specs.declared.ordinary.State.{State}
use Rattle.st_model.specs.declared.ordinary.Turn.TheVariants.{Undefined}
use Rattle.st_model.specs.declared.program.Program.{Program}
use Rattle.st_model.specs.declared.program.RuntimeCall.TheVariants as calls
use Rattle.st_model.specs.Effect.{advanced}
use Rattle.st_model.specs.Memory.{Data}
use Rattle.st_model.specs.Ordinary.{step, apply, trapped, printed, printed_when, is_root}
use Rattle.st_step.specs.Moves.{register, at_place}
use Rattle.st_plain.specs.declared.cells.Note.{Note}
use Rattle.st_plain.specs.declared.run.PlainRun.{PlainRun}
use Rattle.st_plain.specs.declared.stop.Ending.TheVariants as endings
use Rattle.st_items.specs.Code.{word_index}
use Rattle.st_plain.specs.Running.{HasTables, IsAtEntry, GoesOn, EndsBy, limit_met}
use Rattle.st_plain.specs.Standing.{situation}
use Rattle.st_plain.specs.Threads.{NotesStand}
use Rattle.st_plain.proofs.AtEntry.{IsCalling, calling, polling, no_limit, back_line}
use Rattle.st_plain.proofs.GoingBack.{goes_by, kept_stands}
use Rattle.st_plain.proofs.Handles.{number_by}
use Rattle.st_plain.proofs.Naming.{same_older}
use Rattle.st_plain.proofs.RunEnds.{trap_ends, bytes_end}
use Rattle.st_plain.proofs.RunningThread.{root_is}

module _ (p : Program) (d : Data) (image : Image) (limits : Limits) (r r' : PlainRun) (names : List Held) (s : State) (tables : HasTables p image limits r) (entry : IsAtEntry p limits r names s) (defined : step p d s ≡ Undefined → ⊥) where
  module _ (is_putc : r.machine.pc ≡ 0x90) where
    printing : IsCalling p d limits names (situation r.machine r.board.words.stack) s calls.Putc
    printing = calling p d image limits r names s 0x90 calls.Putc tables.is_plain entry is_putc (λ e. omega arith) (λ e. omega arith) (λ e. omega arith) refl

    passes : limit_met p limits (length r.threads.cells.items.items) s ≡ None
    passes = printing.limit (length r.threads.cells.items.items) ∙ no_limit (limits.cells - length r.threads.cells.items.items) (length s.top.bytes)

    byte_printed : step p d s ≡ printed s.rest printing.at.item.line (register r.machine registers.A0 % 256) (advanced s.top) (picked Saved s.registers)
    byte_printed =
        let line = printing.at.item.line in
        let number = number_by s.rest line (read_register s.registers registers.A0) (λ n. Prints (n % 256) (advanced s.top) (picked Saved s.registers)) (λ e. defined (printing.steps ∙ e)) in
        let value : register r.machine registers.A0 ≡ number.0 = printing.at.stands.file 10 (Number number.0) number.1 in
        printing.steps ∙ ap (apply s.rest line) number.2 ∙ ap (λ (n : ℕ). printed s.rest line (n % 256) (advanced s.top) (picked Saved s.registers)) (sym value)

    printed_by : (root room : Bool) → (length r.threads.notes.items.items == 1) ≡ root → nat_lt (length r.threads.out.items.items) 1048576 ≡ room
        → step p d s ≡ printed_when root room s.rest printing.at.item.line (register r.machine registers.A0 % 256) (advanced s.top) (picked Saved s.registers)
    printed_by root room root_as room_as =
        let kept = entry.kept in
        let byte = register r.machine registers.A0 % 256 in
        let line = printing.at.item.line in
        let alone : is_root s.rest.thread.path ≡ root =
        root_is names (reverse r.threads.notes.items.items) s.rest.thread s.rest.parents kept.stand.last_forks kept.notes_stand ∙ ap (λ (n : ℕ). n == 1) (length-reverse r.threads.notes.items.items) ∙ root_as in
        byte_printed
        ∙ ap (λ (b : Bool). printed_when b (nat_lt (length s.rest.out) 1048576) s.rest line byte (advanced s.top) (picked Saved s.registers)) alone
        ∙ ap (λ (out : List ℕ). printed_when root (nat_lt (length out) 1048576) s.rest line byte (advanced s.top) (picked Saved s.registers)) kept.printed
        ∙ ap (λ (b : Bool). printed_when root b s.rest line byte (advanced s.top) (picked Saved s.registers)) room_as

    pub putc_goes : (length r.threads.notes.items.items == 1) ≡ true → nat_lt (length r.threads.out.items.items) 1048576 ≡ true → r'.machine ≡ at_place (register r.machine registers.Ra) r.machine → r'.board.words.stack ≡ r.board.words.stack
        → r'.threads.cells.items.items ≡ r.threads.cells.items.items → r'.threads.notes.items.items ≡ r.threads.notes.items.items → r'.threads.out.items.items ≡ r.threads.out.items.items ++ (register r.machine registers.A0 % 256) ∷ []
        → GoesOn p d limits (length r.threads.cells.items.items) r' s
    putc_goes root room machine_is words_are cells_are notes_are out_is =
        let kept = entry.kept in
        let out = r.threads.out.items.items in
        let byte = register r.machine registers.A0 % 256 in
        let m = at_place (register r.machine registers.Ra) r.machine in
        let next : State = record { top = advanced s.top; registers = picked Saved s.registers; rest = record s.rest { out = s.rest.out ++ byte ∷ [] } } in
        let less = ltb-true (length out) 1048576 room in
        let long = length-append out (byte ∷ []) in
        goes_by p d limits (length r.threads.cells.items.items) r' s next names 0 (situation m r.board.words.stack) m r.board.words.stack r.threads.cells.items.items (out ++ byte ∷ []) passes (printed_by true true root room) kept.handles (omega arith) refl
        (kept_stands p limits.stack names (situation r.machine r.board.words.stack) s next.rest printing.at printing.size printing.begun refl refl)
        (same_older names r.threads.cells.items.items s.rest next.rest s.rest.older next.rest.out kept.stand refl)
        (subst (λ (notes : List Note). NotesStand names (reverse notes) (next.rest.thread ∷ next.rest.parents)) (sym notes_are) kept.notes_stand)
        (ap (λ (bytes : List ℕ). bytes ++ byte ∷ []) kept.printed) kept.few_cells (omega (arith, less, long)) (let none = printing.drawn in omega (arith, none)) machine_is words_are cells_are out_is

    pub putc_traps : (line : Line) → (length r.threads.notes.items.items == 1) ≡ false → slice_get image.lines (word_index (register r.machine registers.Ra - 4)) ≡ Some line
        → EndsBy p d limits (length r.threads.cells.items.items) r.threads.notes.items.items r.threads.out.items.items s (endings.Trap PutInChild line)
    putc_traps line root there =
        let found = back_line p image limits.stack names (situation r.machine r.board.words.stack) s tables.is_plain printing.at in
        let same : printing.at.item.line ≡ line = cc in
        trap_ends p d limits (length r.threads.cells.items.items) names r.threads.cells.items.items r.threads.notes.items.items r.threads.out.items.items s entry.kept passes PutInChild line
        (printed_by false (nat_lt (length r.threads.out.items.items) 1048576) root refl ∙ ap (λ (l : Line). trapped s.rest PutInChild l) same)

    pub putc_full : (length r.threads.notes.items.items == 1) ≡ true → nat_lt (length r.threads.out.items.items) 1048576 ≡ false
        → EndsBy p d limits (length r.threads.cells.items.items) r.threads.notes.items.items r.threads.out.items.items s endings.OutLimit
    putc_full root full =
        bytes_end p d limits (length r.threads.cells.items.items) names r.threads.cells.items.items r.threads.notes.items.items r.threads.out.items.items s entry.kept passes (printed_by true false root full)

  pub poll_goes : r.machine.pc ≢ 0x10 → r.machine.pc ≢ 0x20 → r.machine.pc ≢ 0x30 → r.machine.pc ≢ 0x40 → r.machine.pc ≢ 0x50 → r.machine.pc ≢ 0x60 → r.machine.pc ≢ 0x70 → r.machine.pc ≢ 0x90
      → r'.machine ≡ at_place (register r.machine registers.Ra) r.machine → r'.board.words.stack ≡ r.board.words.stack → r'.threads ≡ r.threads → GoesOn p d limits (length r.threads.cells.items.items) r' s
  poll_goes fork_in fork_out end touch counter done join putc machine_is words_are threads_are =
      let kept = entry.kept in
      let cells = r.threads.cells.items.items in
      let m = at_place (register r.machine registers.Ra) r.machine in
      let call = polling p d image limits r names s tables.is_plain entry fork_in fork_out end touch counter done join putc in
      goes_by p d limits (length cells) r' s (record { top = advanced s.top; registers = picked Saved s.registers; rest = s.rest }) names 0 (situation m r.board.words.stack) m r.board.words.stack cells r.threads.out.items.items
      (call.limit (length cells) ∙ no_limit (limits.cells - length cells) (length s.top.bytes)) call.steps kept.handles (omega arith) refl
      (kept_stands p limits.stack names (situation r.machine r.board.words.stack) s s.rest call.at call.size call.begun refl refl)
      kept.stand (subst (λ (threads : _). NotesStand names (reverse threads.notes.items.items) (s.rest.thread ∷ s.rest.parents)) (sym threads_are) kept.notes_stand) kept.printed kept.few_cells kept.few_bytes (let none = call.drawn in omega (arith, none)) machine_is words_are
      (ap (λ threads. threads.cells.items.items) threads_are) (ap (λ threads. threads.out.items.items) threads_are)
