-- The entries that end a thread: at the root's the run ends (end_done), at another's the thread's value comes into its cell and its parent goes on
-- behind its fork with the future (out_goes).
use Rattle.std.proofs.Common.{◌≡◌, inr, ℕ, ◌+◌, ◌-◌, ◌^◌, ◌<◌, ◌≤◌, List, [], ◌∷◌, length, Option, Some, slice_get, slice_set, refl, ap, sym, ◌∙◌, subst, arith}
use Rattle.std.specs.Prelude.{reverse}
use Rattle.std.proofs.lemmas.List.{length-set}
use Rattle.st_base.specs.declared.image.Image.{Image}
use Rattle.st_base.specs.declared.limits.Limits.{Limits}
use Rattle.st_base.specs.declared.reg.Reg.{Reg}
use Rattle.st_base.specs.declared.reg.Reg.TheVariants as registers
use Rattle.st_base.specs.declared.thread.Activation.{Activation}
use Rattle.st_base.specs.declared.thread.ActivationKind.{ActivationKind}
use Rattle.st_base.specs.declared.thread.ActivationKind.TheVariants.{Called, Forked, Root}
use Rattle.st_base.specs.declared.thread.Held.{Held}
use Rattle.st_base.specs.declared.thread.Held.TheVariants.{Future}
use Rattle.st_base.specs.Registers.{write_register}
use Rattle.st_model.specs.declared.ordinary.State.{State}
use Rattle.st_model.specs.declared.ordinary.Tally.{Tally}
use Rattle.st_model.specs.declared.ordinary.Turn.TheVariants.{Goes as Goes'}
use Rattle.st_model.specs.declared.code.Layout.TheVariants.{Unchanged}
use Rattle.st_model.specs.declared.program.Item.{Item}
use Rattle.st_model.specs.declared.program.ItemKind.{ItemKind}
use Rattle.st_model.specs.declared.program.ItemKind.TheVariants as items
use Rattle.st_model.specs.declared.program.Program.{Program}
use Rattle.st_model.specs.declared.program.ProgramFunction.{ProgramFunction}
use Rattle.st_model.specs.Accepted.{Fits}
use Rattle.st_model.specs.Effect.{File, with_number, left_by}
use Rattle.st_model.specs.Layout.{saved_of}
use Rattle.st_model.specs.Memory.{Data}
use Rattle.st_model.specs.Ordinary.{step, apply, ended_in}
use Rattle.st_model.proofs.Ending.{step_ordered}
use Rattle.st_step.specs.Moves.{register, written, at_place}
use Rattle.st_step.specs.Runs.{return_word, caller_word}
use Rattle.st_plain.specs.declared.cells.Cell.TheVariants.{Future as FutureCell}
use Rattle.st_plain.specs.declared.cells.Note.{Note}
use Rattle.st_plain.specs.declared.run.PlainRun.{PlainRun}
use Rattle.st_plain.specs.declared.stop.Ending.TheVariants as endings
use Rattle.st_step.specs.Frames.{value_in, with_saved_values}
use Rattle.st_plain.specs.Frames.{by_place, IsCaller, Below}
use Rattle.st_plain.specs.Running.{HasTables, IsAtEntry, GoesOn, EndsBy}
use Rattle.st_plain.specs.Standing.{stack_start, situation, EndsAt, Stands}
use Rattle.st_plain.specs.Threads.{NotesStand, ForksInto, IsBehindFork, HandlesStand}
use Rattle.st_items.proofs.Addresses.{sized, place_bounds}
use Rattle.st_items.specs.Code.{HasItem}
use Rattle.st_plain.proofs.AtEntry.{IsEnding, ending}
use Rattle.st_plain.proofs.GoingBack.{goes_by}
use Rattle.st_plain.proofs.OnItems.{Stacked, stacked_sees, ends_at, are_ends, on_ends, stands_at}
use Rattle.st_plain.proofs.Naming.{ended_rest, fits_length, after_end}
use Rattle.st_items.proofs.Ending.{caller_body, parent_goes_on}
use Rattle.st_items.proofs.ItemCode.{formed_of}
use Rattle.st_items.proofs.Registers.{IsApart, body_apart, fork_handle}
use Rattle.st_plain.proofs.RunEnds.{done_ends}
use Rattle.st_plain.proofs.RunningThread.{within_list}

-- ---- which thread ends

root_at : (kind : ActivationKind) (ret entry ra : ℕ) → EndsAt kind ret entry ra → entry ≡ 0x30 → kind ≡ Root
root_at Called ret entry ra ends is = absurd ends
root_at Forked ret entry ra ends is = let out = ends.0 in absurd (omega (arith, out, is))
root_at Root ret entry ra ends is = refl

forked_at : (kind : ActivationKind) (ret entry ra : ℕ) → EndsAt kind ret entry ra → entry ≡ 0x20 → (kind ≡ Forked) × (ra ≡ ret + 4)
forked_at Called ret entry ra ends is = absurd ends
forked_at Forked ret entry ra ends is = (refl, ends.1)
forked_at Root ret entry ra ends is = absurd (omega (arith, ends, is))

-- ---- its fork

fork_of : (handle : Reg) (kind : ItemKind) → ForksInto handle kind → (g : ℕ) × (kind ≡ items.Fork g handle)
fork_of handle (items.Fork g r) into = (g, ap (λ (x : Reg). items.Fork g x) (sym into))
fork_of handle items.Prologue into = absurd into
fork_of handle items.Epilogue into = absurd into
fork_of handle (items.Plain i) into = absurd into
fork_of handle (items.Li rd value) into = absurd into
fork_of handle (items.Branch op rs1 rs2 to) into = absurd into
fork_of handle (items.Jump to) into = absurd into
fork_of handle (items.Call f) into = absurd into
fork_of handle (items.Entry at) into = absurd into

-- the fork behind which an activation goes on
record ForkOf (p : Program) (function : ProgramFunction) (handle : Reg) (a : Activation) : Type 0 where
  item : Item
  has : HasItem p a.function function (a.next - 1) item
  g : ℕ
  kind : item.kind ≡ items.Fork g handle

fork_behind : (p : Program) (function : ProgramFunction) (handle : Reg) (a : Activation) → slice_get p.functions a.function ≡ Some function → IsBehindFork p handle a → ForkOf p function handle a
fork_behind p function handle a here behind =
    let there = behind.here in
    let same : behind.function ≡ function = cc in
    let (g, kind) = fork_of handle behind.item.kind behind.forks in
    record { item = behind.item; has = record { named = here; placed = ap (λ (f : ProgramFunction). slice_get f.items (a.next - 1)) (sym same) ∙ behind.placed }; g = g; kind = kind }

-- the parent, which is behind the fork
record HasForked (p : Program) (names : List Held) (word : ℕ → ℕ) (high : ℕ) (value : ℕ → ℕ) (low fp ret : ℕ) (kept : File) (handle : Reg) (older : List Activation) (parents : List Tally) : Type 0 where
  a : Activation
  others : List Activation
  t : Tally
  ts : List Tally
  older_are : older ≡ a ∷ others
  parents_are : parents ≡ t ∷ ts
  function : ProgramFunction
  caller : IsCaller p names word value low fp ret Forked kept a function
  below : Below p names word high (with_saved_values word fp 0 (saved_of function) value) fp (word (caller_word fp)) (word (return_word fp)) a.kind a.kept others ts
  behind : IsBehindFork p handle a

forked_below : (p : Program) (names : List Held) (word : ℕ → ℕ) (high : ℕ) (value : ℕ → ℕ) (low fp ret : ℕ) (kept : File) (handle : Reg) (older : List Activation) (parents : List Tally)
    → Below p names word high value low fp ret Forked kept older parents → HandlesStand p Forked older handle parents → HasForked p names word high value low fp ret kept handle older parents
forked_below p names word high value low fp ret kept handle [] parents below stand = let root = below.0 in absurd (let never : ⊥ = cc in never)
forked_below p names word high value low fp ret kept handle (a ∷ older) [] below stand = absurd below.2
forked_below p names word high value low fp ret kept handle (a ∷ older) (t ∷ ts) below stand =
    record { a = a; others = older; t = t; ts = ts; older_are = refl; parents_are = refl; function = below.0; caller = below.1; below = below.3; behind = stand.0 }

-- ---- the ends

module _ (p : Program) (d : Data) (image : Image) (limits : Limits) (r r' : PlainRun) (names : List Held) (s : State) (tables : HasTables p image limits r) (entry : IsAtEntry p limits r names s) where
  pub end_done : r.machine.pc ≡ 0x30 → EndsBy p d limits (length r.threads.cells.items.items) r.threads.notes.items.items r.threads.out.items.items s endings.Done
  end_done is_end =
      let kept = entry.kept in
      let end = ending p d image limits r names s 0x30 tables.is_plain entry is_end (λ e. omega arith) refl in
      let root = root_at s.top.kind end.at.ret r.machine.pc (register r.machine registers.Ra) end.at.ends is_end in
      let value = register r.machine registers.A0 in
      let alone : s.rest.parents ≡ [] = subst (λ (kind : ActivationKind). HandlesStand p kind s.rest.older s.rest.thread.handle s.rest.parents) root kept.handles in
      done_ends p d limits (length r.threads.cells.items.items) names r.threads.cells.items.items r.threads.notes.items.items r.threads.out.items.items s kept (end.limit (length r.threads.cells.items.items))
      (end.steps
      ∙ ap (λ (o : Option ℕ). apply s.rest end.at.item.line (with_number o (left_by s.top.kind s.top.kept))) end.at.value
      ∙ ap (λ (kind : ActivationKind). apply s.rest end.at.item.line (left_by kind s.top.kept value)) root
      ∙ ap (λ (ts : List Tally). ended_in ts s.rest.older s.rest value s.top.kept) alone)

  module _ (is_out : r.machine.pc ≡ 0x20) (note : Note) (notes : List Note) (note_is : reverse r.threads.notes.items.items ≡ note ∷ notes) where
    leaving : IsEnding p d limits names (situation r.machine r.board.words.stack) s
    leaving = ending p d image limits r names s 0x20 tables.is_plain entry is_out (λ e. omega arith) refl

    kind_is : (s.top.kind ≡ Forked) × (register r.machine registers.Ra ≡ leaving.at.ret + 4)
    kind_is = forked_at s.top.kind leaving.at.ret r.machine.pc (register r.machine registers.Ra) leaving.at.ends is_out

    notes_stand : NotesStand names (note ∷ notes) (s.rest.thread ∷ s.rest.parents)
    notes_stand = subst (λ (xs : List Note). NotesStand names xs (s.rest.thread ∷ s.rest.parents)) note_is entry.kept.notes_stand

    forker : HasForked p names (situation r.machine r.board.words.stack).word (stack_start + limits.stack) (value_in r.machine) (register r.machine registers.Sp) (register r.machine registers.S0) leaving.at.ret s.top.kept note.handle s.rest.older s.rest.parents
    forker =
        let word = (situation r.machine r.board.words.stack).word in
        forked_below p names word (stack_start + limits.stack) (value_in r.machine) (register r.machine registers.Sp) (register r.machine registers.S0) leaving.at.ret s.top.kept note.handle s.rest.older s.rest.parents
        (subst (λ (kind : ActivationKind). Below p names word (stack_start + limits.stack) (value_in r.machine) (register r.machine registers.Sp) (register r.machine registers.S0) leaving.at.ret kind s.top.kept s.rest.older s.rest.parents) kind_is.0 leaving.at.below)
        (subst (λ (handle : Reg). HandlesStand p Forked s.rest.older handle s.rest.parents) (sym notes_stand.0.handle) (subst (λ (kind : ActivationKind). HandlesStand p kind s.rest.older s.rest.thread.handle s.rest.parents) kind_is.0 entry.kept.handles))

    fork : ForkOf p forker.function note.handle forker.a
    fork = fork_behind p forker.function note.handle forker.a forker.caller.here forker.behind

    pub handle_apart : IsApart note.handle
    handle_apart =
        let fits : Fits p forker.function (items.Fork fork.g note.handle) = subst (λ (k : ItemKind). Fits p forker.function k) fork.kind ((formed_of p forker.a.function forker.function tables.is_plain.accepted fork.has.named).fits (forker.a.next - 1) fork.item fork.has.placed) in
        body_apart note.handle (inr (fork_handle note.handle fits.1))

    -- the parent's next item lies low
    pub out_low : register r.machine registers.Ra < 2 ^ 32
    out_low =
        let caller = forker.caller in
        let ra = kind_is.1 in
        let back = caller.back.0 in
        let bounds = place_bounds Unchanged p forker.a.function forker.function forker.a.next (sized Unchanged p tables.is_plain.accepted tables.is_plain.size) caller.here in
        omega (arith, ra, back, bounds.1)

    next : State
    next = record {
      top = forker.a;
      registers = write_register s.top.kept note.handle (Future s.rest.thread.path);
      rest = ended_rest s.rest forker.others forker.t forker.ts (register r.machine registers.A0);
    }

    out_stands : note.cell < 2 ^ 64 → Stands p limits.stack names (situation (at_place (register r.machine registers.Ra) (written r.machine note.handle note.cell)) r.board.words.stack) next
    unfolding next
    out_stands less =
        let stack = limits.stack in
        let t = situation r.machine r.board.words.stack in
        let sp = register r.machine registers.Sp in
        let low = register r.machine registers.S0 in
        let machine = leaving.at.machine in
        let above = machine.above in
        let caller = forker.caller in
        let base = caller.base in
        let lower = Stacked p stack names low forker.others forker.ts in
        let sees = stacked_sees p stack names low sp (sp + forker.function.frame_bytes) forker.others forker.ts tables.is_plain.accepted (omega arith) (omega arith) in
        let body = caller_body Unchanged p (by_place names) lower sp forker.function forker.a (ends_at t) t Forked s.top.kept leaving.at.ret (on_ends stack t machine) (caller, forker.below) in
        let at = parent_goes_on Unchanged p (by_place names) lower sp forker.function forker.a (ends_at t) t s.top.kept (register r.machine registers.A0) fork.item fork.g note.handle (Future s.rest.thread.path) note.cell tables.is_plain.accepted sees fork.has fork.kind notes_stand.0.cell less
        (record { body = body; begun = caller.begun; at = is_out; back = kind_is.1 ∙ caller.back.0; value_is = refl; whole = leaving.at.whole }) in
        stands_at p stack names (ends_at t) sp low (situation (at_place (register r.machine registers.Ra) (written r.machine note.handle note.cell)) r.board.words.stack) next forker.function forker.others forker.ts (are_ends stack t machine) refl base refl refl at

    out_steps : step p d s ≡ Goes' next
    unfolding next
    out_steps =
        let value = register r.machine registers.A0 in
        leaving.steps
        ∙ ap (λ (o : Option ℕ). apply s.rest leaving.at.item.line (with_number o (left_by s.top.kind s.top.kept))) leaving.at.value
        ∙ ap (λ (kind : ActivationKind). apply s.rest leaving.at.item.line (left_by kind s.top.kept value)) kind_is.0
        ∙ ap (λ (ts : List Tally). ended_in ts s.rest.older s.rest value s.top.kept) forker.parents_are
        ∙ ap (λ (xs : List Activation). ended_in (forker.t ∷ forker.ts) xs s.rest value s.top.kept) forker.older_are
        ∙ ap (λ (handle : Reg). Goes' record { top = forker.a; registers = write_register s.top.kept handle (Future s.rest.thread.path); rest = ended_rest s.rest forker.others forker.t forker.ts value }) (sym notes_stand.0.handle)

    pub out_goes : r.threads.cells.most ≤ 65536 → r'.machine ≡ at_place (register r.machine registers.Ra) (written r.machine note.handle note.cell) → r'.board.words.stack ≡ r.board.words.stack
        → r'.threads.cells.items.items ≡ slice_set r.threads.cells.items.items note.cell (FutureCell (Some (register r.machine registers.A0))) → reverse r'.threads.notes.items.items ≡ notes → r'.threads.out.items.items ≡ r.threads.out.items.items
        → GoesOn p d limits (length r.threads.cells.items.items) r' s
    unfolding next
    out_goes few machine_is words_are cells_are notes_are out_is =
        let kept = entry.kept in
        let cells = r.threads.cells.items.items in
        let value = register r.machine registers.A0 in
        let m = at_place (register r.machine registers.Ra) (written r.machine note.handle note.cell) in
        let inside = within_list names note.cell (Future s.rest.thread.path) notes_stand.0.cell in
        let many = fits_length names cells s.rest kept.stand in
        let few_cells = kept.few_cells in
        let most = tables.most in
        let long = length-set cells note.cell (FutureCell (Some value)) in
        goes_by p d limits (length cells) r' s next names 0 (situation m r.board.words.stack) m r.board.words.stack (slice_set cells note.cell (FutureCell (Some value))) r.threads.out.items.items
        (leaving.limit (length cells)) out_steps kept.handles (omega arith) refl (out_stands (omega (arith, inside, many, few_cells, most)))
        (after_end names cells s.rest next.rest forker.t forker.ts value note.cell kept.stand forker.parents_are refl (step_ordered p d s next kept.stand.ordered out_steps) notes_stand.0.cell)
        (subst (λ (xs : List Note). NotesStand names xs (forker.t ∷ forker.ts)) (sym notes_are) (subst (λ (ts : List Tally). NotesStand names notes ts) forker.parents_are notes_stand.1))
        kept.printed (omega (arith, long, few_cells)) kept.few_bytes (let none = leaving.drawn in omega (arith, none, long)) machine_is words_are cells_are out_is
