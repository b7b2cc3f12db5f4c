-- Where an entry goes on behind its call: the machine stands at the next item, with the registers that a call keeps (kept_stands), and one more that
-- the entry wrote (written_stands). Read goes_by, which puts what a run comes to together.
use Rattle.std.proofs.Common.{◌≡◌, ℕ, ◌+◌, ◌*◌, ◌^◌, ◌<◌, ◌≤◌, List, ◌∷◌, length, None, refl, ap, sym, ◌∙◌, subst, arith}
use Rattle.std.specs.Prelude.{reverse}
use Rattle.st_base.specs.declared.limits.Limits.{Limits}
use Rattle.st_base.specs.declared.reg.Reg.{Reg}
use Rattle.st_base.specs.declared.reg.Reg.TheVariants as registers
use Rattle.st_base.specs.declared.registers.Pick.TheVariants.{Saved}
use Rattle.st_base.specs.declared.thread.Held.{Held}
use Rattle.st_base.specs.Registers.{picked, write_register}
use Rattle.st_model.specs.declared.code.Layout.TheVariants.{Unchanged}
use Rattle.st_model.specs.declared.ordinary.Rest.{Rest}
use Rattle.st_model.specs.declared.ordinary.State.{State}
use Rattle.st_model.specs.declared.ordinary.Turn.TheVariants.{Goes}
use Rattle.st_model.specs.declared.program.Program.{Program}
use Rattle.st_model.specs.declared.program.ProgramFunction.{ProgramFunction}
use Rattle.st_model.specs.Accepted.{IsAccepted, MayWrite}
use Rattle.st_model.specs.Effect.{advanced}
use Rattle.st_model.specs.Layout.{item_size}
use Rattle.st_model.specs.Memory.{Data}
use Rattle.st_model.specs.Draws.{drawn_by}
use Rattle.st_model.specs.Ordinary.{step, item_at}
use Rattle.st_step.specs.declared.state.State.{State as MachineState}
use Rattle.st_step.specs.Frames.{address_in, value_in}
use Rattle.st_step.specs.Moves.{register, written, at_place}
use Rattle.st_step.specs.Runs.{Situation}
use Rattle.st_step.proofs.Writes.{register-written_other}
use Rattle.st_items.specs.Body.{IsInBody}
use Rattle.st_items.specs.Code.{HasItem}
use Rattle.st_items.specs.Ways.{OnWay}
use Rattle.st_items.proofs.Addresses.{next_address}
use Rattle.st_items.proofs.Body.{body_written, body_moved}
use Rattle.st_items.proofs.KeptFiles.{frameless_saved, picked_file}
use Rattle.st_items.proofs.Registers.{IsApart, IsOfBody}
use Rattle.st_plain.specs.declared.cells.Cell.{Cell}
use Rattle.st_plain.specs.declared.run.PlainRun.{PlainRun}
use Rattle.st_plain.specs.Frames.{by_place, IsHeldAs}
use Rattle.st_plain.specs.Running.{limit_met, GoesOn}
use Rattle.st_plain.specs.Standing.{on_stack, situation, Stands, AtCall}
use Rattle.st_plain.specs.Threads.{NamesStand, NotesStand}
use Rattle.st_plain.proofs.ForkHandles.{HandlesIn, step_handles}
use Rattle.st_plain.proofs.OnItems.{OlderThan, ends_at, are_ends, body_of, older_sees, stands_at}

-- ---- the next item

module _ (p : Program) (stack : ℕ) (names : List Held) (t : Situation) (s : State) (at : AtCall p stack names t s) (begun : 0 < s.top.next) where
  -- the activation, with the registers that a call keeps
  body_kept : IsInBody p (by_place names) (OlderThan p stack names t s) (ends_at t) (register t.state registers.Sp) t s.top (picked Saved s.registers) at.stands.function
  body_kept =
      let body = body_of p stack names t s at.stands begun in
      record { here = body.here; machine = body.machine; file = picked_file (by_place names) Saved s.registers (value_in t.state) body.file; frameless = frameless_saved s.registers; framed = body.framed }

  -- behind a call of one word
  back_address : item_size Unchanged at.stands.function at.item.kind ≡ 1 → register t.state registers.Ra ≡ address_in Unchanged p s.top.function at.stands.function (s.top.next + 1)
  back_address size =
      let has : HasItem p s.top.function at.stands.function s.top.next at.item = record { named = at.stands.here; placed = at.placed } in
      let behind = next_address Unchanged p s.top.function at.stands.function s.top.next at.item has in
      at.back ∙ sym (behind ∙ ap (λ (k : ℕ). address_in Unchanged p s.top.function at.stands.function s.top.next + 4 * k) size)

-- no register but the kept ones holds anything, and none is written
pub kept_stands : (p : Program) (stack : ℕ) (names : List Held) (t : Situation) (s : State) (rest : Rest) → (at : AtCall p stack names t s) → item_size Unchanged at.stands.function at.item.kind ≡ 1 → 0 < s.top.next → rest.older ≡ s.rest.older → rest.parents ≡ s.rest.parents
    → Stands p stack names (record { state = at_place (register t.state registers.Ra) t.state; word = t.word }) (record { top = advanced s.top; registers = picked Saved s.registers; rest = rest })
kept_stands p stack names t s rest at size begun older parents =
    let pc = register t.state registers.Ra in
    let sp = register t.state registers.Sp in
    let function = at.stands.function in
    let body = body_kept p stack names t s at begun in
    stands_at p stack names (ends_at t) sp (register t.state registers.S0) (record { state = at_place pc t.state; word = t.word }) (record { top = advanced s.top; registers = picked Saved s.registers; rest = rest }) function s.rest.older s.rest.parents
    (are_ends stack t at.stands.machine) refl body.framed.base (sym older) (sym parents)
    (record {
      body = body_moved p (by_place names) (OlderThan p stack names t s) (ends_at t) sp t s.top (picked Saved s.registers) function pc (s.top.next + 1) body;
      begun = omega arith;
      at = back_address p stack names t s at begun size;
      whole = refl;
    })

-- what a call keeps, and one register that is written
pub written_stands : (p : Program) (stack : ℕ) (names : List Held) (t : Situation) (s : State) (r : Reg) (n : ℕ) (held : Held) (rest : Rest) → IsAccepted p → (at : AtCall p stack names t s) → item_size Unchanged at.stands.function at.item.kind ≡ 1 → 0 < s.top.next
    → IsOfBody r → ((function : ProgramFunction) → MayWrite function r) → n < 2 ^ 64 → IsHeldAs names held n → rest.older ≡ s.rest.older → rest.parents ≡ s.rest.parents
    → Stands p stack names (record { state = at_place (register t.state registers.Ra) (written t.state r n); word = t.word }) (record { top = advanced s.top; registers = write_register (picked Saved s.registers) r held; rest = rest })
written_stands p stack names t s r n held rest accepted at size begun of_body may less holds older parents =
    let pc = register t.state registers.Ra in
    let sp = register t.state registers.Sp in
    let function = at.stands.function in
    let body = body_kept p stack names t s at begun in
    let sees = older_sees p stack names t s accepted at.stands begun in
    stands_at p stack names (ends_at t) sp (register t.state registers.S0) (record { state = at_place pc (written t.state r n); word = t.word }) (record { top = advanced s.top; registers = write_register (picked Saved s.registers) r held; rest = rest }) function s.rest.older s.rest.parents
    (are_ends stack t at.stands.machine) refl body.framed.base (sym older) (sym parents)
    (record {
      body = body_written p (by_place names) (OlderThan p stack names t s) (ends_at t) sp t s.top (picked Saved s.registers) function r held n pc (s.top.next + 1) sees (may function) of_body holds less body;
      begun = omega arith;
      at = back_address p stack names t s at begun size;
      whole = refl;
    })

-- a register that isn't ra is written, and the way back stays
pub back_written : (m : MachineState) (r : Reg) (n : ℕ) → IsApart r → register (written m r n) registers.Ra ≡ register m registers.Ra
back_written m r n apart = register-written_other m r registers.Ra n (λ e. apart.ra (sym e))

pub placed_back : (m n : MachineState) (r : Reg) (k : ℕ) → IsApart r → n ≡ written m r k → at_place (register n registers.Ra) n ≡ at_place (register m registers.Ra) (written m r k)
placed_back m n r k apart is = ap (λ (x : MachineState). at_place (register x registers.Ra) x) is ∙ ap (λ (pc : ℕ). at_place pc (written m r k)) (back_written m r k apart)

-- ---- what a run comes to

pub goes_by : (p : Program) (d : Data) (limits : Limits) (drawn : ℕ) (r : PlainRun) (s s' : State) (names : List Held) (n : ℕ) (t : Situation) (m : MachineState) (words : List ℕ) (cells : List Cell) (out : List ℕ)
    → limit_met p limits drawn s ≡ None → step p d s ≡ Goes s' → HandlesIn p s → n ≤ 20 → OnWay Unchanged p d (on_stack limits.stack) n (situation m words) t → Stands p limits.stack names t s' → NamesStand names cells s'.rest
    → NotesStand names (reverse r.threads.notes.items.items) (s'.rest.thread ∷ s'.rest.parents) → s'.rest.out ≡ out → length cells ≤ limits.cells → length out ≤ 1048576 → length cells ≡ drawn + drawn_by (item_at p s.top)
    → r.machine ≡ m → r.board.words.stack ≡ words → r.threads.cells.items.items ≡ cells → r.threads.out.items.items ≡ out → GoesOn p d limits drawn r s
goes_by p d limits drawn r s s' names n t m words cells out passes steps handles few way stands names_stand notes_stand printed few_cells few_bytes drew machine_is words_are cells_are out_is = record {
  passes = passes;
  s' = s';
  steps = steps;
  comes = record {
    names = names;
    n = n;
    few = few;
    t = t;
    way = subst (λ (x : MachineState). OnWay Unchanged p d (on_stack limits.stack) n (situation x r.board.words.stack) t) (sym machine_is) (subst (λ (ws : List ℕ). OnWay Unchanged p d (on_stack limits.stack) n (situation m ws) t) (sym words_are) way);
    stands = stands;
    kept = record {
      stand = subst (λ (cs : List Cell). NamesStand names cs s'.rest) (sym cells_are) names_stand;
      notes_stand = notes_stand;
      printed = printed ∙ sym out_is;
      few_cells = subst (λ (cs : List Cell). length cs ≤ limits.cells) (sym cells_are) few_cells;
      few_bytes = subst (λ (bs : List ℕ). length bs ≤ 1048576) (sym out_is) few_bytes;
      handles = step_handles p d s s' steps handles;
    };
  };
  drew = ap length cells_are ∙ drew;
}
