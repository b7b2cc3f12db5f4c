-- Calls: of a function (call_goes), and of an entry of the runtime, by an item of its own or by a fork's first word (enters).
use Rattle.std.proofs.Common.{◌≡◌, ℕ, ◌≤◌, ◌%◌, List, ◌∷◌, Option, Some, refl, ap, sym, ◌∙◌, subst}
use Rattle.st_base.specs.declared.reg.Reg.TheVariants as registers
use Rattle.st_base.specs.declared.registers.Pick.TheVariants.{Saved, Arguments}
use Rattle.st_base.specs.declared.thread.ActivationKind.TheVariants.{Called}
use Rattle.st_base.specs.declared.thread.Held.{Held}
use Rattle.st_base.specs.Registers.{picked}
use Rattle.st_model.specs.declared.code.Layout.TheVariants.{Unchanged}
use Rattle.st_model.specs.declared.ordinary.State.{State}
use Rattle.st_model.specs.declared.ordinary.Turn.{Turn}
use Rattle.st_model.specs.declared.program.Item.{Item}
use Rattle.st_model.specs.declared.program.ItemKind.{ItemKind}
use Rattle.st_model.specs.declared.program.ItemKind.TheVariants as items
use Rattle.st_model.specs.declared.program.Program.{Program}
use Rattle.st_model.specs.declared.program.ProgramFunction.{ProgramFunction}
use Rattle.st_model.specs.Accepted.{IsAccepted, IsPrologue, Fits}
use Rattle.st_model.specs.Effect.{advanced, call_into, entered}
use Rattle.st_model.specs.Layout.{fork_in}
use Rattle.st_model.specs.Memory.{Data}
use Rattle.st_model.specs.Ordinary.{step, item_at, apply}
use Rattle.st_step.specs.Moves.{register}
use Rattle.st_step.specs.Runs.{Situation}
use Rattle.st_items.specs.Called.{Enters}
use Rattle.st_items.specs.Code.{IsSized}
use Rattle.st_items.specs.Ways.{Leads}
use Rattle.st_items.proofs.ItemCode.{item_of, formed_of, behind_prologue}
use Rattle.st_items.proofs.Linking as linking
use Rattle.st_plain.specs.Frames.{by_place}
use Rattle.st_plain.specs.Standing.{on_stack, Stands, AtCall}
use Rattle.st_plain.proofs.OnItems.{OlderThan, ends_at, are_ends, body_of, at_line, stands_in, stands_entered}
use Rattle.st_plain.proofs.Turning.{TurnGoes, step_is}

pub call_goes : (p : Program) (d : Data) (stack : ℕ) (names : List Held) (t : Situation) (s : State) (item : Item) (g : ℕ) → IsAccepted p → IsSized Unchanged p → stack ≤ 1048576 → stack % 16 ≡ 0 → Stands p stack names t s
    → item_at p s.top ≡ Some item → item.kind ≡ items.Call g → TurnGoes p d stack names t s item (step p d s)
call_goes p d stack names t s item g accepted size few multiple stands there kind =
    let st = stands.stands in
    let function = st.function in
    let sp = register t.state registers.Sp in
    let has = item_of p s.top function item st.here there in
    let formed = formed_of p s.top.function function accepted st.here in
    let some = behind_prologue p function s.top.next item formed has.placed (λ is. subst (λ (k : ItemKind). IsPrologue k) kind is) in
    let (callee, callee_is) = subst (λ (k : ItemKind). Fits p function k) kind (formed.fits s.top.next item has.placed) in
    let base = (body_of p stack names t s st some).framed.base in
    let line = at_line p stack names t s item accepted size few multiple stands some has in
    let (u, leads, words, (first, entering)) = linking.call_enters Unchanged p d (on_stack stack) (by_place names) (OlderThan p stack names t s) (ends_at t) sp t s.top s.registers function item g callee line kind callee_is in
    let s' : State = record {
      top = entered g callee (picked Saved s.registers) Called;
      registers = picked (Arguments callee.ints callee.handles) s.registers;
      rest = record s.rest { older = advanced s.top ∷ s.rest.older };
    } in
    let stands' =
    stands_entered p stack names (ends_at t) sp (register t.state registers.S0) u s' function callee (advanced s.top) s.rest.older s.rest.parents first (are_ends stack t st.machine) refl base refl tt refl entering in
    let turn = step_is p d s item (items.Call g) there kind ∙ ap (λ (o : Option ProgramFunction). apply s.rest item.line (call_into g o s.top s.registers)) callee_is in
    subst (λ (x : Turn). TurnGoes p d stack names t s item x) (sym turn) (u, leads, stands', refl)

-- ---- an entry of the runtime

-- an item that calls an entry with its first word
abbrev pub IsEntering : ItemKind → Type 0
IsEntering (items.Entry at) = Prim.Unit
IsEntering (items.Fork f handle) = Prim.Unit
IsEntering _ = ⊥

-- the entry that it calls
entry_of : (kind : ItemKind) → IsEntering kind → (entry : ℕ) × Enters kind entry
entry_of (items.Entry at) is = (at, refl)
entry_of (items.Fork f handle) is = (fork_in, refl)
entry_of items.Prologue is = absurd is
entry_of items.Epilogue is = absurd is
entry_of (items.Plain i) is = absurd is
entry_of (items.Li rd value) is = absurd is
entry_of (items.Branch op rs1 rs2 to) is = absurd is
entry_of (items.Jump to) is = absurd is
entry_of (items.Call f) is = absurd is

no_entry : (kind : ItemKind) → IsEntering kind → IsPrologue kind → ⊥
no_entry items.Prologue is prologue = is
no_entry _ is prologue = prologue

pub enters : (p : Program) (d : Data) (stack : ℕ) (names : List Held) (t : Situation) (s : State) (item : Item) → IsAccepted p → IsSized Unchanged p → stack ≤ 1048576 → stack % 16 ≡ 0 → Stands p stack names t s
    → item_at p s.top ≡ Some item → IsEntering item.kind → (u : Situation) × Leads Unchanged p d (on_stack stack) t u × AtCall p stack names u s
enters p d stack names t s item accepted size few multiple stands there is =
    let st = stands.stands in
    let function = st.function in
    let sp = register t.state registers.Sp in
    let has = item_of p s.top function item st.here there in
    let some = behind_prologue p function s.top.next item (formed_of p s.top.function function accepted st.here) has.placed (no_entry item.kind is) in
    let base = (body_of p stack names t s st some).framed.base in
    let line = at_line p stack names t s item accepted size few multiple stands some has in
    let (entry, calls) = entry_of item.kind is in
    let (u, leads, words, at) = linking.entry_leads Unchanged p d (on_stack stack) (by_place names) (OlderThan p stack names t s) (ends_at t) sp t s.top s.registers function item entry line calls in (
      u,
      leads,
      record {
        stands = stands_in p stack names (ends_at t) sp (register t.state registers.S0) u s function (are_ends stack t st.machine) refl base some at.body;
        item = item;
        placed = has.placed;
        enters = subst (λ (n : ℕ). Enters item.kind n) (sym at.at) calls;
        back = at.back;
        whole = at.whole;
      },
    )
