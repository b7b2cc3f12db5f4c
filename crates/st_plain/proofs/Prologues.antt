-- A prologue makes its activation's frame (prologue_goes), and stops where the stack has no room for it (prologue_stops).
use Rattle.std.proofs.Common.{◌≡◌, ℕ, ◌+◌, ◌-◌, ◌<◌, ◌≤◌, ◌%◌, true, false, List, length, Some, None, refl, ap, sym, ◌∙◌, subst, arith, replicate}
use Rattle.std.proofs.lemmas.Bool.{ltb-true, ltb-false}
use Rattle.std.proofs.lemmas.List.{length-replicate}
use Rattle.st_base.specs.declared.reg.Reg.TheVariants as registers
use Rattle.st_base.specs.declared.thread.Held.{Held}
use Rattle.st_rv.specs.declared.ins.Ins.{Ins}
use Rattle.st_model.specs.declared.code.Layout.TheVariants.{Unchanged}
use Rattle.st_model.specs.declared.ordinary.State.{State}
use Rattle.st_model.specs.declared.ordinary.Turn.{Turn}
use Rattle.st_model.specs.declared.program.Item.{Item}
use Rattle.st_model.specs.declared.program.ItemKind.TheVariants as items
use Rattle.st_model.specs.declared.program.Program.{Program}
use Rattle.st_model.specs.declared.program.ProgramFunction.{ProgramFunction}
use Rattle.st_model.specs.Accepted.{IsAccepted}
use Rattle.st_model.specs.Bounded.{overflows, frames_held}
use Rattle.st_model.specs.Effect.{advanced}
use Rattle.st_model.specs.Memory.{Data}
use Rattle.st_model.specs.Ordinary.{step, item_at}
use Rattle.st_step.specs.declared.machine.StepEnd.TheVariants.{StackFull}
use Rattle.st_step.specs.Frames.{value_in}
use Rattle.st_step.specs.Moves.{Stops, register, move_of}
use Rattle.st_step.specs.Runs.{Situation}
use Rattle.st_items.specs.Code.{code_at, IsSized}
use Rattle.st_items.specs.Entered.{IsAtPrologue, lowered}
use Rattle.st_items.proofs.Entering as entering
use Rattle.st_items.proofs.ItemCode.{item_of}
use Rattle.st_plain.specs.Frames.{by_place}
use Rattle.st_plain.specs.Standing.{stack_start, on_stack, Stands}
use Rattle.st_plain.proofs.FrameSums.{below_sum, below_multiple, holds_frame}
use Rattle.st_plain.proofs.OnItems.{Stacked, stacked_sees, ends_at, stands_at, entered_of}
use Rattle.st_plain.proofs.Turning.{TurnGoes, step_is}

-- the frame that is to be made
frame_long : (function : ProgramFunction) (s : State) → s.top.bytes ≡ replicate function.frame_bytes None → length s.top.bytes ≡ function.frame_bytes
frame_long function s empty = ap length empty ∙ length-replicate function.frame_bytes None

pub prologue_goes : (p : Program) (d : Data) (stack : ℕ) (names : List Held) (t : Situation) (s : State) (item : Item) → IsAccepted p → IsSized Unchanged p → stack ≤ 1048576 → stack % 16 ≡ 0 → Stands p stack names t s
    → item_at p s.top ≡ Some item → item.kind ≡ items.Prologue → overflows stack items.Prologue s ≡ false → TurnGoes p d stack names t s item (step p d s)
prologue_goes p d stack names t s item accepted size few multiple stands there kind room =
    let st = stands.stands in
    let function = st.function in
    let bytes = function.frame_bytes in
    let b = register t.state registers.Sp in
    let has = item_of p s.top function item st.here there in
    let entered = entered_of p stack names t s item accepted size stands has kind in
    let sum = below_sum p names t.word (stack_start + stack) (value_in t.state) b (register t.state registers.S0) (register t.state registers.Ra) s.top.kind s.top.kept s.rest.older s.rest.parents entered.below in
    let sixteen = below_multiple p names t.word (stack_start + stack) (value_in t.state) b (register t.state registers.S0) (register t.state registers.Ra) s.top.kind s.top.kept s.rest.older s.rest.parents accepted (omega arith) entered.below in
    let long = frame_long function s entered.bytes in
    let fits : length s.top.bytes + frames_held s.rest.older ≤ stack = ltb-false stack (length s.top.bytes + frames_held s.rest.older) room in
    let lo = st.machine.lo in
    let to : b ≤ stack_start + stack = omega arith in
    let from : stack_start + bytes ≤ b = omega arith in
    let at : IsAtPrologue Unchanged p (on_stack stack) (by_place names) (Stacked p stack names b s.rest.older s.rest.parents) (ends_at t) t s.top s.registers function item = record {
      entered = entered;
      sees = stacked_sees p stack names b (b - bytes) b s.rest.older s.rest.parents accepted st.machine.above (omega arith);
      low = omega arith;
      room = omega arith;
      high = omega arith;
      multiple = sixteen;
      holds = holds_frame stack bytes b to;
    } in
    let (u, leads, words, behind) = entering.enters Unchanged p d (on_stack stack) (by_place names) (Stacked p stack names b s.rest.older s.rest.parents) (ends_at t) t s.top s.registers function item at in
    let stands' =
    stands_at p stack names (lowered (ends_at t) bytes) (b - bytes) b u (record { top = advanced s.top; registers = s.registers; rest = s.rest }) function s.rest.older s.rest.parents
    (record { lo = st.machine.lo; hi = st.machine.hi; above = omega arith }) refl (omega arith) refl refl behind in
    subst (λ (x : Turn). TurnGoes p d stack names t s item x) (sym (step_is p d s item items.Prologue there kind)) (u, leads, stands', refl)

pub prologue_stops : (p : Program) (d : Data) (stack : ℕ) (names : List Held) (t : Situation) (s : State) (item : Item) → IsAccepted p → IsSized Unchanged p → Stands p stack names t s
    → item_at p s.top ≡ Some item → item.kind ≡ items.Prologue → overflows stack items.Prologue s ≡ true → (i : Ins) × (code_at Unchanged p t.state.pc ≡ Some i) × (move_of d t.state i ≡ Stops (StackFull (length s.top.bytes)))
prologue_stops p d stack names t s item accepted size stands there kind full =
    let st = stands.stands in
    let function = st.function in
    let b = register t.state registers.Sp in
    let has = item_of p s.top function item st.here there in
    let entered = entered_of p stack names t s item accepted size stands has kind in
    let sum = below_sum p names t.word (stack_start + stack) (value_in t.state) b (register t.state registers.S0) (register t.state registers.Ra) s.top.kind s.top.kept s.rest.older s.rest.parents entered.below in
    let long = frame_long function s entered.bytes in
    let past : stack < length s.top.bytes + frames_held s.rest.older = ltb-true stack (length s.top.bytes + frames_held s.rest.older) full in
    let lo = st.machine.lo in
    let (i, code, stops) = entering.prologue_stops Unchanged p d (by_place names) (Stacked p stack names b s.rest.older s.rest.parents) (ends_at t) t s.top s.registers function item entered (omega arith) in
    (i, code, stops ∙ ap (λ (n : ℕ). Stops (StackFull n)) (sym long))
