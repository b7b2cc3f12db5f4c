-- The items of one line that lead to an item of the same activation, or trap: plain instructions, `li`, branches and jumps do on the machine what the
-- ordinary-call run does (line_goes).
use Rattle.std.proofs.Common.{◌≡◌, ◌<◌, ℕ, ◌%◌, ◌≤◌, List, Some, refl, sym, subst}
use Rattle.st_base.specs.declared.reg.Reg.TheVariants as registers
use Rattle.st_base.specs.declared.thread.Held.{Held}
use Rattle.st_model.specs.declared.code.Layout.TheVariants.{Unchanged}
use Rattle.st_model.specs.declared.effect.Effect.{Effect}
use Rattle.st_model.specs.declared.effect.Effect.TheVariants as effects
use Rattle.st_model.specs.declared.program.Item.{Item}
use Rattle.st_model.specs.declared.program.ItemKind.{ItemKind}
use Rattle.st_model.specs.declared.program.ItemKind.TheVariants.{Prologue}
use Rattle.st_model.specs.declared.program.Program.{Program}
use Rattle.st_model.specs.declared.ordinary.State.{State}
use Rattle.st_model.specs.declared.ordinary.Turn.{Turn}
use Rattle.st_model.specs.Accepted.{IsAccepted, IsPrologue}
use Rattle.st_model.specs.Effect.{item_effect}
use Rattle.st_model.specs.Memory.{Data}
use Rattle.st_model.specs.Ordinary.{step, apply, item_at}
use Rattle.st_step.specs.Moves.{register}
use Rattle.st_step.specs.Runs.{Situation}
use Rattle.st_items.specs.Body.{IsLine, EffectStands}
use Rattle.st_items.specs.Code.{IsSized}
use Rattle.st_items.proofs.ItemCode.{item_of, formed_of, behind_prologue}
use Rattle.st_items.proofs.Lines as lines
use Rattle.st_plain.specs.Frames.{by_place}
use Rattle.st_plain.specs.Standing.{on_stack, Stands}
use Rattle.st_plain.proofs.OnItems.{OlderThan, ends_at, are_ends, body_of, at_line, stands_at}
use Rattle.st_plain.proofs.Turning.{TurnGoes, step_is}

not_prologue : (kind : ItemKind) → IsLine kind → IsPrologue kind → ⊥
not_prologue Prologue line prologue = line
not_prologue _ line prologue = prologue

-- what an item's effect makes of the state
turns : (p : Program) (d : Data) (stack : ℕ) (names : List Held) (t : Situation) (s : State) (item : Item) (stands : Stands p stack names t s) → 0 < s.top.next → (effect : Effect)
    → EffectStands Unchanged p d (on_stack stack) (by_place names) (OlderThan p stack names t s) (ends_at t) (register t.state registers.Sp) t stands.stands.function effect → TurnGoes p d stack names t s item (apply s.rest item.line effect)
turns p d stack names t s item stands some effects.Undefined goes = tt
turns p d stack names t s item stands some (effects.Goes top file) (u, leads, at) =
    let base = (body_of p stack names t s stands.stands some).framed.base in (
      u,
      leads,
      stands_at p stack names (ends_at t) (register t.state registers.Sp) (register t.state registers.S0) u (record { top = top; registers = file; rest = s.rest }) stands.stands.function s.rest.older s.rest.parents (are_ends stack t stands.stands.machine) refl base refl refl at,
      refl,
    )
turns p d stack names t s item stands some (effects.Traps kind) (i, there, stops) = (kind, (i, there, stops), refl)
turns p d stack names t s item stands some _ goes = absurd goes

-- an item of one line: the situation behind it stands for the next state of the run, or both trap
pub line_goes : (p : Program) (d : Data) (stack : ℕ) (names : List Held) (t : Situation) (s : State) (item : Item) → IsAccepted p → IsSized Unchanged p → Stands p stack names t s → stack ≤ 1048576 → stack % 16 ≡ 0 → item_at p s.top ≡ Some item → IsLine item.kind
    → TurnGoes p d stack names t s item (step p d s)
line_goes p d stack names t s item accepted size stands few multiple there one =
    let st = stands.stands in
    let has = item_of p s.top st.function item st.here there in
    let some = behind_prologue p st.function s.top.next item (formed_of p s.top.function st.function accepted st.here) has.placed (not_prologue item.kind one) in
    let line = at_line p stack names t s item accepted size few multiple stands some has in
    let goes = lines.line_goes Unchanged p d (on_stack stack) (by_place names) (OlderThan p stack names t s) (ends_at t) (register t.state registers.Sp) t s.top s.registers st.function item line one in
    subst (λ (turn : Turn). TurnGoes p d stack names t s item turn) (sym (step_is p d s item item.kind there refl)) (turns p d stack names t s item stands some (item_effect p d item.kind s.top s.registers) goes)
