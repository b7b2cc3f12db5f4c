-- What an item leads to on the machine, by the turn that the ordinary-call run takes there (TurnGoes): the situation that stands for the next
-- state, or the same trap. That turn is told by the item's effect (step_is).
use Rattle.std.proofs.Common.{◌≡◌, ℕ, List, Some, Option, ap, ◌∙◌}
use Rattle.st_base.specs.declared.thread.Held.{Held}
use Rattle.st_base.specs.declared.thread.TrapKind.{TrapKind}
use Rattle.st_rv.specs.declared.ins.Ins.{Ins}
use Rattle.st_model.specs.declared.program.Item.{Item}
use Rattle.st_model.specs.declared.program.Program.{Program}
use Rattle.st_model.specs.declared.ordinary.OrdEnd.TheVariants as ends
use Rattle.st_model.specs.declared.ordinary.State.{State}
use Rattle.st_model.specs.declared.ordinary.Turn.{Turn}
use Rattle.st_model.specs.declared.ordinary.Turn.TheVariants.{Undefined, Goes, Over}
use Rattle.st_model.specs.Memory.{Data}
use Rattle.st_step.specs.declared.machine.StepEnd.TheVariants.{Trap}
use Rattle.st_step.specs.Moves.{Stops, move_of}
use Rattle.st_step.specs.Runs.{Situation}
use Rattle.st_items.specs.Code.{code_at}
use Rattle.st_items.specs.Ways.{Leads}
use Rattle.st_plain.specs.Standing.{Stands, on_stack}
use Rattle.st_model.specs.declared.code.Layout.TheVariants.{Unchanged}
use Rattle.st_model.specs.Ordinary.{item_at, step_at, step, apply}
use Rattle.st_model.specs.Effect.{item_effect}
use Rattle.st_model.specs.declared.program.ItemKind.{ItemKind}

abbrev pub TurnGoes : Program → Data → ℕ → List Held → Situation → State → Item → Turn → Type 0
TurnGoes p d stack names t s item Undefined = Prim.Unit
TurnGoes p d stack names t s item (Goes s') = (u : Situation) × Leads Unchanged p d (on_stack stack) t u × Stands p stack names u s' × (s'.rest ≡ record s.rest { older = s'.rest.older })
TurnGoes p d stack names t s item (Over end) =
    (kind : TrapKind) × ((i : Ins) × (code_at Unchanged p t.state.pc ≡ Some i) × (move_of d t.state i ≡ Stops (Trap kind))) × (end ≡ ends.Trap kind item.line s.rest.thread.path s.rest.out)

pub step_is : (p : Program) (d : Data) (s : State) (item : Item) (kind : ItemKind) → item_at p s.top ≡ Some item → item.kind ≡ kind → step p d s ≡ apply s.rest item.line (item_effect p d kind s.top s.registers)
unfolding step
step_is p d s item kind there is = ap (λ (x : Option Item). step_at p d s x) there ∙ ap (λ (k : ItemKind). apply s.rest item.line (item_effect p d k s.top s.registers)) is
