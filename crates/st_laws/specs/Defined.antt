-- What a run of the heap-frame machine of an accepted program meets: HeapDefined says that each thread that has not stopped has a next
-- item, and that the item reads nothing undefined.
use Rattle.std.specs.Prelude.{◌≡◌, ◌≢◌, List, ◌∷◌, Some}
use Rattle.st_base.specs.declared.thread.Activation.{Activation}
use Rattle.st_base.specs.declared.thread.Standing.TheVariants.{Going}
use Rattle.st_base.specs.declared.thread.Thread.{Thread}
use Rattle.st_model.specs.declared.program.Item.{Item}
use Rattle.st_model.specs.declared.program.Program.{Program}
use Rattle.st_model.specs.declared.effect.Effect.TheVariants.{Undefined}
use Rattle.st_model.specs.Memory.{Data}
use Rattle.st_model.specs.Effect.{item_effect}
use Rattle.st_model.specs.Ordinary.{item_at}
use Rattle.st_model.specs.Accepted.{IsAccepted}
use Rattle.st_model.specs.Heap.{Heap, Path, Reached}

-- the thread's newest activation is at an item whose effect is defined
abbrev pub HasNext : Program → Data → Thread → Type 0
HasNext program source t =
    (top : Activation) × ((older : List Activation) × ((t.activations ≡ top ∷ older) × ((item : Item) × ((item_at program top ≡ Some item) × (item_effect program source item.kind top t.registers ≢ Undefined)))))

-- in every run of the heap-frame machine of an accepted program each thread that has not stopped has a next item whose effect is defined
abbrev pub HeapDefined : Type 0
HeapDefined =
    (program : Program) (source : Data) (h : Heap) (p : Path) (t : Thread) → IsAccepted program → Reached program source h → h.thread p ≡ Some t → t.standing ≡ Going → HasNext program source t
