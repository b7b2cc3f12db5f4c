-- A function without a fault of form is formed (function-formed), where its items' successors lie in it behind its prologue.
use Rattle.std.proofs.Common.{◌≡◌, ℕ, zero, suc, ◌<◌, false, List, [], ◌∷◌, refl, subst, slice_get, length, Some, ◌+◌}
use Rattle.st_asm.specs.declared.unit.Function.{Function}
use Rattle.st_check.proofs.Sound.{IsSoundFunction}
use Rattle.st_model.specs.declared.program.Item.{Item}
use Rattle.st_model.specs.declared.program.ItemKind.TheVariants as items
use Rattle.st_model.specs.declared.program.ProgramFunction.{ProgramFunction}
use Rattle.st_model.specs.Flow.{IsNext}
use Rattle.st_model.specs.Accepted.{IsFormed, IsPrologue, Fits}
use Rattle.st_check.specs.Shape.{Formed, Shape, faulty, formed, shape_of, first_line}
use Rattle.st_check.specs.Faults.{empty_faults, line_before, group_faults, shape_faults, function_faults}
use Rattle.st_check.specs.Programs.{items_of, function_by, program_function, program_of}
use Rattle.st_check.proofs.ShapeFacts.{HasShape, HasFrameOf, shape_of-has}
use Rattle.st_check.proofs.Frames.{frame-has}
use Rattle.st_check.proofs.LineRight.{append-none}
use Rattle.st_check.proofs.ItemsFit.{AreInstructions, ShapeIsSound, shape_of-sound, items-fit}
use Rattle.st_check.proofs.Openings.{items-none_opens}

-- successors lie in the function, behind its prologue
abbrev pub Stays : ProgramFunction → Type 0
Stays function = (i j : ℕ) (item : Item) → slice_get function.items i ≡ Some item → IsNext item.kind i j → (0 < j) × (j < length function.items)

fits-all : (functions : List Function) (f : ℕ) (function : Function) (shape : Formed) → HasFrameOf shape.saved function.slots shape.frame → AreInstructions functions shape.groups → group_faults functions f function.slots shape shape.groups ≡ [] → (i : ℕ) (item : Item) → slice_get (record { line = first_line function.line function.items; kind = items.Prologue } ∷ items_of functions shape.groups false shape.groups) i ≡ Some item → Fits (program_of functions) (function_by functions function (formed shape)) item.kind
fits-all functions f function shape has are none zero item here =
    let same : record { line = first_line function.line function.items; kind = items.Prologue } ≡ item = cc in
    subst (λ (it : Item). Fits (program_of functions) (function_by functions function (formed shape)) it.kind) same tt
fits-all functions f function shape has are none (suc i) item here =
    items-fit functions f function shape shape.groups false shape.groups has.among are none i item here

once-all : (functions : List Function) (function : Function) (shape : Formed) (i : ℕ) (item : Item) → slice_get (record { line = first_line function.line function.items; kind = items.Prologue } ∷ items_of functions shape.groups false shape.groups) i ≡ Some item → IsPrologue item.kind → i ≡ 0
once-all functions function shape zero item here opens = refl
once-all functions function shape (suc i) item here opens = absurd (items-none_opens functions shape.groups false shape.groups i item here opens)

by-shape : (functions : List Function) (f : ℕ) (function : Function) (s : Shape) → IsSoundFunction functions function → HasShape function.slots s → ShapeIsSound functions s → shape_faults functions f function s ≡ [] → Stays (function_by functions function s) → IsFormed (program_of functions) (function_by functions function s)
by-shape functions f function (faulty fault) is has are none stays = cc
by-shape functions f function (formed shape) is has are none stays = record {
  ints = is.ints;
  handles = is.handles;
  frame = frame-has functions function shape has;
  begins = (record { line = first_line function.line function.items; kind = items.Prologue }, refl, tt);
  once = once-all functions function shape;
  fits = fits-all functions f function shape has are (append-none (empty_faults (line_before function.line (4 + length shape.saved) function.items) shape.groups) _ none).1;
  stays = stays;
}

pub function-formed : (functions : List Function) (f : ℕ) (function : Function) → IsSoundFunction functions function → function_faults functions f function ≡ [] → Stays (program_function functions function) → IsFormed (program_of functions) (program_function functions function)
function-formed functions f function is none stays =
    by-shape functions f function (shape_of function) is (shape_of-has function) (shape_of-sound functions function is.items) none stays
