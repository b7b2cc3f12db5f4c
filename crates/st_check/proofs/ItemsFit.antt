-- The items of a body without a fault fit the program (items-fit), where its lines are instructions of a unit, as those of a unit's
-- functions are (shape_of-sound).
use Rattle.std.proofs.Common.{◌≡◌, ℕ, zero, suc, Bool, true, false, List, [], ◌∷◌, subst, slice_get, Some}
use Rattle.std.specs.Prelude.{All}
use Rattle.st_asm.specs.declared.unit.Function.{Function}
use Rattle.st_check.proofs.Sound.{IsSound}
use Rattle.st_model.specs.declared.program.Item.{Item}
use Rattle.st_model.specs.declared.program.ItemKind.TheVariants as items
use Rattle.st_model.specs.Accepted.{Fits}
use Rattle.st_check.specs.Shape.{Formed, Shape, formed, Group, epilogue, single, saved_registers, shape_of}
use Rattle.st_check.specs.Faults.{group_faults, line_faults, is_fork}
use Rattle.st_check.specs.Programs.{items_of, line_kind, function_by, program_of}
use Rattle.st_check.proofs.SavedBits.{AreAmong}
use Rattle.st_check.proofs.BodyLines.{GroupsAre, ShapeAre, shape_of-are, lines-from_all}
use Rattle.st_check.proofs.LineRight.{append-none, line-right}
use Rattle.st_check.proofs.InsFits.{ins-fits}

-- the lines by themselves are instructions of the unit
abbrev pub AreInstructions : List Function → List (ℕ × Group) → Type 0
AreInstructions functions = GroupsAre (λ l. IsSound functions l.ins) (λ line. Unit {0})

abbrev pub ShapeIsSound : List Function → Shape → Type 0
ShapeIsSound functions = ShapeAre (λ l. IsSound functions l.ins) (λ line. Unit {0})

pub shape_of-sound : (functions : List Function) (function : Function) → All (λ l. IsSound functions l.ins) function.items → ShapeIsSound functions (shape_of function)
shape_of-sound functions function all =
    shape_of-are (λ l. IsSound functions l.ins) (λ line. Unit {0}) (λ l is. tt) function tt (lines-from_all (λ l. IsSound functions l.ins) function.items all)

pub items-fit : (functions : List Function) (f : ℕ) (function : Function) (shape : Formed) (gs : List (ℕ × Group)) (forked : Bool) (hs : List (ℕ × Group)) → AreAmong shape.saved saved_registers → AreInstructions functions hs → group_faults functions f function.slots shape hs ≡ [] → (i : ℕ) (item : Item) → slice_get (items_of functions gs forked hs) i ≡ Some item → Fits (program_of functions) (function_by functions function (formed shape)) item.kind
items-fit functions f function shape gs forked [] among are none i item here = cc
items-fit functions f function shape gs true ((at, epilogue line) ∷ hs) among are none i item here =
    items-fit functions f function shape gs false hs among are.1 none i item here
items-fit functions f function shape gs true ((at, single l) ∷ hs) among are none i item here =
    items-fit functions f function shape gs false hs among are.1 (append-none (line_faults functions f function.slots shape l hs) _ none).1 i item here
items-fit functions f function shape gs false ((at, epilogue line) ∷ hs) among are none zero item here =
    let same : record { line = line; kind = items.Epilogue } ≡ item = cc in
    subst (λ (it : Item). Fits (program_of functions) (function_by functions function (formed shape)) it.kind) same tt
items-fit functions f function shape gs false ((at, epilogue line) ∷ hs) among are none (suc i) item here =
    items-fit functions f function shape gs false hs among are.1 none i item here
items-fit functions f function shape gs false ((at, single l) ∷ hs) among are none zero item here =
    let right = line-right functions f function.slots shape l hs (append-none (line_faults functions f function.slots shape l hs) _ none).0 in
    let same : record { line = l.line; kind = line_kind functions gs l.ins hs } ≡ item = cc in
    subst (λ (it : Item). Fits (program_of functions) (function_by functions function (formed shape)) it.kind) same
    (ins-fits functions function shape gs hs l.ins among are.0 right.slot right.keeps right.may right.forks right.calls)
items-fit functions f function shape gs false ((at, single l) ∷ hs) among are none (suc i) item here =
    items-fit functions f function shape gs (is_fork l.ins) hs among are.1 (append-none (line_faults functions f function.slots shape l hs) _ none).1 i item here
