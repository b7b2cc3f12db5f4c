-- What holds of each line of a unit's functions holds of each item of its program (program-each). Q is said of lines with their
-- instructions, R of lines alone, and T of items.
use Rattle.std.proofs.Common.{◌≡◌, ◌∙◌, ℕ, zero, suc, Bool, true, false, List, [], ◌∷◌, refl, sym, subst, slice_get, Option, Some, None}
use Rattle.std.specs.Prelude.{option_map}
use Rattle.std.proofs.lemmas.Option.{slice_get-map}
use Rattle.st_base.specs.declared.line.Line.{Line}
use Rattle.st_asm.specs.declared.unit.SourceLine.{SourceLine}
use Rattle.st_asm.specs.declared.unit.Function.{Function}
use Rattle.st_model.specs.declared.program.Item.{Item}
use Rattle.st_model.specs.declared.program.ItemKind.TheVariants as items
use Rattle.st_model.specs.declared.program.ProgramFunction.{ProgramFunction}
use Rattle.st_check.specs.Shape.{Group, epilogue, single, Shape, faulty, formed, shape_of, first_line}
use Rattle.st_check.specs.Faults.{is_fork}
use Rattle.st_check.specs.Programs.{items_of, line_kind, function_by, program_function, program_of}
use Rattle.st_check.proofs.BodyLines.{AreLines, GroupsAre, ShapeAre, first_line-is, shape_of-are}

-- from lines to the items that they begin
pub record Makes (functions : List Function) (Q : SourceLine → Type 0) (R : Line → Type 0) (T : Item → Type 0) : Type 0 where
  pub tells : (l : SourceLine) → Q l → R l.line
  pub first : (line : Line) → R line → T (record { line = line; kind = items.Prologue })
  pub one : (groups : List (ℕ × Group)) (l : SourceLine) (behind : List (ℕ × Group)) → Q l → T (record { line = l.line; kind = line_kind functions groups l.ins behind })
  pub last : (line : Line) → R line → T (record { line = line; kind = items.Epilogue })

item-is : (T : Item → Type 0) (a b : Item) → Some a ≡ Some b → T a → T b
item-is T a b same is =
    let e : a ≡ b = cc in
    subst T e is

items-each : (functions : List Function) (Q : SourceLine → Type 0) (R : Line → Type 0) (T : Item → Type 0) → Makes functions Q R T → (gs : List (ℕ × Group)) (forked : Bool) (hs : List (ℕ × Group)) → GroupsAre Q R hs → (i : ℕ) (item : Item) → slice_get (items_of functions gs forked hs) i ≡ Some item → T item
items-each functions Q R T makes gs forked [] are i item here = cc
items-each functions Q R T makes gs true ((at, epilogue line) ∷ hs) are i item here = items-each functions Q R T makes gs false hs are.1 i item here
items-each functions Q R T makes gs true ((at, single l) ∷ hs) are i item here = items-each functions Q R T makes gs false hs are.1 i item here
items-each functions Q R T makes gs false ((at, epilogue line) ∷ hs) are zero item here =
    item-is T (record { line = line; kind = items.Epilogue }) item here (makes.last line are.0)
items-each functions Q R T makes gs false ((at, epilogue line) ∷ hs) are (suc i) item here = items-each functions Q R T makes gs false hs are.1 i item here
items-each functions Q R T makes gs false ((at, single l) ∷ hs) are zero item here =
    item-is T (record { line = l.line; kind = line_kind functions gs l.ins hs }) item here (makes.one gs l hs are.0)
items-each functions Q R T makes gs false ((at, single l) ∷ hs) are (suc i) item here = items-each functions Q R T makes gs (is_fork l.ins) hs are.1 i item here

shape-each : (functions : List Function) (Q : SourceLine → Type 0) (R : Line → Type 0) (T : Item → Type 0) → Makes functions Q R T → (function : Function) → R (first_line function.line function.items) → (s : Shape) → ShapeAre Q R s → (i : ℕ) (item : Item) → slice_get (function_by functions function s).items i ≡ Some item → T item
shape-each functions Q R T makes function begins (faulty fault) are i item here = cc
shape-each functions Q R T makes function begins (formed shape) are zero item here =
    item-is T (record { line = first_line function.line function.items; kind = items.Prologue }) item here (makes.first (first_line function.line function.items) begins)
shape-each functions Q R T makes function begins (formed shape) are (suc i) item here =
    items-each functions Q R T makes shape.groups false shape.groups are i item here

function-each : (functions : List Function) (Q : SourceLine → Type 0) (R : Line → Type 0) (T : Item → Type 0) → Makes functions Q R T → (function : Function) → R function.line → AreLines Q function.items → (i : ℕ) (item : Item) → slice_get (program_function functions function).items i ≡ Some item → T item
function-each functions Q R T makes function label all i item here =
    shape-each functions Q R T makes function (first_line-is Q R makes.tells function.line function.items label all) (shape_of function) (shape_of-are Q R makes.tells function label all) i item here

each-by : (functions : List Function) (T : Item → Type 0) (f : ℕ) (o : Option Function) (found : ProgramFunction) → slice_get functions f ≡ o → ((function : Function) → slice_get functions f ≡ Some function → (i : ℕ) (item : Item) → slice_get (program_function functions function).items i ≡ Some item → T item) → option_map (program_function functions) o ≡ Some found → (i : ℕ) (item : Item) → slice_get found.items i ≡ Some item → T item
each-by functions T f None found there each same i item here = cc
each-by functions T f (Some function) found there each same i item here =
    let equal : found ≡ program_function functions function = cc in
    each function there i item (subst (λ (it : ProgramFunction). slice_get it.items i ≡ Some item) equal here)

pub program-each : (functions : List Function) (Q : SourceLine → Type 0) (R : Line → Type 0) (T : Item → Type 0) → Makes functions Q R T → ((f : ℕ) (function : Function) → slice_get functions f ≡ Some function → R function.line × AreLines Q function.items) → (f i : ℕ) (function : ProgramFunction) (item : Item) → slice_get (program_of functions).functions f ≡ Some function → slice_get function.items i ≡ Some item → T item
unfolding program_of
program-each functions Q R T makes lines f i found item there here =
    each-by functions T f (slice_get functions f) found refl
    (λ function at. let own = lines f function at in function-each functions Q R T makes function own.0 own.1)
    (sym (slice_get-map (program_function functions) functions f) ∙ there) i item here
