-- The lines that are told of a unit are its own: those of its program's items (program-lines), that of its least fault of form
-- (least-line), and that of an undefined read (read-line).
use Rattle.std.proofs.Common.{◌≡◌, ◌∙◌, inl, inr, ℕ, suc, ◌+◌, ◌-◌, Bool, true, false, not, ◌==◌, List, [], ◌∷◌, ◌++◌, refl, ap, sym, subst, cond, length, slice_get, get_or, Option, Some, None}
use Rattle.std.specs.Str.{bytes_eq}
use Rattle.std.proofs.lemmas.Option.{slice_get-get_or}
use Rattle.st_base.specs.declared.line.Line.{Line}
use Rattle.st_base.specs.declared.form.FormKind.{FormKind}
use Rattle.st_base.specs.declared.form.FormKind.TheVariants as forms
use Rattle.st_asm.specs.declared.unit.SourceLine.{SourceLine}
use Rattle.st_asm.specs.declared.unit.Function.{Function}
use Rattle.st_model.specs.declared.program.Program.{Program}
use Rattle.st_check.specs.declared.fault.FormFault.{FormFault}
use Rattle.st_check.specs.Shape.{Fault, Group, epilogue, single, Formed, Shape, faulty, formed, shape_of}
use Rattle.st_check.specs.Faults.{main_name, is_main_right, main_faults, fault_when, line_slot_fault, keeps_classes, may_write, written, target_stays, falls_out, forks_right, calls_right, line_faults, group_faults, empty_faults, only_forks, line_before, shape_faults, function_faults, functions_faults, unit_faults, is_before, lesser, least_fault}
use Rattle.st_check.specs.Programs.{program_of}
use Rattle.st_check.specs.Acceptance.{IsFunctionLine, IsUnitLine, IsFaultLine, HasUnitLines, IsReadFault}
use Rattle.st_check.proofs.BodyLines.{AreLines, GroupsAre, ShapeAre, lines-from_all, shape_of-are}
use Rattle.st_check.proofs.ProgramItems.{Makes, program-each}

-- ---- functions

abbrev pub HasFunctionLine : Function → SourceLine → Type 0
HasFunctionLine function l = IsFunctionLine function l.line

function-lines : (function : Function) → AreLines (HasFunctionLine function) function.items
function-lines function =
    lines-from_all (HasFunctionLine function) function.items (λ k d inside. inr (k, (get_or function.items k d, slice_get-get_or function.items k d inside, refl)))

unit-lines : (functions : List Function) (f : ℕ) (function : Function) → slice_get functions f ≡ Some function → (ls : List SourceLine) → AreLines (HasFunctionLine function) ls → AreLines (λ l. IsUnitLine functions l.line) ls
unit-lines functions f function there [] all = tt
unit-lines functions f function there (l ∷ ls) all = ((f, (function, there, all.0)), unit-lines functions f function there ls all.1)

-- a function's label and its items have lines of the unit
lines-own : (functions : List Function) (f : ℕ) (function : Function) → slice_get functions f ≡ Some function → IsUnitLine functions function.line × AreLines (λ l. IsUnitLine functions l.line) function.items
lines-own functions f function there = ((f, (function, there, inl refl)), unit-lines functions f function there function.items (function-lines function))

-- ---- programs

lines-make : (functions : List Function) → Makes functions (λ l. IsUnitLine functions l.line) (IsUnitLine functions) (λ item. IsUnitLine functions item.line)
lines-make functions = record {
  tells = λ l is. is;
  first = λ line is. is;
  one = λ groups l behind is. is;
  last = λ line is. is;
}

pub program-lines : (functions : List Function) → HasUnitLines functions (program_of functions)
program-lines functions =
    program-each functions (λ l. IsUnitLine functions l.line) (IsUnitLine functions) (λ item. IsUnitLine functions item.line) (lines-make functions) (lines-own functions)

-- ---- faults

-- each fault is told at such a line
abbrev pub AreTold : (Line → Type 0) → List Fault → Type 0
AreTold R [] = Unit {0}
AreTold R (a ∷ rest) = R a.0 × AreTold R rest

told-both : (R : Line → Type 0) (xs ys : List Fault) → AreTold R xs → AreTold R ys → AreTold R (xs ++ ys)
told-both R [] ys first second = second
told-both R (x ∷ xs) ys first second = (first.0, told-both R xs ys first.1 second)

told-when : (R : Line → Type 0) (b : Bool) (line : Line) (kind : FormKind) → R line → AreTold R (fault_when b line kind)
told-when R true line kind is = (is, tt)
told-when R false line kind is = tt

line-told : (R : Line → Type 0) (functions : List Function) (f h : ℕ) (shape : Formed) (l : SourceLine) (behind : List (ℕ × Group)) → R l.line → AreTold R (line_faults functions f h shape l behind)
line-told R functions f h shape l behind is =
    let g = told-when R (not (calls_right functions l.ins)) l.line forms.BadCall is in
    let e = told-when R (not (forks_right functions l.ins behind)) l.line forms.ForkPlace is in
    let d = told-when R (falls_out l.ins behind) l.line forms.FallsOut is in
    let c = told-when R (not (target_stays f shape l.ins)) l.line forms.BranchOut is in
    let b = told-when R (not (may_write shape (written l.ins))) l.line forms.NotSaved is in
    let a = told-when R (not (keeps_classes l.ins)) l.line forms.Partition is in
    let s = told-when R (line_slot_fault h shape l.ins) l.line forms.SlotRange is in
    told-both R _ _ (told-both R _ _ (told-both R _ _ (told-both R _ _ (told-both R _ _ (told-both R _ _ s a) b) c) d) e) g

groups-told : (R : Line → Type 0) (functions : List Function) (f h : ℕ) (shape : Formed) (gs : List (ℕ × Group)) → GroupsAre (λ l. R l.line) R gs → AreTold R (group_faults functions f h shape gs)
groups-told R functions f h shape [] are = tt
groups-told R functions f h shape ((at, single l) ∷ gs) are =
    told-both R (line_faults functions f h shape l gs) (group_faults functions f h shape gs) (line-told R functions f h shape l gs are.0) (groups-told R functions f h shape gs are.1)
groups-told R functions f h shape ((at, epilogue line) ∷ gs) are = groups-told R functions f h shape gs are.1

before-by : (R : Line → Type 0) (b : Bool) (line other : Line) → R line → R other → R (cond b line other)
before-by R true line other is also = is
before-by R false line other is also = also

before-told : (R : Line → Type 0) (line : Line) (at : ℕ) (ls : List SourceLine) → R line → AreLines (λ l. R l.line) ls → R (line_before line at ls)
before-told R line at [] is all = is
before-told R line at (l ∷ ls) is all = before-by R (at == 0) line _ is (before-told R l.line (at - 1) ls all.0 all.1)

shape-told : (R : Line → Type 0) (functions : List Function) (f : ℕ) (function : Function) (s : Shape) → R function.line → AreLines (λ l. R l.line) function.items → ShapeAre (λ l. R l.line) R s → AreTold R (shape_faults functions f function s)
shape-told R functions f function (faulty fault) label all are = (are, tt)
shape-told R functions f function (formed shape) label all are =
    told-both R (empty_faults (line_before function.line (4 + length shape.saved) function.items) shape.groups) (group_faults functions f function.slots shape shape.groups)
    (told-when R (only_forks shape.groups) (line_before function.line (4 + length shape.saved) function.items) forms.FallsOut (before-told R function.line (4 + length shape.saved) function.items label all))
    (groups-told R functions f function.slots shape shape.groups are)

function-told : (R : Line → Type 0) (functions : List Function) (f : ℕ) (function : Function) → R function.line → AreLines (λ l. R l.line) function.items → AreTold R (function_faults functions f function)
function-told R functions f function label all =
    shape-told R functions f function (shape_of function) label all (shape_of-are (λ l. R l.line) R (λ l is. is) function label all)

-- each function's label and items have such lines
abbrev pub HaveLines : (Line → Type 0) → List Function → Type 0
HaveLines R functions = (f : ℕ) (function : Function) → slice_get functions f ≡ Some function → R function.line × AreLines (λ l. R l.line) function.items

functions-told : (R : Line → Type 0) (functions : List Function) (k : ℕ) (gs : List Function) → HaveLines R gs → AreTold R (functions_faults functions k gs)
functions-told R functions k [] lines = tt
functions-told R functions k (g ∷ gs) lines =
    let own = lines 0 g refl in
    told-both R (function_faults functions k g) (functions_faults functions (k + 1) gs) (function-told R functions k g own.0 own.1)
    (functions-told R functions (k + 1) gs (λ f function there. lines (suc f) function there))

main-by : (R : Line → Type 0) (b : Bool) (xs ys : List Fault) → AreTold R xs → AreTold R ys → AreTold R (cond b xs ys)
main-by R true xs ys first second = first
main-by R false xs ys first second = second

main-told : (R : Line → Type 0) (gs : List Function) → R (record { file = 1; line = 1 }) → HaveLines R gs → AreTold R (main_faults gs)
main-told R [] is lines = (is, tt)
main-told R (g ∷ gs) is lines =
    main-by R (bytes_eq g.name main_name) _ _ (told-when R (not (is_main_right g)) g.line forms.NoMain (lines 0 g refl).0)
    (main-told R gs is (λ f function there. lines (suc f) function there))

fault-lines : (functions : List Function) (ls : List SourceLine) → AreLines (λ l. IsUnitLine functions l.line) ls → AreLines (λ l. IsFaultLine functions l.line) ls
fault-lines functions [] all = tt
fault-lines functions (l ∷ ls) all = (inr all.0, fault-lines functions ls all.1)

fault-own : (functions : List Function) → HaveLines (IsFaultLine functions) functions
fault-own functions f function there =
    let own = lines-own functions f function there in
    (inr own.0, fault-lines functions function.items own.1)

unit-told : (functions : List Function) → AreTold (IsFaultLine functions) (unit_faults functions)
unfolding unit_faults
unit-told functions =
    told-both (IsFaultLine functions) (main_faults functions) (functions_faults functions 0 functions)
    (main-told (IsFaultLine functions) functions (inl refl) (fault-own functions)) (functions-told (IsFaultLine functions) functions 0 functions (fault-own functions))

-- ---- the one that counts

abbrev pub IsTold : (Line → Type 0) → Option Fault → Type 0
IsTold R None = Unit {0}
IsTold R (Some a) = R a.0

pick-told : (R : Line → Type 0) (t : Bool) (a b : Fault) → R a.0 → R b.0 → R (cond t b a).0
pick-told R true a b is also = also
pick-told R false a b is also = is

lesser-told : (R : Line → Type 0) (a : Fault) (o : Option Fault) → R a.0 → IsTold R o → R (lesser a o).0
lesser-told R a None is rest = is
lesser-told R a (Some b) is rest = pick-told R (is_before b a) a b is rest

least-told : (R : Line → Type 0) (faults : List Fault) → AreTold R faults → IsTold R (least_fault faults)
least-told R [] told = tt
least-told R (a ∷ rest) told = lesser-told R a (least_fault rest) told.0 (least-told R rest told.1)

-- the least fault of form is told at a line of the unit, or at line 1 of file 1
pub least-line : (functions given : List Function) (found : Option Fault) (line : Line) (kind : FormKind) → given ≡ functions → found ≡ least_fault (unit_faults given) → found ≡ Some (line, kind) → IsFaultLine functions line
least-line functions given found line kind same least is =
    let e : least_fault (unit_faults functions) ≡ Some (line, kind) = ap (λ fs. least_fault (unit_faults fs)) (sym same) ∙ sym least ∙ is in
    subst (IsTold (IsFaultLine functions)) e (least-told (IsFaultLine functions) (unit_faults functions) (unit-told functions))

-- an undefined read is told at a line of the unit
pub read-line : (functions : List Function) (program : Program) (fault : FormFault) → program ≡ program_of functions → IsReadFault program fault → IsFaultLine functions fault.line
read-line functions program fault same read =
    let lines = subst (HasUnitLines functions) (sym same) (program-lines functions) in
    inr (subst (IsUnitLine functions) (sym read.line) (lines read.f read.bad.at read.function read.bad.item read.there read.bad.here))
