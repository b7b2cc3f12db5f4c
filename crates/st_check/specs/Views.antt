-- What the code's shapes stand for: tests of lines (test_of), openings, groups, bodies and shapes.
use Rattle.std.specs.Prelude.{ℕ, ◌<◌, ◌≤◌, ◌-◌, ℤ, pos, neg_ℤ, ◌-ℤ◌, ◌≡◌, is_some, Bool, false, List, [], ◌∷◌, length, drop, map, Option, Some, None, Result, Ok, Err}
use Rattle.std.specs.Borrow.{Bor}
use Rattle.st_base.specs.declared.reg.Reg.{Reg}
use Rattle.st_base.specs.declared.line.Line.{Line}
use Rattle.st_line.specs.declared.source.SourceIns.{SourceIns}
use Rattle.st_asm.specs.declared.unit.SourceLine.{SourceLine}
use Rattle.st_check.specs.declared.instruction.Test.{Test}
use Rattle.st_check.specs.declared.instruction.Test.TheVariants as tests
use Rattle.st_check.specs.declared.prologue.Opening.{Opening as Opening'}
use Rattle.st_check.specs.declared.prologue.Opening.TheVariants as openings
use Rattle.st_check.specs.declared.body.Group.{Group as Group'}
use Rattle.st_check.specs.declared.body.Group.TheVariants as groups
use Rattle.st_check.specs.declared.body.Placed.{Placed}
use Rattle.st_check.specs.declared.body.Body.{Body as Body'}
use Rattle.st_check.specs.declared.body.Body.TheVariants as bodies
use Rattle.st_check.specs.declared.shape.Shape.{Shape as Shape'}
use Rattle.st_check.specs.declared.shape.Formed.{Formed as Formed'}
use Rattle.st_check.specs.declared.shape.Shape.TheVariants as shapes
use Rattle.st_check.specs.Shape.{is_addi, is_push, is_pop, is_return, Opening, departs, opened, Group, epilogue, single, Body, broken, whole, with_group, Shape, faulty, formed, Formed, prologue_lines, Fault}
use Rattle.st_check.specs.Faults.{lesser, begins_group, only_forks, forks_before, line_faults}
use Rattle.st_check.specs.Programs.{place_from, item_number, line_kind, saved_bits}
use Rattle.st_model.specs.declared.program.Item.{Item}
use Rattle.st_model.specs.declared.program.ItemKind.TheVariants as items
use Rattle.st_check.specs.declared.faults.Behind.{Behind}
use Rattle.st_check.specs.declared.faults.Context.{Context}
use Rattle.st_check.specs.declared.program.Numbers.{Numbers}
use Rattle.st_asm.specs.declared.unit.Function.{Function}
use Rattle.std.specs.BTreeMap.{BTreeMap}
use Rattle.std.specs.BTreeMap as tree
use Rattle.std.specs.Cmp.Lexicographic.{slice_cmp}
use Rattle.std.specs.Ordering.{nat_cmp}

-- whether a line is what a test asks, in a frame of so many bytes
abbrev pub test_of : ℤ → Test → SourceIns → Bool
test_of frame (tests.Addi rd rs1) ins = is_addi rd rs1 frame ins
test_of frame (tests.Push reg below) ins = is_push reg (frame -ℤ pos below) ins
test_of frame (tests.Pop reg below) ins = is_pop reg (frame -ℤ pos below) ins
test_of frame tests.Return ins = is_return ins

abbrev pub tests_of : ℤ → List Test → List (SourceIns → Bool)
tests_of frame tests = map (test_of frame) tests

-- an opening of these lines
abbrev pub opening_view : List SourceLine → Opening' → Opening
opening_view ls (openings.Departs line) = departs line
opening_view ls (openings.Opened first saved) = opened (neg_ℤ first.now.imm) saved.items (drop (prologue_lines saved.items) ls)

-- at most eleven registers are saved
abbrev pub SavesFew : Opening' → Type 0
SavesFew (openings.Departs line) = Unit {0}
SavesFew (openings.Opened first saved) = length saved.items ≤ 11

-- what a line leads to: its departure, or what stands behind it
abbrev pub after_line : Option Line → Opening → Opening
after_line None rest = rest
after_line (Some line) rest = departs line

abbrev pub saved_view : Option (Reg × Bor (List Reg)) → Option (Reg × List Reg)
saved_view None = None
saved_view (Some p) = Some (p.0, p.1.now)

abbrev pub group_view : Group' → Group
group_view (groups.Epilogue line) = epilogue line
group_view (groups.Single l) = single l.now

abbrev pub placed_view : Placed → ℕ × Group
placed_view p = (p.at, group_view p.group)

abbrev pub groups_view : List Placed → List (ℕ × Group)
groups_view ps = map placed_view ps

-- how many lines of a group come behind its first, where an epilogue has so many lines
abbrev pub lines_more : ℕ → Group' → ℕ
lines_more count (groups.Epilogue line) = count - 1
lines_more count (groups.Single l) = 0

-- a body that goes on behind a group, or the fault of an epilogue
abbrev pub after_group : ℕ → ℕ → (ℕ → Body) → Result Group' Line → Body
after_group at count go (Ok g) = with_group at (group_view g) (go (lines_more count g))
after_group at count go (Err line) = broken line

abbrev pub body_view : Body' → Body
body_view (bodies.Broken line) = broken line
body_view (bodies.Whole ps) = whole (groups_view ps.items)

abbrev pub formed_view : Formed' → Formed
formed_view f = record { frame = f.frame; saved = f.saved.items; groups = groups_view f.groups.items }

abbrev pub shape_view : Shape' → Shape
shape_view (shapes.Faulty line kind) = faulty (line, kind)
shape_view (shapes.Formed f) = formed (formed_view f)

-- at most eleven registers are saved
abbrev pub ShapeSavesFew : Shape' → Type 0
ShapeSavesFew (shapes.Faulty line kind) = Unit {0}
ShapeSavesFew (shapes.Formed f) = length f.saved.items ≤ 11

-- the bits of the saved registers are below 2 ^ 11
abbrev pub ShapeHasBits : Shape' → Type 0
ShapeHasBits (shapes.Faulty line kind) = Unit {0}
ShapeHasBits (shapes.Formed f) = saved_bits f.saved.items < 2048

-- ---- the least of faults before others, of which the least is known
abbrev pub least_onto : List Fault → Option Fault → Option Fault
least_onto [] best = best
least_onto (a ∷ rest) best = Some (lesser a (least_onto rest best))

-- ---- names

abbrev pub place_in : List ℕ → BTreeMap (Bor (List ℕ)) ℕ → Option ℕ
place_in name names = tree.get_by (λ k. slice_cmp nat_cmp name k.now) names

-- the map tells the place of the first function of each name, counted on from this number
abbrev pub TellsNamesFrom : ℕ → BTreeMap (Bor (List ℕ)) ℕ → List Function → Type 0
TellsNamesFrom f names functions = (name : List ℕ) → place_in name names ≡ place_from f name functions

abbrev pub TellsNames : BTreeMap (Bor (List ℕ)) ℕ → List Function → Type 0
TellsNames names functions = TellsNamesFrom 0 names functions

-- ---- places of groups

-- the map has just the places at which groups begin
abbrev pub TellsBegins : BTreeMap ℕ ℕ → List (ℕ × Group) → Type 0
TellsBegins begins gs = (at : ℕ) → is_some (tree.get_by (nat_cmp at) begins) ≡ begins_group at gs

-- ---- what stands behind a line: whether it is lines `.st_fork` alone, and whether it begins as a fork asks
abbrev pub IsBehind : List Function → Behind → List (ℕ × Group) → Type 0
IsBehind functions b gs = (b.only_forks ≡ only_forks gs) × (b.is_forked ≡ forks_before functions gs)

-- the faults of a group, before others
abbrev pub first_faults : List Function → ℕ → ℕ → Formed → Group → List (ℕ × Group) → List Fault
first_faults functions f h shape (single l) gs = line_faults functions f h shape l gs
first_faults functions f h shape (epilogue line) gs = []

-- the names and the places of groups are told
pub record IsContext (functions : List Function) (context : Context) : Type 0 where
  pub names : TellsNames context.names.now functions
  pub begins : TellsBegins context.begins.now (groups_view context.shape.now.groups.items)

-- ---- numbers of items

abbrev pub number_or_end : ℕ → Option ℕ → ℕ
number_or_end end None = end
number_or_end end (Some n) = n

abbrev pub number_in : Numbers → ℕ → ℕ
number_in numbers at = number_or_end numbers.end (tree.get_by (nat_cmp at) numbers.items)

-- the numbers are those of the items of groups
abbrev pub TellsNumbers : Numbers → List (ℕ × Group) → Type 0
TellsNumbers numbers gs = (at : ℕ) → number_in numbers at ≡ item_number 1 false at gs

-- ---- items

abbrev pub prologue_item : Line → Item
prologue_item line = record { line = line; kind = items.Prologue }

-- the item that a group begins, before other groups
abbrev pub item_of : List Function → List (ℕ × Group) → Group → List (ℕ × Group) → Item
item_of functions gs (epilogue line) behind = record { line = line; kind = items.Epilogue }
item_of functions gs (single l) behind = record { line = l.line; kind = line_kind functions gs l.ins behind }
