-- What contracts see of the reader's own values: lines (located_view), maps of labels beside the lists of definitions that they stand
-- for (Tells), what was assembled so far (seen), and results beside those of the grammar (GivesAt).
use Rattle.std.specs.Prelude.{◌≡◌, ℕ, ◌+◌, ◌^◌, ◌≤◌, Bool, true, List, [], Option, Some, None, Result, Ok, Err, map, option_map, length}
use Rattle.std.specs.Borrow.{Bor}
use Rattle.std.specs.Global.{Vec}
use Rattle.std.specs.BTreeMap as tree
use Rattle.std.specs.BTreeMap.{BTreeMap}
use Rattle.std.specs.Ordering.{nat_cmp}
use Rattle.std.specs.Cmp.Lexicographic.{slice_cmp}
use Rattle.st_base.specs.declared.line.Line.{Line}
use Rattle.st_line.specs.declared.fault.AsmFault.{AsmFault}
use Rattle.st_line.specs.declared.fault.AsmKind.{AsmKind}
use Rattle.st_line.specs.declared.source.Target.{Target}
use Rattle.st_line.specs.declared.source.Target.TheVariants as targets
use Rattle.st_asm.specs.declared.lines.Located.{Located as Located'}
use Rattle.st_asm.specs.declared.assembly.Spot.{Spot}
use Rattle.st_asm.specs.declared.assembly.Spot.TheVariants as spots
use Rattle.st_asm.specs.declared.assembly.Marked.{Marked}
use Rattle.st_asm.specs.declared.assembly.Assembled.{Assembled}
use Rattle.st_base.specs.declared.failure.Failure.{Failure}
use Rattle.st_base.specs.declared.failure.Failure.TheVariants as errors
use Rattle.st_asm.specs.Labels.{Located, lines_of, Definition, first_line}
use Rattle.st_line.specs.declared.source.Statement.{Statement}
use Rattle.st_line.specs.declared.source.Statement.TheVariants as statements
use Rattle.st_asm.specs.declared.whole.Unit.{Unit as Whole}
use Rattle.st_asm.specs.Unit.{IsUnit}
use Rattle.st_asm.specs.Assembly.{Parts, Label, Assembly, target_at, argued, handled, on_function, weight, padding}

-- ---- lines

abbrev pub located_view : Located' → Located
located_view l = record { line = l.line; text = l.text.now }

abbrev pub located_views : List Located' → List Located
located_views ls = map located_view ls

-- the lines of what follows a line feed, if one stands there
abbrev pub lines_in : Option (List ℕ) → List (List ℕ)
lines_in None = []
lines_in (Some rest) = lines_of rest

abbrev pub length_in : Option (List ℕ) → ℕ
length_in None = 0
length_in (Some rest) = length rest + 1

abbrev pub IsShort : Vec ℕ → Type 0
IsShort text = length text.items ≤ 1048576

-- ---- labels

-- the value of a map at a name
abbrev pub named : {V : Type 0} → List ℕ → BTreeMap (Bor (List ℕ)) V → Option V
named name names = tree.get_by (λ k. slice_cmp nat_cmp name k.now) names

abbrev pub Labels : Type 0 → Type 0
Labels V = BTreeMap ℕ (BTreeMap (Bor (List ℕ)) V)

-- the names of a scope
abbrev pub names_in : {V : Type 0} → ℕ → Labels V → Option (BTreeMap (Bor (List ℕ)) V)
names_in scope labels = tree.get_by (nat_cmp scope) labels

abbrev pub named_in_scope : {V : Type 0} → List ℕ → Option (BTreeMap (Bor (List ℕ)) V) → Option V
named_in_scope name None = None
named_in_scope name (Some names) = named name names

-- the value at a label
abbrev pub value_at : {V : Type 0} → ℕ → List ℕ → Labels V → Option V
value_at scope name labels = named_in_scope name (names_in scope labels)

-- the map has the line on which each label is defined first
abbrev pub TellsLines : Labels Line → List Definition → Type 0
TellsLines labels ds = (scope : ℕ) (name : List ℕ) → value_at scope name labels ≡ first_line scope name ds

-- ---- what was assembled

abbrev pub spot_target : Spot → Target
spot_target (spots.Place function item) = targets.Place function item
spot_target (spots.Data offset) = targets.Data offset

abbrev pub label_view : Marked → Label
label_view m = record { scope = m.scope; name = m.name.now; target = spot_target m.spot }

abbrev pub label_views : List Marked → List Label
label_views ms = map label_view ms

abbrev pub seen : Assembled → Assembly
seen a = record { standing = a.standing; functions = a.functions.items; current = a.current; rodata = a.rodata.items; instructions = a.instructions; marked = a.marked; labels = label_views a.labels.items }

-- the map has what stands at each label
abbrev pub TellsSpots : Labels Spot → List Label → Type 0
TellsSpots places ls = (scope : ℕ) (name : List ℕ) → option_map spot_target (value_at scope name places) ≡ target_at scope name ls

-- ---- results

-- an error is the fault that reading gives; nothing is said where memory lacks
abbrev pub FailsAt : {Y : Type 0} → Failure AsmFault → Result Y AsmFault → Type 0
FailsAt errors.OutOfMemory read = Unit {0}
FailsAt (errors.Fault fault) read = read ≡ Err fault

-- a step that was done, with what it made
abbrev pub Makes : {X Y : Type 0} → Result X (Failure AsmFault) → Y → Result Y AsmFault → Type 0
Makes (Ok x) made read = read ≡ Ok made
Makes (Err e) made read = FailsAt e read

-- the fault of a line, with its place
abbrev pub at_line : {Y : Type 0} → Line → Result Y AsmKind → Result Y AsmFault
at_line line (Ok y) = Ok y
at_line line (Err kind) = Err (record { line = line; kind = kind })

-- ---- statements

abbrev pub IsAligned : Option Statement → Type 0
IsAligned (Some (statements.Align power)) = power ≤ 12
IsAligned _ = Unit {0}

abbrev pub with_arguments : ℕ → ℕ → Assembly → Assembly
with_arguments ints handles a = record a { standing = record a.standing { part = argued a.standing.part }; current = on_function (λ f. record f { ints = ints; handles = handles }) a.current }

abbrev pub with_slots : ℕ → Assembly → Assembly
with_slots slots a = record a { standing = record a.standing { part = handled a.standing.part }; current = on_function (λ f. record f { slots = slots }) a.current }

-- how many instruction lines a statement adds, and how many bytes to so many
abbrev pub added_instructions : Statement → ℕ
added_instructions (statements.Instruction ins) = weight ins
added_instructions _ = 0

abbrev pub added_bytes : Statement → Bool → ℕ → ℕ
added_bytes (statements.Align power) true n = padding (2 ^ power) n
added_bytes (statements.Data bytes) in_data n = length bytes
added_bytes (statements.Zeros count) in_data n = count
added_bytes _ in_data n = 0

-- ---- limits

pub record IsSmall (a : Assembly) : Type 0 where
  pub instructions : a.instructions ≤ 65536
  pub bytes : length a.rodata ≤ 1048576

-- ---- units

abbrev pub GivesAt : {X Y : Type 0} → (X → Y) → Result X (Failure AsmFault) → Result Y AsmFault → Type 0
GivesAt view (Ok x) read = read ≡ Ok (view x)
GivesAt view (Err e) read = FailsAt e read

abbrev pub IsUnitIn : Parts → Type 0
IsUnitIn parts = ∥ IsUnit parts.functions parts.rodata ∥₁

abbrev pub parts_of : Whole → Parts
parts_of u = record { functions = u.functions; rodata = u.rodata }

abbrev pub GivesUnit : Result Whole (Failure AsmFault) → Result Parts AsmFault → Type 0
GivesUnit (Ok u) read = read ≡ Ok (parts_of u)
GivesUnit (Err e) read = FailsAt e read

-- a fault is told in one of so many files
abbrev pub HasFile : ℕ → Result Whole (Failure AsmFault) → Type 0
HasFile files (Ok u) = Unit {0}
HasFile files (Err errors.OutOfMemory) = Unit {0}
HasFile files (Err (errors.Fault fault)) = (1 ≤ fault.line.file) × (fault.line.file ≤ files)
