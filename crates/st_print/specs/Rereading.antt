-- What reading the canonical text of a unit gives (ReadsBack): the unit again, line numbers and the labels that no operand names aside.
use Rattle.std.specs.Prelude.{◌≡◌, ℕ, ◌+◌, ◌<◌, ◌≤◌, ◌==◌, ◌||◌, true, List, [], ◌∷◌, length, Err, Ok, All}
use Rattle.st_line.specs.declared.fault.AsmKind.TheVariants.{TooLarge}
use Rattle.st_line.specs.declared.source.Target.{Target}
use Rattle.st_line.specs.declared.source.Target.TheVariants as targets
use Rattle.st_line.specs.declared.source.SourceIns.{SourceIns}
use Rattle.st_line.specs.declared.source.SourceIns.TheVariants as source
use Rattle.st_asm.specs.declared.unit.SourceLine.{SourceLine}
use Rattle.st_asm.specs.declared.unit.Function.{Function}
use Rattle.st_asm.specs.Labels.{is_entry, is_named as is_listed}
use Rattle.st_asm.specs.Assembly.{Parts, unit_of}
use Rattle.st_asm.specs.Unit.{IsUnit}
use Rattle.st_print.specs.Spots.{is_named}
use Rattle.st_print.specs.Canonical.{unit_text}

-- ---- units whose operands name what is there

abbrev pub names_of : List Function → List (List ℕ)
names_of [] = []
names_of (f ∷ fs) = f.name ∷ names_of fs

abbrev pub IsInCode : Target → Type 0
IsInCode (targets.Place f i) = Unit {0}
IsInCode _ = ⊥

abbrev pub IsInData : Target → Type 0
IsInData (targets.Data offset) = Unit {0}
IsInData _ = ⊥

-- a call names a function or an entry, a `la` a place in the data, a branch or jump one in the code
abbrev pub NamesThings : List Function → SourceIns → Type 0
NamesThings functions (source.La rd to) = IsInData to
NamesThings functions (source.Branch op rs1 rs2 to) = IsInCode to
NamesThings functions (source.Jump to) = IsInCode to
NamesThings functions (source.Call name) = (is_listed name (names_of functions) || is_entry name) ≡ true
NamesThings functions _ = Unit {0}

abbrev pub AllNameThings : List Function → Type 0
AllNameThings functions = All (λ f. All (λ item. NamesThings functions item.ins) f.items) functions

-- ---- the same unit

-- the item is as it was; a label stands at it where the function's own does, or where an operand names it
pub record IsSameItem (functions : List Function) (f i : ℕ) (before after : SourceLine) : Type 0 where
  pub ins : after.ins ≡ before.ins
  pub labelled : after.labelled ≡ (i == 0 || is_named functions (targets.Place f i))

abbrev pub AreSameItems : List Function → ℕ → ℕ → List SourceLine → List SourceLine → Type 0
AreSameItems functions f i [] [] = Unit {0}
AreSameItems functions f i (x ∷ xs) (y ∷ ys) = IsSameItem functions f i x y × AreSameItems functions f (i + 1) xs ys
AreSameItems functions f i _ _ = ⊥

pub record IsSameFunction (functions : List Function) (f : ℕ) (before after : Function) : Type 0 where
  pub name : after.name ≡ before.name
  pub ints : after.ints ≡ before.ints
  pub handles : after.handles ≡ before.handles
  pub slots : after.slots ≡ before.slots
  pub items : AreSameItems functions f 0 before.items after.items

abbrev pub AreSameFunctions : List Function → ℕ → List Function → List Function → Type 0
AreSameFunctions functions f [] [] = Unit {0}
AreSameFunctions functions f (x ∷ xs) (y ∷ ys) = IsSameFunction functions f x y × AreSameFunctions functions (f + 1) xs ys
AreSameFunctions functions f _ _ = ⊥

-- ---- reading the text

pub record ReadsAgain (functions : List Function) (rodata : List ℕ) : Type 0 where
  pub parts : Parts
  pub read : unit_of (unit_text functions rodata ∷ []) ≡ Ok parts
  pub same : AreSameFunctions functions 0 functions parts.functions
  pub bytes : parts.rodata ≡ rodata

-- a text of at most 1,048,576 bytes reads back as the unit, and a longer one is too large
pub record ReadsBack (functions : List Function) (rodata : List ℕ) : Type 0 where
  pub short : length (unit_text functions rodata) ≤ 1048576 → AllNameThings functions → ReadsAgain functions rodata
  pub long : 1048576 < length (unit_text functions rodata) → unit_of (unit_text functions rodata ∷ []) ≡ Err (record { line = record { file = 1; line = 1 }; kind = TooLarge })

-- the law: the text of every unit reads back, where its data are bytes
abbrev pub UnitsReadBack : Type 0
UnitsReadBack = (functions : List Function) (rodata : List ℕ) → IsUnit functions rodata → All (λ b. b < 256) rodata → ReadsBack functions rodata
