-- What every unit has (IsUnit): ranges, distinct names, sizes, instructions that there are, targets that lie in the unit, and items in the
-- order of files and lines (IsEarlier).
use Rattle.std.specs.Prelude.{◌≡◌, ◌⊎◌, ℕ, ◌<◌, ◌≤◌, ◌^◌, pos, neg_ℤ, ◌≤ℤ◌, ◌<ℤ◌, true, false, List, [], ◌∷◌, ◌++◌, length, map, Some, All, AllPairs, slice_get, sum_by}
use Rattle.st_base.specs.declared.line.Line.{Line}
use Rattle.st_rv.specs.declared.ins.OpKind.TheVariants.{Branch as Branch', Jump as Jump'}
use Rattle.st_rv.specs.Op.{kind_of}
use Rattle.st_rv.specs.Rows.{FitsTable}
use Rattle.st_line.specs.declared.source.Target.{Target}
use Rattle.st_line.specs.declared.source.Target.TheVariants as targets
use Rattle.st_line.specs.declared.source.SourceIns.{SourceIns}
use Rattle.st_line.specs.declared.source.SourceIns.TheVariants as source
use Rattle.st_line.specs.Operands.{is_name}
use Rattle.st_asm.specs.declared.unit.SourceLine.{SourceLine}
use Rattle.st_asm.specs.declared.unit.Function.{Function}
use Rattle.st_asm.specs.Labels.{is_local, is_entry}
use Rattle.st_asm.specs.Assembly.{weight}

-- the place of an item of a function, at which a label stands, or the end of its items
pub record IsPlace (functions : List Function) (f i : ℕ) : Type 0 where
  pub function : Function
  pub there : slice_get functions f ≡ Some function
  pub inside : i ≤ length function.items
  pub labelled : (item : SourceLine) → slice_get function.items i ≡ Some item → item.labelled ≡ true

abbrev pub IsTarget : List Function → List ℕ → Target → Type 0
IsTarget functions rodata (targets.Place f i) = IsPlace functions f i
IsTarget functions rodata (targets.Data offset) = offset ≤ length rodata
IsTarget functions rodata (targets.Name name) = is_name name ≡ true

abbrev pub IsInstruction : List Function → List ℕ → SourceIns → Type 0
IsInstruction functions rodata (source.Plain i) = FitsTable i × (kind_of i.op ≡ Branch' → ⊥) × (kind_of i.op ≡ Jump' → ⊥)
IsInstruction functions rodata (source.Li rd value) = (neg_ℤ (pos (2 ^ 31)) ≤ℤ value) × (value <ℤ pos (2 ^ 31))
IsInstruction functions rodata (source.La rd to) = IsTarget functions rodata to
IsInstruction functions rodata (source.Branch op rs1 rs2 to) = (kind_of op ≡ Branch') × IsTarget functions rodata to
IsInstruction functions rodata (source.Jump to) = IsTarget functions rodata to
IsInstruction functions rodata (source.Call name) = is_name name ≡ true
IsInstruction functions rodata source.Ret = Unit {0}
IsInstruction functions rodata (source.Fork handle) = Unit {0}

pub record IsFunction (functions : List Function) (rodata : List ℕ) (function : Function) : Type 0 where
  pub name : is_name function.name ≡ true
  pub shared : is_local function.name ≡ false
  pub free : is_entry function.name ≡ false
  pub ints : function.ints ≤ 6
  pub handles : function.handles ≤ 2
  pub slots : function.slots ≤ 252
  pub items : All (λ item. IsInstruction functions rodata item.ins) function.items

-- the instruction lines of a function
abbrev pub instructions_in : Function → ℕ
instructions_in function = sum_by (λ item. weight item.ins) function.items

-- one place in the sources is before another: in an earlier file, or on an earlier line of the same file
abbrev pub IsEarlier : Line → Line → Type 0
IsEarlier a b = (a.file < b.file) ⊎ ((a.file ≡ b.file) × (a.line < b.line))

-- the lines of all items, in the order of functions and items
abbrev pub item_lines : List Function → List Line
item_lines [] = []
item_lines (f ∷ fs) = map (λ item. item.line) f.items ++ item_lines fs

pub record IsUnit (functions : List Function) (rodata : List ℕ) : Type 0 where
  pub each : All (IsFunction functions rodata) functions
  pub distinct : AllPairs (λ f g. f.name ≡ g.name → ⊥) functions
  pub instructions : sum_by instructions_in functions ≤ 65536
  pub bytes : length rodata ≤ 1048576
  -- each item stands on a later line than those before it
  pub ordered : AllPairs IsEarlier (item_lines functions)
