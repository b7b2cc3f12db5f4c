-- What the check of a unit needs to know of its instructions and functions (IsSound, IsSoundFunction), got back from what a unit merely has
-- (unit-sound).
use Rattle.std.proofs.Common.{◌≡◌, ◌∙◌, ℕ, ◌-◌, ◌≤◌, true, List, refl, ap, sym, subst, slice_get, get_or, Some, arith}
use Rattle.std.specs.Prelude.{All}
use Rattle.std.proofs.Math.Logic.{∥∥₁_elim, ∥∥₁_map}
use Rattle.std.specs.Coded.{le_prop}
use Rattle.std.proofs.Math.Dec.{T_prop}
use Rattle.std.proofs.Math.Nat.{ℕ_set}
use Rattle.std.proofs.Math.IntN.{ℤ_set}
use Rattle.std.proofs.Math.Bool.{Bool-set}
use Rattle.st_check.proofs.OpRows.{own-row}
use Rattle.std.proofs.lemmas.Option.{slice_get_within, get_or_from_slice_get}
use Rattle.st_rv.specs.declared.ins.Ins.{Ins}
use Rattle.st_rv.specs.declared.ins.OpKind.{OpKind}
use Rattle.st_rv.specs.declared.ins.OpKind.TheVariants as kinds
use Rattle.st_rv.specs.Op.{kind_of, op_number}
use Rattle.st_rv.specs.declared.rows.TheConstants.{ROWS}
use Rattle.st_rv.specs.declared.rows.Row.{Row}
use Rattle.st_rv.specs.declared.rows.Form.{Form}
use Rattle.st_rv.specs.declared.rows.Form.TheVariants as forms
use Rattle.st_rv.specs.Fields.{FitsForm}
use Rattle.st_rv.specs.Rows.{FitsTable, FitsRow, row_at}
use Rattle.st_rv.proofs.Table.{some_at, at_number}
use Rattle.st_line.specs.declared.source.Target.{Target}
use Rattle.st_line.specs.declared.source.Target.TheVariants as targets
use Rattle.st_line.specs.declared.source.SourceIns.{SourceIns}
use Rattle.st_line.specs.declared.source.SourceIns.TheVariants as source
use Rattle.st_asm.specs.declared.unit.SourceLine.{SourceLine}
use Rattle.st_asm.specs.declared.unit.Function.{Function}
use Rattle.st_asm.specs.Unit.{IsInstruction, IsTarget, IsPlace, IsFunction, IsUnit}

-- a label stands at the place of an item
abbrev pub HasLabel : List Function → Target → Type 0
HasLabel functions (targets.Place f i) = (function : Function) (item : SourceLine) → slice_get functions f ≡ Some function → slice_get function.items i ≡ Some item → item.labelled ≡ true
HasLabel functions (targets.Data offset) = Unit {0}
HasLabel functions (targets.Name name) = Unit {0}

abbrev pub IsSound : List Function → SourceIns → Type 0
IsSound functions (source.Plain i) = FitsTable i × (kind_of i.op ≡ kinds.Branch → ⊥) × (kind_of i.op ≡ kinds.Jump → ⊥)
IsSound functions (source.Branch op rs1 rs2 to) = (kind_of op ≡ kinds.Branch) × HasLabel functions to
IsSound functions (source.Jump to) = HasLabel functions to
IsSound functions _ = Unit {0}

pub record IsSoundFunction (functions : List Function) (function : Function) : Type 0 where
  pub ints : function.ints ≤ 6
  pub handles : function.handles ≤ 2
  pub items : All (λ item. IsSound functions item.ins) function.items

never : {A : Type 0} → ∥ A ∥₁ → (A → ⊥) → ⊥
never {A = A} is none =
    let prop : IsProp ⊥ = hlevel in
    ∥∥₁_elim is prop none

kind-merely : (kind : OpKind) → ∥ kind ≡ kinds.Branch ∥₁ → kind ≡ kinds.Branch
kind-merely kinds.Branch is = refl
kind-merely kinds.Register is = absurd (never is (λ h. cc))
kind-merely kinds.Immediate is = absurd (never is (λ h. cc))
kind-merely kinds.Upper is = absurd (never is (λ h. cc))
kind-merely kinds.Load is = absurd (never is (λ h. cc))
kind-merely kinds.Store is = absurd (never is (λ h. cc))
kind-merely kinds.Jump is = absurd (never is (λ h. cc))
kind-merely kinds.Break is = absurd (never is (λ h. cc))

form-prop : (f : Form) (i : Ins) → IsProp (FitsForm f i)
form-prop forms.R i = hlevel (ℤ_set, ℕ_set, T_prop)
form-prop forms.I i = hlevel (ℤ_set, ℕ_set, T_prop)
form-prop forms.Shift6 i = hlevel (ℤ_set, ℕ_set, T_prop)
form-prop forms.Shift5 i = hlevel (ℤ_set, ℕ_set, T_prop)
form-prop forms.S i = hlevel (ℤ_set, ℕ_set, T_prop)
form-prop forms.B i = hlevel (ℤ_set, ℕ_set, T_prop)
form-prop forms.U i = hlevel (ℤ_set, ℕ_set, T_prop)
form-prop forms.J i = hlevel (ℤ_set, ℕ_set, T_prop)
form-prop forms.Fixed i = hlevel (ℤ_set, ℕ_set, T_prop)

row-of : (i : Ins) → FitsTable i → (r : Row) × (row_at ROWS (op_number i.op) ≡ Some r) × FitsRow i r
unfolding FitsTable
row-of i fits =
    let a = at_number (FitsRow i) i.op (λ r g. g.op) ROWS 0 refl fits in
    let z : op_number i.op - 0 ≡ op_number i.op = omega arith in
    (a.0, ap (row_at ROWS) (sym z) ∙ a.1, a.2)

row-fits : (i : Ins) (r : Row) → row_at ROWS (op_number i.op) ≡ Some r → FitsTable i → FitsForm r.form i
row-fits i r here fits =
    let own = row-of i fits in
    let there : row_at ROWS (op_number i.op) ≡ Some own.0 = own.1 in
    let same : own.0 ≡ r = cc in
    subst (λ (row : Row). FitsForm row.form i) same own.2.form

fits-merely : (i : Ins) → ∥ FitsTable i ∥₁ → FitsTable i
unfolding FitsTable
fits-merely i fits =
    let own = own-row i.op in
    some_at (FitsRow i) ROWS (op_number i.op) own.0 own.1 (record { op = own.2; form = ∥∥₁_elim fits (form-prop own.0.form i) (row-fits i own.0 own.1) })

label-prop : (functions : List Function) (to : Target) → IsProp (HasLabel functions to)
label-prop functions (targets.Place f i) = hlevel Bool-set
label-prop functions (targets.Data offset) = hlevel
label-prop functions (targets.Name name) = hlevel

place-labelled : (functions : List Function) (f i : ℕ) → IsPlace functions f i → HasLabel functions (targets.Place f i)
place-labelled functions f i place function item there here =
    let known : slice_get functions f ≡ Some place.function = place.there in
    let same : function ≡ place.function = cc in
    place.labelled item (subst (λ (it : Function). slice_get it.items i ≡ Some item) same here)

target-labelled : (functions : List Function) (rodata : List ℕ) (to : Target) → IsTarget functions rodata to → HasLabel functions to
target-labelled functions rodata (targets.Place f i) is = place-labelled functions f i is
target-labelled functions rodata (targets.Data offset) is = tt
target-labelled functions rodata (targets.Name name) is = tt

pub instruction-sound : (functions : List Function) (rodata : List ℕ) (ins : SourceIns) → ∥ IsInstruction functions rodata ins ∥₁ → IsSound functions ins
instruction-sound functions rodata (source.Plain i) is = (fits-merely i (∥∥₁_map is (λ h. h.0)), λ e. never is (λ h. h.1 e), λ e. never is (λ h. h.2 e))
instruction-sound functions rodata (source.Branch op rs1 rs2 to) is = (kind-merely (kind_of op) (∥∥₁_map is (λ h. h.0)), ∥∥₁_elim is (label-prop functions to) (λ h. target-labelled functions rodata to h.1))
instruction-sound functions rodata (source.Jump to) is = ∥∥₁_elim is (label-prop functions to) (target-labelled functions rodata to)
instruction-sound functions rodata _ is = tt

pub function-is : (functions : List Function) (rodata : List ℕ) (f : ℕ) (function : Function) → slice_get functions f ≡ Some function → IsUnit functions rodata → IsFunction functions rodata function
function-is functions rodata f function there is =
    subst (IsFunction functions rodata) (get_or_from_slice_get functions f function function there) (is.each f function (slice_get_within functions f function there))

pub unit-sound : (functions : List Function) (rodata : List ℕ) (f : ℕ) (function : Function) → ∥ IsUnit functions rodata ∥₁ → slice_get functions f ≡ Some function → IsSoundFunction functions function
unit-sound functions rodata f function is there = record {
  ints = ∥∥₁_elim is le_prop (λ h. (function-is functions rodata f function there h).ints);
  handles = ∥∥₁_elim is le_prop (λ h. (function-is functions rodata f function there h).handles);
  items = λ k d inside. instruction-sound functions rodata (get_or function.items k d).ins (∥∥₁_map is (λ h. (function-is functions rodata f function there h).items k d inside));
}
