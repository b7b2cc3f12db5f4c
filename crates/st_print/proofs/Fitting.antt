-- What FitsTable says of an instruction by its operation's kind (fits-form), and what a form's range says of an immediate: signed-in,
-- shift-in and upper-in give it as the test that reading makes.
use Rattle.std.proofs.Common.{ℕ, ◌≡◌, ◌+◌, ◌^◌, ◌≤◌, Bool, true, false, ◌&&◌, List, [], ◌∷◌, refl, ap, subst, ◌∙◌, arith, ℤ, pos, negsuc, neg_ℤ, inl, inr}
use Rattle.std.specs.Prelude.{◌≤ℤ◌, ◌<ℤ◌}
use Rattle.std.proofs.lemmas.Int.{ints}
use Rattle.st_base.specs.declared.reg.Reg.{Reg}
use Rattle.st_base.specs.declared.reg.Reg.TheVariants as registers
use Rattle.st_base.specs.Reg.{reg_number}
use Rattle.st_rv.specs.declared.rows.TheConstants.{ROWS}
use Rattle.st_rv.specs.declared.rows.Row.{Row}
use Rattle.st_rv.specs.declared.rows.Form.{Form}
use Rattle.st_rv.specs.declared.rows.Form.TheVariants as forms
use Rattle.st_rv.specs.declared.ins.Ins.{Ins}
use Rattle.st_rv.specs.declared.ins.Op.{Op}
use Rattle.st_rv.specs.declared.ins.Op.TheVariants as ops
use Rattle.st_rv.specs.declared.ins.OpKind.{OpKind}
use Rattle.st_rv.specs.declared.ins.OpKind.TheVariants as kinds
use Rattle.st_rv.specs.Op.{kind_of}
use Rattle.st_rv.specs.Fields.{FitsForm, IsSigned, IsUnsigned}
use Rattle.st_rv.specs.Rows.{FitsRow, SomeRow, FitsTable}
use Rattle.st_line.specs.Statement.{is_in, immediate_range}
use Rattle.st_line.proofs.Runs.{and-true}
use Rattle.st_print.proofs.WordsRead.{IsNarrow}

-- ---- the form of an operation's row

abbrev pub immediate_form : Op → Form
immediate_form ops.Slli = forms.Shift6
immediate_form ops.Srli = forms.Shift6
immediate_form ops.Srai = forms.Shift6
immediate_form ops.Slliw = forms.Shift5
immediate_form ops.Srliw = forms.Shift5
immediate_form ops.Sraiw = forms.Shift5
immediate_form _ = forms.I

abbrev pub jump_form : Op → Form
jump_form ops.Jal = forms.J
jump_form _ = forms.I

abbrev pub form_for : OpKind → Op → Form
form_for kinds.Register op = forms.R
form_for kinds.Immediate op = immediate_form op
form_for kinds.Upper op = forms.U
form_for kinds.Load op = forms.I
form_for kinds.Store op = forms.S
form_for kinds.Branch op = forms.B
form_for kinds.Jump op = jump_form op
form_for kinds.Break op = forms.Fixed

abbrev same_form : Form → Form → Bool
same_form forms.R forms.R = true
same_form forms.I forms.I = true
same_form forms.Shift6 forms.Shift6 = true
same_form forms.Shift5 forms.Shift5 = true
same_form forms.S forms.S = true
same_form forms.B forms.B = true
same_form forms.U forms.U = true
same_form forms.J forms.J = true
same_form forms.Fixed forms.Fixed = true
same_form _ _ = false

form-same : (f g : Form) → same_form f g ≡ true → f ≡ g
form-same forms.R forms.R h = refl
form-same forms.I forms.I h = refl
form-same forms.Shift6 forms.Shift6 h = refl
form-same forms.Shift5 forms.Shift5 h = refl
form-same forms.S forms.S h = refl
form-same forms.B forms.B h = refl
form-same forms.U forms.U h = refl
form-same forms.J forms.J h = refl
form-same forms.Fixed forms.Fixed h = refl
form-same f g h = cc

abbrev have_forms : List Row → Bool
have_forms [] = true
have_forms (r ∷ rs) = same_form r.form (form_for (kind_of r.op) r.op) && have_forms rs

fits-row : (i : Ins) (rs : List Row) → have_forms rs ≡ true → SomeRow (FitsRow i) rs → FitsForm (form_for (kind_of i.op) i.op) i
fits-row i [] t h = elim h [ ]
fits-row i (r ∷ rs) t h =
    let s = and-true (same_form r.form (form_for (kind_of r.op) r.op)) (have_forms rs) t in
    elim h [
      | inl g ↦ subst (λ f. FitsForm f i) (form-same r.form (form_for (kind_of r.op) r.op) s.0 ∙ ap (λ op. form_for (kind_of op) op) g.op) g.form
      | inr k ↦ fits-row i rs s.1 k
    ]

pub fits-form : (i : Ins) → FitsTable i → FitsForm (form_for (kind_of i.op) i.op) i
unfolding FitsTable
fits-form i h = fits-row i ROWS refl h

-- ---- registers that a form lacks

pub number-zero : (r : Reg) → reg_number r ≡ 0 → r ≡ registers.Zero
number-zero registers.Zero h = refl
number-zero r h = absurd (omega arith)

-- ---- ranges

pub signed-in : (z : ℤ) → IsSigned (2 ^ 11) z → (is_in (negsuc 2047, pos 2047) z ≡ true) × IsNarrow z
signed-in (pos n) h = (grind (arith, ints), omega (arith, ints))
signed-in (negsuc n) h = (grind (arith, ints), omega (arith, ints))

pub shift-in : (k : ℕ) (z : ℤ) → k ≤ 63 → IsUnsigned (k + 1) z → (is_in (pos 0, pos k) z ≡ true) × IsNarrow z
shift-in k (pos n) j h = (grind (arith, ints), omega (arith, ints))
shift-in k (negsuc n) j h = absurd (omega (arith, ints))

pub upper-in : (z : ℤ) → IsUnsigned (2 ^ 20) z → (is_in (pos 0, pos 0xfffff) z ≡ true) × IsNarrow z
upper-in (pos n) h = (grind (arith, ints), omega (arith, ints))
upper-in (negsuc n) h = absurd (omega (arith, ints))

pub constant-in : (z : ℤ) → neg_ℤ (pos (2 ^ 31)) ≤ℤ z → z <ℤ pos (2 ^ 31) → (is_in (negsuc 0x7fffffff, pos 0x7fffffff) z ≡ true) × IsNarrow z
constant-in (pos n) h k = (grind (arith, ints), omega (arith, ints))
constant-in (negsuc n) h k = (grind (arith, ints), omega (arith, ints))

pub immediate-in : (op : Op) (i : Ins) → FitsForm (immediate_form op) i → (is_in (immediate_range op) i.imm ≡ true) × IsNarrow i.imm × (i.rs2 ≡ registers.Zero)
immediate-in ops.Slli i h = let s = shift-in 63 i.imm (omega arith) h.0 in (s.0, s.1, number-zero i.rs2 h.1)
immediate-in ops.Srli i h = let s = shift-in 63 i.imm (omega arith) h.0 in (s.0, s.1, number-zero i.rs2 h.1)
immediate-in ops.Srai i h = let s = shift-in 63 i.imm (omega arith) h.0 in (s.0, s.1, number-zero i.rs2 h.1)
immediate-in ops.Slliw i h = let s = shift-in 31 i.imm (omega arith) h.0 in (s.0, s.1, number-zero i.rs2 h.1)
immediate-in ops.Srliw i h = let s = shift-in 31 i.imm (omega arith) h.0 in (s.0, s.1, number-zero i.rs2 h.1)
immediate-in ops.Sraiw i h = let s = shift-in 31 i.imm (omega arith) h.0 in (s.0, s.1, number-zero i.rs2 h.1)
immediate-in _ i h = let s = signed-in i.imm h.0 in (s.0, s.1, number-zero i.rs2 h.1)
