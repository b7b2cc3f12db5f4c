-- What an instruction has that was read: row_read for the rows of the instruction table, pseudo_read for pseudo instructions.
use Rattle.std.proofs.Common.{ℕ, ◌≡◌, ◌^◌, Bool, true, false, List, Option, Some, None, Ok, Err, refl, ap, sym, subst, ◌∙◌, cond}
use Rattle.std.specs.Prelude.{ℤ, pos, negsuc, neg_ℤ, ◌≤ℤ◌, ◌<ℤ◌}
use Rattle.st_base.specs.declared.reg.Reg.{Reg}
use Rattle.st_base.specs.declared.reg.Reg.TheVariants as registers
use Rattle.st_rv.specs.declared.ins.Ins.{Ins}
use Rattle.st_rv.specs.declared.ins.Op.{Op}
use Rattle.st_rv.specs.declared.ins.Op.TheVariants as ops
use Rattle.st_rv.specs.declared.ins.OpKind.TheVariants as kinds
use Rattle.st_rv.specs.declared.rows.Row.{Row}
use Rattle.st_rv.specs.declared.rows.Form.{Form}
use Rattle.st_rv.specs.declared.rows.Form.TheVariants.{R, I, Shift6, Shift5, S, U, Fixed}
use Rattle.st_rv.specs.declared.rows.TheConstants.{ROWS}
use Rattle.st_rv.specs.Op.{kind_of, op_number}
use Rattle.st_rv.specs.Fields.{FitsForm}
use Rattle.st_rv.specs.Rows.{FitsTable, FitsRow, row_at}
use Rattle.st_rv.proofs.Table.{some_at}
use Rattle.st_line.specs.declared.fault.AsmKind.TheVariants.{BadOperand, ImmRange}
use Rattle.st_line.specs.declared.source.Target.TheVariants as targets
use Rattle.st_line.specs.declared.source.SourceIns.{SourceIns}
use Rattle.st_line.specs.declared.source.SourceIns.TheVariants as source
use Rattle.st_line.specs.declared.words.Pseudo.{Pseudo}
use Rattle.st_line.specs.declared.words.Pseudo.TheVariants as pseudos
use Rattle.st_line.specs.Operands.{is_name, Operand, register_of, integer_of, memory_of, name_of}
use Rattle.st_line.specs.Statement.{◌>>=◌, require, no_operands, one_operand, two_operands, three_operands, is_in, in_range, immediate_range, offset_range, upper_range, li_range, plain, branch, is_register, linked, returned, jump_row, row_of_kind, row_statement, of_two, branch_of_one, branch_of_two, pseudo_statement}
use Rattle.st_asm.proofs.ReadSteps.{IsRead, bind-ok, ok-same, one_operand-ok, two_operands-ok, three_operands-ok, name_of-is_name, in_range-ok, below_next}

-- ---- instructions that have a word

form_in : Option Row → Form
form_in None = R
form_in (Some r) = r.form

form_of : Op → Form
form_of op = form_in (row_at ROWS (op_number op))

own_row : (op : Op) → (r : Row) × (row_at ROWS (op_number op) ≡ Some r) × (r.op ≡ op)
own_row ops.Add = (_, refl, refl)
own_row ops.Sub = (_, refl, refl)
own_row ops.Sll = (_, refl, refl)
own_row ops.Slt = (_, refl, refl)
own_row ops.Sltu = (_, refl, refl)
own_row ops.Xor = (_, refl, refl)
own_row ops.Srl = (_, refl, refl)
own_row ops.Sra = (_, refl, refl)
own_row ops.Or = (_, refl, refl)
own_row ops.And = (_, refl, refl)
own_row ops.Mul = (_, refl, refl)
own_row ops.Mulh = (_, refl, refl)
own_row ops.Mulhsu = (_, refl, refl)
own_row ops.Mulhu = (_, refl, refl)
own_row ops.Div = (_, refl, refl)
own_row ops.Divu = (_, refl, refl)
own_row ops.Rem = (_, refl, refl)
own_row ops.Remu = (_, refl, refl)
own_row ops.Addw = (_, refl, refl)
own_row ops.Subw = (_, refl, refl)
own_row ops.Sllw = (_, refl, refl)
own_row ops.Srlw = (_, refl, refl)
own_row ops.Sraw = (_, refl, refl)
own_row ops.Mulw = (_, refl, refl)
own_row ops.Divw = (_, refl, refl)
own_row ops.Divuw = (_, refl, refl)
own_row ops.Remw = (_, refl, refl)
own_row ops.Remuw = (_, refl, refl)
own_row ops.Addi = (_, refl, refl)
own_row ops.Slti = (_, refl, refl)
own_row ops.Sltiu = (_, refl, refl)
own_row ops.Xori = (_, refl, refl)
own_row ops.Ori = (_, refl, refl)
own_row ops.Andi = (_, refl, refl)
own_row ops.Slli = (_, refl, refl)
own_row ops.Srli = (_, refl, refl)
own_row ops.Srai = (_, refl, refl)
own_row ops.Addiw = (_, refl, refl)
own_row ops.Slliw = (_, refl, refl)
own_row ops.Srliw = (_, refl, refl)
own_row ops.Sraiw = (_, refl, refl)
own_row ops.Lui = (_, refl, refl)
own_row ops.Lb = (_, refl, refl)
own_row ops.Lh = (_, refl, refl)
own_row ops.Lw = (_, refl, refl)
own_row ops.Ld = (_, refl, refl)
own_row ops.Lbu = (_, refl, refl)
own_row ops.Lhu = (_, refl, refl)
own_row ops.Lwu = (_, refl, refl)
own_row ops.Sb = (_, refl, refl)
own_row ops.Sh = (_, refl, refl)
own_row ops.Sw = (_, refl, refl)
own_row ops.Sd = (_, refl, refl)
own_row ops.Beq = (_, refl, refl)
own_row ops.Bne = (_, refl, refl)
own_row ops.Blt = (_, refl, refl)
own_row ops.Bge = (_, refl, refl)
own_row ops.Bltu = (_, refl, refl)
own_row ops.Bgeu = (_, refl, refl)
own_row ops.Jal = (_, refl, refl)
own_row ops.Jalr = (_, refl, refl)
own_row ops.Ebreak = (_, refl, refl)

fits_table : (i : Ins) → FitsForm (form_of i.op) i → FitsTable i
unfolding FitsTable form_of form_in
fits_table i h =
    let own = own_row i.op in
    some_at (FitsRow i) ROWS (op_number i.op) own.0 own.1 (record { op = own.2; form = subst (λ f. FitsForm f i) (ap form_in own.1) h })

plain_read : (i : Ins) (ins : SourceIns) (f : Form) → form_of i.op ≡ f → FitsForm f i → (kind_of i.op ≡ kinds.Branch → ⊥) → (kind_of i.op ≡ kinds.Jump → ⊥) → source.Plain i ≡ ins → IsRead ins
plain_read i ins f own h b j e = subst IsRead e (fits_table i (subst (λ f. FitsForm f i) (sym own) h), b, j)

-- ---- rows

register_read : (op : Op) → form_of op ≡ R → kind_of op ≡ kinds.Register → (operands : List Operand) (ins : SourceIns) → row_of_kind kinds.Register op operands ≡ Ok ins → IsRead ins
unfolding row_of_kind
register_read op own k operands ins e =
    let r = bind-ok (three_operands register_of register_of register_of operands) (λ r. Ok (plain op r.0 r.1 r.2 (pos 0))) ins e in
    plain_read _ ins R own refl (λ b. let no : ⊥ = cc in no) (λ j. let no : ⊥ = cc in no) (ok-same _ ins r.2)

immediate_read : (op : Op) → form_of op ≡ I → kind_of op ≡ kinds.Immediate → immediate_range op ≡ offset_range → (operands : List Operand) (ins : SourceIns) → row_of_kind kinds.Immediate op operands ≡ Ok ins → IsRead ins
unfolding row_of_kind
immediate_read op own k range operands ins e =
    let r = bind-ok (three_operands register_of register_of integer_of operands) (λ r. in_range (immediate_range op) r.2 >>= λ imm. Ok (plain op r.0 r.1 registers.Zero imm)) ins e in
    let s = bind-ok (in_range (immediate_range op) r.0.2) (λ imm. Ok (plain op r.0.0 r.0.1 registers.Zero imm)) ins r.2 in
    let within = in_range-ok offset_range r.0.2 s.0 (ap (λ g. in_range g r.0.2) (sym range) ∙ s.1) in
    let low : neg_ℤ (pos (2 ^ 11)) ≤ℤ s.0 = within.0 in
    let high : s.0 <ℤ pos (2 ^ 11) = below_next s.0 2047 within.1 in
    plain_read _ ins I own ((low, high), refl) (λ b. let no : ⊥ = cc in no) (λ j. let no : ⊥ = cc in no) (ok-same _ ins s.2)

shift6_read : (op : Op) → form_of op ≡ Shift6 → kind_of op ≡ kinds.Immediate → immediate_range op ≡ (pos 0, pos 63) → (operands : List Operand) (ins : SourceIns) → row_of_kind kinds.Immediate op operands ≡ Ok ins → IsRead ins
unfolding row_of_kind
shift6_read op own k range operands ins e =
    let r = bind-ok (three_operands register_of register_of integer_of operands) (λ r. in_range (immediate_range op) r.2 >>= λ imm. Ok (plain op r.0 r.1 registers.Zero imm)) ins e in
    let s = bind-ok (in_range (immediate_range op) r.0.2) (λ imm. Ok (plain op r.0.0 r.0.1 registers.Zero imm)) ins r.2 in
    let within = in_range-ok (pos 0, pos 63) r.0.2 s.0 (ap (λ g. in_range g r.0.2) (sym range) ∙ s.1) in
    plain_read _ ins Shift6 own ((within.0, below_next s.0 63 within.1), refl) (λ b. let no : ⊥ = cc in no) (λ j. let no : ⊥ = cc in no) (ok-same _ ins s.2)

shift5_read : (op : Op) → form_of op ≡ Shift5 → kind_of op ≡ kinds.Immediate → immediate_range op ≡ (pos 0, pos 31) → (operands : List Operand) (ins : SourceIns) → row_of_kind kinds.Immediate op operands ≡ Ok ins → IsRead ins
unfolding row_of_kind
shift5_read op own k range operands ins e =
    let r = bind-ok (three_operands register_of register_of integer_of operands) (λ r. in_range (immediate_range op) r.2 >>= λ imm. Ok (plain op r.0 r.1 registers.Zero imm)) ins e in
    let s = bind-ok (in_range (immediate_range op) r.0.2) (λ imm. Ok (plain op r.0.0 r.0.1 registers.Zero imm)) ins r.2 in
    let within = in_range-ok (pos 0, pos 31) r.0.2 s.0 (ap (λ g. in_range g r.0.2) (sym range) ∙ s.1) in
    plain_read _ ins Shift5 own ((within.0, below_next s.0 31 within.1), refl) (λ b. let no : ⊥ = cc in no) (λ j. let no : ⊥ = cc in no) (ok-same _ ins s.2)

upper_read : (op : Op) → form_of op ≡ U → kind_of op ≡ kinds.Upper → (operands : List Operand) (ins : SourceIns) → row_of_kind kinds.Upper op operands ≡ Ok ins → IsRead ins
unfolding row_of_kind
upper_read op own k operands ins e =
    let r = bind-ok (two_operands register_of integer_of operands) (λ r. in_range upper_range r.1 >>= λ imm. Ok (plain op r.0 registers.Zero registers.Zero imm)) ins e in
    let s = bind-ok (in_range upper_range r.0.1) (λ imm. Ok (plain op r.0.0 registers.Zero registers.Zero imm)) ins r.2 in
    let within = in_range-ok upper_range r.0.1 s.0 s.1 in
    plain_read _ ins U own ((within.0, below_next s.0 0xfffff within.1), refl, refl) (λ b. let no : ⊥ = cc in no) (λ j. let no : ⊥ = cc in no) (ok-same _ ins s.2)

load_read : (op : Op) → form_of op ≡ I → kind_of op ≡ kinds.Load → (operands : List Operand) (ins : SourceIns) → row_of_kind kinds.Load op operands ≡ Ok ins → IsRead ins
unfolding row_of_kind
load_read op own k operands ins e =
    let r = bind-ok (two_operands register_of memory_of operands) (λ r. in_range offset_range r.1.offset >>= λ imm. Ok (plain op r.0 r.1.base registers.Zero imm)) ins e in
    let s = bind-ok (in_range offset_range r.0.1.offset) (λ imm. Ok (plain op r.0.0 r.0.1.base registers.Zero imm)) ins r.2 in
    let within = in_range-ok offset_range r.0.1.offset s.0 s.1 in
    plain_read _ ins I own ((within.0, below_next s.0 2047 within.1), refl) (λ b. let no : ⊥ = cc in no) (λ j. let no : ⊥ = cc in no) (ok-same _ ins s.2)

store_read : (op : Op) → form_of op ≡ S → kind_of op ≡ kinds.Store → (operands : List Operand) (ins : SourceIns) → row_of_kind kinds.Store op operands ≡ Ok ins → IsRead ins
unfolding row_of_kind
store_read op own k operands ins e =
    let r = bind-ok (two_operands register_of memory_of operands) (λ r. in_range offset_range r.1.offset >>= λ imm. Ok (plain op registers.Zero r.1.base r.0 imm)) ins e in
    let s = bind-ok (in_range offset_range r.0.1.offset) (λ imm. Ok (plain op registers.Zero r.0.1.base r.0.0 imm)) ins r.2 in
    let within = in_range-ok offset_range r.0.1.offset s.0 s.1 in
    plain_read _ ins S own ((within.0, below_next s.0 2047 within.1), refl) (λ b. let no : ⊥ = cc in no) (λ j. let no : ⊥ = cc in no) (ok-same _ ins s.2)

branch_read : (op : Op) → kind_of op ≡ kinds.Branch → (operands : List Operand) (ins : SourceIns) → row_of_kind kinds.Branch op operands ≡ Ok ins → IsRead ins
unfolding row_of_kind
branch_read op k operands ins e =
    let r = bind-ok (three_operands register_of register_of name_of operands) (λ r. Ok (branch op r.0 r.1 r.2)) ins e in
    let name = three_operands-ok register_of register_of name_of operands r.0 r.1 in
    subst IsRead (ok-same _ ins r.2) (k, name_of-is_name name.0 r.0.2 name.1)

linked_read : (rd : Reg) (name : List ℕ) (ins : SourceIns) → is_name name ≡ true → linked rd name ≡ Ok ins → IsRead ins
linked_read rd name ins h e =
    (elim (is_register rd registers.Ra) as (λ b. cond b (Ok (source.Call name)) (cond (is_register rd registers.Zero) (Ok (source.Jump (targets.Name name))) (Err BadOperand)) ≡ Ok ins → IsRead ins) [
      | true ↦ λ e. subst IsRead (ok-same _ ins e) h
      | false ↦ (elim (is_register rd registers.Zero) as (λ b. cond b (Ok (source.Jump (targets.Name name))) (Err BadOperand) ≡ Ok ins → IsRead ins) [
        | true ↦ λ e. subst IsRead (ok-same _ ins e) h
        | false ↦ λ e. let no : ⊥ = cc in absurd no
      ])
    ]) e

jal_read : (operands : List Operand) (ins : SourceIns) → row_of_kind kinds.Jump ops.Jal operands ≡ Ok ins → IsRead ins
unfolding row_of_kind jump_row
jal_read operands ins e =
    let r = bind-ok (two_operands register_of name_of operands) (λ r. linked r.0 r.1) ins e in
    let name = two_operands-ok register_of name_of operands r.0 r.1 in
    linked_read r.0.0 r.0.1 ins (name_of-is_name name.0 r.0.1 name.1) r.2

returned_read : (b : Bool) (ins : SourceIns) → cond b (Ok source.Ret) (Err BadOperand) ≡ Ok ins → IsRead ins
returned_read true ins e = subst IsRead (ok-same source.Ret ins e) tt
returned_read false ins e = let no : ⊥ = cc in absurd no

jalr_read : (operands : List Operand) (ins : SourceIns) → row_of_kind kinds.Jump ops.Jalr operands ≡ Ok ins → IsRead ins
unfolding row_of_kind jump_row
jalr_read operands ins e =
    let r = bind-ok (two_operands register_of memory_of operands) (λ r. returned r.0 r.1) ins e in
    returned_read _ ins r.2

break_read : (op : Op) → form_of op ≡ Fixed → kind_of op ≡ kinds.Break → (operands : List Operand) (ins : SourceIns) → row_of_kind kinds.Break op operands ≡ Ok ins → IsRead ins
unfolding row_of_kind
break_read op own k operands ins e =
    let r = bind-ok (no_operands operands) (λ none. Ok (plain op registers.Zero registers.Zero registers.Zero (pos 0))) ins e in
    plain_read _ ins Fixed own (refl, refl, refl, refl) (λ b. let no : ⊥ = cc in no) (λ j. let no : ⊥ = cc in no) (ok-same _ ins r.2)

pub row_read : (op : Op) (operands : List Operand) (ins : SourceIns) → row_statement op operands ≡ Ok ins → IsRead ins
unfolding form_of form_in
row_read ops.Add = register_read ops.Add refl refl
row_read ops.Sub = register_read ops.Sub refl refl
row_read ops.Sll = register_read ops.Sll refl refl
row_read ops.Slt = register_read ops.Slt refl refl
row_read ops.Sltu = register_read ops.Sltu refl refl
row_read ops.Xor = register_read ops.Xor refl refl
row_read ops.Srl = register_read ops.Srl refl refl
row_read ops.Sra = register_read ops.Sra refl refl
row_read ops.Or = register_read ops.Or refl refl
row_read ops.And = register_read ops.And refl refl
row_read ops.Mul = register_read ops.Mul refl refl
row_read ops.Mulh = register_read ops.Mulh refl refl
row_read ops.Mulhsu = register_read ops.Mulhsu refl refl
row_read ops.Mulhu = register_read ops.Mulhu refl refl
row_read ops.Div = register_read ops.Div refl refl
row_read ops.Divu = register_read ops.Divu refl refl
row_read ops.Rem = register_read ops.Rem refl refl
row_read ops.Remu = register_read ops.Remu refl refl
row_read ops.Addw = register_read ops.Addw refl refl
row_read ops.Subw = register_read ops.Subw refl refl
row_read ops.Sllw = register_read ops.Sllw refl refl
row_read ops.Srlw = register_read ops.Srlw refl refl
row_read ops.Sraw = register_read ops.Sraw refl refl
row_read ops.Mulw = register_read ops.Mulw refl refl
row_read ops.Divw = register_read ops.Divw refl refl
row_read ops.Divuw = register_read ops.Divuw refl refl
row_read ops.Remw = register_read ops.Remw refl refl
row_read ops.Remuw = register_read ops.Remuw refl refl
row_read ops.Addi = immediate_read ops.Addi refl refl refl
row_read ops.Slti = immediate_read ops.Slti refl refl refl
row_read ops.Sltiu = immediate_read ops.Sltiu refl refl refl
row_read ops.Xori = immediate_read ops.Xori refl refl refl
row_read ops.Ori = immediate_read ops.Ori refl refl refl
row_read ops.Andi = immediate_read ops.Andi refl refl refl
row_read ops.Slli = shift6_read ops.Slli refl refl refl
row_read ops.Srli = shift6_read ops.Srli refl refl refl
row_read ops.Srai = shift6_read ops.Srai refl refl refl
row_read ops.Addiw = immediate_read ops.Addiw refl refl refl
row_read ops.Slliw = shift5_read ops.Slliw refl refl refl
row_read ops.Srliw = shift5_read ops.Srliw refl refl refl
row_read ops.Sraiw = shift5_read ops.Sraiw refl refl refl
row_read ops.Lui = upper_read ops.Lui refl refl
row_read ops.Lb = load_read ops.Lb refl refl
row_read ops.Lh = load_read ops.Lh refl refl
row_read ops.Lw = load_read ops.Lw refl refl
row_read ops.Ld = load_read ops.Ld refl refl
row_read ops.Lbu = load_read ops.Lbu refl refl
row_read ops.Lhu = load_read ops.Lhu refl refl
row_read ops.Lwu = load_read ops.Lwu refl refl
row_read ops.Sb = store_read ops.Sb refl refl
row_read ops.Sh = store_read ops.Sh refl refl
row_read ops.Sw = store_read ops.Sw refl refl
row_read ops.Sd = store_read ops.Sd refl refl
row_read ops.Beq = branch_read ops.Beq refl
row_read ops.Bne = branch_read ops.Bne refl
row_read ops.Blt = branch_read ops.Blt refl
row_read ops.Bge = branch_read ops.Bge refl
row_read ops.Bltu = branch_read ops.Bltu refl
row_read ops.Bgeu = branch_read ops.Bgeu refl
row_read ops.Jal = jal_read
row_read ops.Jalr = jalr_read
row_read ops.Ebreak = break_read ops.Ebreak refl refl

-- ---- pseudo instructions

of_two-ok : (make : Reg → Reg → SourceIns) (operands : List Operand) (ins : SourceIns) → of_two make operands ≡ Ok ins → (d : Reg) × (s : Reg) × (make d s ≡ ins)
unfolding of_two
of_two-ok make operands ins e =
    let r = bind-ok (two_operands register_of register_of operands) (λ r. Ok (make r.0 r.1)) ins e in
    (r.0.0, r.0.1, ok-same _ ins r.2)

branch_of_one-ok : (make : Reg → List ℕ → SourceIns) (operands : List Operand) (ins : SourceIns) → branch_of_one make operands ≡ Ok ins → (s : Reg) × (name : List ℕ) × (is_name name ≡ true) × (make s name ≡ ins)
unfolding branch_of_one
branch_of_one-ok make operands ins e =
    let r = bind-ok (two_operands register_of name_of operands) (λ r. Ok (make r.0 r.1)) ins e in
    let name = two_operands-ok register_of name_of operands r.0 r.1 in
    (r.0.0, r.0.1, name_of-is_name name.0 r.0.1 name.1, ok-same _ ins r.2)

branch_of_two-ok : (make : Reg → Reg → List ℕ → SourceIns) (operands : List Operand) (ins : SourceIns) → branch_of_two make operands ≡ Ok ins → (a : Reg) × (b : Reg) × (name : List ℕ) × (is_name name ≡ true) × (make a b name ≡ ins)
unfolding branch_of_two
branch_of_two-ok make operands ins e =
    let r = bind-ok (three_operands register_of register_of name_of operands) (λ r. Ok (make r.0 r.1 r.2)) ins e in
    let name = three_operands-ok register_of register_of name_of operands r.0 r.1 in
    (r.0.0, r.0.1, r.0.2, name_of-is_name name.0 r.0.2 name.1, ok-same _ ins r.2)

small_immediate : (n : ℤ) → is_in offset_range n ≡ true → (neg_ℤ (pos (2 ^ 11)) ≤ℤ n) × (n <ℤ pos (2 ^ 11))
small_immediate n e =
    let within = in_range-ok offset_range n n (ap (λ b. cond b (Ok n) (Err ImmRange)) e) in
    (within.0, below_next n 2047 within.1)

pub pseudo_read : (p : Pseudo) (operands : List Operand) (ins : SourceIns) → pseudo_statement p operands ≡ Ok ins → IsRead ins
unfolding pseudo_statement form_of form_in
pseudo_read pseudos.Nop operands ins e =
    let r = bind-ok (no_operands operands) (λ none. Ok (plain ops.Addi registers.Zero registers.Zero registers.Zero (pos 0))) ins e in
    plain_read _ ins I refl (small_immediate (pos 0) refl, refl) (λ b. let no : ⊥ = cc in no) (λ j. let no : ⊥ = cc in no) (ok-same _ ins r.2)
pseudo_read pseudos.Mv operands ins e =
    let r = of_two-ok (λ d s. plain ops.Addi d s registers.Zero (pos 0)) operands ins e in
    plain_read _ ins I refl (small_immediate (pos 0) refl, refl) (λ b. let no : ⊥ = cc in no) (λ j. let no : ⊥ = cc in no) r.2
pseudo_read pseudos.Not operands ins e =
    let r = of_two-ok (λ d s. plain ops.Xori d s registers.Zero (negsuc 0)) operands ins e in
    plain_read _ ins I refl (small_immediate (negsuc 0) refl, refl) (λ b. let no : ⊥ = cc in no) (λ j. let no : ⊥ = cc in no) r.2
pseudo_read pseudos.Neg operands ins e =
    let r = of_two-ok (λ d s. plain ops.Sub d registers.Zero s (pos 0)) operands ins e in
    plain_read _ ins R refl refl (λ b. let no : ⊥ = cc in no) (λ j. let no : ⊥ = cc in no) r.2
pseudo_read pseudos.Negw operands ins e =
    let r = of_two-ok (λ d s. plain ops.Subw d registers.Zero s (pos 0)) operands ins e in
    plain_read _ ins R refl refl (λ b. let no : ⊥ = cc in no) (λ j. let no : ⊥ = cc in no) r.2
pseudo_read pseudos.SextW operands ins e =
    let r = of_two-ok (λ d s. plain ops.Addiw d s registers.Zero (pos 0)) operands ins e in
    plain_read _ ins I refl (small_immediate (pos 0) refl, refl) (λ b. let no : ⊥ = cc in no) (λ j. let no : ⊥ = cc in no) r.2
pseudo_read pseudos.Seqz operands ins e =
    let r = of_two-ok (λ d s. plain ops.Sltiu d s registers.Zero (pos 1)) operands ins e in
    plain_read _ ins I refl (small_immediate (pos 1) refl, refl) (λ b. let no : ⊥ = cc in no) (λ j. let no : ⊥ = cc in no) r.2
pseudo_read pseudos.Snez operands ins e =
    let r = of_two-ok (λ d s. plain ops.Sltu d registers.Zero s (pos 0)) operands ins e in
    plain_read _ ins R refl refl (λ b. let no : ⊥ = cc in no) (λ j. let no : ⊥ = cc in no) r.2
pseudo_read pseudos.Sltz operands ins e =
    let r = of_two-ok (λ d s. plain ops.Slt d s registers.Zero (pos 0)) operands ins e in
    plain_read _ ins R refl refl (λ b. let no : ⊥ = cc in no) (λ j. let no : ⊥ = cc in no) r.2
pseudo_read pseudos.Sgtz operands ins e =
    let r = of_two-ok (λ d s. plain ops.Slt d registers.Zero s (pos 0)) operands ins e in
    plain_read _ ins R refl refl (λ b. let no : ⊥ = cc in no) (λ j. let no : ⊥ = cc in no) r.2
pseudo_read pseudos.Beqz operands ins e =
    let r = branch_of_one-ok (λ s to. branch ops.Beq s registers.Zero to) operands ins e in
    subst IsRead r.3 (refl, r.2)
pseudo_read pseudos.Bnez operands ins e =
    let r = branch_of_one-ok (λ s to. branch ops.Bne s registers.Zero to) operands ins e in
    subst IsRead r.3 (refl, r.2)
pseudo_read pseudos.Blez operands ins e =
    let r = branch_of_one-ok (λ s to. branch ops.Bge registers.Zero s to) operands ins e in
    subst IsRead r.3 (refl, r.2)
pseudo_read pseudos.Bgez operands ins e =
    let r = branch_of_one-ok (λ s to. branch ops.Bge s registers.Zero to) operands ins e in
    subst IsRead r.3 (refl, r.2)
pseudo_read pseudos.Bltz operands ins e =
    let r = branch_of_one-ok (λ s to. branch ops.Blt s registers.Zero to) operands ins e in
    subst IsRead r.3 (refl, r.2)
pseudo_read pseudos.Bgtz operands ins e =
    let r = branch_of_one-ok (λ s to. branch ops.Blt registers.Zero s to) operands ins e in
    subst IsRead r.3 (refl, r.2)
pseudo_read pseudos.Bgt operands ins e =
    let r = branch_of_two-ok (λ a b to. branch ops.Blt b a to) operands ins e in
    subst IsRead r.4 (refl, r.3)
pseudo_read pseudos.Ble operands ins e =
    let r = branch_of_two-ok (λ a b to. branch ops.Bge b a to) operands ins e in
    subst IsRead r.4 (refl, r.3)
pseudo_read pseudos.Bgtu operands ins e =
    let r = branch_of_two-ok (λ a b to. branch ops.Bltu b a to) operands ins e in
    subst IsRead r.4 (refl, r.3)
pseudo_read pseudos.Bleu operands ins e =
    let r = branch_of_two-ok (λ a b to. branch ops.Bgeu b a to) operands ins e in
    subst IsRead r.4 (refl, r.3)
pseudo_read pseudos.J operands ins e =
    let r = bind-ok (one_operand name_of operands) (λ name. Ok (source.Jump (targets.Name name))) ins e in
    let name = one_operand-ok name_of operands r.0 r.1 in
    subst IsRead (ok-same _ ins r.2) (name_of-is_name name.0 r.0 name.1)
pseudo_read pseudos.Call operands ins e =
    let r = bind-ok (one_operand name_of operands) (λ name. Ok (source.Call name)) ins e in
    let name = one_operand-ok name_of operands r.0 r.1 in
    subst IsRead (ok-same _ ins r.2) (name_of-is_name name.0 r.0 name.1)
pseudo_read pseudos.Ret operands ins e =
    let r = bind-ok (no_operands operands) (λ none. Ok source.Ret) ins e in
    subst IsRead (ok-same source.Ret ins r.2) tt
pseudo_read pseudos.Jr operands ins e =
    let r = bind-ok (one_operand register_of operands) (λ r. require (is_register r registers.Ra) BadOperand >>= λ to. Ok source.Ret) ins e in
    let s = bind-ok (require (is_register r.0 registers.Ra) BadOperand) (λ to. Ok source.Ret) ins r.2 in
    subst IsRead (ok-same source.Ret ins s.2) tt
pseudo_read pseudos.Li operands ins e =
    let r = bind-ok (two_operands register_of integer_of operands) (λ r. in_range li_range r.1 >>= λ value. Ok (source.Li r.0 value)) ins e in
    let s = bind-ok (in_range li_range r.0.1) (λ value. Ok (source.Li r.0.0 value)) ins r.2 in
    let within = in_range-ok li_range r.0.1 s.0 s.1 in
    subst IsRead (ok-same _ ins s.2) (within.0, below_next s.0 0x7fffffff within.1)
pseudo_read pseudos.La operands ins e =
    let r = bind-ok (two_operands register_of name_of operands) (λ r. Ok (source.La r.0 (targets.Name r.1))) ins e in
    let name = two_operands-ok register_of name_of operands r.0 r.1 in
    subst IsRead (ok-same _ ins r.2) (name_of-is_name name.0 r.0.1 name.1)
