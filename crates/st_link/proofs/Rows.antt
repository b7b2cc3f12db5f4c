-- Instructions that have a word, by their operations: reach for fits-addi, fits-ld, fits-sd, fits-jalr, fits-addiw, fits-lui, fits-jal and
-- fits-branch.
use Rattle.std.proofs.Common.{◌≡◌, ◌^◌, ℤ, Some, refl}
use Rattle.st_base.specs.declared.reg.Reg.{Reg}
use Rattle.st_rv.specs.declared.ins.Op.{Op}
use Rattle.st_rv.specs.declared.ins.Op.TheVariants as ops
use Rattle.st_rv.specs.declared.ins.Ins.{Ins}
use Rattle.st_rv.specs.declared.ins.OpKind.TheVariants as kinds
use Rattle.st_rv.specs.declared.rows.Row.{Row}
use Rattle.st_rv.specs.declared.rows.TheConstants.{ROWS}
use Rattle.st_rv.specs.Op.{kind_of, op_number}
use Rattle.st_rv.specs.Fields.{IsSigned, IsUnsigned, IsEven, FitsForm}
use Rattle.st_rv.specs.Rows.{FitsTable, FitsRow, row_at}
use Rattle.st_rv.proofs.Table.{some_at}
use Rattle.st_model.specs.Layout.{immediate_ins, store_ins, branch_ins, upper_ins}

pub fits-by : (i : Ins) (r : Row) → row_at ROWS (op_number i.op) ≡ Some r → r.op ≡ i.op → FitsForm r.form i → FitsTable i
unfolding FitsTable
fits-by i r here op form = some_at (FitsRow i) ROWS (op_number i.op) r here (record { op = op; form = form })

pub fits-addi : (rd rs1 : Reg) (imm : ℤ) → IsSigned (2 ^ 11) imm → FitsTable (immediate_ins ops.Addi rd rs1 imm)
fits-addi rd rs1 imm is = fits-by (immediate_ins ops.Addi rd rs1 imm) _ refl refl (is, refl)

pub fits-ld : (rd rs1 : Reg) (imm : ℤ) → IsSigned (2 ^ 11) imm → FitsTable (immediate_ins ops.Ld rd rs1 imm)
fits-ld rd rs1 imm is = fits-by (immediate_ins ops.Ld rd rs1 imm) _ refl refl (is, refl)

pub fits-jalr : (rd rs1 : Reg) (imm : ℤ) → IsSigned (2 ^ 11) imm → FitsTable (immediate_ins ops.Jalr rd rs1 imm)
fits-jalr rd rs1 imm is = fits-by (immediate_ins ops.Jalr rd rs1 imm) _ refl refl (is, refl)

pub fits-addiw : (rd rs1 : Reg) (imm : ℤ) → IsSigned (2 ^ 11) imm → FitsTable (immediate_ins ops.Addiw rd rs1 imm)
fits-addiw rd rs1 imm is = fits-by (immediate_ins ops.Addiw rd rs1 imm) _ refl refl (is, refl)

pub fits-sd : (rs1 rs2 : Reg) (imm : ℤ) → IsSigned (2 ^ 11) imm → FitsTable (store_ins ops.Sd rs1 rs2 imm)
fits-sd rs1 rs2 imm is = fits-by (store_ins ops.Sd rs1 rs2 imm) _ refl refl (is, refl)

pub fits-lui : (rd : Reg) (imm : ℤ) → IsUnsigned (2 ^ 20) imm → FitsTable (upper_ins ops.Lui rd imm)
fits-lui rd imm is = fits-by (upper_ins ops.Lui rd imm) _ refl refl (is, refl, refl)

pub fits-jal : (rd : Reg) (imm : ℤ) → IsSigned (2 ^ 20) imm → IsEven imm → FitsTable (upper_ins ops.Jal rd imm)
fits-jal rd imm is even = fits-by (upper_ins ops.Jal rd imm) _ refl refl (is, even, refl, refl)

pub fits-branch : (op : Op) (rs1 rs2 : Reg) (imm : ℤ) → kind_of op ≡ kinds.Branch → IsSigned (2 ^ 12) imm → IsEven imm → FitsTable (branch_ins op rs1 rs2 imm)
fits-branch ops.Beq rs1 rs2 imm is signed even = fits-by (branch_ins ops.Beq rs1 rs2 imm) _ refl refl (signed, even, refl)
fits-branch ops.Bne rs1 rs2 imm is signed even = fits-by (branch_ins ops.Bne rs1 rs2 imm) _ refl refl (signed, even, refl)
fits-branch ops.Blt rs1 rs2 imm is signed even = fits-by (branch_ins ops.Blt rs1 rs2 imm) _ refl refl (signed, even, refl)
fits-branch ops.Bge rs1 rs2 imm is signed even = fits-by (branch_ins ops.Bge rs1 rs2 imm) _ refl refl (signed, even, refl)
fits-branch ops.Bltu rs1 rs2 imm is signed even = fits-by (branch_ins ops.Bltu rs1 rs2 imm) _ refl refl (signed, even, refl)
fits-branch ops.Bgeu rs1 rs2 imm is signed even = fits-by (branch_ins ops.Bgeu rs1 rs2 imm) _ refl refl (signed, even, refl)
fits-branch _ rs1 rs2 imm is signed even = cc
