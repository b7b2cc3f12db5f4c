-- The number of an operation in its enum is its row's (op-number).
use Rattle.std.proofs.Common.{◌≡◌, refl}
use denote.Enum.Declared.{tag_of}
use Rattle.st_rv.specs.contracts.ins.Op.{the_type}
use Rattle.st_rv.specs.declared.ins.Op.{Op}
use Rattle.st_rv.specs.declared.ins.Op.TheVariants.{Add, Sub, Sll, Slt, Sltu, Xor, Srl, Sra, Or, And, Mul, Mulh, Mulhsu, Mulhu, Div, Divu, Rem, Remu, Addw, Subw, Sllw, Srlw, Sraw, Mulw, Divw, Divuw, Remw, Remuw, Addi, Slti, Sltiu, Xori, Ori, Andi, Slli, Srli, Srai, Addiw, Slliw, Srliw, Sraiw, Lb, Lh, Lw, Ld, Lbu, Lhu, Lwu, Sb, Sh, Sw, Sd, Beq, Bne, Blt, Bge, Bltu, Bgeu, Jal, Jalr, Lui, Ebreak}
use Rattle.st_rv.specs.Op.{op_number}

pub op-number : (op : Op) → tag_of the_type op ≡ op_number op
op-number Add = refl
op-number Sub = refl
op-number Sll = refl
op-number Slt = refl
op-number Sltu = refl
op-number Xor = refl
op-number Srl = refl
op-number Sra = refl
op-number Or = refl
op-number And = refl
op-number Mul = refl
op-number Mulh = refl
op-number Mulhsu = refl
op-number Mulhu = refl
op-number Div = refl
op-number Divu = refl
op-number Rem = refl
op-number Remu = refl
op-number Addw = refl
op-number Subw = refl
op-number Sllw = refl
op-number Srlw = refl
op-number Sraw = refl
op-number Mulw = refl
op-number Divw = refl
op-number Divuw = refl
op-number Remw = refl
op-number Remuw = refl
op-number Addi = refl
op-number Slti = refl
op-number Sltiu = refl
op-number Xori = refl
op-number Ori = refl
op-number Andi = refl
op-number Slli = refl
op-number Srli = refl
op-number Srai = refl
op-number Addiw = refl
op-number Slliw = refl
op-number Srliw = refl
op-number Sraiw = refl
op-number Lb = refl
op-number Lh = refl
op-number Lw = refl
op-number Ld = refl
op-number Lbu = refl
op-number Lhu = refl
op-number Lwu = refl
op-number Sb = refl
op-number Sh = refl
op-number Sw = refl
op-number Sd = refl
op-number Beq = refl
op-number Bne = refl
op-number Blt = refl
op-number Bge = refl
op-number Bltu = refl
op-number Bgeu = refl
op-number Jal = refl
op-number Jalr = refl
op-number Lui = refl
op-number Ebreak = refl
