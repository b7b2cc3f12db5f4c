-- What each operation does (`kind_of`), and the place of its row in the table (`op_number`). The kinds are the sections of the
-- RISC-V Instruction Set Manual, volume I, chapters "RV32I", "RV64I" and "M".
use Rattle.std.specs.Prelude.{ℕ}
use Rattle.st_rv.specs.declared.ins.Op.{Op}
use Rattle.st_rv.specs.declared.ins.Op.TheVariants.{Add, Sub, Sll, Slt, Sltu, Xor, Srl, Sra, Or, And, Mul, Mulh, Mulhsu, Mulhu, Div, Divu, Rem, Remu, Addw, Subw, Sllw, Srlw, Sraw, Mulw, Divw, Divuw, Remw, Remuw, Addi, Slti, Sltiu, Xori, Ori, Andi, Slli, Srli, Srai, Addiw, Slliw, Srliw, Sraiw, Lb, Lh, Lw, Ld, Lbu, Lhu, Lwu, Sb, Sh, Sw, Sd, Beq, Bne, Blt, Bge, Bltu, Bgeu, Jal, Jalr, Lui, Ebreak}
use Rattle.st_rv.specs.declared.ins.OpKind.{OpKind}
use Rattle.st_rv.specs.declared.ins.OpKind.TheVariants.{Register, Immediate, Upper, Load, Store, Branch, Jump, Break}

-- the kind of an operation
abbrev pub kind_of : Op → OpKind
kind_of Add = Register
kind_of Sub = Register
kind_of Sll = Register
kind_of Slt = Register
kind_of Sltu = Register
kind_of Xor = Register
kind_of Srl = Register
kind_of Sra = Register
kind_of Or = Register
kind_of And = Register
kind_of Mul = Register
kind_of Mulh = Register
kind_of Mulhsu = Register
kind_of Mulhu = Register
kind_of Div = Register
kind_of Divu = Register
kind_of Rem = Register
kind_of Remu = Register
kind_of Addw = Register
kind_of Subw = Register
kind_of Sllw = Register
kind_of Srlw = Register
kind_of Sraw = Register
kind_of Mulw = Register
kind_of Divw = Register
kind_of Divuw = Register
kind_of Remw = Register
kind_of Remuw = Register
kind_of Addi = Immediate
kind_of Slti = Immediate
kind_of Sltiu = Immediate
kind_of Xori = Immediate
kind_of Ori = Immediate
kind_of Andi = Immediate
kind_of Slli = Immediate
kind_of Srli = Immediate
kind_of Srai = Immediate
kind_of Addiw = Immediate
kind_of Slliw = Immediate
kind_of Srliw = Immediate
kind_of Sraiw = Immediate
kind_of Lui = Upper
kind_of Lb = Load
kind_of Lh = Load
kind_of Lw = Load
kind_of Ld = Load
kind_of Lbu = Load
kind_of Lhu = Load
kind_of Lwu = Load
kind_of Sb = Store
kind_of Sh = Store
kind_of Sw = Store
kind_of Sd = Store
kind_of Beq = Branch
kind_of Bne = Branch
kind_of Blt = Branch
kind_of Bge = Branch
kind_of Bltu = Branch
kind_of Bgeu = Branch
kind_of Jal = Jump
kind_of Jalr = Jump
kind_of Ebreak = Break

-- the place of an operation's row in the table, from 0
abbrev pub op_number : Op → ℕ
op_number Add = 0
op_number Sub = 1
op_number Sll = 2
op_number Slt = 3
op_number Sltu = 4
op_number Xor = 5
op_number Srl = 6
op_number Sra = 7
op_number Or = 8
op_number And = 9
op_number Mul = 10
op_number Mulh = 11
op_number Mulhsu = 12
op_number Mulhu = 13
op_number Div = 14
op_number Divu = 15
op_number Rem = 16
op_number Remu = 17
op_number Addw = 18
op_number Subw = 19
op_number Sllw = 20
op_number Srlw = 21
op_number Sraw = 22
op_number Mulw = 23
op_number Divw = 24
op_number Divuw = 25
op_number Remw = 26
op_number Remuw = 27
op_number Addi = 28
op_number Slti = 29
op_number Sltiu = 30
op_number Xori = 31
op_number Ori = 32
op_number Andi = 33
op_number Slli = 34
op_number Srli = 35
op_number Srai = 36
op_number Addiw = 37
op_number Slliw = 38
op_number Srliw = 39
op_number Sraiw = 40
op_number Lb = 41
op_number Lh = 42
op_number Lw = 43
op_number Ld = 44
op_number Lbu = 45
op_number Lhu = 46
op_number Lwu = 47
op_number Sb = 48
op_number Sh = 49
op_number Sw = 50
op_number Sd = 51
op_number Beq = 52
op_number Bne = 53
op_number Blt = 54
op_number Bge = 55
op_number Bltu = 56
op_number Bgeu = 57
op_number Jal = 58
op_number Jalr = 59
op_number Lui = 60
op_number Ebreak = 61
