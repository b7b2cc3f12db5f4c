-- Where the fields of an instruction stand in its word, by the form of its row: registers (`rd_in`, `rs1_in`, `rs2_in`), the
-- immediate (`immediate`), all of them (`HasFields`), and which fields have a word at all (`FitsForm`). From the RISC-V
-- Instruction Set Manual, volume I, chapter "RV32I Base Integer Instruction Set", sections "Base Instruction Formats" and
-- "Immediate Encoding Variants"; the 6-bit shift amount is of chapter "RV64I", section "Integer Register-Immediate
-- Instructions". A field that a form lacks is 0.
use Rattle.std.specs.Prelude.{ℕ, ◌+◌, ◌*◌, ◌/◌, ◌%◌, ◌^◌, ◌≡◌, ℤ, pos, neg_ℤ, ◌-ℤ◌, ◌≤ℤ◌, ◌<ℤ◌, int_rem, nat_lt, if◌then◌else◌}
use Rattle.st_base.specs.Reg.{reg_number}
use Rattle.st_rv.specs.declared.ins.Ins.{Ins}
use Rattle.st_rv.specs.declared.rows.Form.{Form}
use Rattle.st_rv.specs.declared.rows.Form.TheVariants.{R, I, Shift6, Shift5, S, B, U, J, Fixed}

-- the number in so many bits of a word, from the bit `low` on
abbrev pub field : ℕ → ℕ → ℕ → ℕ
field w low count = w / 2 ^ low % 2 ^ count

-- a number below 2 * half, read in two's complement
abbrev pub sign_extended : ℕ → ℕ → ℤ
sign_extended half n = if nat_lt n half then pos n else pos n -ℤ pos (2 * half)

abbrev pub immediate : Form → ℕ → ℤ
immediate R w = pos 0
immediate I w = sign_extended (2 ^ 11) (field w 20 12)
immediate Shift6 w = pos (field w 20 6)
immediate Shift5 w = pos (field w 20 5)
immediate S w = sign_extended (2 ^ 11) (field w 25 7 * 2 ^ 5 + field w 7 5)
immediate B w = sign_extended (2 ^ 12) (field w 31 1 * 2 ^ 12 + field w 7 1 * 2 ^ 11 + field w 25 6 * 2 ^ 5 + field w 8 4 * 2)
immediate U w = pos (field w 12 20)
immediate J w = sign_extended (2 ^ 20) (field w 31 1 * 2 ^ 20 + field w 12 8 * 2 ^ 12 + field w 20 1 * 2 ^ 11 + field w 21 10 * 2)
immediate Fixed w = pos 0

abbrev pub rd_in : Form → ℕ → ℕ
rd_in S w = 0
rd_in B w = 0
rd_in Fixed w = 0
rd_in _ w = field w 7 5

abbrev pub rs1_in : Form → ℕ → ℕ
rs1_in U w = 0
rs1_in J w = 0
rs1_in Fixed w = 0
rs1_in _ w = field w 15 5

abbrev pub rs2_in : Form → ℕ → ℕ
rs2_in R w = field w 20 5
rs2_in S w = field w 20 5
rs2_in B w = field w 20 5
rs2_in _ w = 0

-- the fields of the instruction stand in the word
pub record HasFields (f : Form) (i : Ins) (w : ℕ) : Type 0 where
  pub rd : reg_number i.rd ≡ rd_in f w
  pub rs1 : reg_number i.rs1 ≡ rs1_in f w
  pub rs2 : reg_number i.rs2 ≡ rs2_in f w
  pub imm : i.imm ≡ immediate f w

-- from -half to half - 1
abbrev pub IsSigned : ℕ → ℤ → Type 0
IsSigned half z = (neg_ℤ (pos half) ≤ℤ z) × (z <ℤ pos half)

-- from 0 to end - 1
abbrev pub IsUnsigned : ℕ → ℤ → Type 0
IsUnsigned end z = (pos 0 ≤ℤ z) × (z <ℤ pos end)

abbrev pub IsEven : ℤ → Type 0
IsEven z = int_rem z (pos 2) ≡ pos 0

-- the immediate is within the range of the form, and the fields that the form lacks are 0
abbrev pub FitsForm : Form → Ins → Type 0
FitsForm R i = i.imm ≡ pos 0
FitsForm I i = IsSigned (2 ^ 11) i.imm × (reg_number i.rs2 ≡ 0)
FitsForm Shift6 i = IsUnsigned 64 i.imm × (reg_number i.rs2 ≡ 0)
FitsForm Shift5 i = IsUnsigned 32 i.imm × (reg_number i.rs2 ≡ 0)
FitsForm S i = IsSigned (2 ^ 11) i.imm × (reg_number i.rd ≡ 0)
FitsForm B i = IsSigned (2 ^ 12) i.imm × IsEven i.imm × (reg_number i.rd ≡ 0)
FitsForm U i = IsUnsigned (2 ^ 20) i.imm × (reg_number i.rs1 ≡ 0) × (reg_number i.rs2 ≡ 0)
FitsForm J i = IsSigned (2 ^ 20) i.imm × IsEven i.imm × (reg_number i.rs1 ≡ 0) × (reg_number i.rs2 ≡ 0)
FitsForm Fixed i = (i.imm ≡ pos 0) × (reg_number i.rd ≡ 0) × (reg_number i.rs1 ≡ 0) × (reg_number i.rs2 ≡ 0)
