-- The rows of the instruction table, and the words that they give: `IsRow i w` says that w is a word of the instruction i by
-- some row of `ROWS`, and everything about encoding and decoding is said by it. Read `mnemonic_of` for how an operation is written. A row gives a word exactly where the word has
-- the row's bits under the row's mask; the other bits are the fields of the instruction. From the RISC-V Instruction Set
-- Manual, volume I, chapter "RV32/64G Instruction Set Listings" (the tables of RV32I, RV64I, RV32M and RV64M).
use Rattle.std.specs.Prelude.{ℕ, ◌-◌, ◌^◌, ◌<◌, ◌≡◌, Bool, true, not, ◌&&◌, List, [], ◌∷◌, Option, Some, None, IfSome, IsSome, ◌↔◌, ◌==◌, if◌then◌else◌, bit_and, bit_or, ◌⊎◌, All, AllPairs, map, codes}
use Rattle.st_rv.specs.declared.rows.TheConstants.{ROWS}
use Rattle.st_rv.specs.declared.ins.Op.{Op}
use Rattle.st_rv.specs.declared.ins.Op.TheVariants as operations
use Rattle.st_rv.specs.declared.ins.Ins.{Ins}
use Rattle.st_rv.specs.declared.rows.Row.{Row}
use Rattle.st_rv.specs.declared.rows.Form.{Form}
use Rattle.st_rv.specs.declared.rows.Form.TheVariants.{R, Shift6, Shift5, U, J, Fixed}
use Rattle.st_rv.specs.Fields.{HasFields, FitsForm}

-- the word has the bits of a row under its mask, and the fields of the instruction
pub record IsWord (mask bits : ℕ) (f : Form) (i : Ins) (w : ℕ) : Type 0 where
  pub small : w < 2 ^ 32
  pub fixed : bit_and w mask ≡ bits
  pub fields : HasFields f i w

-- the row is the instruction's, and gives the word
pub record GivesRow (i : Ins) (w : ℕ) (r : Row) : Type 0 where
  pub op : r.op ≡ i.op
  pub word : IsWord r.mask r.bits r.form i w

-- the row is the instruction's, and the instruction has a word
pub record FitsRow (i : Ins) (r : Row) : Type 0 where
  pub op : r.op ≡ i.op
  pub form : FitsForm r.form i

-- the row gives the word
abbrev pub GivesWord : ℕ → Row → Type 0
GivesWord w r = bit_and w r.mask ≡ r.bits

-- one of the rows has the property
abbrev pub SomeRow : (Row → Type 0) → List Row → Type 0
SomeRow P [] = ⊥
SomeRow P (r ∷ rs) = P r ⊎ SomeRow P rs

-- w is a word of the instruction
unfoldable pub IsRow : Ins → ℕ → Type 0
IsRow i w = SomeRow (GivesRow i w) ROWS

-- the immediate is within the range of the instruction's row, and the fields that the row doesn't use are 0
unfoldable pub FitsTable : Ins → Type 0
FitsTable i = SomeRow (FitsRow i) ROWS

-- some row gives the word
unfoldable pub IsGiven : ℕ → Type 0
IsGiven w = SomeRow (GivesWord w) ROWS

-- ---- names

-- the mnemonic of an operation, as the manual writes it
abbrev pub mnemonic_of : Op → List ℕ
mnemonic_of operations.Add = codes "add"
mnemonic_of operations.Sub = codes "sub"
mnemonic_of operations.Sll = codes "sll"
mnemonic_of operations.Slt = codes "slt"
mnemonic_of operations.Sltu = codes "sltu"
mnemonic_of operations.Xor = codes "xor"
mnemonic_of operations.Srl = codes "srl"
mnemonic_of operations.Sra = codes "sra"
mnemonic_of operations.Or = codes "or"
mnemonic_of operations.And = codes "and"
mnemonic_of operations.Mul = codes "mul"
mnemonic_of operations.Mulh = codes "mulh"
mnemonic_of operations.Mulhsu = codes "mulhsu"
mnemonic_of operations.Mulhu = codes "mulhu"
mnemonic_of operations.Div = codes "div"
mnemonic_of operations.Divu = codes "divu"
mnemonic_of operations.Rem = codes "rem"
mnemonic_of operations.Remu = codes "remu"
mnemonic_of operations.Addw = codes "addw"
mnemonic_of operations.Subw = codes "subw"
mnemonic_of operations.Sllw = codes "sllw"
mnemonic_of operations.Srlw = codes "srlw"
mnemonic_of operations.Sraw = codes "sraw"
mnemonic_of operations.Mulw = codes "mulw"
mnemonic_of operations.Divw = codes "divw"
mnemonic_of operations.Divuw = codes "divuw"
mnemonic_of operations.Remw = codes "remw"
mnemonic_of operations.Remuw = codes "remuw"
mnemonic_of operations.Addi = codes "addi"
mnemonic_of operations.Slti = codes "slti"
mnemonic_of operations.Sltiu = codes "sltiu"
mnemonic_of operations.Xori = codes "xori"
mnemonic_of operations.Ori = codes "ori"
mnemonic_of operations.Andi = codes "andi"
mnemonic_of operations.Slli = codes "slli"
mnemonic_of operations.Srli = codes "srli"
mnemonic_of operations.Srai = codes "srai"
mnemonic_of operations.Addiw = codes "addiw"
mnemonic_of operations.Slliw = codes "slliw"
mnemonic_of operations.Srliw = codes "srliw"
mnemonic_of operations.Sraiw = codes "sraiw"
mnemonic_of operations.Lb = codes "lb"
mnemonic_of operations.Lh = codes "lh"
mnemonic_of operations.Lw = codes "lw"
mnemonic_of operations.Ld = codes "ld"
mnemonic_of operations.Lbu = codes "lbu"
mnemonic_of operations.Lhu = codes "lhu"
mnemonic_of operations.Lwu = codes "lwu"
mnemonic_of operations.Sb = codes "sb"
mnemonic_of operations.Sh = codes "sh"
mnemonic_of operations.Sw = codes "sw"
mnemonic_of operations.Sd = codes "sd"
mnemonic_of operations.Beq = codes "beq"
mnemonic_of operations.Bne = codes "bne"
mnemonic_of operations.Blt = codes "blt"
mnemonic_of operations.Bge = codes "bge"
mnemonic_of operations.Bltu = codes "bltu"
mnemonic_of operations.Bgeu = codes "bgeu"
mnemonic_of operations.Jal = codes "jal"
mnemonic_of operations.Jalr = codes "jalr"
mnemonic_of operations.Lui = codes "lui"
mnemonic_of operations.Ebreak = codes "ebreak"

-- all operations, in the order of their rows
abbrev pub ops : List Op
ops = operations.Add ∷ operations.Sub ∷ operations.Sll ∷ operations.Slt ∷ operations.Sltu ∷ operations.Xor ∷ operations.Srl ∷ operations.Sra ∷ operations.Or ∷ operations.And ∷ operations.Mul ∷ operations.Mulh ∷ operations.Mulhsu ∷ operations.Mulhu ∷ operations.Div ∷ operations.Divu ∷ operations.Rem ∷ operations.Remu ∷ operations.Addw ∷ operations.Subw ∷ operations.Sllw ∷ operations.Srlw ∷ operations.Sraw ∷ operations.Mulw ∷ operations.Divw ∷ operations.Divuw ∷ operations.Remw ∷ operations.Remuw ∷ operations.Addi ∷ operations.Slti ∷ operations.Sltiu ∷ operations.Xori ∷ operations.Ori ∷ operations.Andi ∷ operations.Slli ∷ operations.Srli ∷ operations.Srai ∷ operations.Addiw ∷ operations.Slliw ∷ operations.Srliw ∷ operations.Sraiw ∷ operations.Lb ∷ operations.Lh ∷ operations.Lw ∷ operations.Ld ∷ operations.Lbu ∷ operations.Lhu ∷ operations.Lwu ∷ operations.Sb ∷ operations.Sh ∷ operations.Sw ∷ operations.Sd ∷ operations.Beq ∷ operations.Bne ∷ operations.Blt ∷ operations.Bge ∷ operations.Bltu ∷ operations.Bgeu ∷ operations.Jal ∷ operations.Jalr ∷ operations.Lui ∷ operations.Ebreak ∷ []

-- each operation with its mnemonic, in the order of the rows
abbrev pub mnemonics : List (Op × List ℕ)
mnemonics = map (λ op. (op, mnemonic_of op)) ops

-- ---- rows that are apart

-- two rows give a common word
abbrev pub Clash : Row → Row → Type 0
Clash r s = (w : ℕ) × (w < 2 ^ 32) × GivesWord w r × GivesWord w s

-- the row gives no common word with one of the list
abbrev pub IsApartFrom : Row → List Row → Type 0
IsApartFrom r rows = All (λ s. Clash r s → ⊥) rows

-- no two rows at different places give a common word
abbrev pub AreApart : List Row → Type 0
AreApart rows = AllPairs (λ r s. Clash r s → ⊥) rows

-- the same by tests: where two rows give a common word, the bits of both together are one
abbrev pub clash_test : Row → Row → Bool
clash_test r s = (bit_and (bit_or r.bits s.bits) r.mask == r.bits) && (bit_and (bit_or r.bits s.bits) s.mask == s.bits)

abbrev pub apart_from_test : Row → List Row → Bool
apart_from_test r [] = true
apart_from_test r (s ∷ rs) = not (clash_test r s) && apart_from_test r rs

abbrev pub apart_test : List Row → Bool
apart_test [] = true
apart_test (r ∷ rs) = apart_from_test r rs && apart_test rs

-- ---- what encoding and decoding find in the table

-- the bits that a form leaves to its rows
abbrev pub mask_of : Form → ℕ
mask_of R = 0xfe00707f
mask_of Shift6 = 0xfc00707f
mask_of Shift5 = 0xfe00707f
mask_of U = 0x7f
mask_of J = 0x7f
mask_of Fixed = 0xffffffff
mask_of _ = 0x707f

-- the row at a place
abbrev pub row_at : List Row → ℕ → Option Row
row_at [] n = None
row_at (r ∷ rs) n = if n == 0 then Some r else row_at rs (n - 1)

-- the first row that gives the word
abbrev pub first_in : List Row → ℕ → Option Row
first_in [] w = None
first_in (r ∷ rs) w = if bit_and w r.mask == r.bits then Some r else first_in rs w

-- the result is the one word of the instruction by this row
pub record IsWordOf (r : Row) (i : Ins) (result : Option ℕ) : Type 0 where
  pub some : IfSome result (λ w. IsWord r.mask r.bits r.form i w)
  pub only : (w : ℕ) → IsWord r.mask r.bits r.form i w → result ≡ Some w
  pub fits : IsSome result ↔ FitsForm r.form i

abbrev pub Encoded : Option Row → Ins → Option ℕ → Type 0
Encoded None i result = ⊥
Encoded (Some r) i result = IsWordOf r i result

-- the result has the row's operation and the fields of the word
abbrev pub Decoded : Option Row → Option Ins → ℕ → Type 0
Decoded None None w = Unit {0}
Decoded (Some r) (Some i) w = (r.op ≡ i.op) × HasFields r.form i w
Decoded _ _ w = ⊥
