-- Results of instructions: the whole-number formulas, modulo 2 ^ 64, of the computational instructions (`alu`, for the
-- operations of `computes`), the tests of the conditional branches (`is_taken`), and what loads and stores access
-- (`access_size`, `extended`). From the RISC-V Instruction Set Manual, volume I: chapter "RV64I Base Integer Instruction
-- Set" over chapter "RV32I Base Integer Instruction Set" (sections "Integer Computational Instructions", "Conditional
-- Branches", "Load and Store Instructions"), and chapter "M Extension for Integer Multiplication and Division".
-- A word is a number below 2 ^ 64. For an immediate row, b is the word of the sign-extended immediate or the shift amount,
-- and for `lui` it is the 20-bit number.
use Rattle.std.specs.Prelude.{ℕ, ◌+◌, ◌-◌, ◌*◌, ◌/◌, ◌%◌, ◌^◌, ℤ, pos, ◌*ℤ◌, Bool, true, false, not, cond, ◌==◌, nat_lt, int_lt, int_div, int_rem, bit_and, bit_or, bit_xor}
use Rattle.std.specs.Int.{w8, w16, w32, w64, cast_unsigned, cast_signed, int_shr, from_bool}
use Rattle.st_rv.specs.declared.ins.Op.{Op}
use Rattle.st_rv.specs.declared.ins.Op.TheVariants.{Add, Sub, Sll, Slt, Sltu, Xor, Srl, Sra, Or, And, Mul, Mulh, Mulhsu, Mulhu, Div, Divu, Rem, Remu, Addw, Subw, Sllw, Srlw, Sraw, Mulw, Divw, Divuw, Remw, Remuw, Addi, Slti, Sltiu, Xori, Ori, Andi, Slli, Srli, Srai, Addiw, Slliw, Srliw, Sraiw, Lb, Lh, Lw, Lbu, Lhu, Lwu, Sb, Sh, Sw, Beq, Bne, Blt, Bge, Bltu, Bgeu, Lui}
use Rattle.st_rv.specs.declared.ins.OpKind.{OpKind}
use Rattle.st_rv.specs.declared.ins.OpKind.TheVariants.{Register, Immediate, Upper}
use Rattle.st_rv.specs.Op.{kind_of}

-- ---- words and signed numbers, in two's complement

-- the 64 bits of a number from -2 ^ 63 to 2 ^ 64 - 1
abbrev pub word_of : ℤ → ℕ
word_of z = cast_unsigned w64 z

-- the signed number that a word stands for
abbrev pub signed_of : ℕ → ℤ
signed_of a = cast_signed w64 a

-- the low 32 bits of a word, and the signed number that they stand for
abbrev pub low_word : ℕ → ℕ
low_word a = a % 2 ^ 32

abbrev pub low_signed : ℕ → ℤ
low_signed a = cast_signed w32 (low_word a)

-- the 32 bits of a number from -2 ^ 31 to 2 ^ 32 - 1, as a word that has bit 31 in bits 32 to 63
abbrev pub extended_low : ℕ → ℕ
extended_low n = word_of (cast_signed w32 n)

abbrev pub low_extended : ℤ → ℕ
low_extended z = extended_low (cast_unsigned w32 z)

-- ---- "Integer Computational Instructions"

abbrev pub sum : ℕ → ℕ → ℕ
sum a b = (a + b) % 2 ^ 64

abbrev pub difference : ℕ → ℕ → ℕ
difference a b = (a + (2 ^ 64 - b)) % 2 ^ 64

-- 1 where the first number is less, else 0
abbrev pub is_less : ℕ → ℕ → ℕ
is_less a b = from_bool (int_lt (signed_of a) (signed_of b))

abbrev pub is_less_unsigned : ℕ → ℕ → ℕ
is_less_unsigned a b = from_bool (nat_lt a b)

-- shifts by the low 6 bits of b; the arithmetic one divides the signed number by 2 ^ k and rounds down
abbrev pub shifted_left : ℕ → ℕ → ℕ
shifted_left a b = a * 2 ^ (b % 64) % 2 ^ 64

abbrev pub shifted_right : ℕ → ℕ → ℕ
shifted_right a b = a / 2 ^ (b % 64)

abbrev pub shifted_right_signed : ℕ → ℕ → ℕ
shifted_right_signed a b = word_of (int_shr (signed_of a) (b % 64))

-- `lui`: 20 bits in bits 31 to 12, and bit 31 in those above
abbrev pub upper : ℕ → ℕ
upper b = extended_low (b * 2 ^ 12 % 2 ^ 32)

-- the W forms of RV64I: on the low 32 bits, by the low 5 bits of an amount
abbrev pub sum_low : ℕ → ℕ → ℕ
sum_low a b = extended_low ((a + b) % 2 ^ 32)

abbrev pub difference_low : ℕ → ℕ → ℕ
difference_low a b = extended_low ((low_word a + (2 ^ 32 - low_word b)) % 2 ^ 32)

abbrev pub shifted_left_low : ℕ → ℕ → ℕ
shifted_left_low a b = extended_low (low_word a * 2 ^ (b % 32) % 2 ^ 32)

abbrev pub shifted_right_low : ℕ → ℕ → ℕ
shifted_right_low a b = extended_low (low_word a / 2 ^ (b % 32))

abbrev pub shifted_right_signed_low : ℕ → ℕ → ℕ
shifted_right_signed_low a b = low_extended (int_shr (low_signed a) (b % 32))

-- ---- chapter "M": "Multiplication Operations"

abbrev pub product : ℕ → ℕ → ℕ
product a b = a * b % 2 ^ 64

-- the upper 64 of the 128 bits of a product: of signed numbers, of a signed and an unsigned one, of unsigned ones
abbrev pub high_product : ℕ → ℕ → ℕ
high_product a b = word_of (int_shr (signed_of a *ℤ signed_of b) 64)

abbrev pub high_product_mixed : ℕ → ℕ → ℕ
high_product_mixed a b = word_of (int_shr (signed_of a *ℤ pos b) 64)

abbrev pub high_product_unsigned : ℕ → ℕ → ℕ
high_product_unsigned a b = a * b / 2 ^ 64

abbrev pub product_low : ℕ → ℕ → ℕ
product_low a b = extended_low (a * b % 2 ^ 32)

-- ---- chapter "M": "Division Operations". Quotients are rounded toward zero and a remainder has the dividend's sign. By zero
-- the quotient is all ones and the remainder the dividend. The quotient of the least number by -1 is 2 ^ 63 (in the W forms
-- 2 ^ 31), whose word is that of the least number.

abbrev pub quotient : ℕ → ℕ → ℕ
quotient a b = cond (b == 0) (2 ^ 64 - 1) (word_of (int_div (signed_of a) (signed_of b)))

abbrev pub quotient_unsigned : ℕ → ℕ → ℕ
quotient_unsigned a b = cond (b == 0) (2 ^ 64 - 1) (a / b)

abbrev pub remainder : ℕ → ℕ → ℕ
remainder a b = cond (b == 0) a (word_of (int_rem (signed_of a) (signed_of b)))

abbrev pub remainder_unsigned : ℕ → ℕ → ℕ
remainder_unsigned a b = cond (b == 0) a (a % b)

abbrev pub quotient_low : ℕ → ℕ → ℕ
quotient_low a b = cond (low_word b == 0) (2 ^ 64 - 1) (low_extended (int_div (low_signed a) (low_signed b)))

abbrev pub quotient_unsigned_low : ℕ → ℕ → ℕ
quotient_unsigned_low a b = cond (low_word b == 0) (2 ^ 64 - 1) (extended_low (low_word a / low_word b))

abbrev pub remainder_low : ℕ → ℕ → ℕ
remainder_low a b = cond (low_word b == 0) (extended_low (low_word a)) (low_extended (int_rem (low_signed a) (low_signed b)))

abbrev pub remainder_unsigned_low : ℕ → ℕ → ℕ
remainder_unsigned_low a b = cond (low_word b == 0) (extended_low (low_word a)) (extended_low (low_word a % low_word b))

-- ---- the rows

-- an operation that computes a result from two words
abbrev pub kind_computes : OpKind → Bool
kind_computes Register = true
kind_computes Immediate = true
kind_computes Upper = true
kind_computes _ = false

abbrev pub computes : Op → Bool
computes op = kind_computes (kind_of op)

-- the result of an operation that computes, from the words a and b; 0 for the others
unfoldable pub alu : Op → ℕ → ℕ → ℕ
alu Add a b = sum a b
alu Addi a b = sum a b
alu Sub a b = difference a b
alu Sll a b = shifted_left a b
alu Slli a b = shifted_left a b
alu Slt a b = is_less a b
alu Slti a b = is_less a b
alu Sltu a b = is_less_unsigned a b
alu Sltiu a b = is_less_unsigned a b
alu Xor a b = bit_xor a b
alu Xori a b = bit_xor a b
alu Srl a b = shifted_right a b
alu Srli a b = shifted_right a b
alu Sra a b = shifted_right_signed a b
alu Srai a b = shifted_right_signed a b
alu Or a b = bit_or a b
alu Ori a b = bit_or a b
alu And a b = bit_and a b
alu Andi a b = bit_and a b
alu Mul a b = product a b
alu Mulh a b = high_product a b
alu Mulhsu a b = high_product_mixed a b
alu Mulhu a b = high_product_unsigned a b
alu Div a b = quotient a b
alu Divu a b = quotient_unsigned a b
alu Rem a b = remainder a b
alu Remu a b = remainder_unsigned a b
alu Addw a b = sum_low a b
alu Addiw a b = sum_low a b
alu Subw a b = difference_low a b
alu Sllw a b = shifted_left_low a b
alu Slliw a b = shifted_left_low a b
alu Srlw a b = shifted_right_low a b
alu Srliw a b = shifted_right_low a b
alu Sraw a b = shifted_right_signed_low a b
alu Sraiw a b = shifted_right_signed_low a b
alu Mulw a b = product_low a b
alu Divw a b = quotient_low a b
alu Divuw a b = quotient_unsigned_low a b
alu Remw a b = remainder_low a b
alu Remuw a b = remainder_unsigned_low a b
alu Lui a b = upper b
alu _ a b = 0

-- ---- "Conditional Branches"

-- a branch goes to its target; false for the other operations
unfoldable pub is_taken : Op → ℕ → ℕ → Bool
is_taken Beq a b = a == b
is_taken Bne a b = not (a == b)
is_taken Blt a b = int_lt (signed_of a) (signed_of b)
is_taken Bge a b = not (int_lt (signed_of a) (signed_of b))
is_taken Bltu a b = nat_lt a b
is_taken Bgeu a b = not (nat_lt a b)
is_taken _ a b = false

-- ---- "Load and Store Instructions"

-- how many bytes a load or a store accesses; 8 for the other operations, which access none
unfoldable pub access_size : Op → ℕ
access_size Lb = 1
access_size Lbu = 1
access_size Sb = 1
access_size Lh = 2
access_size Lhu = 2
access_size Sh = 2
access_size Lw = 4
access_size Lwu = 4
access_size Sw = 4
access_size _ = 8

-- what a load puts into its register, from the little-endian number that it read
unfoldable pub extended : Op → ℕ → ℕ
extended Lb value = word_of (cast_signed w8 (value % 2 ^ 8))
extended Lh value = word_of (cast_signed w16 (value % 2 ^ 16))
extended Lw value = word_of (cast_signed w32 (value % 2 ^ 32))
extended _ value = value
