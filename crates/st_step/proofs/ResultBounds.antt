-- Results of instructions are below 2 ^ 64: a computed one (alu_fits), a loaded one (extended_fits), bytes of a word (bytes_fit), a number
-- from the data (load_fits), and the word of a number that is small enough (word_fits, word_small).
use Rattle.std.proofs.Common.{ℕ, suc, zero, ◌+◌, ◌-◌, ◌*◌, ◌/◌, ◌%◌, ◌^◌, ◌<◌, ◌≤◌, ◌≡◌, ℤ, pos, negsuc, ◌*ℤ◌, ◌<ℤ◌, Bool, true, false, cond, ◌==◌, Option, Some, None, IfSome, arith, unsigned_abs, int_div, int_rem, bit_and, nat_lt, int_lt, refl, neg_ℤ}
use Rattle.std.specs.Int.{w32, cast_unsigned, int_shr, from_bool}
use Rattle.std.proofs.lemmas.Bool.{ltb-true, ltb-false}
use Rattle.std.proofs.lemmas.Int.{ints, unsigned_abs-mul}
use Rattle.std.proofs.lemmas.Nat.{or_lt, xor_lt, and_le_l, mod_below}
use Rattle.std.proofs.Math.Nat.{div-le_self, mod-le, mul-le-mul}
use Rattle.st_rv.specs.declared.ins.Op.{Op}
use Rattle.st_rv.specs.declared.ins.Op.TheVariants as ops
use Rattle.st_rv.specs.Results.{word_of, signed_of, low_word, low_signed, extended_low, low_extended, alu, extended}
use Rattle.st_model.specs.Memory.{byte_below, load_from}
use Rattle.st_step.specs.Moves.{bytes_of}

-- ---- words of numbers

pub word_fits : (z : ℤ) → unsigned_abs z < 2 ^ 64 → word_of z < 2 ^ 64
word_fits (pos n) less = less
word_fits (negsuc n) less = omega arith

pub word_small : (z : ℤ) → z <ℤ pos (2 ^ 31) → word_of z < 2 ^ 64
word_small (pos n) less = omega (arith, ints)
word_small (negsuc n) less = omega arith

signed_when : (b : Bool) (a : ℕ) → (b ≡ true → a < 2 ^ 63) → (b ≡ false → 2 ^ 63 ≤ a) → unsigned_abs (cond b (pos a) (negsuc (2 ^ 64 - suc a))) ≤ 2 ^ 63
signed_when true a low high = let l = low refl in omega arith
signed_when false a low high = let h = high refl in omega arith

signed_most : (a : ℕ) → unsigned_abs (signed_of a) ≤ 2 ^ 63
signed_most a = signed_when (nat_lt a (2 ^ 63)) a (ltb-true a (2 ^ 63)) (ltb-false a (2 ^ 63))

-- of so many low bits in two's complement
extended_when : (b : Bool) (n half : ℕ) → (b ≡ true → n < half) → half ≤ 2 ^ 31 → word_of (cond b (pos n) (negsuc (2 * half - suc n))) < 2 ^ 64
extended_when true n half low most = let l = low refl in omega arith
extended_when false n half low most = omega arith

low_fits : (n : ℕ) → extended_low n < 2 ^ 64
low_fits n = extended_when (nat_lt n (2 ^ 31)) n (2 ^ 31) (ltb-true n (2 ^ 31)) (omega arith)

-- a shift brings no number up
shifted_most : (z : ℤ) (k : ℕ) → unsigned_abs (int_shr z k) ≤ unsigned_abs z
shifted_most (pos n) k = div-le_self n (2 ^ k)
shifted_most (negsuc n) k = let e = div-le_self n (2 ^ k) in omega arith

half_shifted : (z : ℤ) → unsigned_abs z < 2 ^ 127 → unsigned_abs (int_shr z 64) < 2 ^ 64
half_shifted (pos n) less = omega arith
half_shifted (negsuc n) less = omega arith

product_most : (x y : ℤ) → unsigned_abs x ≤ 2 ^ 63 → unsigned_abs y < 2 ^ 64 → word_of (int_shr (x *ℤ y) 64) < 2 ^ 64
product_most x y few less =
    let e = unsigned_abs-mul x y in
    let at_most : unsigned_abs y ≤ 2 ^ 64 - 1 = omega arith in
    let p = mul-le-mul few at_most in
    word_fits (int_shr (x *ℤ y) 64) (half_shifted (x *ℤ y) (omega arith))

negated_fits : (n : ℕ) → n < 2 ^ 64 → word_of (neg_ℤ (pos n)) < 2 ^ 64
negated_fits zero less = omega arith
negated_fits (suc n) less = omega arith

shifted_fits : (a b : ℕ) → word_of (int_shr (signed_of a) (b % 64)) < 2 ^ 64
shifted_fits a b =
    let few = signed_most a in
    let down = shifted_most (signed_of a) (b % 64) in
    word_fits (int_shr (signed_of a) (b % 64)) (omega arith)

divided_fits : (x y : ℤ) → unsigned_abs x ≤ 2 ^ 63 → word_of (int_div x y) < 2 ^ 64
divided_fits (pos n) (pos m) few = let e = div-le_self n m in omega arith
divided_fits (pos n) (negsuc m) few = let e = div-le_self n (suc m) in negated_fits (n / suc m) (omega arith)
divided_fits (negsuc n) (pos m) few = let e = div-le_self (suc n) m in negated_fits (suc n / m) (omega arith)
divided_fits (negsuc n) (negsuc m) few = let e = div-le_self (suc n) (suc m) in omega arith

left_fits : (x y : ℤ) → unsigned_abs x ≤ 2 ^ 63 → word_of (int_rem x y) < 2 ^ 64
left_fits (pos n) y few = let e = mod-le n (unsigned_abs y) in omega arith
left_fits (negsuc n) y few = let e = mod-le (suc n) (unsigned_abs y) in negated_fits (suc n % unsigned_abs y) (omega arith)

-- ---- computed results

bit_fits : (b : Bool) → from_bool b < 2 ^ 64
bit_fits true = omega arith
bit_fits false = omega arith

either_fits : (b : Bool) (x y : ℕ) → x < 2 ^ 64 → y < 2 ^ 64 → cond b x y < 2 ^ 64
either_fits true x y first second = first
either_fits false x y first second = second

divided_down : (a b : ℕ) → a < 2 ^ 64 → a / b < 2 ^ 64
divided_down a b less = let e = div-le_self a b in omega arith

left_down : (a b : ℕ) → a < 2 ^ 64 → a % b < 2 ^ 64
left_down a b less = let e = mod-le a b in omega arith

and_fits : (a b : ℕ) → a < 2 ^ 64 → bit_and a b < 2 ^ 64
and_fits a b less = let e = and_le_l a b in omega arith

high_fits : (a b : ℕ) → a < 2 ^ 64 → b < 2 ^ 64 → a * b / 2 ^ 64 < 2 ^ 64
high_fits a b first second =
    let few : a ≤ 2 ^ 64 - 1 = omega arith in
    let most : b ≤ 2 ^ 64 - 1 = omega arith in
    let p = mul-le-mul few most in
    omega arith

all_ones : 2 ^ 64 - 1 < 2 ^ 64
all_ones = omega arith

pub alu_fits : (op : Op) (a b : ℕ) → a < 2 ^ 64 → b < 2 ^ 64 → alu op a b < 2 ^ 64
unfolding alu
alu_fits ops.Add a b x y = omega arith
alu_fits ops.Addi a b x y = omega arith
alu_fits ops.Sub a b x y = omega arith
alu_fits ops.Sll a b x y = mod_below (a * 2 ^ (b % 64)) (2 ^ 64) (omega arith)
alu_fits ops.Slli a b x y = mod_below (a * 2 ^ (b % 64)) (2 ^ 64) (omega arith)
alu_fits ops.Slt a b x y = bit_fits (int_lt (signed_of a) (signed_of b))
alu_fits ops.Slti a b x y = bit_fits (int_lt (signed_of a) (signed_of b))
alu_fits ops.Sltu a b x y = bit_fits (nat_lt a b)
alu_fits ops.Sltiu a b x y = bit_fits (nat_lt a b)
alu_fits ops.Xor a b x y = xor_lt 64 a b x y
alu_fits ops.Xori a b x y = xor_lt 64 a b x y
alu_fits ops.Srl a b x y = divided_down a (2 ^ (b % 64)) x
alu_fits ops.Srli a b x y = divided_down a (2 ^ (b % 64)) x
alu_fits ops.Sra a b x y = shifted_fits a b
alu_fits ops.Srai a b x y = shifted_fits a b
alu_fits ops.Or a b x y = or_lt 64 a b x y
alu_fits ops.Ori a b x y = or_lt 64 a b x y
alu_fits ops.And a b x y = and_fits a b x
alu_fits ops.Andi a b x y = and_fits a b x
alu_fits ops.Mul a b x y = mod_below (a * b) (2 ^ 64) (omega arith)
alu_fits ops.Mulh a b x y = let few = signed_most b in product_most (signed_of a) (signed_of b) (signed_most a) (omega arith)
alu_fits ops.Mulhsu a b x y = product_most (signed_of a) (pos b) (signed_most a) y
alu_fits ops.Mulhu a b x y = high_fits a b x y
alu_fits ops.Div a b x y = either_fits (b == 0) (2 ^ 64 - 1) (word_of (int_div (signed_of a) (signed_of b))) all_ones (divided_fits (signed_of a) (signed_of b) (signed_most a))
alu_fits ops.Divu a b x y = either_fits (b == 0) (2 ^ 64 - 1) (a / b) all_ones (divided_down a b x)
alu_fits ops.Rem a b x y = either_fits (b == 0) a (word_of (int_rem (signed_of a) (signed_of b))) x (left_fits (signed_of a) (signed_of b) (signed_most a))
alu_fits ops.Remu a b x y = either_fits (b == 0) a (a % b) x (left_down a b x)
alu_fits ops.Addw a b x y = low_fits ((a + b) % 2 ^ 32)
alu_fits ops.Addiw a b x y = low_fits ((a + b) % 2 ^ 32)
alu_fits ops.Subw a b x y = low_fits ((low_word a + (2 ^ 32 - low_word b)) % 2 ^ 32)
alu_fits ops.Sllw a b x y = low_fits (low_word a * 2 ^ (b % 32) % 2 ^ 32)
alu_fits ops.Slliw a b x y = low_fits (low_word a * 2 ^ (b % 32) % 2 ^ 32)
alu_fits ops.Srlw a b x y = low_fits (low_word a / 2 ^ (b % 32))
alu_fits ops.Srliw a b x y = low_fits (low_word a / 2 ^ (b % 32))
alu_fits ops.Sraw a b x y = low_fits (cast_unsigned w32 (int_shr (low_signed a) (b % 32)))
alu_fits ops.Sraiw a b x y = low_fits (cast_unsigned w32 (int_shr (low_signed a) (b % 32)))
alu_fits ops.Mulw a b x y = low_fits (a * b % 2 ^ 32)
alu_fits ops.Divw a b x y = either_fits (low_word b == 0) (2 ^ 64 - 1) (low_extended (int_div (low_signed a) (low_signed b))) all_ones (low_fits (cast_unsigned w32 (int_div (low_signed a) (low_signed b))))
alu_fits ops.Divuw a b x y = either_fits (low_word b == 0) (2 ^ 64 - 1) (extended_low (low_word a / low_word b)) all_ones (low_fits (low_word a / low_word b))
alu_fits ops.Remw a b x y = either_fits (low_word b == 0) (extended_low (low_word a)) (low_extended (int_rem (low_signed a) (low_signed b))) (low_fits (low_word a)) (low_fits (cast_unsigned w32 (int_rem (low_signed a) (low_signed b))))
alu_fits ops.Remuw a b x y = either_fits (low_word b == 0) (extended_low (low_word a)) (extended_low (low_word a % low_word b)) (low_fits (low_word a)) (low_fits (low_word a % low_word b))
alu_fits ops.Lui a b x y = low_fits (b * 2 ^ 12 % 2 ^ 32)
alu_fits _ a b x y = omega arith

-- ---- loaded results

pub extended_fits : (op : Op) (n : ℕ) → n < 2 ^ 64 → extended op n < 2 ^ 64
unfolding extended
extended_fits ops.Lb n less = extended_when (nat_lt (n % 2 ^ 8) (2 ^ 7)) (n % 2 ^ 8) (2 ^ 7) (ltb-true (n % 2 ^ 8) (2 ^ 7)) (omega arith)
extended_fits ops.Lh n less = extended_when (nat_lt (n % 2 ^ 16) (2 ^ 15)) (n % 2 ^ 16) (2 ^ 15) (ltb-true (n % 2 ^ 16) (2 ^ 15)) (omega arith)
extended_fits ops.Lw n less = low_fits (n % 2 ^ 32)
extended_fits _ n less = less

pub bytes_fit : (word at size : ℕ) → word < 2 ^ 64 → bytes_of word at size < 2 ^ 64
bytes_fit word at size less = left_down (word / 2 ^ (8 * at)) (2 ^ (8 * size)) (divided_down word (2 ^ (8 * at)) less)

with_byte_fits : (byte more : Option ℕ) → IfSome (byte_below byte more) (λ n. n < 2 ^ 64)
with_byte_fits None more = tt
with_byte_fits (Some b) None = tt
with_byte_fits (Some b) (Some v) = omega arith

pub load_fits : (byte : ℕ → Option ℕ) (at k : ℕ) → IfSome (load_from byte at k) (λ n. n < 2 ^ 64)
unfolding load_from
load_fits byte at zero = omega arith
load_fits byte at (suc k) = with_byte_fits (byte at) (load_from byte (at + 1) k)
