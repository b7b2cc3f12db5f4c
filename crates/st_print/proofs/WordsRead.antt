-- Words of the canonical text and what they are read as: register-read, mnemonic-read, integer-decimal and integer-signed, name-word, and
-- for the labels `.Lk` label-name, label-local and label-number.
use Rattle.std.proofs.Common.{ℕ, suc, ◌≡◌, ◌+◌, ◌-◌, ◌*◌, ◌/◌, ◌%◌, ◌^◌, ◌<◌, Bool, true, false, ◌&&◌, ◌||◌, List, [], ◌∷◌, ◌++◌, refl, ap, sym, ◌∙◌, length, drop, arith, nat_eq, cond, Option, Some, None, ℤ, pos, negsuc, inl, inr}
use Rattle.std.specs.Fmt.{decimal, signed_decimal}
use Rattle.std.proofs.lemmas.Fmt.{decimal_by_steps, decimal_nonempty}
use Rattle.std.specs.List.{list_all}
use Rattle.std.specs.Str.{bytes_eq}
use Rattle.st_base.specs.declared.reg.Reg.{Reg}
use Rattle.st_base.specs.declared.reg.Reg.TheVariants as registers
use Rattle.st_rv.specs.declared.ins.Op.{Op}
use Rattle.st_rv.specs.declared.ins.Op.TheVariants as ops
use Rattle.st_rv.specs.Rows.{mnemonic_of}
use Rattle.st_line.specs.declared.words.Word.TheVariants as words
use Rattle.st_line.specs.Operands.{within, is_digit, begins_name, in_name, is_name, register_named, decimal_digit, hex_digit, with_digit, digits_after, digits_of, magnitude, integer}
use Rattle.st_line.specs.Words.{word_named}
use Rattle.st_line.proofs.Runs.{and-true, true-and, or-first, or-second, or-either, is_word, is_plain}
use Rattle.st_asm.specs.Labels.{is_local, is_entry}
use Rattle.st_print.specs.Canonical.{register_text, label_text}
use Rattle.st_print.proofs.Lexing.{all-append}

-- ---- registers and mnemonics

pub register-read : (r : Reg) → (register_named (register_text r) ≡ Some r) × (is_word (register_text r) ≡ true)
register-read registers.Zero = (refl, refl)
register-read registers.Ra = (refl, refl)
register-read registers.Sp = (refl, refl)
register-read registers.Gp = (refl, refl)
register-read registers.Tp = (refl, refl)
register-read registers.T0 = (refl, refl)
register-read registers.T1 = (refl, refl)
register-read registers.T2 = (refl, refl)
register-read registers.S0 = (refl, refl)
register-read registers.S1 = (refl, refl)
register-read registers.A0 = (refl, refl)
register-read registers.A1 = (refl, refl)
register-read registers.A2 = (refl, refl)
register-read registers.A3 = (refl, refl)
register-read registers.A4 = (refl, refl)
register-read registers.A5 = (refl, refl)
register-read registers.A6 = (refl, refl)
register-read registers.A7 = (refl, refl)
register-read registers.S2 = (refl, refl)
register-read registers.S3 = (refl, refl)
register-read registers.S4 = (refl, refl)
register-read registers.S5 = (refl, refl)
register-read registers.S6 = (refl, refl)
register-read registers.S7 = (refl, refl)
register-read registers.S8 = (refl, refl)
register-read registers.S9 = (refl, refl)
register-read registers.S10 = (refl, refl)
register-read registers.S11 = (refl, refl)
register-read registers.T3 = (refl, refl)
register-read registers.T4 = (refl, refl)
register-read registers.T5 = (refl, refl)
register-read registers.T6 = (refl, refl)

pub mnemonic-read : (op : Op) → (word_named (mnemonic_of op) ≡ Some (words.Row op)) × (is_word (mnemonic_of op) ≡ true) × (is_name (mnemonic_of op) ≡ true)
unfolding word_named
mnemonic-read ops.Add = (refl, refl, refl)
mnemonic-read ops.Sub = (refl, refl, refl)
mnemonic-read ops.Sll = (refl, refl, refl)
mnemonic-read ops.Slt = (refl, refl, refl)
mnemonic-read ops.Sltu = (refl, refl, refl)
mnemonic-read ops.Xor = (refl, refl, refl)
mnemonic-read ops.Srl = (refl, refl, refl)
mnemonic-read ops.Sra = (refl, refl, refl)
mnemonic-read ops.Or = (refl, refl, refl)
mnemonic-read ops.And = (refl, refl, refl)
mnemonic-read ops.Mul = (refl, refl, refl)
mnemonic-read ops.Mulh = (refl, refl, refl)
mnemonic-read ops.Mulhsu = (refl, refl, refl)
mnemonic-read ops.Mulhu = (refl, refl, refl)
mnemonic-read ops.Div = (refl, refl, refl)
mnemonic-read ops.Divu = (refl, refl, refl)
mnemonic-read ops.Rem = (refl, refl, refl)
mnemonic-read ops.Remu = (refl, refl, refl)
mnemonic-read ops.Addw = (refl, refl, refl)
mnemonic-read ops.Subw = (refl, refl, refl)
mnemonic-read ops.Sllw = (refl, refl, refl)
mnemonic-read ops.Srlw = (refl, refl, refl)
mnemonic-read ops.Sraw = (refl, refl, refl)
mnemonic-read ops.Mulw = (refl, refl, refl)
mnemonic-read ops.Divw = (refl, refl, refl)
mnemonic-read ops.Divuw = (refl, refl, refl)
mnemonic-read ops.Remw = (refl, refl, refl)
mnemonic-read ops.Remuw = (refl, refl, refl)
mnemonic-read ops.Addi = (refl, refl, refl)
mnemonic-read ops.Slti = (refl, refl, refl)
mnemonic-read ops.Sltiu = (refl, refl, refl)
mnemonic-read ops.Xori = (refl, refl, refl)
mnemonic-read ops.Ori = (refl, refl, refl)
mnemonic-read ops.Andi = (refl, refl, refl)
mnemonic-read ops.Slli = (refl, refl, refl)
mnemonic-read ops.Srli = (refl, refl, refl)
mnemonic-read ops.Srai = (refl, refl, refl)
mnemonic-read ops.Addiw = (refl, refl, refl)
mnemonic-read ops.Slliw = (refl, refl, refl)
mnemonic-read ops.Srliw = (refl, refl, refl)
mnemonic-read ops.Sraiw = (refl, refl, refl)
mnemonic-read ops.Lb = (refl, refl, refl)
mnemonic-read ops.Lh = (refl, refl, refl)
mnemonic-read ops.Lw = (refl, refl, refl)
mnemonic-read ops.Ld = (refl, refl, refl)
mnemonic-read ops.Lbu = (refl, refl, refl)
mnemonic-read ops.Lhu = (refl, refl, refl)
mnemonic-read ops.Lwu = (refl, refl, refl)
mnemonic-read ops.Sb = (refl, refl, refl)
mnemonic-read ops.Sh = (refl, refl, refl)
mnemonic-read ops.Sw = (refl, refl, refl)
mnemonic-read ops.Sd = (refl, refl, refl)
mnemonic-read ops.Beq = (refl, refl, refl)
mnemonic-read ops.Bne = (refl, refl, refl)
mnemonic-read ops.Blt = (refl, refl, refl)
mnemonic-read ops.Bge = (refl, refl, refl)
mnemonic-read ops.Bltu = (refl, refl, refl)
mnemonic-read ops.Bgeu = (refl, refl, refl)
mnemonic-read ops.Jal = (refl, refl, refl)
mnemonic-read ops.Jalr = (refl, refl, refl)
mnemonic-read ops.Lui = (refl, refl, refl)
mnemonic-read ops.Ebreak = (refl, refl, refl)

-- ---- names

upper-plain : (b : ℕ) → within 65 90 b ≡ true → is_plain b ≡ true
upper-plain b h = grind arith

lower-plain : (b : ℕ) → within 97 122 b ≡ true → is_plain b ≡ true
lower-plain b h = grind arith

digit-plain : (b : ℕ) → is_digit b ≡ true → is_plain b ≡ true
digit-plain b h = grind arith

same-byte : (b c : ℕ) → nat_eq b c ≡ true → b ≡ c
same-byte b c h = grind arith

-- what holds of one part of a test that holds
either : (P : Type 0) (a b : Bool) → (a ≡ true → P) → (b ≡ true → P) → a || b ≡ true → P
either P a b f g h = elim (or-either a b h) [ inl k ↦ f k | inr k ↦ g k ]

name-class : (b : ℕ) → in_name b ≡ true → is_plain b ≡ true
name-class b h =
    let P = is_plain b ≡ true in
    let at = λ (c : ℕ) (yes : is_plain c ≡ true) (e : nat_eq b c ≡ true). ap is_plain (same-byte b c e) ∙ yes in
    let upper = within 65 90 b in
    let lower = within 97 122 b in
    either P (begins_name b) (is_digit b)
    (either P (upper || lower || nat_eq b 95 || nat_eq b 46) (nat_eq b 36)
    (either P (upper || lower || nat_eq b 95) (nat_eq b 46)
    (either P (upper || lower) (nat_eq b 95) (either P upper lower (upper-plain b) (lower-plain b)) (at 95 refl)) (at 46 refl)) (at 36 refl))
    (digit-plain b) h

name-rest : (bs : List ℕ) → list_all in_name bs ≡ true → list_all is_plain bs ≡ true
name-rest [] h = refl
name-rest (b ∷ bs) h = let s = and-true (in_name b) (list_all in_name bs) h in true-and (is_plain b) (list_all is_plain bs) (name-class b s.0) (name-rest bs s.1)

pub name-word : (w : List ℕ) → is_name w ≡ true → is_word w ≡ true
name-word [] h = cc
name-word (b ∷ bs) h =
    let s = and-true (begins_name b) (list_all in_name bs) h in
    true-and (is_plain b) (list_all is_plain bs) (name-class b (or-first (begins_name b) (is_digit b) s.0)) (name-rest bs s.1)

-- a word is no comma
pub word-comma : (w : List ℕ) → is_word w ≡ true → bytes_eq w (44 ∷ []) ≡ false
word-comma [] h = refl
word-comma (b ∷ []) h =
    (elim (nat_eq b 44) as (λ t. nat_eq b 44 ≡ t → bytes_eq (b ∷ []) (44 ∷ []) ≡ false) [
      | true ↦ λ e. let same : b ≡ 44 = grind arith in let no : is_word (44 ∷ []) ≡ true = ap (λ a. is_word (a ∷ [])) (sym same) ∙ h in cc
      | false ↦ λ e. rw e refl
    ]) refl
word-comma (b ∷ c ∷ bs) h = grind arith

-- ---- numbers

digit-value : (d : ℕ) → d < 10 → decimal_digit (48 + d) ≡ Some d
digit-value d h = let k : is_digit (48 + d) ≡ true = grind arith in let e : 48 + d - 48 ≡ d = omega arith in rw (k, e) refl

digit-more : (o : Option ℕ) (m d : ℕ) (ds : List ℕ) → d < 10 → digits_after 10 decimal_digit o ds ≡ Some m → digits_after 10 decimal_digit o (ds ++ (48 + d) ∷ []) ≡ Some (m * 10 + d)
digit-more None m d ds h e = cc
digit-more (Some n) m d [] h e = let same : n ≡ m = cc in ap (λ o. digits_after 10 decimal_digit (with_digit 10 n o) []) (digit-value d h) ∙ ap (λ k. Some (k * 10 + d)) same
digit-more (Some n) m d (b ∷ bs) h e = digit-more (with_digit 10 n (decimal_digit b)) m d bs h e

decimal-digits : (n : ℕ) → n < 2 ^ 64 → digits_after 10 decimal_digit (Some 0) (decimal n) ≡ Some n
decimal-digits n h = decimal_by_steps (λ n ds. digits_after 10 decimal_digit (Some 0) ds ≡ Some n)
    (λ n small. digit-more (Some 0) 0 n [] small refl ∙ ap Some (omega arith))
    (λ n ds big before. digit-more (Some 0) (n / 10) (n % 10) ds (omega arith) before ∙ ap Some (omega arith))
    n h

digit-is : (d : ℕ) → d < 10 → list_all is_digit ((48 + d) ∷ []) ≡ true
digit-is d h = grind arith

decimal-all : (n : ℕ) → n < 2 ^ 64 → list_all is_digit (decimal n) ≡ true
decimal-all n h = decimal_by_steps (λ n ds. list_all is_digit ds ≡ true)
    (λ n small. digit-is n small)
    (λ n ds big before. all-append is_digit ds ((48 + n % 10) ∷ []) before (digit-is (n % 10) (omega arith)))
    n h

digit-zero : (c : ℕ) → is_digit c ≡ true → nat_eq c 120 ≡ false
digit-zero c h = grind arith

digit-minus : (c : ℕ) → is_digit c ≡ true → nat_eq c 45 ≡ false
digit-minus c h = grind arith

magnitude-digits : (ds : List ℕ) → list_all is_digit ds ≡ true → magnitude ds ≡ digits_of 10 decimal_digit ds
magnitude-digits [] h = refl
magnitude-digits (b ∷ []) h = refl
magnitude-digits (b ∷ c ∷ bs) h =
    let s = and-true (is_digit b) (list_all is_digit (c ∷ bs)) h in
    let t = and-true (is_digit c) (list_all is_digit bs) s.1 in
    let k = digit-zero c t.0 in
    elim (nat_eq b 48) as (λ u. cond (u && nat_eq c 120) (digits_of 16 hex_digit bs) (digits_of 10 decimal_digit (b ∷ c ∷ bs)) ≡ digits_of 10 decimal_digit (b ∷ c ∷ bs)) [ true ↦ rw k refl | false ↦ refl ]

magnitude-number : (ds : List ℕ) (n : ℕ) → list_all is_digit ds ≡ true → 0 < length ds → digits_after 10 decimal_digit (Some 0) ds ≡ Some n → magnitude ds ≡ Some n
magnitude-number [] n h k e = absurd (omega arith)
magnitude-number (b ∷ bs) n h k e = magnitude-digits (b ∷ bs) h ∙ e

integer-number : (ds : List ℕ) (n : ℕ) → list_all is_digit ds ≡ true → 0 < length ds → digits_after 10 decimal_digit (Some 0) ds ≡ Some n → integer ds ≡ Some (pos n)
integer-number [] n h k e = absurd (omega arith)
integer-number (b ∷ bs) n h k e =
    let s = and-true (is_digit b) (list_all is_digit bs) h in
    let m = digit-minus b s.0 in
    let t = magnitude-number (b ∷ bs) n h k e in
    rw (m, t) refl

pub integer-decimal : (n : ℕ) → n < 2 ^ 64 → integer (decimal n) ≡ Some (pos n)
integer-decimal n h = integer-number (decimal n) n (decimal-all n h) (decimal_nonempty n h) (decimal-digits n h)

digit-name : (b : ℕ) → is_digit b ≡ true → in_name b ≡ true
digit-name b h = or-second (begins_name b) (is_digit b) h

digits-name : (ds : List ℕ) → list_all is_digit ds ≡ true → list_all in_name ds ≡ true
digits-name [] h = refl
digits-name (b ∷ bs) h = let s = and-true (is_digit b) (list_all is_digit bs) h in true-and (in_name b) (list_all in_name bs) (digit-name b s.0) (digits-name bs s.1)

plain-word : (w : List ℕ) → 0 < length w → list_all is_plain w ≡ true → is_word w ≡ true
plain-word [] h k = absurd (omega arith)
plain-word (b ∷ bs) h k = k

pub decimal-word : (n : ℕ) → n < 2 ^ 64 → is_word (decimal n) ≡ true
decimal-word n h = plain-word (decimal n) (decimal_nonempty n h) (name-rest (decimal n) (digits-name (decimal n) (decimal-all n h)))

-- a magnitude of 64 bits
abbrev pub IsNarrow : ℤ → Type 0
IsNarrow (pos n) = n < 2 ^ 64
IsNarrow (negsuc n) = suc n < 2 ^ 64

pub integer-signed : (z : ℤ) → IsNarrow z → integer (signed_decimal z) ≡ Some z
integer-signed (pos n) h = integer-decimal n h
integer-signed (negsuc n) h =
    let m = magnitude-number (decimal (suc n)) (suc n) (decimal-all (suc n) h) (decimal_nonempty (suc n) h) (decimal-digits (suc n) h) in
    rw m refl

pub signed-word : (z : ℤ) → IsNarrow z → is_word (signed_decimal z) ≡ true
signed-word (pos n) h = decimal-word n h
signed-word (negsuc n) h = name-rest (decimal (suc n)) (digits-name (decimal (suc n)) (decimal-all (suc n) h))

-- ---- the labels `.Lk`

pub label-name : (k : ℕ) → k < 2 ^ 64 → is_name (label_text k) ≡ true
label-name k h = digits-name (decimal k) (decimal-all k h)

pub label-local : (k : ℕ) → is_local (label_text k) ≡ true
label-local k = refl

pub label-free : (k : ℕ) → is_entry (label_text k) ≡ false
label-free k = refl

pub label-number : (j k : ℕ) → j < 2 ^ 64 → k < 2 ^ 64 → label_text j ≡ label_text k → j ≡ k
label-number j k h i e =
    let same : decimal j ≡ decimal k = ap (drop 2) e in
    let s : Some j ≡ Some k = sym (decimal-digits j h) ∙ ap (digits_after 10 decimal_digit (Some 0)) same ∙ decimal-digits k i in
    cc
