-- The rows of the table by their places and by the words that they give: what encoding and decoding find in the table is what
-- `IsRow` says (`encoded_some`, `encoded_only`, `encoded_fits`, `decoded_some`, `decoded_only`, `decoded_given`), and a word is
-- that of one instruction (`one_instruction`).
use Rattle.std.proofs.Common.{ℕ, ◌≡◌, ◌^◌, ◌<◌, ◌≤◌, ◌+◌, ◌-◌, Bool, true, false, ◌&&◌, List, [], ◌∷◌, Option, Some, None, refl, ap, sym, subst, ◌∙◌, cond, arith, bit_and, nat_eq, get_or, inl, inr}
use Rattle.std.specs.Prelude.{IfSome, IsSome, ◌↔◌}
use Rattle.st_base.specs.Reg.{reg_number}
use Rattle.st_base.specs.declared.reg.Reg.{Reg}
use Rattle.st_base.specs.declared.reg.Reg.TheVariants.{Zero, Ra, Sp, Gp, Tp, T0, T1, T2, S0, S1, A0, A1, A2, A3, A4, A5, A6, A7, S2, S3, S4, S5, S6, S7, S8, S9, S10, S11, T3, T4, T5, T6}
use Rattle.st_rv.specs.Op.{op_number}
use Rattle.st_rv.specs.Fields.{HasFields}
use Rattle.st_rv.specs.Rows.{GivesRow, FitsRow, GivesWord, SomeRow, IsRow, FitsTable, IsGiven, IsApartFrom, AreApart, row_at, first_in, IsWordOf, Encoded, Decoded}
use Rattle.st_rv.specs.declared.rows.TheConstants.{ROWS}
use Rattle.st_rv.specs.declared.rows.Row.{Row}
use Rattle.st_rv.specs.declared.ins.Ins.{Ins}
use Rattle.st_rv.specs.declared.ins.Op.{Op}
use Rattle.st_rv.specs.declared.ins.Op.TheVariants.{Add, Sub, Sll, Slt, Sltu, Xor, Srl, Sra, Or, And, Mul, Mulh, Mulhsu, Mulhu, Div, Divu, Rem, Remu, Addw, Subw, Sllw, Srlw, Sraw, Mulw, Divw, Divuw, Remw, Remuw, Addi, Slti, Sltiu, Xori, Ori, Andi, Slli, Srli, Srai, Addiw, Slliw, Srliw, Sraiw, Lb, Lh, Lw, Ld, Lbu, Lhu, Lwu, Sb, Sh, Sw, Sd, Beq, Bne, Blt, Bge, Bltu, Bgeu, Jal, Jalr, Lui, Ebreak}
use Rattle.st_rv.proofs.Apart.{both_true, equal_true, true_equal, are_apart, apart_next, apart_others, apart_first, apart_rest}

-- ---- rows by their places

pub some_at : (P : Row → Type 0) (rs : List Row) (k : ℕ) (r : Row) → row_at rs k ≡ Some r → P r → SomeRow P rs
some_at P [] k r e h = cc
some_at P (s ∷ rs) k r e h =
    (elim (nat_eq k 0) as (λ b. cond b (Some s) (row_at rs (k - 1)) ≡ Some r → SomeRow P (s ∷ rs)) [
      | true ↦ λ e. let same : s ≡ r = cc in inl (subst P (sym same) h)
      | false ↦ λ e. inr (some_at P rs (k - 1) r e h)
    ]) e

-- the row of each operation stands at its number, from n on
abbrev numbered : List Row → ℕ → Bool
numbered [] n = true
numbered (r ∷ rs) n = nat_eq (op_number r.op) n && numbered rs (n + 1)

number_from : (P : Row → Type 0) (op : Op) → ((r : Row) → P r → r.op ≡ op) → (rs : List Row) (n : ℕ) → numbered rs n ≡ true → SomeRow P rs → n ≤ op_number op
number_from P op own [] n t h = elim h [ ]
number_from P op own (r ∷ rs) n t h =
    let p = both_true _ _ t in
    elim h [
      | inl g ↦ let e : op_number r.op ≡ n = equal_true _ _ p.0 in let f : op_number r.op ≡ op_number op = ap op_number (own r g) in omega arith
      | inr k ↦ let e = number_from P op own rs (n + 1) p.1 k in omega arith
    ]

behind : (a b : ℕ) → b + 1 ≤ a → nat_eq (a - b) 0 ≡ false
behind a b h = grind arith

pub at_number : (P : Row → Type 0) (op : Op) → ((r : Row) → P r → r.op ≡ op) → (rs : List Row) (n : ℕ) → numbered rs n ≡ true → SomeRow P rs → (r : Row) × (row_at rs (op_number op - n) ≡ Some r) × P r
at_number P op own [] n t h = elim h [ ]
at_number P op own (r ∷ rs) n t h =
    let p = both_true _ _ t in
    elim h [
      | inl g ↦ let e : op_number r.op ≡ n = equal_true _ _ p.0 in let f : op_number r.op ≡ op_number op = ap op_number (own r g) in
          let z : op_number op - n ≡ 0 = omega arith in
          (r, ap (λ k. cond (nat_eq k 0) (Some r) (row_at rs (k - 1))) z, g)
      | inr k ↦ let a = at_number P op own rs (n + 1) p.1 k in
          let b = number_from P op own rs (n + 1) p.1 k in
          let z : nat_eq (op_number op - n) 0 ≡ false = behind (op_number op) n b in
          let y : op_number op - n - 1 ≡ op_number op - (n + 1) = omega arith in
          (a.0, rw (z, y) a.1, a.2)
    ]

-- the same in the table
own_number : (P : Row → Type 0) (op : Op) → ((r : Row) → P r → r.op ≡ op) → SomeRow P ROWS → (r : Row) × (row_at ROWS (op_number op) ≡ Some r) × P r
own_number P op own h =
    let a = at_number P op own ROWS 0 refl h in
    let z : op_number op - 0 ≡ op_number op = omega arith in
    (a.0, ap (row_at ROWS) (sym z) ∙ a.1, a.2)

own_row : (op : Op) → (r : Row) × (row_at ROWS (op_number op) ≡ Some r) × (r.op ≡ op)
own_row Add = (_, refl, refl)
own_row Sub = (_, refl, refl)
own_row Sll = (_, refl, refl)
own_row Slt = (_, refl, refl)
own_row Sltu = (_, refl, refl)
own_row Xor = (_, refl, refl)
own_row Srl = (_, refl, refl)
own_row Sra = (_, refl, refl)
own_row Or = (_, refl, refl)
own_row And = (_, refl, refl)
own_row Mul = (_, refl, refl)
own_row Mulh = (_, refl, refl)
own_row Mulhsu = (_, refl, refl)
own_row Mulhu = (_, refl, refl)
own_row Div = (_, refl, refl)
own_row Divu = (_, refl, refl)
own_row Rem = (_, refl, refl)
own_row Remu = (_, refl, refl)
own_row Addw = (_, refl, refl)
own_row Subw = (_, refl, refl)
own_row Sllw = (_, refl, refl)
own_row Srlw = (_, refl, refl)
own_row Sraw = (_, refl, refl)
own_row Mulw = (_, refl, refl)
own_row Divw = (_, refl, refl)
own_row Divuw = (_, refl, refl)
own_row Remw = (_, refl, refl)
own_row Remuw = (_, refl, refl)
own_row Addi = (_, refl, refl)
own_row Slti = (_, refl, refl)
own_row Sltiu = (_, refl, refl)
own_row Xori = (_, refl, refl)
own_row Ori = (_, refl, refl)
own_row Andi = (_, refl, refl)
own_row Slli = (_, refl, refl)
own_row Srli = (_, refl, refl)
own_row Srai = (_, refl, refl)
own_row Addiw = (_, refl, refl)
own_row Slliw = (_, refl, refl)
own_row Srliw = (_, refl, refl)
own_row Sraiw = (_, refl, refl)
own_row Lb = (_, refl, refl)
own_row Lh = (_, refl, refl)
own_row Lw = (_, refl, refl)
own_row Ld = (_, refl, refl)
own_row Lbu = (_, refl, refl)
own_row Lhu = (_, refl, refl)
own_row Lwu = (_, refl, refl)
own_row Sb = (_, refl, refl)
own_row Sh = (_, refl, refl)
own_row Sw = (_, refl, refl)
own_row Sd = (_, refl, refl)
own_row Beq = (_, refl, refl)
own_row Bne = (_, refl, refl)
own_row Blt = (_, refl, refl)
own_row Bge = (_, refl, refl)
own_row Bltu = (_, refl, refl)
own_row Bgeu = (_, refl, refl)
own_row Jal = (_, refl, refl)
own_row Jalr = (_, refl, refl)
own_row Lui = (_, refl, refl)
own_row Ebreak = (_, refl, refl)

-- ---- encoding

pub encoded_some : (i : Ins) (o : Option ℕ) → Encoded (row_at ROWS (op_number i.op)) i o → IfSome o (λ w. IsRow i w)
unfolding IsRow
encoded_some i None h = tt
encoded_some i (Some w) h =
    let a = own_row i.op in
    let d : IsWordOf a.0 i (Some w) = subst (λ f. Encoded f i (Some w)) a.1 h in
    some_at (GivesRow i w) ROWS (op_number i.op) a.0 a.1 (record { op = a.2; word = d.some })

pub encoded_only : (i : Ins) (o : Option ℕ) → Encoded (row_at ROWS (op_number i.op)) i o → (w : ℕ) → IsRow i w → o ≡ Some w
unfolding IsRow
encoded_only i o h w k =
    let a = own_number (GivesRow i w) i.op (λ r g. g.op) k in
    let d : IsWordOf a.0 i o = subst (λ f. Encoded f i o) a.1 h in
    d.only w a.2.word

pub encoded_fits : (i : Ins) (o : Option ℕ) → Encoded (row_at ROWS (op_number i.op)) i o → IsSome o ↔ FitsTable i
unfolding FitsTable
encoded_fits i o h = (
  λ s. let a = own_row i.op in
      let d : IsWordOf a.0 i o = subst (λ f. Encoded f i o) a.1 h in
      some_at (FitsRow i) ROWS (op_number i.op) a.0 a.1 (record { op = a.2; form = d.fits.0 s }),
  λ k. let a = own_number (FitsRow i) i.op (λ r g. g.op) k in
      let d : IsWordOf a.0 i o = subst (λ f. Encoded f i o) a.1 h in
      d.fits.1 a.2.form,
)

-- ---- the first row that gives a word

-- no row of a list apart from r gives a word that r gives
none_other : (r : Row) (rs : List Row) (i : Ins) (w : ℕ) → IsApartFrom r rs → w < 2 ^ 32 → GivesWord w r → SomeRow (GivesRow i w) rs → ⊥
none_other r [] i w a p e h = h
none_other r (s ∷ rs) i w a p e h =
    elim h [
      | inl g ↦ apart_next r s rs a (w, p, e, g.word.fixed)
      | inr k ↦ none_other r rs i w (apart_others r s rs a) p e k
    ]

-- where rows are apart, the first that gives a word is the only one
first_only : (rs : List Row) (i : Ins) (w : ℕ) → AreApart rs → SomeRow (GivesRow i w) rs → (r : Row) × (first_in rs w ≡ Some r) × GivesRow i w r
first_only [] i w a h = elim h [ ]
first_only (r ∷ rs) i w a h =
    elim h [
      | inl g ↦ (r, ap (λ b. cond b (Some r) (first_in rs w)) (true_equal _ _ g.word.fixed), g)
      | inr k ↦ let rest = first_only rs i w (apart_rest r rs a) k in (
        rest.0,
        (elim (nat_eq (bit_and w r.mask) r.bits) as (λ b. nat_eq (bit_and w r.mask) r.bits ≡ b → cond b (Some r) (first_in rs w) ≡ Some rest.0) [
          | true ↦ λ e. absurd (none_other r rs i w (apart_first r rs a) rest.2.word.small (equal_true _ _ e) k)
          | false ↦ λ e. rest.1
        ]) refl,
        rest.2,
      )
    ]

-- and it is one of them
first_gives : (rs : List Row) (r : Row) (i : Ins) (w : ℕ) → first_in rs w ≡ Some r → w < 2 ^ 32 → r.op ≡ i.op → HasFields r.form i w → SomeRow (GivesRow i w) rs
first_gives [] r i w e p o f = cc
first_gives (s ∷ rs) r i w e p o f =
    (elim (nat_eq (bit_and w s.mask) s.bits) as (λ b. nat_eq (bit_and w s.mask) s.bits ≡ b → cond b (Some s) (first_in rs w) ≡ Some r → SomeRow (GivesRow i w) (s ∷ rs)) [
      | true ↦ λ t k. let same : s ≡ r = cc in inl (record { op = ap (λ x. x.op) same ∙ o; word = record { small = p; fixed = equal_true _ _ t; fields = subst (λ (x : Row). HasFields x.form i w) (sym same) f } })
      | false ↦ λ t k. inr (first_gives rs r i w k p o f)
    ]) refl e

-- there is a first one exactly where some row gives the word
first_given : (rs : List Row) (r : Row) (w : ℕ) → first_in rs w ≡ Some r → SomeRow (GivesWord w) rs
first_given [] r w e = cc
first_given (s ∷ rs) r w e =
    (elim (nat_eq (bit_and w s.mask) s.bits) as (λ b. nat_eq (bit_and w s.mask) s.bits ≡ b → cond b (Some s) (first_in rs w) ≡ Some r → SomeRow (GivesWord w) (s ∷ rs)) [
      | true ↦ λ t k. inl (equal_true _ _ t)
      | false ↦ λ t k. inr (first_given rs r w k)
    ]) refl e

given_first : (rs : List Row) (w : ℕ) → SomeRow (GivesWord w) rs → (r : Row) × (first_in rs w ≡ Some r)
given_first [] w h = elim h [ ]
given_first (r ∷ rs) w h =
    (elim (nat_eq (bit_and w r.mask) r.bits) as (λ b. nat_eq (bit_and w r.mask) r.bits ≡ b → (s : Row) × (cond b (Some r) (first_in rs w) ≡ Some s)) [
      | true ↦ λ t. (r, refl)
      | false ↦ λ t. elim h [
        | inl g ↦ absurd (let e = true_equal _ _ g in let no : ⊥ = cc in no)
        | inr k ↦ given_first rs w k
      ]
    ]) refl

-- ---- one instruction

register : ℕ → Reg
register n = get_or (Zero ∷ Ra ∷ Sp ∷ Gp ∷ Tp ∷ T0 ∷ T1 ∷ T2 ∷ S0 ∷ S1 ∷ A0 ∷ A1 ∷ A2 ∷ A3 ∷ A4 ∷ A5 ∷ A6 ∷ A7 ∷ S2 ∷ S3 ∷ S4 ∷ S5 ∷ S6 ∷ S7 ∷ S8 ∷ S9 ∷ S10 ∷ S11 ∷ T3 ∷ T4 ∷ T5 ∷ T6 ∷ []) n Zero

number_back : (r : Reg) → register (reg_number r) ≡ r
unfolding register
number_back Zero = refl
number_back Ra = refl
number_back Sp = refl
number_back Gp = refl
number_back Tp = refl
number_back T0 = refl
number_back T1 = refl
number_back T2 = refl
number_back S0 = refl
number_back S1 = refl
number_back A0 = refl
number_back A1 = refl
number_back A2 = refl
number_back A3 = refl
number_back A4 = refl
number_back A5 = refl
number_back A6 = refl
number_back A7 = refl
number_back S2 = refl
number_back S3 = refl
number_back S4 = refl
number_back S5 = refl
number_back S6 = refl
number_back S7 = refl
number_back S8 = refl
number_back S9 = refl
number_back S10 = refl
number_back S11 = refl
number_back T3 = refl
number_back T4 = refl
number_back T5 = refl
number_back T6 = refl

same_number : (a b : Reg) → reg_number a ≡ reg_number b → a ≡ b
same_number a b h = sym (number_back a) ∙ ap register h ∙ number_back b

same_ins : (r : Row) (i j : Ins) (w : ℕ) → r.op ≡ i.op → r.op ≡ j.op → HasFields r.form i w → HasFields r.form j w → i ≡ j
same_ins r i j w o p f g =
    let op : i.op ≡ j.op = sym o ∙ p in
    let rd = same_number i.rd j.rd (f.rd ∙ sym g.rd) in
    let rs1 = same_number i.rs1 j.rs1 (f.rs1 ∙ sym g.rs1) in
    let rs2 = same_number i.rs2 j.rs2 (f.rs2 ∙ sym g.rs2) in
    let imm : i.imm ≡ j.imm = f.imm ∙ sym g.imm in
    λ k. record { op = op k; rd = rd k; rs1 = rs1 k; rs2 = rs2 k; imm = imm k }

pub rows_apart : AreApart ROWS
rows_apart = are_apart ROWS refl

pub one_instruction : (i j : Ins) (w : ℕ) → IsRow i w → IsRow j w → i ≡ j
unfolding IsRow
one_instruction i j w h k =
    let a = first_only ROWS i w rows_apart h in
    let b = first_only ROWS j w rows_apart k in
    let same : a.0 ≡ b.0 = cc (a.1, b.1) in
    same_ins a.0 i j w a.2.op (ap (λ x. x.op) same ∙ b.2.op) a.2.word.fields (subst (λ (x : Row). HasFields x.form j w) (sym same) b.2.word.fields)

-- ---- decoding

pub decoded_some : (w : ℕ) (o : Option Ins) → w < 2 ^ 32 → Decoded (first_in ROWS w) o w → IfSome o (λ i. IsRow i w)
unfolding IsRow
decoded_some w None p h = tt
decoded_some w (Some i) p h =
    (elim (first_in ROWS w) as (λ f. first_in ROWS w ≡ f → Decoded f (Some i) w → SomeRow (GivesRow i w) ROWS) [
      | None ↦ λ e d. absurd d
      | Some r ↦ λ e d. first_gives ROWS r i w e p d.0 d.1
    ]) refl h

pub decoded_only : (w : ℕ) (o : Option Ins) → Decoded (first_in ROWS w) o w → (i : Ins) → IsRow i w → o ≡ Some i
unfolding IsRow
decoded_only w o h i k =
    let a = first_only ROWS i w rows_apart k in
    let d : Decoded (Some a.0) o w = subst (λ f. Decoded f o w) a.1 h in
    (elim o as (λ o. Decoded (Some a.0) o w → o ≡ Some i) [
      | None ↦ λ d. absurd d
      | Some j ↦ λ d. ap Some (same_ins a.0 j i w d.0 a.2.op d.1 a.2.word.fields)
    ]) d

given_some : (o : Option Ins) (r : Row) (w : ℕ) → Decoded (Some r) o w → IsSome o
given_some None r w h = absurd h
given_some (Some i) r w h = refl

some_given : (o : Option Ins) (w : ℕ) → Decoded (first_in ROWS w) o w → IsSome o → SomeRow (GivesWord w) ROWS
some_given None w h s = cc
some_given (Some i) w h s =
    (elim (first_in ROWS w) as (λ f. first_in ROWS w ≡ f → Decoded f (Some i) w → SomeRow (GivesWord w) ROWS) [
      | None ↦ λ e d. absurd d
      | Some r ↦ λ e d. first_given ROWS r w e
    ]) refl h

pub decoded_given : (w : ℕ) (o : Option Ins) → Decoded (first_in ROWS w) o w → IsSome o ↔ IsGiven w
unfolding IsGiven
decoded_given w o h =
    (some_given o w h, λ k. let a = given_first ROWS w k in given_some o a.0 w (subst (λ f. Decoded f o w) a.1 h))
