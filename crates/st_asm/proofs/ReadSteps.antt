-- What reading gives (IsRead, IsStatement), and what is known where a step of it went well: of a bind (bind-ok), of operands
-- (one_operand-ok, two_operands-ok, three_operands-ok, name_of-is_name) and of numbers in a range (in_range-ok, count_up_to-ok).
use Rattle.std.proofs.Common.{ℕ, suc, ◌≡◌, ◌^◌, ◌≤◌, nat_le, Bool, true, false, not, ◌&&◌, List, [], ◌∷◌, Option, Some, None, Result, Ok, Err, refl, ap, sym, subst, ◌∙◌, cond, arith}
use Rattle.std.specs.Prelude.{ℤ, pos, negsuc, neg_ℤ, ◌≤ℤ◌, ◌<ℤ◌, int_lt, T}
use Rattle.std.specs.Int.Signed.{lt_z_no}
use Rattle.std.proofs.lemmas.Int.{ints}
use Rattle.std.proofs.lemmas.Bool.Decides.{nat_tests}
use Rattle.st_rv.specs.declared.ins.OpKind.TheVariants as kinds
use Rattle.st_rv.specs.Op.{kind_of}
use Rattle.st_rv.specs.Rows.{FitsTable}
use Rattle.st_line.specs.declared.fault.AsmKind.{AsmKind}
use Rattle.st_line.specs.declared.fault.AsmKind.TheVariants.{BadOperand, ImmRange}
use Rattle.st_line.specs.declared.source.Target.{Target}
use Rattle.st_line.specs.declared.source.Target.TheVariants as targets
use Rattle.st_line.specs.declared.source.SourceIns.{SourceIns}
use Rattle.st_line.specs.declared.source.SourceIns.TheVariants as source
use Rattle.st_line.specs.declared.source.Statement.{Statement}
use Rattle.st_line.specs.declared.source.Statement.TheVariants as statements
use Rattle.st_line.specs.Operands.{within, is_name, Operand, name_of}
use Rattle.st_line.specs.Statement.{◌>>=◌, require, required, one_operand, two_operands, three_operands, Range, is_in, in_range, count_up_to}

-- ---- what was read

abbrev pub IsNamed : Target → Type 0
IsNamed (targets.Name name) = is_name name ≡ true
IsNamed _ = ⊥

abbrev pub IsRead : SourceIns → Type 0
IsRead (source.Plain i) = FitsTable i × (kind_of i.op ≡ kinds.Branch → ⊥) × (kind_of i.op ≡ kinds.Jump → ⊥)
IsRead (source.Li rd value) = (neg_ℤ (pos (2 ^ 31)) ≤ℤ value) × (value <ℤ pos (2 ^ 31))
IsRead (source.La rd to) = IsNamed to
IsRead (source.Branch op rs1 rs2 to) = (kind_of op ≡ kinds.Branch) × IsNamed to
IsRead (source.Jump to) = IsNamed to
IsRead (source.Call name) = is_name name ≡ true
IsRead source.Ret = Unit {0}
IsRead (source.Fork handle) = Unit {0}

abbrev pub IsStatement : Option Statement → Type 0
IsStatement (Some (statements.Align power)) = power ≤ 12
IsStatement (Some (statements.Arguments ints handles)) = (ints ≤ 6) × (handles ≤ 2)
IsStatement (Some (statements.Handles slots)) = slots ≤ 252
IsStatement (Some (statements.Instruction ins)) = IsRead ins
IsStatement _ = Unit {0}

-- ---- steps that went well

pub bind-ok : {A B : Type 0} (o : Result A AsmKind) (f : A → Result B AsmKind) (b : B) → (o >>= f) ≡ Ok b → (a : A) × (o ≡ Ok a) × (f a ≡ Ok b)
bind-ok (Ok x) f b e = (x, refl, e)
bind-ok (Err k) f b e = let no : ⊥ = cc in absurd no

pub required-ok : {T : Type 0} (o : Option T) (k : AsmKind) (x : T) → required o k ≡ Ok x → o ≡ Some x
required-ok None k x e = let no : ⊥ = cc in absurd no
required-ok (Some y) k x e = let same : y ≡ x = cc in ap Some same

pub require-ok : (b : Bool) (k : AsmKind) (u : Unit {0}) → require b k ≡ Ok u → b ≡ true
require-ok true k u e = refl
require-ok false k u e = let no : ⊥ = cc in absurd no

pub ok-same : {A : Type 0} (x y : A) → ◌≡◌ {A = Result A AsmKind} (Ok x) (Ok y) → x ≡ y
ok-same x y e = cc

pub one_operand-ok : {A : Type 0} (f : Operand → Option A) (operands : List Operand) (x : A) → one_operand f operands ≡ Ok x → (a : Operand) × (f a ≡ Some x)
one_operand-ok f [] x e = let no : ⊥ = cc in absurd no
one_operand-ok f (a ∷ []) x e = (a, required-ok (f a) BadOperand x e)
one_operand-ok f (a ∷ b ∷ rest) x e = let no : ⊥ = cc in absurd no

pub two_operands-ok : {A B : Type 0} (f : Operand → Option A) (g : Operand → Option B) (operands : List Operand) (r : A × B) → two_operands f g operands ≡ Ok r → (b : Operand) × (g b ≡ Some r.1)
unfolding two_operands
two_operands-ok f g [] r e = let no : ⊥ = cc in absurd no
two_operands-ok f g (a ∷ []) r e = let no : ⊥ = cc in absurd no
two_operands-ok f g (a ∷ b ∷ []) r e =
    let x = bind-ok (required (f a) BadOperand) (λ x. required (g b) BadOperand >>= λ y. Ok (x, y)) r e in
    let y = bind-ok (required (g b) BadOperand) (λ y. Ok (x.0, y)) r x.2 in
    (b, required-ok (g b) BadOperand y.0 y.1 ∙ ap (λ p. Some p.1) (ok-same (x.0, y.0) r y.2))
two_operands-ok f g (a ∷ b ∷ c ∷ rest) r e = let no : ⊥ = cc in absurd no

pub three_operands-ok : {A B C : Type 0} (f : Operand → Option A) (g : Operand → Option B) (h : Operand → Option C) (operands : List Operand) (r : A × B × C) → three_operands f g h operands ≡ Ok r → (c : Operand) × (h c ≡ Some r.2)
unfolding three_operands
three_operands-ok f g h [] r e = let no : ⊥ = cc in absurd no
three_operands-ok f g h (a ∷ []) r e = let no : ⊥ = cc in absurd no
three_operands-ok f g h (a ∷ b ∷ []) r e = let no : ⊥ = cc in absurd no
three_operands-ok f g h (a ∷ b ∷ c ∷ []) r e =
    let x = bind-ok (required (f a) BadOperand) (λ x. required (g b) BadOperand >>= λ y. required (h c) BadOperand >>= λ z. Ok (x, y, z)) r e in
    let y = bind-ok (required (g b) BadOperand) (λ y. required (h c) BadOperand >>= λ z. Ok (x.0, y, z)) r x.2 in
    let z = bind-ok (required (h c) BadOperand) (λ z. Ok (x.0, y.0, z)) r y.2 in
    (c, required-ok (h c) BadOperand z.0 z.1 ∙ ap (λ p. Some p.2) (ok-same (x.0, y.0, z.0) r z.2))
three_operands-ok f g h (a ∷ b ∷ c ∷ d ∷ rest) r e = let no : ⊥ = cc in absurd no

pub name_of-is_name : (a : Operand) (name : List ℕ) → name_of a ≡ Some name → is_name name ≡ true
name_of-is_name [] name e = let no : ⊥ = cc in absurd no
name_of-is_name (l ∷ []) name e =
    (elim (is_name l.text) as (λ b. is_name l.text ≡ b → cond b (Some l.text) None ≡ Some name → is_name name ≡ true) [
      | true ↦ λ t s. let same : l.text ≡ name = cc in ap is_name (sym same) ∙ t
      | false ↦ λ t s. let no : ⊥ = cc in absurd no
    ]) refl e
name_of-is_name (l ∷ m ∷ rest) name e = let no : ⊥ = cc in absurd no

-- ---- ranges

pub both : (a b : Bool) → (a && b) ≡ true → (a ≡ true) × (b ≡ true)
both true b e = (refl, e)
both false b e = let no : ⊥ = cc in absurd no

pub not_less : (a b : ℤ) → not (int_lt a b) ≡ true → b ≤ℤ a
not_less a b e = lt_z_no (subst T (sym e) tt)

pub in_range-ok : (range : Range) (n z : ℤ) → in_range range n ≡ Ok z → (range.0 ≤ℤ z) × (z ≤ℤ range.1)
in_range-ok range n z e =
    (elim (is_in range n) as (λ b. is_in range n ≡ b → cond b (Ok n) (Err ImmRange) ≡ Ok z → (range.0 ≤ℤ z) × (z ≤ℤ range.1)) [
      | true ↦ λ t s. let same : n ≡ z = cc in let p = both _ _ t in subst (λ k. (range.0 ≤ℤ k) × (k ≤ℤ range.1)) same (not_less n range.0 p.0, not_less range.1 n p.1)
      | false ↦ λ t s. let no : ⊥ = cc in absurd no
    ]) refl e

pub at_most : (n most : ℕ) → nat_le n most ≡ true → n ≤ most
at_most n most e = grind (arith, nat_tests)

pub count_up_to-ok : (most : ℕ) (n : ℤ) (m : ℕ) → count_up_to most n ≡ Ok m → m ≤ most
count_up_to-ok most (pos n) m e =
    (elim (within 0 most n) as (λ b. within 0 most n ≡ b → cond b (Ok n) (Err ImmRange) ≡ Ok m → m ≤ most) [
      | true ↦ λ t s. let same : n ≡ m = ok-same n m s in let le : n ≤ most = at_most n most (both (nat_le 0 n) (nat_le n most) t).1 in omega arith
      | false ↦ λ t s. let no : ⊥ = cc in absurd no
    ]) refl e
count_up_to-ok most (negsuc n) m e = let no : ⊥ = cc in absurd no

-- a number that is at most the one before
pub below_next : (z : ℤ) (n : ℕ) → z ≤ℤ pos n → z <ℤ pos (suc n)
below_next z n h = omega (arith, ints)
