-- Operands one after the other (parts_cut), and forms with a wrong number of operands (one_wrong, two_wrong, three_wrong).
use Rattle.std.proofs.Common.{true, false, ◌≡◌, ◌≢◌, List, [], ◌∷◌, Option, Some, None, Err, refl, ap, length, cond, get_or, pos, arith, ◌++◌, ◌+◌, ◌<◌, ◌≤◌, suc, length-append}
use Rattle.st_line.specs.declared.fault.AsmKind.TheVariants.{BadOperand}
use Rattle.st_line.specs.declared.lexeme.Lexeme.{Lexeme}
use Rattle.st_line.specs.Operands.{Lex, Operand, is_mark, operands_of, parts_of, onto_first, register_of, memory_of, memory_at, bracketed, integer}
use Rattle.st_line.specs.Statement.{one_operand, two_operands, three_operands}
use Rattle.st_line.specs.Views.{lex_of, lexes, before_comma, after_comma, parts_left}

pub parts_cut : (ls : List Lex) → parts_of ls ≡ before_comma ls ∷ parts_left (after_comma ls)
parts_cut [] = refl
parts_cut (l ∷ ls) = elim (is_mark 44 l) as (λ b. cond b ([] ∷ parts_of ls) (onto_first l (parts_of ls)) ≡ cond b [] (l ∷ before_comma ls) ∷ parts_left (cond b (Some ls) (after_comma ls))) [
  | true ↦ refl
  | false ↦ ap (onto_first l) (parts_cut ls)
]

pub register_of_other : (ls : Operand) → length ls ≢ 1 → register_of ls ≡ None
register_of_other [] h = refl
register_of_other (l ∷ []) h = absurd (h refl)
register_of_other (l ∷ m ∷ ls) h = refl

pub memory_of_other : (ls : Operand) → length ls ≢ 3 → length ls ≢ 4 → memory_of ls ≡ None
memory_of_other [] h k = refl
memory_of_other (a ∷ []) h k = refl
memory_of_other (a ∷ b ∷ []) h k = refl
memory_of_other (a ∷ b ∷ c ∷ []) h k = absurd (h refl)
memory_of_other (a ∷ b ∷ c ∷ d ∷ []) h k = absurd (k refl)
memory_of_other (a ∷ b ∷ c ∷ d ∷ e ∷ ls) h k = refl

pub one_wrong : {A : Type 0} (f : Operand → Option A) (operands : List Operand) → length operands ≢ 1 → one_operand f operands ≡ Err BadOperand
one_wrong f [] h = refl
one_wrong f (a ∷ []) h = absurd (h refl)
one_wrong f (a ∷ b ∷ ls) h = refl

pub two_wrong : {A B : Type 0} (f : Operand → Option A) (g : Operand → Option B) (operands : List Operand) → length operands ≢ 2 → two_operands f g operands ≡ Err BadOperand
unfolding two_operands
two_wrong f g [] h = refl
two_wrong f g (a ∷ []) h = refl
two_wrong f g (a ∷ b ∷ []) h = absurd (h refl)
two_wrong f g (a ∷ b ∷ c ∷ ls) h = refl

pub three_wrong : {A B C : Type 0} (f : Operand → Option A) (g : Operand → Option B) (h : Operand → Option C) (operands : List Operand) → length operands ≢ 3 → three_operands f g h operands ≡ Err BadOperand
unfolding three_operands
three_wrong f g h [] n = refl
three_wrong f g h (a ∷ []) n = refl
three_wrong f g h (a ∷ b ∷ []) n = refl
three_wrong f g h (a ∷ b ∷ c ∷ []) n = absurd (n refl)
three_wrong f g h (a ∷ b ∷ c ∷ d ∷ ls) n = refl

-- three lexemes are a place without a number, and four one with a number
pub memory_of_three : (ls : List Lexeme) (d : Lexeme) → length ls ≡ 3 → memory_of (lexes ls) ≡ memory_at (Some (pos 0)) (bracketed (lex_of (get_or ls 0 d)) (lex_of (get_or ls 1 d)) (lex_of (get_or ls 2 d)))
memory_of_three [] d h = absurd (omega arith)
memory_of_three (a ∷ []) d h = absurd (omega arith)
memory_of_three (a ∷ b ∷ []) d h = absurd (omega arith)
memory_of_three (a ∷ b ∷ c ∷ []) d h = refl
memory_of_three (a ∷ b ∷ c ∷ e ∷ ls) d h = absurd (omega arith)

pub memory_of_four : (ls : List Lexeme) (d : Lexeme) → length ls ≡ 4 → (get_or ls 1 d).glued ≡ true → memory_of (lexes ls) ≡ memory_at (integer (get_or ls 0 d).text.now) (bracketed (lex_of (get_or ls 1 d)) (lex_of (get_or ls 2 d)) (lex_of (get_or ls 3 d)))
memory_of_four [] d h g = absurd (omega arith)
memory_of_four (a ∷ []) d h g = absurd (omega arith)
memory_of_four (a ∷ b ∷ []) d h g = absurd (omega arith)
memory_of_four (a ∷ b ∷ c ∷ []) d h g = absurd (omega arith)
memory_of_four (a ∷ b ∷ c ∷ e ∷ []) d h g = rw g refl
memory_of_four (a ∷ b ∷ c ∷ e ∷ f ∷ ls) d h g = absurd (omega arith)

-- where parts are left behind three, there are more than three operands
pub too_many : (found : List Operand) (rest all : List Lex) → found ++ parts_of rest ≡ parts_of all → 3 ≤ length found → 0 < length all → 3 < length (operands_of all)
too_many found rest [] e h n = absurd (omega arith)
too_many found rest (l ∷ ls) e h n =
    let sum : length (found ++ parts_of rest) ≡ length found + length (parts_of rest) = length-append found (parts_of rest) in
    let left : length (parts_of rest) ≡ suc (length (parts_left (after_comma rest))) = ap length (parts_cut rest) in
    let whole : length (found ++ parts_of rest) ≡ length (operands_of (l ∷ ls)) = ap length e in
    omega arith
