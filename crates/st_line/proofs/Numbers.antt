-- The data of numbers one after the other is that of all of them (numbers_are, no_numbers); a number's bytes, the lowest first
-- (little_endian_more).
use Rattle.std.proofs.Common.{ℕ, zero, suc, ◌≡◌, ◌∙◌, ◌-◌, ◌/◌, ◌%◌, Bool, true, false, ◌&&◌, cond, if◌then◌else◌, List, [], ◌∷◌, ◌++◌, Option, Some, None, is_some, Result, Ok, Err, ℤ, refl, ap, sym, append_assoc, append-nil, length, ◌<◌, arith}
use Rattle.std.specs.List.{list_all}
use Rattle.st_rv.specs.Results.{word_of}
use Rattle.st_line.specs.declared.fault.AsmKind.{AsmKind}
use Rattle.st_line.specs.declared.fault.AsmKind.TheVariants.{BadOperand, ImmRange}
use Rattle.st_line.specs.declared.source.Statement.{Statement}
use Rattle.st_line.specs.declared.source.Statement.TheVariants.{Data}
use Rattle.st_line.specs.declared.words.NumberSize.{NumberSize}
use Rattle.st_line.specs.Operands.{Lex, Operand, operands_of, parts_of, integer_of}
use Rattle.st_line.specs.Statement.{required, require, ◌>>=◌, is_in, data_range, data_bytes, little_endian, bytes_of_numbers, and_integer, integers_of, numbers_statement}
use Rattle.st_line.specs.Views.{word_in, with_number, numbers_after, before_comma, after_comma, parts_left}
use Rattle.st_line.proofs.OperandLaws.{parts_cut}

-- what the numbers so far and those that follow give
abbrev finished : NumberSize → Bool → List ℕ → Option (List ℤ) → Result Statement AsmKind
finished size fits bytes None = Err BadOperand
finished size fits bytes (Some ns) = if fits && list_all (is_in (data_range size)) ns then Ok (Data (bytes ++ bytes_of_numbers size ns)) else Err ImmRange

number_more : (size : NumberSize) (fits : Bool) (bytes : List ℕ) (n : ℤ) (ns : List ℤ) → finished size (fits && is_some (word_in (data_range size) n)) (with_number size bytes (word_in (data_range size) n)) (Some ns) ≡ finished size fits bytes (Some (n ∷ ns))
number_more size false bytes n ns = refl
number_more size true bytes n ns =
    let low = little_endian (data_bytes size) (word_of n) in
    let all = list_all (is_in (data_range size)) ns in
    elim (is_in (data_range size) n) as (λ b. finished size (is_some (cond b (Some (word_of n)) None)) (with_number size bytes (cond b (Some (word_of n)) None)) (Some ns) ≡ cond (b && all) (Ok (Data (bytes ++ (low ++ bytes_of_numbers size ns)))) (Err ImmRange)) [
      | true ↦ ap (λ bs. cond all (Ok (Data bs)) (Err ImmRange)) (append_assoc bytes low (bytes_of_numbers size ns))
      | false ↦ refl
    ]

number_then : (size : NumberSize) (fits : Bool) (bytes : List ℕ) (n : ℤ) (o : Option (List ℤ)) → finished size (fits && is_some (word_in (data_range size) n)) (with_number size bytes (word_in (data_range size) n)) o ≡ finished size fits bytes (and_integer (Some n) o)
number_then size fits bytes n None = refl
number_then size fits bytes n (Some ns) = number_more size fits bytes n ns

numbers_after-is : (size : NumberSize) (fits : Bool) (bytes : List ℕ) (operands : List Operand) → numbers_after size fits bytes operands ≡ finished size fits bytes (integers_of operands)
numbers_after-is size true bytes [] = ap (λ bs. Ok (Data bs)) (sym (append-nil bytes))
numbers_after-is size false bytes [] = refl
numbers_after-is size fits bytes (a ∷ rest) = elim (integer_of a) as (λ o. (required o BadOperand >>= (λ n. numbers_after size (fits && is_some (word_in (data_range size) n)) (with_number size bytes (word_in (data_range size) n)) rest)) ≡ finished size fits bytes (and_integer o (integers_of rest))) [
  | None ↦ refl
  | Some n ↦ numbers_after-is size (fits && is_some (word_in (data_range size) n)) (with_number size bytes (word_in (data_range size) n)) rest ∙ number_then size fits bytes n (integers_of rest)
]

statement_finished : (size : NumberSize) (a : Operand) (rest : List Operand) → numbers_statement size (a ∷ rest) ≡ finished size true [] (integers_of (a ∷ rest))
unfolding numbers_statement
statement_finished size a rest = elim (integers_of (a ∷ rest)) as (λ o. (required o BadOperand >>= (λ ns. require (list_all (is_in (data_range size)) ns) ImmRange >>= (λ ranges. Ok (Data (bytes_of_numbers size ns))))) ≡ finished size true [] o) [
  | None ↦ refl
  | Some ns ↦ elim (list_all (is_in (data_range size)) ns) as (λ b. (require b ImmRange >>= (λ ranges. Ok (Data (bytes_of_numbers size ns)))) ≡ cond b (Ok (Data (bytes_of_numbers size ns))) (Err ImmRange)) [ true ↦ refl | false ↦ refl ]
]

pub numbers_are : (size : NumberSize) (ls : List Lex) → 0 < length ls → numbers_statement size (operands_of ls) ≡ numbers_after size true [] (parts_of ls)
numbers_are size [] h = absurd (omega arith)
numbers_are size (l ∷ ls) h =
    let first = before_comma (l ∷ ls) in
    let rest = parts_left (after_comma (l ∷ ls)) in
    ap (numbers_statement size) (parts_cut (l ∷ ls)) ∙ statement_finished size first rest ∙ sym (numbers_after-is size true [] (first ∷ rest)) ∙ ap (numbers_after size true []) (sym (parts_cut (l ∷ ls)))

pub no_numbers : (size : NumberSize) (ls : List Lex) → length ls ≡ 0 → numbers_statement size (operands_of ls) ≡ Err BadOperand
unfolding numbers_statement
no_numbers size [] h = refl
no_numbers size (l ∷ ls) h = absurd (omega arith)

pub little_endian_more : (k n : ℕ) → 0 < k → little_endian k n ≡ n % 256 ∷ little_endian (k - 1) (n / 256)
little_endian_more zero n h = absurd (omega arith)
little_endian_more (suc k) n h = let same : k ≡ suc k - 1 = omega arith in ap (λ j. n % 256 ∷ little_endian j (n / 256)) same
