-- The parts of a line: lexemes (tokens by their texts), operands, and what an operand may be: a register, an integer, a place in memory,
-- a name, a string. An operand of wrong form is none of these, which is E4.
use Rattle.std.specs.Prelude.{ℕ, ◌+◌, ◌*◌, ◌-◌, ℤ, pos, neg_ℤ, Bool, false, ◌&&◌, ◌||◌, ◌==◌, nat_le, List, [], ◌∷◌, Option, Some, None, if◌then◌else◌, option_map, slice_range}
use Rattle.std.specs.List.{list_all}
use Rattle.std.specs.Str.{bytes_eq}
use Rattle.st_base.specs.declared.reg.Reg.{Reg}
use Rattle.st_line.specs.declared.lexer.Token.{Token}
use Rattle.st_line.specs.Registers.{register_rows}
use Rattle.st_line.specs.Tokens.{tokens_of}

-- ---- lexemes

-- a token's text, and whether it follows the token before it directly
pub record Lex : Type 0 where
  pub text : List ℕ
  pub glued : Bool

-- the lexemes of tokens, where `before` is the end of the token before them
abbrev pub lexemes_after : List ℕ → ℕ → List Token → List Lex
lexemes_after bs before [] = []
lexemes_after bs before (t ∷ ts) = record { text = slice_range bs t.from t.to; glued = t.from == before } ∷ lexemes_after bs t.to ts

abbrev pub lexemes_of : List ℕ → List Lex
lexemes_of bs = lexemes_after bs 0 (tokens_of bs)

abbrev pub within : ℕ → ℕ → ℕ → Bool
within low high b = nat_le low b && nat_le b high

abbrev pub is_digit : ℕ → Bool
is_digit b = within 48 57 b

-- a letter, `_`, `.` or `$`
abbrev pub begins_name : ℕ → Bool
begins_name b = within 65 90 b || within 97 122 b || b == 95 || b == 46 || b == 36

abbrev pub in_name : ℕ → Bool
in_name b = begins_name b || is_digit b

abbrev pub is_name : List ℕ → Bool
is_name [] = false
is_name (b ∷ bs) = begins_name b && list_all in_name bs

abbrev pub is_mark : ℕ → Lex → Bool
is_mark b l = bytes_eq l.text (b ∷ [])

-- ---- operands: the parts between commas; none where nothing stands there

abbrev pub Operand : Type 0
Operand = List Lex

-- a lexeme before the first of these parts
abbrev pub onto_first : Lex → List Operand → List Operand
onto_first l [] = (l ∷ []) ∷ []
onto_first l (part ∷ parts) = (l ∷ part) ∷ parts

-- the parts of a text that has at least one
abbrev pub parts_of : List Lex → List Operand
parts_of [] = [] ∷ []
parts_of (l ∷ ls) = if is_mark 44 l then [] ∷ parts_of ls else onto_first l (parts_of ls)

abbrev pub operands_of : List Lex → List Operand
operands_of [] = []
operands_of (l ∷ ls) = parts_of (l ∷ ls)

-- ---- registers, by their names or numbers

-- what stands beside a text in a table
abbrev pub named_in : {T : Type 0} → List (T × List ℕ) → List ℕ → Option T
named_in [] text = None
named_in (row ∷ rows) text = if bytes_eq row.1 text then Some row.0 else named_in rows text

abbrev pub register_named : List ℕ → Option Reg
register_named text = named_in register_rows text

abbrev pub register_of : Operand → Option Reg
register_of (l ∷ []) = register_named l.text
register_of _ = None

-- ---- integers: decimal digits, or `0x` and hexadecimal digits, with an optional `-`

-- the value of a digit
abbrev pub decimal_digit : ℕ → Option ℕ
decimal_digit b = if is_digit b then Some (b - 48) else None

abbrev pub hex_digit : ℕ → Option ℕ
hex_digit b = if is_digit b then Some (b - 48) else (if within 97 102 b then Some (b - 87) else (if within 65 70 b then Some (b - 55) else None))

abbrev pub with_digit : ℕ → ℕ → Option ℕ → Option ℕ
with_digit base n None = None
with_digit base n (Some d) = Some (n * base + d)

abbrev pub digits_after : ℕ → (ℕ → Option ℕ) → Option ℕ → List ℕ → Option ℕ
digits_after base digit None bs = None
digits_after base digit (Some n) [] = Some n
digits_after base digit (Some n) (b ∷ bs) = digits_after base digit (with_digit base n (digit b)) bs

-- the number that digits of a base write, at least one
abbrev pub digits_of : ℕ → (ℕ → Option ℕ) → List ℕ → Option ℕ
digits_of base digit [] = None
digits_of base digit (b ∷ bs) = digits_after base digit (Some 0) (b ∷ bs)

-- `0x` goes before hexadecimal digits
abbrev pub magnitude : List ℕ → Option ℕ
magnitude (b ∷ c ∷ bs) = if b == 48 && c == 120 then digits_of 16 hex_digit bs else digits_of 10 decimal_digit (b ∷ c ∷ bs)
magnitude bs = digits_of 10 decimal_digit bs

abbrev pub integer : List ℕ → Option ℤ
integer [] = None
integer (b ∷ bs) = if b == 45 then option_map (λ n. neg_ℤ (pos n)) (magnitude bs) else option_map pos (magnitude (b ∷ bs))

abbrev pub integer_of : Operand → Option ℤ
integer_of (l ∷ []) = integer l.text
integer_of _ = None

-- ---- places in memory: `n(reg)`, or `(reg)`, which is `0(reg)`, without blanks

pub record Memory : Type 0 where
  pub offset : ℤ
  pub base : Reg

abbrev pub memory_at : Option ℤ → Option Reg → Option Memory
memory_at (Some n) (Some r) = Some (record { offset = n; base = r })
memory_at _ _ = None

-- a register in parentheses
abbrev pub bracketed : Lex → Lex → Lex → Option Reg
bracketed o r c = if is_mark 40 o && is_mark 41 c && r.glued && c.glued then register_named r.text else None

abbrev pub memory_of : Operand → Option Memory
memory_of (o ∷ r ∷ c ∷ []) = memory_at (Some (pos 0)) (bracketed o r c)
memory_of (n ∷ o ∷ r ∷ c ∷ []) = if o.glued then memory_at (integer n.text) (bracketed o r c) else None
memory_of _ = None

-- ---- names

abbrev pub name_of : Operand → Option (List ℕ)
name_of (l ∷ []) = if is_name l.text then Some l.text else None
name_of _ = None

-- ---- strings: in double quotes, with the escapes \n \t \0 \\ \"

abbrev pub escape : ℕ → Option ℕ
escape e = if e == 110 then Some 10 else (if e == 116 then Some 9 else (if e == 48 then Some 0 else (if e == 92 then Some 92 else (if e == 34 then Some 34 else None))))

abbrev pub with_byte : Option ℕ → Option (List ℕ) → Option (List ℕ)
with_byte (Some b) (Some bs) = Some (b ∷ bs)
with_byte _ _ = None

-- the bytes of a string behind its first quote; none where it isn't closed or has another escape
abbrev pub string_rest : List ℕ → Option (List ℕ)
string_rest [] = None
string_rest (b ∷ []) = if b == 34 then Some [] else None
string_rest (b ∷ c ∷ bs) = if b == 34 then None else (if b == 92 then with_byte (escape c) (string_rest bs) else with_byte (Some b) (string_rest (c ∷ bs)))

abbrev pub string : List ℕ → Option (List ℕ)
string [] = None
string (b ∷ bs) = if b == 34 then string_rest bs else None

abbrev pub string_of : Operand → Option (List ℕ)
string_of (l ∷ []) = string l.text
string_of _ = None
