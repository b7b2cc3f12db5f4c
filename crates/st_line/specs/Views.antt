-- What contracts see of the reader's own values: a lexeme's text by its bytes (lex_of, lexes), operands by their lexemes
-- (operand_list), an integer by its value where that is small (capped), and results beside those of the grammar (HasFrom, Gives).
use Rattle.std.specs.Prelude.{ℕ, ◌≡◌, ◌<◌, ◌++◌, ◌&&◌, is_some, ◌≢◌, if◌then◌else◌, length, ◌^◌, suc, ◌+◌, ◌*◌, ℤ, pos, negsuc, neg_ℤ, min, Bool, List, [], ◌∷◌, Option, Some, None, Result, Ok, Err, map}
use Rattle.std.specs.Borrow.{Bor}
use Rattle.std.specs.Str.{bytes_eq}
use Rattle.st_base.specs.declared.reg.Reg.{Reg}
use Rattle.st_line.specs.declared.fault.AsmKind.{AsmKind}
use Rattle.st_line.specs.declared.fault.AsmKind.TheVariants.{BadOperand, ImmRange}
use Rattle.st_base.specs.declared.failure.Failure.{Failure}
use Rattle.st_base.specs.declared.failure.Failure.TheVariants as errors
use Rattle.st_line.specs.declared.integer.Base.{Base}
use Rattle.st_line.specs.declared.integer.Base.TheVariants as bases
use Rattle.st_line.specs.declared.lexeme.Lexeme.{Lexeme}
use Rattle.st_line.specs.declared.operand.Operand as operand
use Rattle.st_line.specs.declared.operand.Place.{Place}
use Rattle.st_line.specs.declared.source.Statement.{Statement}
use Rattle.st_line.specs.declared.source.Statement.TheVariants.{Data}
use Rattle.st_line.specs.declared.words.NumberSize.{NumberSize}
use Rattle.st_rv.specs.Results.{word_of}
use Rattle.st_line.specs.Statement.{Range, is_in, required, ◌>>=◌, data_range, data_bytes, little_endian}
use Rattle.st_line.specs.Operands.{Lex, Operand, Memory, decimal_digit, hex_digit, is_mark, parts_of, integer_of, string_rest, with_byte}

abbrev pub lex_of : Lexeme → Lex
lex_of l = record { text = l.text.now; glued = l.glued }

abbrev pub lexes : List Lexeme → List Lex
lexes ls = map lex_of ls

abbrev pub operand_list : List operand.Operand → List Operand
operand_list os = map (λ o. lexes o.lexemes.now) os

-- what a function returned, as the grammar says it, is what reading gives
abbrev pub HasFrom : {X Y : Type 0} → (X → Y) → Result X AsmKind → Result Y AsmKind → Type 0
HasFrom view (Ok x) read = read ≡ Ok (view x)
HasFrom view (Err k) read = read ≡ Err k

-- ---- integers of any length

-- a magnitude, but 2^64 from there on, beyond every range
abbrev pub capped_magnitude : ℕ → ℕ
capped_magnitude n = min n (2 ^ 64)

-- an integer, but 2^64 or -2^64 beyond these
abbrev pub capped : ℤ → ℤ
capped (pos n) = pos (capped_magnitude n)
capped (negsuc n) = neg_ℤ (pos (capped_magnitude (suc n)))

abbrev pub radix : Base → ℕ
radix bases.Ten = 10
radix bases.Sixteen = 16

abbrev pub base_digit : Base → ℕ → Option ℕ
base_digit bases.Ten b = decimal_digit b
base_digit bases.Sixteen b = hex_digit b

abbrev pub with_capped_digit : Base → ℕ → Option ℕ → Option ℕ
with_capped_digit base n None = None
with_capped_digit base n (Some d) = Some (capped_magnitude (n * radix base + d))

-- the capped number of the digits that follow a capped number
abbrev pub capped_after : Base → Option ℕ → List ℕ → Option ℕ
capped_after base None bs = None
capped_after base (Some n) [] = Some n
capped_after base (Some n) (b ∷ bs) = capped_after base (with_capped_digit base n (base_digit base b)) bs

-- a code's integer stands for the one that was read
abbrev pub ReadsInteger : Option ℤ → Option ℤ → Type 0
ReadsInteger None read = read ≡ None
ReadsInteger (Some n) read = (z : ℤ) × (read ≡ Some z) × (n ≡ capped z)

-- a code's place in memory stands for the one that was read
abbrev pub ReadsPlace : Option Place → Option Memory → Type 0
ReadsPlace None read = read ≡ None
ReadsPlace (Some p) read = (z : ℤ) × (read ≡ Some (record { offset = z; base = p.base })) × (p.offset ≡ capped z)

-- ---- operands, one after the other

abbrev pub before_comma : List Lex → Operand
before_comma [] = []
before_comma (l ∷ ls) = if is_mark 44 l then [] else l ∷ before_comma ls

-- what follows the first comma; none where there is no comma
abbrev pub after_comma : List Lex → Option (List Lex)
after_comma [] = None
after_comma (l ∷ ls) = if is_mark 44 l then Some ls else after_comma ls

abbrev pub parts_left : Option (List Lex) → List Operand
parts_left None = []
parts_left (Some ls) = parts_of ls

-- there is one operand, this; or there are none or more
abbrev pub IsOne : Result (Bor (List Lexeme)) AsmKind → List Operand → Type 0
IsOne (Ok a) operands = operands ≡ lexes a.now ∷ []
IsOne (Err k) operands = (k ≡ BadOperand) × (length operands ≢ 1)

abbrev pub AreTwo : Result (Bor (List Lexeme) × Bor (List Lexeme)) AsmKind → List Operand → Type 0
AreTwo (Ok p) operands = operands ≡ lexes p.0.now ∷ lexes p.1.now ∷ []
AreTwo (Err k) operands = (k ≡ BadOperand) × (length operands ≢ 2)

abbrev pub AreThree : Result (Bor (List Lexeme) × Bor (List Lexeme) × Bor (List Lexeme)) AsmKind → List Operand → Type 0
AreThree (Ok p) operands = operands ≡ lexes p.0.now ∷ lexes p.1.now ∷ lexes p.2.now ∷ []
AreThree (Err k) operands = (k ≡ BadOperand) × (length operands ≢ 3)

-- ---- numbers in ranges, and forms

-- the word of a number in a range
abbrev pub word_in : Range → ℤ → Option ℕ
word_in range n = if is_in range n then Some (word_of n) else None

abbrev pub memory_with : Reg → ℤ → Memory
memory_with base offset = record { offset = offset; base = base }

-- what a form with an integer returned is what reading gives, but for the cap on the integer
abbrev pub ReadsCapped : {X Y : Type 0} → (X → ℤ → Y) → (X → ℤ) → Result X AsmKind → Result Y AsmKind → Type 0
ReadsCapped with_number number (Ok x) read = (z : ℤ) × (read ≡ Ok (with_number x z)) × (number x ≡ capped z)
ReadsCapped with_number number (Err k) read = read ≡ Err k

abbrev pub ReadsTwoCapped : Result (ℤ × ℤ) AsmKind → Result (ℤ × ℤ) AsmKind → Type 0
ReadsTwoCapped (Ok x) read = (y : ℤ) × (z : ℤ) × (read ≡ Ok (y, z)) × (x.0 ≡ capped y) × (x.1 ≡ capped z)
ReadsTwoCapped (Err k) read = read ≡ Err k

-- ---- results that may want memory

abbrev pub FailsBy : {Y : Type 0} → Failure AsmKind → Result Y AsmKind → Type 0
FailsBy (errors.Fault k) read = read ≡ Err k
FailsBy errors.OutOfMemory read = Unit {0}

-- what a function returned is what reading gives, unless memory ran out
abbrev pub Gives : {X : Type 0} → Result X (Failure AsmKind) → Result X AsmKind → Type 0
Gives (Ok x) read = read ≡ Ok x
Gives (Err e) read = FailsBy e read

abbrev pub GivesBy : {X Y : Type 0} → (X → Y) → Result X (Failure AsmKind) → Result Y AsmKind → Type 0
GivesBy view (Ok x) read = read ≡ Ok (view x)
GivesBy view (Err e) read = FailsBy e read

-- ---- strings

-- the bytes of a string whose next byte isn't there: none, where its last quote is
abbrev pub closes : List ℕ → Option (List ℕ)
closes bs = if bytes_eq bs (34 ∷ []) then Some [] else None

-- the next byte of a string and what follows it; or there is none
abbrev pub StringStep : Option (ℕ × Bor (List ℕ)) → List ℕ → Type 0
StringStep None bs = string_rest bs ≡ closes bs
StringStep (Some p) bs = (string_rest bs ≡ with_byte (Some p.0) (string_rest p.1.now)) × (length p.1.now < length bs)

-- bytes in front of what is left of a string
abbrev pub with_front : List ℕ → Option (List ℕ) → Option (List ℕ)
with_front front None = None
with_front front (Some bs) = Some (front ++ bs)

-- ---- numbers of data

-- bytes with those of one number more; as they are where it is out of its range
abbrev pub with_number : NumberSize → List ℕ → Option ℕ → List ℕ
with_number size bytes None = bytes
with_number size bytes (Some w) = bytes ++ little_endian (data_bytes size) w

-- the data of the numbers so far and of the operands that are left, where the numbers so far lay in their range or not
abbrev pub numbers_after : NumberSize → Bool → List ℕ → List Operand → Result Statement AsmKind
numbers_after size fits bytes [] = if fits then Ok (Data bytes) else Err ImmRange
numbers_after size fits bytes (a ∷ rest) =
    required (integer_of a) BadOperand >>= (λ n. numbers_after size (fits && is_some (word_in (data_range size) n)) (with_number size bytes (word_in (data_range size) n)) rest)
