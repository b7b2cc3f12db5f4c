-- What a text is cut into. Read AreTokens, which says what tokens are; tokens_of cuts a text byte by byte, and the grammar is said over
-- its result. A token stands outside comments, and is a mark, a string with its quotes, or a longest run of other bytes.
use Rattle.std.specs.Prelude.{◌≡◌, ◌⊎◌, ℕ, ◌+◌, Bool, true, false, List, [], ◌∷◌, ◌++◌, length, ◌==◌, if◌then◌else◌}
use Rattle.st_line.specs.declared.lexer.Class.{Class}
use Rattle.st_line.specs.declared.lexer.Class.TheVariants.{Blank, LineEnd, Hash, Quote, Backslash, Mark, Other}
use Rattle.st_line.specs.declared.lexer.Mode.{Mode}
use Rattle.st_line.specs.declared.lexer.Mode.TheVariants.{Gap, Comment, Single, Run, Text, Escape, Closed}
use Rattle.st_line.specs.declared.lexer.Token.{Token}

-- what a byte is: blanks are space, tab and carriage return, marks are `,`, `:`, `(` and `)`
abbrev pub class_of : ℕ → Class
class_of b =
    if b == 10 then LineEnd
    else (if b == 32 then Blank
    else (if b == 9 then Blank
    else (if b == 13 then Blank
    else (if b == 35 then Hash
    else (if b == 34 then Quote
    else (if b == 92 then Backslash
    else (if b == 44 then Mark
    else (if b == 58 then Mark
    else (if b == 40 then Mark
    else (if b == 41 then Mark
    else Other))))))))))

-- ---- what tokens are

-- the bytes of a comment behind its `#`, up to the line's end
abbrev pub IsComment : List ℕ → Type 0
IsComment [] = Unit {0}
IsComment (b ∷ bs) = (class_of b ≡ LineEnd → ⊥) × IsComment bs

-- blanks, line ends and comments, each comment with its line's end; whether a comment is open before
abbrev pub IsGapBehind : Bool → List ℕ → Type 0
IsGapBehind false [] = Unit {0}
IsGapBehind true [] = ⊥
IsGapBehind false (b ∷ bs) = (((class_of b ≡ Blank) ⊎ (class_of b ≡ LineEnd)) × IsGapBehind false bs) ⊎ ((class_of b ≡ Hash) × IsGapBehind true bs)
IsGapBehind true (b ∷ bs) = ((class_of b ≡ LineEnd) × IsGapBehind false bs) ⊎ ((class_of b ≡ LineEnd → ⊥) × IsGapBehind true bs)

abbrev pub IsGap : List ℕ → Type 0
IsGap bs = IsGapBehind false bs

-- what follows the last token: a gap, and perhaps a comment that ends with the text
abbrev pub IsLastGap : List ℕ → Type 0
IsLastGap bs = IsGap bs ⊎ ((gap : List ℕ) × (comment : List ℕ) × (bs ≡ gap ++ 35 ∷ comment) × IsGap gap × IsComment comment)

-- the bytes of a string behind its first quote, and what follows: a backslash takes the next byte of the line with it, and a string
-- that isn't closed ends with its line
abbrev pub IsStringRest : List ℕ → List ℕ → Type 0
IsStringRest [] [] = Unit {0}
IsStringRest [] (b ∷ rest) = class_of b ≡ LineEnd
IsStringRest (b ∷ []) rest = (class_of b ≡ Quote) ⊎ ((class_of b ≡ LineEnd → ⊥) × IsStringRest [] rest)
IsStringRest (b ∷ c ∷ bs) rest =
    ((class_of b ≡ Backslash) × (class_of c ≡ LineEnd → ⊥) × IsStringRest bs rest) ⊎ ((class_of b ≡ Quote → ⊥) × (class_of b ≡ LineEnd → ⊥) × (class_of b ≡ Backslash → ⊥) × IsStringRest (c ∷ bs) rest)

-- a byte of a run
abbrev pub IsRunByte : ℕ → Type 0
IsRunByte b = (class_of b ≡ Other) ⊎ (class_of b ≡ Backslash)

abbrev pub IsRun : List ℕ → Type 0
IsRun [] = Unit {0}
IsRun (b ∷ bs) = IsRunByte b × IsRun bs

-- a run ends where no byte of a run follows
abbrev pub EndsRun : List ℕ → Type 0
EndsRun [] = Unit {0}
EndsRun (b ∷ rest) = IsRunByte b → ⊥

-- the bytes of a token, with what follows it
abbrev pub IsTokenText : List ℕ → List ℕ → Type 0
IsTokenText [] rest = ⊥
IsTokenText (b ∷ bs) rest =
    ((class_of b ≡ Mark) × (bs ≡ [])) ⊎ (((class_of b ≡ Quote) × IsStringRest bs rest) ⊎ (IsRun (b ∷ bs) × EndsRun rest))

-- the tokens of what is left of a text from a place on: each stands behind a gap, and only a gap is left behind the last
abbrev pub AreTokensFrom : ℕ → List ℕ → List Token → Type 0
AreTokensFrom at bs [] = IsLastGap bs
AreTokensFrom at bs (t ∷ ts) =
    (gap : List ℕ) × (text : List ℕ) × (rest : List ℕ) × (bs ≡ gap ++ text ++ rest) × IsGap gap × IsTokenText text rest × (t.from ≡ at + length gap) × (t.to ≡ t.from + length text) × AreTokensFrom t.to rest ts

abbrev pub AreTokens : List ℕ → List Token → Type 0
AreTokens text ts = AreTokensFrom 0 text ts

-- ---- the tokens, byte by byte

-- where a byte stands that begins something
abbrev pub begin : Class → Mode
begin LineEnd = Gap
begin Blank = Gap
begin Hash = Comment
begin Quote = Text
begin Mark = Single
begin Backslash = Run
begin Other = Run

-- where a byte stands, by where the byte before it stood
abbrev pub step : Mode → Class → Mode
step Comment LineEnd = Gap
step Comment _ = Comment
step Text LineEnd = Gap
step Text Quote = Closed
step Text Backslash = Escape
step Text _ = Text
step Escape LineEnd = Gap
step Escape _ = Text
step _ c = begin c

-- the byte belongs to the token of the byte before it
abbrev pub continues : Mode → Class → Bool
continues Text LineEnd = false
continues Text _ = true
continues Escape LineEnd = false
continues Escape _ = true
continues Run Backslash = true
continues Run Other = true
continues _ _ = false

abbrev pub is_in_token : Mode → Bool
is_in_token Gap = false
is_in_token Comment = false
is_in_token _ = true

-- the token that ends here
abbrev pub closed : Mode → ℕ → ℕ → List Token
closed m from at = if is_in_token m then record { from = from; to = at } ∷ [] else []

-- the tokens of what is left, where the byte before it stood so, and what it belongs to began at `from`
abbrev pub tokens_after : Mode → ℕ → ℕ → List ℕ → List Token
tokens_after m from at [] = closed m from at
tokens_after m from at (b ∷ bs) =
    if continues m (class_of b) then tokens_after (step m (class_of b)) from (at + 1) bs
    else (closed m from at ++ tokens_after (step m (class_of b)) at (at + 1) bs)

abbrev pub tokens_of : List ℕ → List Token
tokens_of bs = tokens_after Gap 0 0 bs
