-- Words and marks in a text: tokens-blank, tokens-mark and tokens-word give the tokens of a text by its first blank, mark or word.
-- is_word says which bytes make a word; word-allowed and word-line, that these stand on a line.
use Rattle.std.proofs.Common.{ℕ, ◌≡◌, ◌+◌, Bool, true, false, not, ◌&&◌, ◌||◌, List, [], ◌∷◌, ◌++◌, refl, ap, ◌∙◌, length, arith, nat_eq, ◌⊎◌, inl, inr}
use Rattle.std.specs.List.{list_all}
use Rattle.st_line.specs.declared.lexer.Class.{Class}
use Rattle.st_line.specs.declared.lexer.Class.TheVariants as classes
use Rattle.st_line.specs.declared.lexer.Mode.TheVariants as modes
use Rattle.st_line.specs.declared.lexer.Token.{Token}
use Rattle.st_line.specs.Tokens.{class_of, tokens_after}
use Rattle.st_line.specs.Operands.{within}
use Rattle.st_line.specs.Statement.{is_allowed}

-- ---- tests

pub and-true : (a b : Bool) → a && b ≡ true → (a ≡ true) × (b ≡ true)
and-true true b h = (refl, h)
and-true false b h = cc

pub true-and : (a b : Bool) → a ≡ true → b ≡ true → a && b ≡ true
true-and a b h k = rw (h, k) refl

pub or-first : (a b : Bool) → a ≡ true → a || b ≡ true
or-first a b h = rw h refl

pub or-second : (a b : Bool) → b ≡ true → a || b ≡ true
or-second true b h = refl
or-second false b h = h

pub or-either : (a b : Bool) → a || b ≡ true → (a ≡ true) ⊎ (b ≡ true)
or-either true b h = inl refl
or-either false b h = inr h

-- ---- words and marks

abbrev pub is_other : Class → Bool
is_other classes.Other = true
is_other _ = false

-- a byte of a word: a printable character that is no blank, mark, quote, backslash or `#`
abbrev pub is_plain : ℕ → Bool
is_plain b = within 33 126 b && is_other (class_of b)

abbrev pub is_word : List ℕ → Bool
is_word [] = false
is_word (b ∷ bs) = is_plain b && list_all is_plain bs

abbrev pub is_mark_byte : ℕ → Bool
is_mark_byte b = nat_eq b 44 || nat_eq b 58 || nat_eq b 40 || nat_eq b 41

other-class : (c : Class) → is_other c ≡ true → c ≡ classes.Other
other-class classes.Other h = refl
other-class classes.Blank h = cc
other-class classes.LineEnd h = cc
other-class classes.Hash h = cc
other-class classes.Quote h = cc
other-class classes.Backslash h = cc
other-class classes.Mark h = cc

plain-class : (b : ℕ) → is_plain b ≡ true → class_of b ≡ classes.Other
plain-class b h = other-class (class_of b) (and-true _ _ h).1

plain-range : (b : ℕ) → is_plain b ≡ true → within 33 126 b ≡ true
plain-range b h = (and-true _ _ h).0

range-allowed : (b : ℕ) → within 33 126 b ≡ true → is_allowed b ≡ true
range-allowed b h = grind arith

range-line : (b : ℕ) → within 33 126 b ≡ true → not (nat_eq b 10) ≡ true
range-line b h = grind arith

pub word-plain : (w : List ℕ) → is_word w ≡ true → list_all is_plain w ≡ true
word-plain [] h = refl
word-plain (b ∷ bs) h = h

all-implies : (p q : ℕ → Bool) → ((b : ℕ) → p b ≡ true → q b ≡ true) → (xs : List ℕ) → list_all p xs ≡ true → list_all q xs ≡ true
all-implies p q f [] h = refl
all-implies p q f (x ∷ xs) h = let s = and-true (p x) (list_all p xs) h in true-and (q x) (list_all q xs) (f x s.0) (all-implies p q f xs s.1)

-- a byte that ends no line
abbrev pub is_inner : ℕ → Bool
is_inner b = not (nat_eq b 10)

pub word-allowed : (w : List ℕ) → is_word w ≡ true → list_all is_allowed w ≡ true
word-allowed w h = all-implies is_plain is_allowed (λ b k. range-allowed b (plain-range b k)) w (word-plain w h)

pub word-line : (w : List ℕ) → is_word w ≡ true → list_all is_inner w ≡ true
word-line w h = all-implies is_plain is_inner (λ b k. range-line b (plain-range b k)) w (word-plain w h)

mark-class : (b : ℕ) → is_mark_byte b ≡ true → class_of b ≡ classes.Mark
mark-class b h = grind arith

pub mark-allowed : (b : ℕ) → is_mark_byte b ≡ true → is_allowed b ≡ true
mark-allowed b h = grind arith

pub mark-line : (b : ℕ) → is_mark_byte b ≡ true → is_inner b ≡ true
mark-line b h = grind arith

-- ---- tokens of what is left of a text behind a gap, from a place on

abbrev pub tokens_from : ℕ → List ℕ → List Token
tokens_from at bs = tokens_after modes.Gap at at bs

-- no byte of a word goes on: a blank or a mark is first, or nothing
abbrev pub EndsWord : List ℕ → Type 0
EndsWord [] = Unit {0}
EndsWord (b ∷ bs) = nat_eq b 32 || is_mark_byte b ≡ true

gap-begin : (f g at : ℕ) (bs : List ℕ) → tokens_after modes.Gap f at bs ≡ tokens_after modes.Gap g at bs
gap-begin f g at [] = refl
gap-begin f g at (b ∷ bs) = refl

pub tokens-blank : (at : ℕ) (bs : List ℕ) → tokens_from at (32 ∷ bs) ≡ tokens_from (at + 1) bs
tokens-blank at bs = gap-begin at (at + 1) (at + 1) bs

mark-end : (f at : ℕ) (bs : List ℕ) → tokens_after modes.Single f at bs ≡ record { from = f; to = at } ∷ tokens_from at bs
mark-end f at [] = refl
mark-end f at (b ∷ bs) = refl

pub tokens-mark : (at b : ℕ) (bs : List ℕ) → is_mark_byte b ≡ true → tokens_from at (b ∷ bs) ≡ record { from = at; to = at + 1 } ∷ tokens_from (at + 1) bs
tokens-mark at b bs h = let c = mark-class b h in rw c (mark-end at (at + 1) bs)

run-plain : (f at : ℕ) (w rest : List ℕ) → list_all is_plain w ≡ true → tokens_after modes.Run f at (w ++ rest) ≡ tokens_after modes.Run f (at + length w) rest
run-plain f at [] rest h = ap (λ n. tokens_after modes.Run f n rest) (omega arith)
run-plain f at (b ∷ bs) rest h =
    let s = and-true (is_plain b) (list_all is_plain bs) h in
    let c = plain-class b s.0 in
    rw c (run-plain f (at + 1) bs rest s.1 ∙ ap (λ n. tokens_after modes.Run f n rest) (omega arith))

end-byte : (f at b : ℕ) (bs : List ℕ) → (t : Bool) → nat_eq b 32 ≡ t → t || is_mark_byte b ≡ true → tokens_after modes.Run f at (b ∷ bs) ≡ record { from = f; to = at } ∷ tokens_from at (b ∷ bs)
end-byte f at b bs true e h = let c : class_of b ≡ classes.Blank = grind arith in rw c refl
end-byte f at b bs false e h = let c = mark-class b h in rw c refl

word-end : (f at : ℕ) (rest : List ℕ) → EndsWord rest → tokens_after modes.Run f at rest ≡ record { from = f; to = at } ∷ tokens_from at rest
word-end f at [] h = refl
word-end f at (b ∷ bs) h = end-byte f at b bs (nat_eq b 32) refl h

pub tokens-word : (at : ℕ) (w rest : List ℕ) → is_word w ≡ true → EndsWord rest → tokens_from at (w ++ rest) ≡ record { from = at; to = at + length w } ∷ tokens_from (at + length w) rest
tokens-word at [] rest h k = cc
tokens-word at (b ∷ bs) rest h k =
    let s = and-true (is_plain b) (list_all is_plain bs) h in
    let c = plain-class b s.0 in
    rw c (run-plain at (at + 1) bs rest s.1 ∙ ap (λ m. tokens_after modes.Run at m rest) (omega arith) ∙ word-end at (at + length (b ∷ bs)) rest k)
