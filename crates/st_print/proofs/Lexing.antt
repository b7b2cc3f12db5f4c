-- The lexemes of a line that is written in pieces, and the lines of a text that is written in lines. AreApart says when pieces can be
-- told apart; then lexemes-spelled gives a line's lexemes without lexing, allowed-spelled its bytes, and lines-text the lines of a text.
use Rattle.std.proofs.Common.{ℕ, ◌≡◌, ◌+◌, ◌-◌, ◌≤◌, Bool, true, false, not, ◌||◌, List, [], ◌∷◌, ◌++◌, refl, ap, sym, ◌∙◌, length, arith, append_assoc, nat_eq, map}
use Rattle.std.proofs.Math.Seq.{take-append_seam, drop-append_seam}
use Rattle.std.proofs.lemmas.List.{length-append}
use Rattle.std.specs.List.{slice_range, list_all}
use Rattle.st_line.specs.declared.lexer.Token.{Token}
use Rattle.st_line.specs.Operands.{Lex, lexemes_after, lexemes_of}
use Rattle.st_line.specs.Statement.{is_allowed}
use Rattle.st_line.proofs.Runs.{and-true, true-and, is_word, is_mark_byte, is_inner, word-allowed, word-line, mark-allowed, mark-line, tokens_from, EndsWord, tokens-blank, tokens-mark, tokens-word}
use Rattle.st_asm.specs.Labels.{lines_of}
use Rattle.st_print.specs.Canonical.{Piece, spelled, lines_text}
use Rattle.st_print.specs.Canonical.Piece.{Blank, Mark, Word}

-- ---- pieces that can be told apart

abbrev pub NoWordFirst : List Piece → Type 0
NoWordFirst (Word bs ∷ ps) = ⊥
NoWordFirst ps = Unit {0}

-- marks are marks, words are words, and no word stands directly behind another
abbrev pub AreApart : List Piece → Type 0
AreApart [] = Unit {0}
AreApart (Blank ∷ ps) = AreApart ps
AreApart (Mark b ∷ ps) = (is_mark_byte b ≡ true) × AreApart ps
AreApart (Word bs ∷ ps) = (is_word bs ≡ true) × NoWordFirst ps × AreApart ps

-- the lexemes of pieces, the first of which may follow a token directly
abbrev pub lexemes_from : Bool → List Piece → List Lex
lexemes_from glued [] = []
lexemes_from glued (Blank ∷ ps) = lexemes_from false ps
lexemes_from glued (Mark b ∷ ps) = record { text = b ∷ []; glued = glued } ∷ lexemes_from true ps
lexemes_from glued (Word bs ∷ ps) = record { text = bs; glued = glued } ∷ lexemes_from true ps

-- ---- the bytes of a line

pub all-append : (p : ℕ → Bool) (xs ys : List ℕ) → list_all p xs ≡ true → list_all p ys ≡ true → list_all p (xs ++ ys) ≡ true
all-append p [] ys h k = k
all-append p (x ∷ xs) ys h k = let s = and-true (p x) (list_all p xs) h in true-and (p x) (list_all p (xs ++ ys)) s.0 (all-append p xs ys s.1 k)

pub allowed-spelled : (ps : List Piece) → AreApart ps → list_all is_allowed (spelled ps) ≡ true
allowed-spelled [] h = refl
allowed-spelled (Blank ∷ ps) h = allowed-spelled ps h
allowed-spelled (Mark b ∷ ps) h = true-and (is_allowed b) (list_all is_allowed (spelled ps)) (mark-allowed b h.0) (allowed-spelled ps h.1)
allowed-spelled (Word bs ∷ ps) h = all-append is_allowed bs (spelled ps) (word-allowed bs h.0) (allowed-spelled ps h.2)

-- ---- lexemes

part : (front w rest : List ℕ) (from to : ℕ) → from ≡ length front → to ≡ from + length w → slice_range (front ++ (w ++ rest)) from to ≡ w
part front w rest from to h k =
    let n : to - from ≡ length w = omega arith in
    rw (n, h, drop-append_seam front (w ++ rest)) (take-append_seam w rest)

word-ends : (ps : List Piece) → NoWordFirst ps → AreApart ps → EndsWord (spelled ps)
word-ends [] h k = tt
word-ends (Blank ∷ ps) h k = refl
word-ends (Mark b ∷ ps) h k = elim (nat_eq b 32) as (λ t. t || is_mark_byte b ≡ true) [ true ↦ refl | false ↦ k.0 ]
word-ends (Word bs ∷ ps) h k = elim h [ ]

lexeme-first : (text w : List ℕ) (from to before : ℕ) (g : Bool) (ts : List Token) (ls : List Lex) → slice_range text from to ≡ w → nat_eq from before ≡ g → lexemes_after text to ts ≡ ls → lexemes_after text before (record { from = from; to = to } ∷ ts) ≡ record { text = w; glued = g } ∷ ls
lexeme-first text w from to before g ts ls e f h = rw (e, f, h) refl

apart-place : (at before : ℕ) → before ≤ at → nat_eq (at + 1) before ≡ false
apart-place at before h = grind arith

same-place : (n : ℕ) → nat_eq n n ≡ true
same-place n = grind arith

front-more : (front w : List ℕ) (at : ℕ) → at ≡ length front → at + length w ≡ length (front ++ w)
front-more front w at h = omega (arith, length-append front w)

-- by the pieces that are left behind a front of the text
lexemes-behind : (text front : List ℕ) (at before : ℕ) (ps : List Piece) → text ≡ front ++ spelled ps → at ≡ length front → before ≤ at → AreApart ps → lexemes_after text before (tokens_from at (spelled ps)) ≡ lexemes_from (nat_eq at before) ps
lexemes-behind text front at before [] e n h k = refl
lexemes-behind text front at before (Blank ∷ ps) e n h k =
    ap (lexemes_after text before) (tokens-blank at (spelled ps))
    ∙ lexemes-behind text (front ++ 32 ∷ []) (at + 1) before ps (e ∙ sym (append_assoc front (32 ∷ []) (spelled ps))) (front-more front (32 ∷ []) at n) (omega arith) k
    ∙ ap (λ g. lexemes_from g ps) (apart-place at before h)
lexemes-behind text front at before (Mark b ∷ ps) e n h k =
    let rest = lexemes-behind text (front ++ b ∷ []) (at + 1) (at + 1) ps (e ∙ sym (append_assoc front (b ∷ []) (spelled ps))) (front-more front (b ∷ []) at n) (omega arith) k.1 ∙ ap (λ g. lexemes_from g ps) (same-place (at + 1)) in
    let here : slice_range text at (at + 1) ≡ b ∷ [] = ap (λ t. slice_range t at (at + 1)) e ∙ part front (b ∷ []) (spelled ps) at (at + 1) n refl in
    ap (lexemes_after text before) (tokens-mark at b (spelled ps) k.0)
    ∙ lexeme-first text (b ∷ []) at (at + 1) before (nat_eq at before) _ _ here refl rest
lexemes-behind text front at before (Word w ∷ ps) e n h k =
    let to = at + length w in
    let rest = lexemes-behind text (front ++ w) to to ps (e ∙ sym (append_assoc front w (spelled ps))) (front-more front w at n) (omega arith) k.2 ∙ ap (λ g. lexemes_from g ps) (same-place to) in
    let here : slice_range text at to ≡ w = ap (λ t. slice_range t at to) e ∙ part front w (spelled ps) at to n refl in
    ap (lexemes_after text before) (tokens-word at w (spelled ps) k.0 (word-ends ps k.1 k.2))
    ∙ lexeme-first text w at to before (nat_eq at before) _ _ here refl rest

pub lexemes-spelled : (ps : List Piece) → AreApart ps → lexemes_of (spelled ps) ≡ lexemes_from true ps
lexemes-spelled ps k = lexemes-behind (spelled ps) [] 0 0 ps refl refl (omega arith) k

-- ---- lines

not-false : (a : Bool) → not a ≡ true → a ≡ false
not-false true h = sym h
not-false false h = refl

inner-spelled : (ps : List Piece) → AreApart ps → list_all is_inner (spelled ps) ≡ true
inner-spelled [] h = refl
inner-spelled (Blank ∷ ps) h = inner-spelled ps h
inner-spelled (Mark b ∷ ps) h = true-and (is_inner b) (list_all is_inner (spelled ps)) (mark-line b h.0) (inner-spelled ps h.1)
inner-spelled (Word bs ∷ ps) h = all-append is_inner bs (spelled ps) (word-line bs h.0) (inner-spelled ps h.2)

line-first : (line rest : List ℕ) → list_all is_inner line ≡ true → lines_of (line ++ 10 ∷ rest) ≡ line ∷ lines_of rest
line-first [] rest h = refl
line-first (b ∷ bs) rest h =
    let s = and-true (is_inner b) (list_all is_inner bs) h in
    let k : nat_eq b 10 ≡ false = not-false (nat_eq b 10) s.0 in
    let more = line-first bs rest s.1 in
    rw (k, more) refl

abbrev pub AreLines : List (List Piece) → Type 0
AreLines [] = Unit {0}
AreLines (line ∷ lines) = AreApart line × AreLines lines

pub lines-text : (lines : List (List Piece)) → AreLines lines → lines_of (lines_text lines) ≡ map spelled lines ++ [] ∷ []
lines-text [] h = refl
lines-text (line ∷ lines) h =
    line-first (spelled line) (lines_text lines) (inner-spelled line h.0) ∙ ap (λ ls. spelled line ∷ ls) (lines-text lines h.1)
