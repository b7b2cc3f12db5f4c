-- A line without a colon defines no label.
use Rattle.std.proofs.Common.{◌≡◌, ℕ, zero, suc, Bool, true, false, ◌&&◌, ◌||◌, ◌==◌, List, [], ◌∷◌, take, drop, Option, Some, None, refl, ap, ◌∙◌}
use Rattle.std.specs.Prelude.{slice_range, if◌then◌else◌, ◌-◌}
use Rattle.std.specs.List.{list_any, list_all}
use Rattle.st_line.specs.declared.lexer.Token.{Token}
use Rattle.std.specs.Str.{bytes_eq}
use Rattle.st_line.specs.Tokens.{tokens_of}
use Rattle.st_line.specs.Operands.{Lex, lexemes_after, is_mark, is_name}
use Rattle.st_line.specs.Statement.{label_and_rest, line_label, is_allowed}

abbrev is_colon : ℕ → Bool
is_colon b = b == 58

or_false : (a b : Bool) → a || b ≡ false → (a ≡ false) × (b ≡ false)
or_false false b e = (refl, e)
or_false true b e = absurd (cc)

any_dropped : (n : ℕ) (bs : List ℕ) → list_any is_colon bs ≡ false → list_any is_colon (drop n bs) ≡ false
any_dropped zero bs e = e
any_dropped (suc n) [] e = e
any_dropped (suc n) (b ∷ bs) e = any_dropped n bs (or_false (is_colon b) (list_any is_colon bs) e).1

any_taken : (n : ℕ) (bs : List ℕ) → list_any is_colon bs ≡ false → list_any is_colon (take n bs) ≡ false
any_taken zero bs e = refl
any_taken (suc n) [] e = refl
any_taken (suc n) (b ∷ bs) e =
    let parts = or_false (is_colon b) (list_any is_colon bs) e in
    ap (λ t. t || list_any is_colon (take n bs)) parts.0 ∙ any_taken n bs parts.1

other_text : (text : List ℕ) → list_any is_colon text ≡ false → bytes_eq text (58 ∷ []) ≡ false
other_text [] e = refl
other_text (b ∷ bs) e = let parts = or_false (is_colon b) (list_any is_colon bs) e in ap (λ t. t && bytes_eq bs []) parts.0

third_false : (a b c : Bool) → c ≡ false → a && b && c ≡ false
third_false true true c e = e
third_false true false c e = refl
third_false false true c e = refl
third_false false false c e = refl

by_test : (test : Bool) (label : Option (List ℕ)) → label ≡ None → (if test then label else None) ≡ None
by_test true label e = e
by_test false label e = refl

chosen_none : (test : Bool) (label : Option (List ℕ) × List Lex) (rest : List Lex) → test ≡ false → (if test then label else (None, rest)).0 ≡ None
chosen_none true label rest e = absurd (cc)
chosen_none false label rest e = refl

no_label : (bs : List ℕ) (before : ℕ) (ts : List Token) → list_any is_colon bs ≡ false → (label_and_rest (lexemes_after bs before ts)).0 ≡ None
no_label bs before [] e = refl
no_label bs before (t ∷ []) e = refl
no_label bs before (t ∷ u ∷ ts) e =
    let text = slice_range bs t.from t.to in
    let colon = other_text (slice_range bs u.from u.to) (any_taken (u.to - u.from) (drop u.from bs) (any_dropped u.from bs e)) in
    let not_label : is_name text && u.from == t.to && is_mark 58 (record { text = slice_range bs u.from u.to; glued = u.from == t.to }) ≡ false = third_false (is_name text) (u.from == t.to) _ colon in
    chosen_none _ (Some text, lexemes_after bs u.to ts) (lexemes_after bs before (t ∷ u ∷ ts)) not_label

-- whatever its bytes are
pub no_line_label : (text : List ℕ) → list_any is_colon text ≡ false → line_label text ≡ None
no_line_label text e = by_test (list_all is_allowed text) _ (no_label text 0 (tokens_of text) e)
