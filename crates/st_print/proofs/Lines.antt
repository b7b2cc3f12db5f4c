-- Lines one after another. lines_text-append: the text of lines and more lines; lines-then: lines that are written in two steps;
-- head_text, byte_text, access_text: lines as they are written.
use Rattle.std.proofs.Common.{◌≡◌, ℕ, List, [], ◌∷◌, ◌++◌, refl, sym, ap, ◌∙◌, append_assoc, codes, decimal, ◌+◌, ◌<◌, length, drop, get_or, add-one}
use Rattle.std.proofs.Math.Seq.{drop-cons}
use Rattle.std.proofs.lemmas.List.{append-nil}
use Rattle.st_print.specs.Joined.{joined}
use Rattle.st_print.specs.Canonical.{Piece, spelled, lines_text, label_line, with_operands, number, comma, function_lines, functions_lines, data_lines, needs_data, unit_lines, unit_text}
use Rattle.st_print.specs.Spots.{spots_of}
use Rattle.st_line.specs.declared.source.Target.{Target}
use Rattle.st_asm.specs.declared.unit.Function.{Function}

pub lines_text-append : (xs ys : List (List Piece)) → lines_text (xs ++ ys) ≡ lines_text xs ++ lines_text ys
lines_text-append [] ys = refl
lines_text-append (x ∷ xs) ys = ap (λ t. spelled x ++ 10 ∷ t) (lines_text-append xs ys) ∙ sym (append_assoc (spelled x) (10 ∷ lines_text xs) (lines_text ys))

pub lines-then : (old mid new j : List ℕ) (xs ys : List (List Piece)) → mid ≡ old ++ lines_text xs → new ≡ mid ++ j → j ≡ lines_text ys → new ≡ old ++ lines_text (xs ++ ys)
lines-then old mid new j xs ys h k e =
    k ∙ ap (λ t. t ++ j) h ∙ append_assoc old (lines_text xs) j ∙ ap (λ t. old ++ t) (ap (λ t. lines_text xs ++ t) e ∙ sym (lines_text-append xs ys))

pub byte_text : (b : ℕ) (digits : List ℕ) → digits ≡ decimal b → joined (codes "    .byte " ∷ digits ∷ codes "\n" ∷ []) ≡ lines_text (with_operands (codes ".byte") (number b ∷ []) ∷ [])
byte_text b digits h = rw h (simp append-nil)

pub head_text : (name n a b c : List ℕ) (ints handles slots : ℕ) → n ≡ name → a ≡ decimal ints → b ≡ decimal handles → c ≡ decimal slots → joined (n ∷ codes ":\n    .st_args " ∷ a ∷ codes "," ∷ b ∷ codes "\n    .st_handles " ∷ c ∷ codes "\n" ∷ []) ≡ lines_text (label_line name ∷ with_operands (codes ".st_args") (number ints ∷ comma ∷ number handles ∷ []) ∷ with_operands (codes ".st_handles") (number slots ∷ []) ∷ [])
head_text name n a b c ints handles slots e h k l = rw (e, h, k, l) (simp (append_assoc, append-nil))

-- a step of a loop that writes lines
pub lines-step : (text new whole : List ℕ) (xs ys zs : List (List Piece)) → text ++ lines_text zs ≡ whole → new ≡ text ++ lines_text xs → zs ≡ xs ++ ys → new ++ lines_text ys ≡ whole
lines-step text new whole xs ys zs h k e =
    ap (λ t. t ++ lines_text ys) k ∙ append_assoc text (lines_text xs) (lines_text ys) ∙ ap (λ t. text ++ t) (sym (lines_text-append xs ys) ∙ ap lines_text (sym e)) ∙ h

pub functions_lines-drop : (spots : List Target) (f : ℕ) (fs : List Function) (d : Function) → f < length fs → functions_lines spots f (drop f fs) ≡ function_lines spots f (get_or fs f d) ++ functions_lines spots (f + 1) (drop (f + 1) fs)
functions_lines-drop spots f fs d h = ap (functions_lines spots f) (drop-cons fs f d h) ∙ ap (λ n. function_lines spots f (get_or fs f d) ++ functions_lines spots (f + 1) (drop n fs)) (sym (add-one f))

unit_text-lines : (functions : List Function) (rodata : List ℕ) → unit_text functions rodata ≡ lines_text (functions_lines (spots_of functions rodata) 0 functions ++ data_lines (needs_data functions rodata) (spots_of functions rodata) rodata)
unfolding unit_text unit_lines
unit_text-lines functions rodata = refl

-- what was written into an empty text
pub unit_text-written : (functions : List Function) (rodata old new : List ℕ) → old ≡ [] → new ≡ old ++ lines_text (functions_lines (spots_of functions rodata) 0 functions ++ data_lines (needs_data functions rodata) (spots_of functions rodata) rodata) → new ≡ unit_text functions rodata
unit_text-written functions rodata old new h e =
    e ∙ ap (λ t. t ++ lines_text (functions_lines (spots_of functions rodata) 0 functions ++ data_lines (needs_data functions rodata) (spots_of functions rodata) rodata)) h ∙ sym (unit_text-lines functions rodata)
