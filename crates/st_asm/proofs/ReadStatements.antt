-- What a statement has that was read (line_statement-read, is_aligned_from_line), and that a label is a name (line_label-is_name).
use Rattle.std.proofs.Common.{ℕ, ◌≡◌, Bool, true, false, ◌&&◌, List, [], ◌∷◌, ◌++◌, Option, Some, None, Result, Ok, Err, refl, ap, sym, subst, ◌∙◌, cond, codes}
use Rattle.std.specs.List.{list_all}
use Rattle.std.proofs.lemmas.Int.{ints}
use Rattle.std.specs.Str.{bytes_eq}
use Rattle.st_line.specs.declared.fault.AsmKind.{AsmKind}
use Rattle.st_line.specs.declared.fault.AsmKind.TheVariants.{NotAscii, BadLine, UnknownName, BadOperand, ImmRange}
use Rattle.st_line.specs.declared.source.SourceIns.{SourceIns}
use Rattle.st_line.specs.declared.source.SourceIns.TheVariants as source
use Rattle.st_line.specs.declared.source.Statement.{Statement}
use Rattle.st_line.specs.declared.source.Statement.TheVariants as statements
use Rattle.st_line.specs.declared.source.Standing.{Standing}
use Rattle.st_line.specs.declared.words.Directive.{Directive}
use Rattle.st_line.specs.declared.words.Directive.TheVariants as directives
use Rattle.st_line.specs.declared.words.NumberSize.{NumberSize}
use Rattle.st_line.specs.declared.words.Word.{Word}
use Rattle.st_line.specs.declared.words.Word.TheVariants as words
use Rattle.st_line.specs.Operands.{Lex, lexemes_of, is_name, is_mark, Operand, operands_of, register_of, integer_of, name_of, string_of}
use Rattle.st_line.specs.Words.{word_named, may_stand}
use Rattle.st_line.specs.Statement.{◌>>=◌, require, required, no_operands, one_operand, two_operands, is_in, data_range, row_statement, pseudo_statement, at_least_one, bytes_of_numbers, numbers_statement, count_up_to, is_rodata, directive_statement, as_instruction, word_statement, word_and_rest, statement_of, label_and_rest, is_allowed, line_label, line_statement}
use Rattle.st_asm.specs.Reading.{IsAligned}
use Rattle.st_asm.proofs.ReadSteps.{IsRead, IsStatement, bind-ok, ok-same, both, count_up_to-ok}
use Rattle.st_asm.proofs.ReadInstructions.{row_read, pseudo_read}

-- ---- directives

no_operands_read : (operands : List Operand) (made s : Statement) → (no_operands operands >>= λ none. Ok made) ≡ Ok s → IsStatement (Some made) → IsStatement (Some s)
no_operands_read operands made s e h =
    let r = bind-ok (no_operands operands) (λ none. Ok made) s e in
    subst (λ t. IsStatement (Some t)) (ok-same made s r.2) h

section_read : (b : Bool) (s : Statement) → cond b (Ok statements.Rodata) (Err BadOperand) ≡ Ok s → IsStatement (Some s)
section_read true s e = subst (λ t. IsStatement (Some t)) (ok-same statements.Rodata s e) tt
section_read false s e = let no : ⊥ = cc in absurd no

numbers_read : (size : NumberSize) (operands : List Operand) (s : Statement) → numbers_statement size operands ≡ Ok s → IsStatement (Some s)
unfolding numbers_statement
numbers_read size operands s e =
    let r = bind-ok (required (at_least_one operands) BadOperand) (λ ns. require (list_all (is_in (data_range size)) ns) ImmRange >>= λ ranges. Ok (statements.Data (bytes_of_numbers size ns))) s e in
    let q = bind-ok (require (list_all (is_in (data_range size)) r.0) ImmRange) (λ ranges. Ok (statements.Data (bytes_of_numbers size r.0))) s r.2 in
    subst (λ t. IsStatement (Some t)) (ok-same _ s q.2) tt

directive_read : (d : Directive) (operands : List Operand) (s : Statement) → directive_statement d operands ≡ Ok s → IsStatement (Some s)
unfolding directive_statement
directive_read directives.Text operands s e = no_operands_read operands statements.Code s e tt
directive_read directives.Section operands s e =
    let r = bind-ok (one_operand name_of operands) (λ name. is_rodata name) s e in
    section_read (bytes_eq r.0 (codes ".rodata")) s r.2
directive_read directives.Ignored operands s e = subst (λ t. IsStatement (Some t)) (ok-same statements.Ignored s e) tt
directive_read directives.Align operands s e =
    let r = bind-ok (one_operand integer_of operands) (λ n. count_up_to 12 n >>= λ power. Ok (statements.Align power)) s e in
    let q = bind-ok (count_up_to 12 r.0) (λ power. Ok (statements.Align power)) s r.2 in
    subst (λ t. IsStatement (Some t)) (ok-same _ s q.2) (count_up_to-ok 12 r.0 q.0 q.1)
directive_read (directives.Numbers size) operands s e = numbers_read size operands s e
directive_read directives.Ascii operands s e =
    let r = bind-ok (one_operand string_of operands) (λ bytes. Ok (statements.Data bytes)) s e in
    subst (λ t. IsStatement (Some t)) (ok-same _ s r.2) tt
directive_read directives.Asciz operands s e =
    let r = bind-ok (one_operand string_of operands) (λ bytes. Ok (statements.Data (bytes ++ 0 ∷ []))) s e in
    subst (λ t. IsStatement (Some t)) (ok-same _ s r.2) tt
directive_read directives.Zero operands s e =
    let r = bind-ok (one_operand integer_of operands) (λ n. count_up_to 1048576 n >>= λ count. Ok (statements.Zeros count)) s e in
    let q = bind-ok (count_up_to 1048576 r.0) (λ count. Ok (statements.Zeros count)) s r.2 in
    subst (λ t. IsStatement (Some t)) (ok-same _ s q.2) tt
directive_read directives.Arguments operands s e =
    let r = bind-ok (two_operands integer_of integer_of operands) (λ n. count_up_to 6 n.0 >>= λ ints. count_up_to 2 n.1 >>= λ handles. Ok (statements.Arguments ints handles)) s e in
    let p = bind-ok (count_up_to 6 r.0.0) (λ ints. count_up_to 2 r.0.1 >>= λ handles. Ok (statements.Arguments ints handles)) s r.2 in
    let q = bind-ok (count_up_to 2 r.0.1) (λ handles. Ok (statements.Arguments p.0 handles)) s p.2 in
    subst (λ t. IsStatement (Some t)) (ok-same _ s q.2) (count_up_to-ok 6 r.0.0 p.0 p.1, count_up_to-ok 2 r.0.1 q.0 q.1)
directive_read directives.Handles operands s e =
    let r = bind-ok (one_operand integer_of operands) (λ n. count_up_to 252 n >>= λ slots. Ok (statements.Handles slots)) s e in
    let q = bind-ok (count_up_to 252 r.0) (λ slots. Ok (statements.Handles slots)) s r.2 in
    subst (λ t. IsStatement (Some t)) (ok-same _ s q.2) (count_up_to-ok 252 r.0 q.0 q.1)
directive_read directives.Fork operands s e =
    let r = bind-ok (one_operand register_of operands) (λ handle. Ok (statements.Instruction (source.Fork handle))) s e in
    subst (λ t. IsStatement (Some t)) (ok-same _ s r.2) tt

-- ---- lines

instruction_read : (r : Result SourceIns AsmKind) (s : Statement) → ((ins : SourceIns) → r ≡ Ok ins → IsRead ins) → as_instruction r ≡ Ok s → IsStatement (Some s)
instruction_read (Ok ins) s h e = subst (λ t. IsStatement (Some t)) (ok-same _ s e) (h ins refl)
instruction_read (Err k) s h e = let no : ⊥ = cc in absurd no

word_read : (w : Word) (operands : List Operand) (s : Statement) → word_statement w operands ≡ Ok s → IsStatement (Some s)
word_read (words.Row op) operands s e = instruction_read (row_statement op operands) s (row_read op operands) e
word_read (words.Pseudo p) operands s e = instruction_read (pseudo_statement p operands) s (pseudo_read p operands) e
word_read (words.Directive d) operands s e = directive_read d operands s e

statement_read : (st : Standing) (ls : List Lex) (s : Option Statement) → statement_of st ls ≡ Ok s → IsStatement s
unfolding statement_of
statement_read st [] s e = subst IsStatement (ok-same None s e) tt
statement_read st (l ∷ ls) s e =
    let first = bind-ok (word_and_rest (l ∷ ls)) (λ first. required (word_named first.0) UnknownName >>= λ word. require (may_stand st word) BadLine >>= λ place. word_statement word (operands_of first.1) >>= λ statement. Ok (Some statement)) s e in
    let word = bind-ok (required (word_named first.0.0) UnknownName) (λ word. require (may_stand st word) BadLine >>= λ place. word_statement word (operands_of first.0.1) >>= λ statement. Ok (Some statement)) s first.2 in
    let place = bind-ok (require (may_stand st word.0) BadLine) (λ place. word_statement word.0 (operands_of first.0.1) >>= λ statement. Ok (Some statement)) s word.2 in
    let made = bind-ok (word_statement word.0 (operands_of first.0.1)) (λ statement. Ok (Some statement)) s place.2 in
    subst IsStatement (ok-same (Some made.0) s made.2) (word_read word.0 (operands_of first.0.1) made.0 made.1)

pub line_statement-read : (st : Standing) (text : List ℕ) (s : Option Statement) → line_statement st text ≡ Ok s → IsStatement s
unfolding line_statement
line_statement-read st text s e =
    let ascii = bind-ok (require (list_all is_allowed text) NotAscii) (λ ascii. statement_of st (label_and_rest (lexemes_of text)).1) s e in
    statement_read st (label_and_rest (lexemes_of text)).1 s ascii.2

aligned_statement : (s : Option Statement) → IsStatement s → IsAligned s
aligned_statement None h = tt
aligned_statement (Some (statements.Align power)) h = h
aligned_statement (Some statements.Ignored) h = tt
aligned_statement (Some statements.Code) h = tt
aligned_statement (Some statements.Rodata) h = tt
aligned_statement (Some (statements.Data bytes)) h = tt
aligned_statement (Some (statements.Zeros count)) h = tt
aligned_statement (Some (statements.Arguments ints handles)) h = tt
aligned_statement (Some (statements.Handles slots)) h = tt
aligned_statement (Some (statements.Instruction ins)) h = tt

pub is_aligned_from_line : (st : Standing) (text : List ℕ) (s : Option Statement) → line_statement st text ≡ Ok s → IsAligned s
is_aligned_from_line st text s e = aligned_statement s (line_statement-read st text s e)

-- ---- labels

label_named : (ls : List Lex) (name : List ℕ) → (label_and_rest ls).0 ≡ Some name → is_name name ≡ true
label_named [] name e = let no : ⊥ = cc in absurd no
label_named (n ∷ []) name e = let no : ⊥ = cc in absurd no
label_named (n ∷ c ∷ rest) name e =
    (elim (is_name n.text && c.glued && is_mark 58 c) as (λ b. is_name n.text && c.glued && is_mark 58 c ≡ b → (cond {A = Option (List ℕ) × List Lex} b (Some n.text, rest) (None, n ∷ c ∷ rest)).0 ≡ Some name → is_name name ≡ true) [
      | true ↦ λ t s. let same : n.text ≡ name = cc in ap is_name (sym same) ∙ (both _ _ (both _ _ t).0).0
      | false ↦ λ t s. let no : ⊥ = cc in absurd no
    ]) refl e

pub line_label-is_name : (text name : List ℕ) → line_label text ≡ Some name → is_name name ≡ true
line_label-is_name text name e =
    (elim (list_all is_allowed text) as (λ b. cond b (label_and_rest (lexemes_of text)).0 None ≡ Some name → is_name name ≡ true) [
      | true ↦ λ s. label_named (lexemes_of text) name s
      | false ↦ λ s. let no : ⊥ = cc in absurd no
    ]) e
