-- Each line of the canonical text is read as what it was written for: instruction-read (with Readable, what an instruction must have),
-- arguments-read, handles-read, section-read and byte-read.
use Rattle.std.proofs.Common.{ℕ, ◌≡◌, ◌%◌, ◌^◌, ◌<◌, ◌≤◌, Bool, true, false, List, [], ◌∷◌, refl, ap, sym, ◌∙◌, arith, Option, Some, Ok, ℤ, pos, neg_ℤ, codes}
use Rattle.std.specs.Prelude.{◌≤ℤ◌, ◌<ℤ◌}
use Rattle.std.specs.Fmt.{decimal, signed_decimal}
use Rattle.std.proofs.lemmas.Int.{ints}
use Rattle.st_base.specs.declared.reg.Reg.{Reg}
use Rattle.st_base.specs.declared.reg.Reg.TheVariants as registers
use Rattle.st_rv.specs.declared.ins.Ins.{Ins}
use Rattle.st_rv.specs.declared.ins.Op.{Op}
use Rattle.st_rv.specs.declared.ins.OpKind.{OpKind}
use Rattle.st_rv.specs.declared.ins.OpKind.TheVariants as kinds
use Rattle.st_rv.specs.Op.{kind_of}
use Rattle.st_rv.specs.Rows.{FitsTable, mnemonic_of}
use Rattle.st_rv.specs.Fields.{FitsForm}
use Rattle.st_rv.specs.Results.{word_of}
use Rattle.st_line.specs.declared.source.Target.{Target}
use Rattle.st_line.specs.declared.source.Target.TheVariants as targets
use Rattle.st_line.specs.declared.source.SourceIns.{SourceIns}
use Rattle.st_line.specs.declared.source.SourceIns.TheVariants as source
use Rattle.st_line.specs.declared.source.Statement.TheVariants as statements
use Rattle.st_line.specs.declared.words.Pseudo.TheVariants as pseudos
use Rattle.st_line.specs.declared.words.Directive.TheVariants as directives
use Rattle.st_line.specs.declared.words.NumberSize.TheVariants as sizes
use Rattle.st_line.specs.declared.words.Word.TheVariants as words
use Rattle.st_line.specs.Operands.{within, is_name, Operand, register_of, integer_of, memory_of, name_of}
use Rattle.st_line.specs.Words.{word_named}
use Rattle.st_line.specs.Statement.{one_operand, two_operands, three_operands, Range, is_in, in_range, immediate_range, offset_range, upper_range, li_range, data_range, plain, branch, row_of_kind, pseudo_statement, directive_statement, numbers_statement, count_up_to, as_instruction, word_statement}
use Rattle.st_line.proofs.Runs.{is_word}
use Rattle.st_print.specs.Canonical.{register_text, number, comma, with_operands, target_text, plain_pieces, ins_pieces}
use Rattle.st_print.specs.Canonical.Piece.{Word}
use Rattle.st_print.proofs.WordsRead.{register-read, mnemonic-read, name-word, integer-decimal, decimal-word, IsNarrow, integer-signed, signed-word}
use Rattle.st_print.proofs.Fitting.{form_for, fits-form, number-zero, signed-in, upper-in, constant-in, immediate-in}
use Rattle.st_print.proofs.LineShapes.{Said, IsRead, IsVerb, lex, read-alone, read-one, read-two, read-three, read-memory, memory_lexemes, memory-read, two-read, three-read}
use Rattle.st_print.proofs.LineShapes.Said.{States}

-- ---- words

row-verb : (op : Op) → IsVerb (mnemonic_of op) (words.Row op)
row-verb op = let m = mnemonic-read op in record { word = m.1; name = m.2; named = m.0 }

li-verb : IsVerb (codes "li") (words.Pseudo pseudos.Li)
unfolding word_named
li-verb = record { word = refl; name = refl; named = refl }

la-verb : IsVerb (codes "la") (words.Pseudo pseudos.La)
unfolding word_named
la-verb = record { word = refl; name = refl; named = refl }

jump-verb : IsVerb (codes "j") (words.Pseudo pseudos.J)
unfolding word_named
jump-verb = record { word = refl; name = refl; named = refl }

call-verb : IsVerb (codes "call") (words.Pseudo pseudos.Call)
unfolding word_named
call-verb = record { word = refl; name = refl; named = refl }

return-verb : IsVerb (codes "ret") (words.Pseudo pseudos.Ret)
unfolding word_named
return-verb = record { word = refl; name = refl; named = refl }

fork-verb : IsVerb (codes ".st_fork") (words.Directive directives.Fork)
unfolding word_named
fork-verb = record { word = refl; name = refl; named = refl }

arguments-verb : IsVerb (codes ".st_args") (words.Directive directives.Arguments)
unfolding word_named
arguments-verb = record { word = refl; name = refl; named = refl }

handles-verb : IsVerb (codes ".st_handles") (words.Directive directives.Handles)
unfolding word_named
handles-verb = record { word = refl; name = refl; named = refl }

section-verb : IsVerb (codes ".section") (words.Directive directives.Section)
unfolding word_named
section-verb = record { word = refl; name = refl; named = refl }

byte-verb : IsVerb (codes ".byte") (words.Directive (directives.Numbers sizes.Byte))
unfolding word_named
byte-verb = record { word = refl; name = refl; named = refl }

-- ---- operands

abbrev word_operand : List ℕ → Bool → Operand
word_operand w g = lex w g ∷ []

register-operand : (r : Reg) (g : Bool) → register_of (word_operand (register_text r) g) ≡ Some r
register-operand r g = (register-read r).0

register-word : (r : Reg) → is_word (register_text r) ≡ true
register-word r = (register-read r).1

signed-operand : (z : ℤ) (g : Bool) → IsNarrow z → integer_of (word_operand (signed_decimal z) g) ≡ Some z
signed-operand z g h = integer-signed z h

number-operand : (n : ℕ) (g : Bool) → n < 2 ^ 64 → integer_of (word_operand (decimal n) g) ≡ Some (pos n)
number-operand n g h = integer-decimal n h

name-operand : (w : List ℕ) (g : Bool) → is_name w ≡ true → name_of (word_operand w g) ≡ Some w
name-operand w g h = rw h refl

in-range : (range : Range) (z : ℤ) → is_in range z ≡ true → in_range range z ≡ Ok z
in-range range z h = rw h refl

-- ---- rows by their kinds

row-register : (op : Op) (operands : List Operand) (a b c : Reg) → three_operands register_of register_of register_of operands ≡ Ok (a, b, c) → row_of_kind kinds.Register op operands ≡ Ok (plain op a b c (pos 0))
unfolding row_of_kind
row-register op operands a b c h = rw h refl

row-immediate : (op : Op) (operands : List Operand) (a b : Reg) (z : ℤ) → three_operands register_of register_of integer_of operands ≡ Ok (a, b, z) → in_range (immediate_range op) z ≡ Ok z → row_of_kind kinds.Immediate op operands ≡ Ok (plain op a b registers.Zero z)
unfolding row_of_kind
row-immediate op operands a b z h k = rw (h, k) refl

row-upper : (op : Op) (operands : List Operand) (a : Reg) (z : ℤ) → two_operands register_of integer_of operands ≡ Ok (a, z) → in_range upper_range z ≡ Ok z → row_of_kind kinds.Upper op operands ≡ Ok (plain op a registers.Zero registers.Zero z)
unfolding row_of_kind
row-upper op operands a z h k = rw (h, k) refl

row-load : (op : Op) (operands : List Operand) (a b : Reg) (z : ℤ) → two_operands register_of memory_of operands ≡ Ok (a, record { offset = z; base = b }) → in_range offset_range z ≡ Ok z → row_of_kind kinds.Load op operands ≡ Ok (plain op a b registers.Zero z)
unfolding row_of_kind
row-load op operands a b z h k = rw (h, k) refl

row-store : (op : Op) (operands : List Operand) (a b : Reg) (z : ℤ) → two_operands register_of memory_of operands ≡ Ok (a, record { offset = z; base = b }) → in_range offset_range z ≡ Ok z → row_of_kind kinds.Store op operands ≡ Ok (plain op registers.Zero b a z)
unfolding row_of_kind
row-store op operands a b z h k = rw (h, k) refl

row-branch : (op : Op) (operands : List Operand) (a b : Reg) (name : List ℕ) → three_operands register_of register_of name_of operands ≡ Ok (a, b, name) → row_of_kind kinds.Branch op operands ≡ Ok (branch op a b name)
unfolding row_of_kind
row-branch op operands a b name h = rw h refl

row-break : (op : Op) → row_of_kind kinds.Break op [] ≡ Ok (plain op registers.Zero registers.Zero registers.Zero (pos 0))
unfolding row_of_kind
row-break op = refl

-- the statement of a row, by its kind
row-by : (op : Op) (k : OpKind) (operands : List Operand) (ins other : SourceIns) → kind_of op ≡ k → row_of_kind k op operands ≡ Ok ins → ins ≡ other → word_statement (words.Row op) operands ≡ Ok (statements.Instruction other)
row-by op k operands ins other e h same = ap (λ k. as_instruction (row_of_kind k op operands)) e ∙ ap as_instruction h ∙ ap (λ i. Ok (statements.Instruction i)) same

-- ---- the same instruction, with the fields that its form lacks

same-plain : (i : Ins) (a b c : Reg) (z : ℤ) → a ≡ i.rd → b ≡ i.rs1 → c ≡ i.rs2 → z ≡ i.imm → plain i.op a b c z ≡ source.Plain i
same-plain i a b c z p q r s = λ j. source.Plain (record { op = i.op; rd = p j; rs1 = q j; rs2 = r j; imm = s j })

abbrev says : SourceIns → Said
says ins = States (statements.Instruction ins)

plain-read : (k : OpKind) (i : Ins) → kind_of i.op ≡ k → (k ≡ kinds.Branch → ⊥) → (k ≡ kinds.Jump → ⊥) → FitsForm (form_for k i.op) i → IsRead (plain_pieces k i) (says (source.Plain i))
plain-read kinds.Register i e nb nj h =
    read-three (mnemonic_of i.op) (register_text i.rd) (register_text i.rs1) (register_text i.rs2) (words.Row i.op) (statements.Instruction (source.Plain i)) (row-verb i.op) (register-word i.rd) (register-word i.rs1) (register-word i.rs2) (λ st. refl)
    (row-by i.op kinds.Register _ (plain i.op i.rd i.rs1 i.rs2 (pos 0)) (source.Plain i) e
    (row-register i.op _ i.rd i.rs1 i.rs2 (three-read register_of register_of register_of (word_operand (register_text i.rd) false) (word_operand (register_text i.rs1) true) (word_operand (register_text i.rs2) true) i.rd i.rs1 i.rs2 (register-operand i.rd false) (register-operand i.rs1 true) (register-operand i.rs2 true)))
    (same-plain i i.rd i.rs1 i.rs2 (pos 0) refl refl refl (sym h)))
plain-read kinds.Immediate i e nb nj h =
    let s = immediate-in i.op i h in
    read-three (mnemonic_of i.op) (register_text i.rd) (register_text i.rs1) (signed_decimal i.imm) (words.Row i.op) (statements.Instruction (source.Plain i)) (row-verb i.op) (register-word i.rd) (register-word i.rs1) (signed-word i.imm s.1) (λ st. refl)
    (row-by i.op kinds.Immediate _ (plain i.op i.rd i.rs1 registers.Zero i.imm) (source.Plain i) e
    (row-immediate i.op _ i.rd i.rs1 i.imm (three-read register_of register_of integer_of (word_operand (register_text i.rd) false) (word_operand (register_text i.rs1) true) (word_operand (signed_decimal i.imm) true) i.rd i.rs1 i.imm (register-operand i.rd false) (register-operand i.rs1 true) (signed-operand i.imm true s.1)) (in-range (immediate_range i.op) i.imm s.0))
    (same-plain i i.rd i.rs1 registers.Zero i.imm refl refl (sym s.2) refl))
plain-read kinds.Upper i e nb nj h =
    let s = upper-in i.imm h.0 in
    read-two (mnemonic_of i.op) (register_text i.rd) (signed_decimal i.imm) (words.Row i.op) (statements.Instruction (source.Plain i)) (row-verb i.op) (register-word i.rd) (signed-word i.imm s.1) (λ st. refl)
    (row-by i.op kinds.Upper _ (plain i.op i.rd registers.Zero registers.Zero i.imm) (source.Plain i) e
    (row-upper i.op _ i.rd i.imm (two-read register_of integer_of (word_operand (register_text i.rd) false) (word_operand (signed_decimal i.imm) true) i.rd i.imm (register-operand i.rd false) (signed-operand i.imm true s.1)) (in-range upper_range i.imm s.0))
    (same-plain i i.rd registers.Zero registers.Zero i.imm refl (sym (number-zero i.rs1 h.1)) (sym (number-zero i.rs2 h.2)) refl))
plain-read kinds.Load i e nb nj h =
    let s = signed-in i.imm h.0 in
    read-memory (mnemonic_of i.op) (register_text i.rd) (signed_decimal i.imm) (register_text i.rs1) (words.Row i.op) (statements.Instruction (source.Plain i)) (row-verb i.op) (register-word i.rd) (signed-word i.imm s.1) (register-word i.rs1) (λ st. refl)
    (row-by i.op kinds.Load _ (plain i.op i.rd i.rs1 registers.Zero i.imm) (source.Plain i) e
    (row-load i.op _ i.rd i.rs1 i.imm (two-read register_of memory_of (word_operand (register_text i.rd) false) (memory_lexemes (signed_decimal i.imm) (register_text i.rs1)) i.rd (record { offset = i.imm; base = i.rs1 }) (register-operand i.rd false) (memory-read (signed_decimal i.imm) (register_text i.rs1) i.imm i.rs1 (integer-signed i.imm s.1) (register-read i.rs1).0)) (in-range offset_range i.imm s.0))
    (same-plain i i.rd i.rs1 registers.Zero i.imm refl refl (sym (number-zero i.rs2 h.1)) refl))
plain-read kinds.Store i e nb nj h =
    let s = signed-in i.imm h.0 in
    read-memory (mnemonic_of i.op) (register_text i.rs2) (signed_decimal i.imm) (register_text i.rs1) (words.Row i.op) (statements.Instruction (source.Plain i)) (row-verb i.op) (register-word i.rs2) (signed-word i.imm s.1) (register-word i.rs1) (λ st. refl)
    (row-by i.op kinds.Store _ (plain i.op registers.Zero i.rs1 i.rs2 i.imm) (source.Plain i) e
    (row-store i.op _ i.rs2 i.rs1 i.imm (two-read register_of memory_of (word_operand (register_text i.rs2) false) (memory_lexemes (signed_decimal i.imm) (register_text i.rs1)) i.rs2 (record { offset = i.imm; base = i.rs1 }) (register-operand i.rs2 false) (memory-read (signed_decimal i.imm) (register_text i.rs1) i.imm i.rs1 (integer-signed i.imm s.1) (register-read i.rs1).0)) (in-range offset_range i.imm s.0))
    (same-plain i registers.Zero i.rs1 i.rs2 i.imm (sym (number-zero i.rd h.1)) refl refl refl))
plain-read kinds.Branch i e nb nj h = absurd (nb refl)
plain-read kinds.Jump i e nb nj h = absurd (nj refl)
plain-read kinds.Break i e nb nj h =
    read-alone (mnemonic_of i.op) (words.Row i.op) (statements.Instruction (source.Plain i)) (row-verb i.op) (λ st. refl)
    (row-by i.op kinds.Break [] (plain i.op registers.Zero registers.Zero registers.Zero (pos 0)) (source.Plain i) e (row-break i.op)
    (same-plain i registers.Zero registers.Zero registers.Zero (pos 0) (sym (number-zero i.rd h.1)) (sym (number-zero i.rs1 h.2)) (sym (number-zero i.rs2 h.3)) (sym h.0)))

-- ---- pseudo instructions and directives by their operands

one-name : (w : List ℕ) → is_name w ≡ true → one_operand name_of (word_operand w false ∷ []) ≡ Ok w
one-name w h = rw h refl

statement-li : (operands : List Operand) (r : Reg) (z : ℤ) → two_operands register_of integer_of operands ≡ Ok (r, z) → in_range li_range z ≡ Ok z → pseudo_statement pseudos.Li operands ≡ Ok (source.Li r z)
unfolding pseudo_statement
statement-li operands r z h k = rw (h, k) refl

statement-la : (operands : List Operand) (r : Reg) (name : List ℕ) → two_operands register_of name_of operands ≡ Ok (r, name) → pseudo_statement pseudos.La operands ≡ Ok (source.La r (targets.Name name))
unfolding pseudo_statement
statement-la operands r name h = rw h refl

statement-jump : (operands : List Operand) (name : List ℕ) → one_operand name_of operands ≡ Ok name → pseudo_statement pseudos.J operands ≡ Ok (source.Jump (targets.Name name))
unfolding pseudo_statement
statement-jump operands name h = rw h refl

statement-call : (operands : List Operand) (name : List ℕ) → one_operand name_of operands ≡ Ok name → pseudo_statement pseudos.Call operands ≡ Ok (source.Call name)
unfolding pseudo_statement
statement-call operands name h = rw h refl

statement-return : pseudo_statement pseudos.Ret [] ≡ Ok source.Ret
unfolding pseudo_statement
statement-return = refl

statement-fork : (operands : List Operand) (r : Reg) → one_operand register_of operands ≡ Ok r → directive_statement directives.Fork operands ≡ Ok (statements.Instruction (source.Fork r))
unfolding directive_statement
statement-fork operands r h = rw h refl

statement-arguments : (operands : List Operand) (m n : ℕ) → two_operands integer_of integer_of operands ≡ Ok (pos m, pos n) → count_up_to 6 (pos m) ≡ Ok m → count_up_to 2 (pos n) ≡ Ok n → directive_statement directives.Arguments operands ≡ Ok (statements.Arguments m n)
unfolding directive_statement
statement-arguments operands m n h k l = rw (h, k, l) refl

statement-handles : (operands : List Operand) (n : ℕ) → one_operand integer_of operands ≡ Ok (pos n) → count_up_to 252 (pos n) ≡ Ok n → directive_statement directives.Handles operands ≡ Ok (statements.Handles n)
unfolding directive_statement
statement-handles operands n h k = rw (h, k) refl

statement-section : (g : Bool) → directive_statement directives.Section (word_operand (codes ".rodata") g ∷ []) ≡ Ok statements.Rodata
unfolding directive_statement
statement-section g = refl

one-operand : {A : Type 0} → (f : Operand → Option A) (a : Operand) (x : A) → f a ≡ Some x → one_operand f (a ∷ []) ≡ Ok x
one-operand f a x h = rw h refl

count-in : (most n : ℕ) → n ≤ most → count_up_to most (pos n) ≡ Ok n
count-in most n h = let k : within 0 most n ≡ true = grind arith in rw k refl

-- ---- instructions

-- an instruction with the names that the text has for its targets
abbrev pub written : List Target → SourceIns → SourceIns
written spots (source.La rd to) = source.La rd (targets.Name (target_text spots to))
written spots (source.Branch op rs1 rs2 to) = source.Branch op rs1 rs2 (targets.Name (target_text spots to))
written spots (source.Jump to) = source.Jump (targets.Name (target_text spots to))
written spots ins = ins

-- the instruction has a line that is read as it
abbrev pub Readable : List Target → SourceIns → Type 0
Readable spots (source.Plain i) = FitsTable i × (kind_of i.op ≡ kinds.Branch → ⊥) × (kind_of i.op ≡ kinds.Jump → ⊥)
Readable spots (source.Li rd value) = (neg_ℤ (pos (2 ^ 31)) ≤ℤ value) × (value <ℤ pos (2 ^ 31))
Readable spots (source.La rd to) = is_name (target_text spots to) ≡ true
Readable spots (source.Branch op rs1 rs2 to) = (kind_of op ≡ kinds.Branch) × (is_name (target_text spots to) ≡ true)
Readable spots (source.Jump to) = is_name (target_text spots to) ≡ true
Readable spots (source.Call name) = is_name name ≡ true
Readable spots source.Ret = Unit {0}
Readable spots (source.Fork handle) = Unit {0}

pub instruction-read : (spots : List Target) (ins : SourceIns) → Readable spots ins → IsRead (ins_pieces spots ins) (says (written spots ins))
instruction-read spots (source.Plain i) h = plain-read (kind_of i.op) i refl h.1 h.2 (fits-form i h.0)
instruction-read spots (source.Li rd value) h =
    let s = constant-in value h.0 h.1 in
    read-two (codes "li") (register_text rd) (signed_decimal value) (words.Pseudo pseudos.Li) (statements.Instruction (source.Li rd value)) li-verb (register-word rd) (signed-word value s.1) (λ st. refl)
    (ap as_instruction (statement-li _ rd value (two-read register_of integer_of (word_operand (register_text rd) false) (word_operand (signed_decimal value) true) rd value (register-operand rd false) (signed-operand value true s.1)) (in-range li_range value s.0)))
instruction-read spots (source.La rd to) h =
    let w = target_text spots to in
    read-two (codes "la") (register_text rd) w (words.Pseudo pseudos.La) (statements.Instruction (source.La rd (targets.Name w))) la-verb (register-word rd) (name-word w h) (λ st. refl)
    (ap as_instruction (statement-la _ rd w (two-read register_of name_of (word_operand (register_text rd) false) (word_operand w true) rd w (register-operand rd false) (name-operand w true h))))
instruction-read spots (source.Branch op rs1 rs2 to) h =
    let w = target_text spots to in
    read-three (mnemonic_of op) (register_text rs1) (register_text rs2) w (words.Row op) (statements.Instruction (branch op rs1 rs2 w)) (row-verb op) (register-word rs1) (register-word rs2) (name-word w h.1) (λ st. refl)
    (row-by op kinds.Branch _ (branch op rs1 rs2 w) (branch op rs1 rs2 w) h.0
    (row-branch op _ rs1 rs2 w (three-read register_of register_of name_of (word_operand (register_text rs1) false) (word_operand (register_text rs2) true) (word_operand w true) rs1 rs2 w (register-operand rs1 false) (register-operand rs2 true) (name-operand w true h.1))) refl)
instruction-read spots (source.Jump to) h =
    let w = target_text spots to in
    read-one (codes "j") w (words.Pseudo pseudos.J) (statements.Instruction (source.Jump (targets.Name w))) jump-verb (name-word w h) (λ st. refl)
    (ap as_instruction (statement-jump _ w (one-operand name_of (word_operand w false) w (name-operand w false h))))
instruction-read spots (source.Call name) h =
    read-one (codes "call") name (words.Pseudo pseudos.Call) (statements.Instruction (source.Call name)) call-verb (name-word name h) (λ st. refl)
    (ap as_instruction (statement-call _ name (one-operand name_of (word_operand name false) name (name-operand name false h))))
instruction-read spots source.Ret h = read-alone (codes "ret") (words.Pseudo pseudos.Ret) (statements.Instruction source.Ret) return-verb (λ st. refl) (ap as_instruction statement-return)
instruction-read spots (source.Fork handle) h =
    read-one (codes ".st_fork") (register_text handle) (words.Directive directives.Fork) (statements.Instruction (source.Fork handle)) fork-verb (register-word handle) (λ st. refl)
    (statement-fork _ handle (one-operand register_of (word_operand (register_text handle) false) handle (register-operand handle false)))

-- ---- the head of a function, and data

pub arguments-read : (ints handles : ℕ) → ints ≤ 6 → handles ≤ 2 → IsRead (with_operands (codes ".st_args") (number ints ∷ comma ∷ number handles ∷ [])) (States (statements.Arguments ints handles))
arguments-read ints handles h k =
    let small : ints < 2 ^ 64 = omega arith in
    let few : handles < 2 ^ 64 = omega arith in
    read-two (codes ".st_args") (decimal ints) (decimal handles) (words.Directive directives.Arguments) (statements.Arguments ints handles) arguments-verb (decimal-word ints small) (decimal-word handles few) (λ st. refl)
    (statement-arguments _ ints handles (two-read integer_of integer_of (word_operand (decimal ints) false) (word_operand (decimal handles) true) (pos ints) (pos handles) (number-operand ints false small) (number-operand handles true few)) (count-in 6 ints h) (count-in 2 handles k))

pub handles-read : (slots : ℕ) → slots ≤ 252 → IsRead (with_operands (codes ".st_handles") (number slots ∷ [])) (States (statements.Handles slots))
handles-read slots h =
    let small : slots < 2 ^ 64 = omega arith in
    read-one (codes ".st_handles") (decimal slots) (words.Directive directives.Handles) (statements.Handles slots) handles-verb (decimal-word slots small) (λ st. refl)
    (statement-handles _ slots (one-operand integer_of (word_operand (decimal slots) false) (pos slots) (number-operand slots false small)) (count-in 252 slots h))

pub section-read : IsRead (with_operands (codes ".section") (Word (codes ".rodata") ∷ [])) (States statements.Rodata)
section-read = read-one (codes ".section") (codes ".rodata") (words.Directive directives.Section) statements.Rodata section-verb refl (λ st. refl) (statement-section false)

byte-in : (b : ℕ) → b < 256 → is_in (data_range sizes.Byte) (pos b) ≡ true
byte-in b h = grind (arith, ints)

byte-low : (b : ℕ) → b < 256 → word_of (pos b) % 256 ≡ b
byte-low b h = omega (arith, ints)

statement-byte : (a : Operand) (b : ℕ) → b < 256 → integer_of a ≡ Some (pos b) → directive_statement (directives.Numbers sizes.Byte) (a ∷ []) ≡ Ok (statements.Data (b ∷ []))
unfolding directive_statement numbers_statement
statement-byte a b h e = let k = byte-in b h in rw (e, k) (ap (λ n. Ok (statements.Data (n ∷ []))) (byte-low b h))

pub byte-read : (b : ℕ) → b < 256 → IsRead (with_operands (codes ".byte") (number b ∷ [])) (States (statements.Data (b ∷ [])))
byte-read b h =
    let small : b < 2 ^ 64 = omega arith in
    read-one (codes ".byte") (decimal b) (words.Directive (directives.Numbers sizes.Byte)) (statements.Data (b ∷ [])) byte-verb (decimal-word b small) (λ st. refl)
    (statement-byte (word_operand (decimal b) false) b h (number-operand b false small))
