-- The statement of a line (line_statement) and the label that it defines (line_label). Faults come in the order of their kinds, E1 to E5:
-- a byte that isn't allowed, a line without the form of a line or in a wrong place, an unknown word, operands of wrong number or form, an
-- integer out of its range. Faults that hang on other lines aren't here.
use Rattle.std.specs.Prelude.{ℕ, zero, suc, ◌%◌, ◌/◌, ℤ, pos, negsuc, int_lt, Bool, true, false, not, ◌&&◌, ◌||◌, ◌==◌, List, [], ◌∷◌, ◌++◌, Option, Some, None, Result, Ok, Err, if◌then◌else◌, codes}
use Rattle.std.specs.List.{list_all}
use Rattle.std.specs.Str.{bytes_eq}
use Rattle.st_base.specs.declared.reg.Reg.{Reg}
use Rattle.st_base.specs.declared.reg.Reg.TheVariants as registers
use Rattle.st_rv.specs.declared.ins.Op.{Op}
use Rattle.st_rv.specs.declared.ins.Op.TheVariants as ops
use Rattle.st_rv.specs.declared.ins.OpKind.{OpKind}
use Rattle.st_rv.specs.declared.ins.OpKind.TheVariants as kinds
use Rattle.st_rv.specs.Op.{kind_of}
use Rattle.st_rv.specs.Results.{word_of}
use Rattle.st_base.specs.Reg.{reg_number}
use Rattle.st_line.specs.declared.fault.AsmKind.{AsmKind}
use Rattle.st_line.specs.declared.fault.AsmKind.TheVariants.{NotAscii, BadLine, UnknownName, BadOperand, ImmRange}
use Rattle.st_line.specs.declared.source.Target.TheVariants as targets
use Rattle.st_line.specs.declared.source.SourceIns.{SourceIns}
use Rattle.st_line.specs.declared.source.SourceIns.TheVariants as source
use Rattle.st_line.specs.declared.source.Statement.{Statement}
use Rattle.st_line.specs.declared.source.Statement.TheVariants as statements
use Rattle.st_line.specs.declared.source.Standing.{Standing}
use Rattle.st_line.specs.declared.words.Pseudo.{Pseudo}
use Rattle.st_line.specs.declared.words.Pseudo.TheVariants as pseudos
use Rattle.st_line.specs.declared.words.Directive.{Directive}
use Rattle.st_line.specs.declared.words.Directive.TheVariants as directives
use Rattle.st_line.specs.declared.words.NumberSize.{NumberSize}
use Rattle.st_line.specs.declared.words.NumberSize.TheVariants as sizes
use Rattle.st_line.specs.declared.words.Word.{Word}
use Rattle.st_line.specs.declared.words.Word.TheVariants as words
use Rattle.st_line.specs.Operands.{Lex, lexemes_of, within, is_name, is_mark, Operand, operands_of, register_of, integer_of, Memory, memory_of, name_of, string_of}
use Rattle.st_line.specs.Words.{word_named, may_stand}

infixl 10 ◌>>=◌
abbrev pub ◌>>=◌ : {A B : Type 0} → Result A AsmKind → (A → Result B AsmKind) → Result B AsmKind
(Ok x) >>= f = f x
(Err e) >>= f = Err e

abbrev pub require : Bool → AsmKind → Result (Unit {0}) AsmKind
require true k = Ok tt
require false k = Err k

abbrev pub required : {T : Type 0} → Option T → AsmKind → Result T AsmKind
required None k = Err k
required (Some x) k = Ok x

-- ---- so many operands, each of its form

abbrev pub no_operands : List Operand → Result (Unit {0}) AsmKind
no_operands [] = Ok tt
no_operands _ = Err BadOperand

abbrev pub one_operand : {A : Type 0} → (Operand → Option A) → List Operand → Result A AsmKind
one_operand f (a ∷ []) = required (f a) BadOperand
one_operand f _ = Err BadOperand

unfoldable pub two_operands : {A B : Type 0} → (Operand → Option A) → (Operand → Option B) → List Operand → Result (A × B) AsmKind
two_operands f g (a ∷ b ∷ []) = do
  x ← required (f a) BadOperand
  y ← required (g b) BadOperand
  Ok (x, y)
two_operands f g _ = Err BadOperand

unfoldable pub three_operands : {A B C : Type 0} → (Operand → Option A) → (Operand → Option B) → (Operand → Option C) → List Operand → Result (A × B × C) AsmKind
three_operands f g h (a ∷ b ∷ c ∷ []) = do
  x ← required (f a) BadOperand
  y ← required (g b) BadOperand
  z ← required (h c) BadOperand
  Ok (x, y, z)
three_operands f g h _ = Err BadOperand

-- ---- ranges

-- a range of integers, both ends in it
abbrev pub Range : Type 0
Range = ℤ × ℤ

abbrev pub is_in : Range → ℤ → Bool
is_in range n = not (int_lt n range.0) && not (int_lt range.1 n)

abbrev pub in_range : Range → ℤ → Result ℤ AsmKind
in_range range n = if is_in range n then Ok n else Err ImmRange

-- signed 12-bit immediates; shift amounts of 6 and of 5 bits
abbrev pub immediate_range : Op → Range
immediate_range ops.Slli = (pos 0, pos 63)
immediate_range ops.Srli = (pos 0, pos 63)
immediate_range ops.Srai = (pos 0, pos 63)
immediate_range ops.Slliw = (pos 0, pos 31)
immediate_range ops.Srliw = (pos 0, pos 31)
immediate_range ops.Sraiw = (pos 0, pos 31)
immediate_range _ = (negsuc 2047, pos 2047)

abbrev pub offset_range : Range
offset_range = (negsuc 2047, pos 2047)

abbrev pub upper_range : Range
upper_range = (pos 0, pos 0xfffff)

abbrev pub li_range : Range
li_range = (negsuc 0x7fffffff, pos 0x7fffffff)

-- data of k bits: from -2^(k-1) to 2^k - 1
abbrev pub data_range : NumberSize → Range
data_range sizes.Byte = (negsuc 0x7f, pos 0xff)
data_range sizes.Half = (negsuc 0x7fff, pos 0xffff)
data_range sizes.Word = (negsuc 0x7fffffff, pos 0xffffffff)
data_range sizes.Double = (negsuc 0x7fffffffffffffff, pos 0xffffffffffffffff)

abbrev pub data_bytes : NumberSize → ℕ
data_bytes sizes.Byte = 1
data_bytes sizes.Half = 2
data_bytes sizes.Word = 4
data_bytes sizes.Double = 8

-- ---- instructions

abbrev pub plain : Op → Reg → Reg → Reg → ℤ → SourceIns
plain op rd rs1 rs2 imm = source.Plain (record { op = op; rd = rd; rs1 = rs1; rs2 = rs2; imm = imm })

abbrev pub branch : Op → Reg → Reg → List ℕ → SourceIns
branch op rs1 rs2 name = source.Branch op rs1 rs2 (targets.Name name)

abbrev pub is_register : Reg → Reg → Bool
is_register r s = reg_number r == reg_number s

-- `jal ra,name` is a call and `jal zero,name` a jump; there is no other `jal`
abbrev pub linked : Reg → List ℕ → Result SourceIns AsmKind
linked rd name =
    if is_register rd registers.Ra then Ok (source.Call name)
    else (if is_register rd registers.Zero then Ok (source.Jump (targets.Name name)) else Err BadOperand)

-- the only `jalr` is `jalr zero,0(ra)`
abbrev pub returned : Reg → Memory → Result SourceIns AsmKind
returned rd to =
    if is_register rd registers.Zero && is_register to.base registers.Ra && not (int_lt to.offset (pos 0)) && not (int_lt (pos 0) to.offset) then Ok source.Ret else Err BadOperand

unfoldable pub jump_row : Op → List Operand → Result SourceIns AsmKind
jump_row ops.Jal operands = do
  r ← two_operands register_of name_of operands
  linked r.0 r.1
jump_row _ operands = do
  r ← two_operands register_of memory_of operands
  returned r.0 r.1

-- a row of the instruction table, by what its operation does
unfoldable pub row_of_kind : OpKind → Op → List Operand → Result SourceIns AsmKind
row_of_kind kinds.Register op operands = do
  r ← three_operands register_of register_of register_of operands
  Ok (plain op r.0 r.1 r.2 (pos 0))
row_of_kind kinds.Immediate op operands = do
  r ← three_operands register_of register_of integer_of operands
  imm ← in_range (immediate_range op) r.2
  Ok (plain op r.0 r.1 registers.Zero imm)
row_of_kind kinds.Upper op operands = do
  r ← two_operands register_of integer_of operands
  imm ← in_range upper_range r.1
  Ok (plain op r.0 registers.Zero registers.Zero imm)
row_of_kind kinds.Load op operands = do
  r ← two_operands register_of memory_of operands
  imm ← in_range offset_range r.1.offset
  Ok (plain op r.0 r.1.base registers.Zero imm)
row_of_kind kinds.Store op operands = do
  r ← two_operands register_of memory_of operands
  imm ← in_range offset_range r.1.offset
  Ok (plain op registers.Zero r.1.base r.0 imm)
row_of_kind kinds.Branch op operands = do
  r ← three_operands register_of register_of name_of operands
  Ok (branch op r.0 r.1 r.2)
row_of_kind kinds.Jump op operands = jump_row op operands
row_of_kind kinds.Break op operands = do
  none ← no_operands operands
  Ok (plain op registers.Zero registers.Zero registers.Zero (pos 0))

abbrev pub row_statement : Op → List Operand → Result SourceIns AsmKind
row_statement op operands = row_of_kind (kind_of op) op operands

-- ---- pseudo instructions, each of one instruction

-- `name d,s`
unfoldable pub of_two : (Reg → Reg → SourceIns) → List Operand → Result SourceIns AsmKind
of_two make operands = do
  r ← two_operands register_of register_of operands
  Ok (make r.0 r.1)

-- `name s,label`
unfoldable pub branch_of_one : (Reg → List ℕ → SourceIns) → List Operand → Result SourceIns AsmKind
branch_of_one make operands = do
  r ← two_operands register_of name_of operands
  Ok (make r.0 r.1)

-- `name a,b,label`
unfoldable pub branch_of_two : (Reg → Reg → List ℕ → SourceIns) → List Operand → Result SourceIns AsmKind
branch_of_two make operands = do
  r ← three_operands register_of register_of name_of operands
  Ok (make r.0 r.1 r.2)

unfoldable pub pseudo_statement : Pseudo → List Operand → Result SourceIns AsmKind
pseudo_statement pseudos.Nop operands = do
  none ← no_operands operands
  Ok (plain ops.Addi registers.Zero registers.Zero registers.Zero (pos 0))
pseudo_statement pseudos.Mv operands = of_two (λ d s. plain ops.Addi d s registers.Zero (pos 0)) operands
pseudo_statement pseudos.Not operands = of_two (λ d s. plain ops.Xori d s registers.Zero (negsuc 0)) operands
pseudo_statement pseudos.Neg operands = of_two (λ d s. plain ops.Sub d registers.Zero s (pos 0)) operands
pseudo_statement pseudos.Negw operands = of_two (λ d s. plain ops.Subw d registers.Zero s (pos 0)) operands
pseudo_statement pseudos.SextW operands = of_two (λ d s. plain ops.Addiw d s registers.Zero (pos 0)) operands
pseudo_statement pseudos.Seqz operands = of_two (λ d s. plain ops.Sltiu d s registers.Zero (pos 1)) operands
pseudo_statement pseudos.Snez operands = of_two (λ d s. plain ops.Sltu d registers.Zero s (pos 0)) operands
pseudo_statement pseudos.Sltz operands = of_two (λ d s. plain ops.Slt d s registers.Zero (pos 0)) operands
pseudo_statement pseudos.Sgtz operands = of_two (λ d s. plain ops.Slt d registers.Zero s (pos 0)) operands
pseudo_statement pseudos.Beqz operands = branch_of_one (λ s to. branch ops.Beq s registers.Zero to) operands
pseudo_statement pseudos.Bnez operands = branch_of_one (λ s to. branch ops.Bne s registers.Zero to) operands
pseudo_statement pseudos.Blez operands = branch_of_one (λ s to. branch ops.Bge registers.Zero s to) operands
pseudo_statement pseudos.Bgez operands = branch_of_one (λ s to. branch ops.Bge s registers.Zero to) operands
pseudo_statement pseudos.Bltz operands = branch_of_one (λ s to. branch ops.Blt s registers.Zero to) operands
pseudo_statement pseudos.Bgtz operands = branch_of_one (λ s to. branch ops.Blt registers.Zero s to) operands
pseudo_statement pseudos.Bgt operands = branch_of_two (λ a b to. branch ops.Blt b a to) operands
pseudo_statement pseudos.Ble operands = branch_of_two (λ a b to. branch ops.Bge b a to) operands
pseudo_statement pseudos.Bgtu operands = branch_of_two (λ a b to. branch ops.Bltu b a to) operands
pseudo_statement pseudos.Bleu operands = branch_of_two (λ a b to. branch ops.Bgeu b a to) operands
pseudo_statement pseudos.J operands = do
  name ← one_operand name_of operands
  Ok (source.Jump (targets.Name name))
pseudo_statement pseudos.Call operands = do
  name ← one_operand name_of operands
  Ok (source.Call name)
pseudo_statement pseudos.Ret operands = do
  none ← no_operands operands
  Ok source.Ret
pseudo_statement pseudos.Jr operands = do
  r ← one_operand register_of operands
  to ← require (is_register r registers.Ra) BadOperand
  Ok source.Ret
pseudo_statement pseudos.Li operands = do
  r ← two_operands register_of integer_of operands
  value ← in_range li_range r.1
  Ok (source.Li r.0 value)
pseudo_statement pseudos.La operands = do
  r ← two_operands register_of name_of operands
  Ok (source.La r.0 (targets.Name r.1))

-- ---- directives

-- the low bytes of a number, the lowest first
abbrev pub little_endian : ℕ → ℕ → List ℕ
little_endian zero n = []
little_endian (suc k) n = n % 256 ∷ little_endian k (n / 256)

-- the operands are all integers
abbrev pub and_integer : Option ℤ → Option (List ℤ) → Option (List ℤ)
and_integer (Some n) (Some ns) = Some (n ∷ ns)
and_integer _ _ = None

abbrev pub integers_of : List Operand → Option (List ℤ)
integers_of [] = Some []
integers_of (a ∷ rest) = and_integer (integer_of a) (integers_of rest)

abbrev pub at_least_one : List Operand → Option (List ℤ)
at_least_one [] = None
at_least_one (a ∷ rest) = integers_of (a ∷ rest)

abbrev pub bytes_of_numbers : NumberSize → List ℤ → List ℕ
bytes_of_numbers size [] = []
bytes_of_numbers size (n ∷ ns) = little_endian (data_bytes size) (word_of n) ++ bytes_of_numbers size ns

unfoldable pub numbers_statement : NumberSize → List Operand → Result Statement AsmKind
numbers_statement size operands = do
  ns ← required (at_least_one operands) BadOperand
  ranges ← require (list_all (is_in (data_range size)) ns) ImmRange
  Ok (statements.Data (bytes_of_numbers size ns))

-- a number in a range from 0 on
abbrev pub count_up_to : ℕ → ℤ → Result ℕ AsmKind
count_up_to most (pos n) = if within 0 most n then Ok n else Err ImmRange
count_up_to most (negsuc n) = Err ImmRange

abbrev pub is_rodata : List ℕ → Result Statement AsmKind
is_rodata name = if bytes_eq name (codes ".rodata") then Ok statements.Rodata else Err BadOperand

unfoldable pub directive_statement : Directive → List Operand → Result Statement AsmKind
directive_statement directives.Text operands = do
  none ← no_operands operands
  Ok statements.Code
directive_statement directives.Section operands = do
  name ← one_operand name_of operands
  is_rodata name
directive_statement directives.Ignored operands = Ok statements.Ignored
directive_statement directives.Align operands = do
  n ← one_operand integer_of operands
  power ← count_up_to 12 n
  Ok (statements.Align power)
directive_statement (directives.Numbers size) operands = numbers_statement size operands
directive_statement directives.Ascii operands = do
  bytes ← one_operand string_of operands
  Ok (statements.Data bytes)
directive_statement directives.Asciz operands = do
  bytes ← one_operand string_of operands
  Ok (statements.Data (bytes ++ 0 ∷ []))
directive_statement directives.Zero operands = do
  n ← one_operand integer_of operands
  count ← count_up_to 1048576 n
  Ok (statements.Zeros count)
directive_statement directives.Arguments operands = do
  n ← two_operands integer_of integer_of operands
  ints ← count_up_to 6 n.0
  handles ← count_up_to 2 n.1
  Ok (statements.Arguments ints handles)
directive_statement directives.Handles operands = do
  n ← one_operand integer_of operands
  slots ← count_up_to 252 n
  Ok (statements.Handles slots)
directive_statement directives.Fork operands = do
  handle ← one_operand register_of operands
  Ok (statements.Instruction (source.Fork handle))

-- ---- lines

abbrev pub as_instruction : Result SourceIns AsmKind → Result Statement AsmKind
as_instruction (Ok ins) = Ok (statements.Instruction ins)
as_instruction (Err k) = Err k

abbrev pub word_statement : Word → List Operand → Result Statement AsmKind
word_statement (words.Row op) operands = as_instruction (row_statement op operands)
word_statement (words.Pseudo p) operands = as_instruction (pseudo_statement p operands)
word_statement (words.Directive d) operands = directive_statement d operands

-- the label at a line's beginning, and what follows it
abbrev pub label_and_rest : List Lex → Option (List ℕ) × List Lex
label_and_rest (n ∷ c ∷ rest) = if is_name n.text && c.glued && is_mark 58 c then (Some n.text, rest) else (None, n ∷ c ∷ rest)
label_and_rest rest = (None, rest)

-- a statement's first word, behind which a blank stands where anything follows, and the rest
abbrev pub word_and_rest : List Lex → Result (List ℕ × List Lex) AsmKind
word_and_rest [] = Err BadLine
word_and_rest (n ∷ []) = if is_name n.text then Ok (n.text, []) else Err BadLine
word_and_rest (n ∷ m ∷ rest) = if is_name n.text && not m.glued then Ok (n.text, m ∷ rest) else Err BadLine

unfoldable pub statement_of : Standing → List Lex → Result (Option Statement) AsmKind
statement_of st [] = Ok None
statement_of st (l ∷ ls) = do
  first ← word_and_rest (l ∷ ls)
  word ← required (word_named first.0) UnknownName
  place ← require (may_stand st word) BadLine
  statement ← word_statement word (operands_of first.1)
  Ok (Some statement)

-- tab, line feed, carriage return, and the printable characters
abbrev pub is_allowed : ℕ → Bool
is_allowed b = b == 9 || b == 10 || b == 13 || within 32 126 b

-- the label that a line defines, whatever else stands on it; a line with a byte that isn't allowed defines none
abbrev pub line_label : List ℕ → Option (List ℕ)
line_label text = if list_all is_allowed text then (label_and_rest (lexemes_of text)).0 else None

-- the statement behind a line's label, where it stands so; none on a line without one
unfoldable pub line_statement : Standing → List ℕ → Result (Option Statement) AsmKind
line_statement st text = do
  ascii ← require (list_all is_allowed text) NotAscii
  statement_of st (label_and_rest (lexemes_of text)).1
