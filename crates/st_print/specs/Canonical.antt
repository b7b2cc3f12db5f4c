-- The canonical text of a unit (unit_text). A line is written in pieces: blanks, marks and words; so its lexemes can be told without
-- lexing it again. Mnemonics are those of the instruction table and li, la, j, call, ret, .st_fork.
use Rattle.std.specs.Prelude.{ℕ, ◌+◌, ℤ, Bool, true, false, ◌||◌, List, [], ◌∷◌, ◌++◌, Option, Some, None, codes, decimal, map}
use Rattle.std.specs.Fmt.{signed_decimal}
use Rattle.st_base.specs.declared.reg.Reg.{Reg}
use Rattle.st_base.specs.Reg.{reg_number}
use Rattle.st_rv.specs.declared.ins.Ins.{Ins}
use Rattle.st_rv.specs.declared.ins.OpKind.{OpKind}
use Rattle.st_rv.specs.declared.ins.OpKind.TheVariants as kinds
use Rattle.st_rv.specs.Op.{kind_of}
use Rattle.st_rv.specs.Rows.{mnemonic_of}
use Rattle.st_line.specs.declared.words.TheConstants.{REGISTERS}
use Rattle.st_line.specs.declared.source.Target.{Target}
use Rattle.st_line.specs.declared.source.Target.TheVariants as targets
use Rattle.st_line.specs.declared.source.SourceIns.{SourceIns}
use Rattle.st_line.specs.declared.source.SourceIns.TheVariants as source
use Rattle.st_asm.specs.declared.unit.SourceLine.{SourceLine}
use Rattle.st_asm.specs.declared.unit.Function.{Function}
use Rattle.st_print.specs.Spots.{spots_of, spot_number}
use Rattle.std.specs.Prelude.{slice_index_or}

-- ---- pieces

pub data Piece : Type 0 where
  Blank : Piece
  Mark : ℕ → Piece
  Word : List ℕ → Piece

abbrev pub piece_text : Piece → List ℕ
piece_text Blank = 32 ∷ []
piece_text (Mark b) = b ∷ []
piece_text (Word bs) = bs

abbrev pub spelled : List Piece → List ℕ
spelled [] = []
spelled (p ∷ ps) = piece_text p ++ spelled ps

-- lines of pieces, each with its end
abbrev pub lines_text : List (List Piece) → List ℕ
lines_text [] = []
lines_text (line ∷ lines) = spelled line ++ 10 ∷ lines_text lines

abbrev pub comma : Piece
comma = Mark 44

-- four blanks before a word
abbrev pub statement : List ℕ → List Piece → List Piece
statement word ps = Blank ∷ Blank ∷ Blank ∷ Blank ∷ Word word ∷ ps

-- one blank between a word and its operands
abbrev pub with_operands : List ℕ → List Piece → List Piece
with_operands word ps = statement word (Blank ∷ ps)

-- ---- operands

-- the name of a register by the calling convention
abbrev pub register_text : Reg → List ℕ
register_text r = slice_index_or (map (λ p. p.1.now) REGISTERS) (reg_number r) []

abbrev pub register : Reg → Piece
register r = Word (register_text r)

abbrev pub number : ℕ → Piece
number n = Word (decimal n)

abbrev pub signed : ℤ → Piece
signed n = Word (signed_decimal n)

abbrev pub memory : ℤ → Reg → List Piece
memory offset base = signed offset ∷ Mark 40 ∷ register base ∷ Mark 41 ∷ []

-- `.Lk`
abbrev pub label_text : ℕ → List ℕ
label_text k = codes ".L" ++ decimal k

abbrev pub numbered_label : Option ℕ → List ℕ
numbered_label None = []
numbered_label (Some k) = label_text k

-- the label of a place, or a name as it is
abbrev pub target_text : List Target → Target → List ℕ
target_text spots (targets.Name name) = name
target_text spots spot = numbered_label (spot_number spots spot)

abbrev pub target : List Target → Target → Piece
target spots to = Word (target_text spots to)

-- ---- instructions

abbrev pub plain_pieces : OpKind → Ins → List Piece
plain_pieces kinds.Register i = with_operands (mnemonic_of i.op) (register i.rd ∷ comma ∷ register i.rs1 ∷ comma ∷ register i.rs2 ∷ [])
plain_pieces kinds.Immediate i = with_operands (mnemonic_of i.op) (register i.rd ∷ comma ∷ register i.rs1 ∷ comma ∷ signed i.imm ∷ [])
plain_pieces kinds.Upper i = with_operands (mnemonic_of i.op) (register i.rd ∷ comma ∷ signed i.imm ∷ [])
plain_pieces kinds.Load i = with_operands (mnemonic_of i.op) (register i.rd ∷ comma ∷ memory i.imm i.rs1)
plain_pieces kinds.Store i = with_operands (mnemonic_of i.op) (register i.rs2 ∷ comma ∷ memory i.imm i.rs1)
plain_pieces _ i = statement (mnemonic_of i.op) []

abbrev pub ins_pieces : List Target → SourceIns → List Piece
ins_pieces spots (source.Plain i) = plain_pieces (kind_of i.op) i
ins_pieces spots (source.Li rd value) = with_operands (codes "li") (register rd ∷ comma ∷ signed value ∷ [])
ins_pieces spots (source.La rd to) = with_operands (codes "la") (register rd ∷ comma ∷ target spots to ∷ [])
ins_pieces spots (source.Branch op rs1 rs2 to) = with_operands (mnemonic_of op) (register rs1 ∷ comma ∷ register rs2 ∷ comma ∷ target spots to ∷ [])
ins_pieces spots (source.Jump to) = with_operands (codes "j") (target spots to ∷ [])
ins_pieces spots (source.Call name) = with_operands (codes "call") (Word name ∷ [])
ins_pieces spots source.Ret = statement (codes "ret") []
ins_pieces spots (source.Fork handle) = with_operands (codes ".st_fork") (register handle ∷ [])

-- ---- lines

abbrev pub label_line : List ℕ → List Piece
label_line name = Word name ∷ Mark 58 ∷ []

-- the line of a place's label, where an operand names it
abbrev pub spot_line : Option ℕ → List (List Piece)
spot_line None = []
spot_line (Some k) = label_line (label_text k) ∷ []

abbrev pub spot_lines : List Target → Target → List (List Piece)
spot_lines spots spot = spot_line (spot_number spots spot)

-- the items of a function from one on; a label may stand at their end
abbrev pub item_lines : List Target → ℕ → ℕ → List SourceLine → List (List Piece)
item_lines spots f i [] = spot_lines spots (targets.Place f i)
item_lines spots f i (item ∷ items) = spot_lines spots (targets.Place f i) ++ ins_pieces spots item.ins ∷ item_lines spots f (i + 1) items

abbrev pub function_lines : List Target → ℕ → Function → List (List Piece)
function_lines spots f function =
    label_line function.name ∷ with_operands (codes ".st_args") (number function.ints ∷ comma ∷ number function.handles ∷ []) ∷ with_operands (codes ".st_handles") (number function.slots ∷ []) ∷ item_lines spots f 0 function.items

abbrev pub functions_lines : List Target → ℕ → List Function → List (List Piece)
functions_lines spots f [] = []
functions_lines spots f (g ∷ gs) = function_lines spots f g ++ functions_lines spots (f + 1) gs

-- the bytes from an offset on; a label may stand at their end
abbrev pub byte_lines : List Target → ℕ → List ℕ → List (List Piece)
byte_lines spots at [] = spot_lines spots (targets.Data at)
byte_lines spots at (b ∷ bs) = spot_lines spots (targets.Data at) ++ with_operands (codes ".byte") (number b ∷ []) ∷ byte_lines spots (at + 1) bs

-- ---- the text

abbrev pub is_address : SourceIns → Bool
is_address (source.La rd to) = true
is_address _ = false

abbrev pub has_address : List SourceLine → Bool
has_address [] = false
has_address (item ∷ items) = is_address item.ins || has_address items

abbrev pub have_address : List Function → Bool
have_address [] = false
have_address (f ∷ fs) = has_address f.items || have_address fs

-- a place of the data is named
abbrev pub is_in_data : Target → Bool
is_in_data (targets.Data offset) = true
is_in_data _ = false

abbrev pub names_data : List Target → Bool
names_data [] = false
names_data (s ∷ ss) = is_in_data s || names_data ss

abbrev pub is_some_byte : List ℕ → Bool
is_some_byte [] = false
is_some_byte (b ∷ bs) = true

-- the read-only data follows where there is some, or a `la`, or an operand that names a place in it
abbrev pub data_lines : Bool → List Target → List ℕ → List (List Piece)
data_lines false spots rodata = []
data_lines true spots rodata = with_operands (codes ".section") (Word (codes ".rodata") ∷ []) ∷ byte_lines spots 0 rodata

abbrev pub needs_data : List Function → List ℕ → Bool
needs_data functions rodata = is_some_byte rodata || have_address functions || names_data (spots_of functions rodata)

unfoldable pub unit_lines : List Function → List ℕ → List (List Piece)
unit_lines functions rodata =
    functions_lines (spots_of functions rodata) 0 functions ++ data_lines (needs_data functions rodata) (spots_of functions rodata) rodata

unfoldable pub unit_text : List Function → List ℕ → List ℕ
unit_text functions rodata = lines_text (unit_lines functions rodata)
