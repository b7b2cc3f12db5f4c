-- What a statement's first word names (word_named) by the mnemonics, the pseudo instructions (pseudo_rows) and the directives
-- (directive_rows), and where a statement may stand (may_stand).
use Rattle.std.specs.Prelude.{ℕ, Bool, true, false, not, ◌&&◌, List, [], ◌∷◌, Option, Some, None, codes}
use Rattle.st_rv.specs.declared.ins.Op.{Op}
use Rattle.st_rv.specs.Rows.{mnemonics}
use Rattle.st_line.specs.declared.words.Pseudo.{Pseudo}
use Rattle.st_line.specs.declared.words.Pseudo.TheVariants as pseudos
use Rattle.st_line.specs.declared.words.Directive.{Directive}
use Rattle.st_line.specs.declared.words.Directive.TheVariants as directives
use Rattle.st_line.specs.declared.words.Word.{Word}
use Rattle.st_line.specs.declared.words.Word.TheVariants as words
use Rattle.st_line.specs.declared.words.NumberSize.TheVariants as sizes
use Rattle.st_line.specs.declared.source.Part.{Part}
use Rattle.st_line.specs.declared.source.Part.TheVariants as parts
use Rattle.st_line.specs.declared.source.Standing.{Standing}
use Rattle.st_line.specs.Operands.{named_in}

-- ---- names

-- the pseudo instructions by their names
abbrev pub pseudo_rows : List (Pseudo × List ℕ)
pseudo_rows =
    (pseudos.Nop, codes "nop") ∷ (pseudos.Mv, codes "mv") ∷ (pseudos.Not, codes "not") ∷ (pseudos.Neg, codes "neg") ∷ (pseudos.Negw, codes "negw") ∷ (pseudos.SextW, codes "sext.w") ∷ (pseudos.Seqz, codes "seqz") ∷ (pseudos.Snez, codes "snez") ∷ (pseudos.Sltz, codes "sltz") ∷ (pseudos.Sgtz, codes "sgtz") ∷ (pseudos.Beqz, codes "beqz") ∷ (pseudos.Bnez, codes "bnez") ∷ (pseudos.Blez, codes "blez") ∷ (pseudos.Bgez, codes "bgez") ∷ (pseudos.Bltz, codes "bltz") ∷ (pseudos.Bgtz, codes "bgtz") ∷ (pseudos.Bgt, codes "bgt") ∷ (pseudos.Ble, codes "ble") ∷ (pseudos.Bgtu, codes "bgtu") ∷ (pseudos.Bleu, codes "bleu") ∷ (pseudos.J, codes "j") ∷ (pseudos.Jr, codes "jr") ∷ (pseudos.Call, codes "call") ∷ (pseudos.Ret, codes "ret") ∷ (pseudos.Li, codes "li") ∷ (pseudos.La, codes "la") ∷ []

-- the directives by their names
abbrev pub directive_rows : List (Directive × List ℕ)
directive_rows =
    (directives.Text, codes ".text") ∷ (directives.Section, codes ".section") ∷ (directives.Ignored, codes ".globl") ∷ (directives.Ignored, codes ".file") ∷ (directives.Ignored, codes ".option") ∷ (directives.Ignored, codes ".attribute") ∷ (directives.Ignored, codes ".type") ∷ (directives.Ignored, codes ".size") ∷ (directives.Ignored, codes ".ident") ∷ (directives.Align, codes ".align") ∷ (directives.Numbers sizes.Byte, codes ".byte") ∷ (directives.Numbers sizes.Half, codes ".half") ∷ (directives.Numbers sizes.Word, codes ".word") ∷ (directives.Numbers sizes.Double, codes ".dword") ∷ (directives.Ascii, codes ".ascii") ∷ (directives.Asciz, codes ".asciz") ∷ (directives.Asciz, codes ".string") ∷ (directives.Zero, codes ".zero") ∷ (directives.Arguments, codes ".st_args") ∷ (directives.Handles, codes ".st_handles") ∷ (directives.Fork, codes ".st_fork") ∷ []

abbrev pub directive_or : List ℕ → Option Directive → Option Word
directive_or text (Some d) = Some (words.Directive d)
directive_or text None = None

abbrev pub pseudo_or : List ℕ → Option Pseudo → Option Word
pseudo_or text (Some p) = Some (words.Pseudo p)
pseudo_or text None = directive_or text (named_in directive_rows text)

abbrev pub row_or : List ℕ → Option Op → Option Word
row_or text (Some op) = Some (words.Row op)
row_or text None = pseudo_or text (named_in pseudo_rows text)

-- a mnemonic of the instruction table, a pseudo instruction or a directive
unfoldable pub word_named : List ℕ → Option Word
word_named text = row_or text (named_in mnemonics text)

-- ---- where a statement may stand

abbrev pub is_inside : Part → Bool
is_inside parts.Outside = false
is_inside _ = true

-- behind a function's label, before its first instruction, and not yet given
abbrev pub takes_arguments : Part → Bool
takes_arguments (parts.Head arguments handles) = not arguments
takes_arguments _ = false

abbrev pub takes_handles : Part → Bool
takes_handles (parts.Head arguments handles) = not handles
takes_handles _ = false

abbrev pub directive_may_stand : Standing → Directive → Bool
directive_may_stand st directives.Text = true
directive_may_stand st directives.Section = true
directive_may_stand st directives.Ignored = true
directive_may_stand st directives.Align = true
directive_may_stand st directives.Arguments = not st.in_data && takes_arguments st.part
directive_may_stand st directives.Handles = not st.in_data && takes_handles st.part
directive_may_stand st directives.Fork = not st.in_data && is_inside st.part
directive_may_stand st _ = st.in_data

-- data stands in data, an instruction in a function's code
abbrev pub may_stand : Standing → Word → Bool
may_stand st (words.Directive d) = directive_may_stand st d
may_stand st _ = not st.in_data && is_inside st.part
