-- The loop of `operands_in`: the operands so far, and those that are left, are all.
use Rattle.std.proofs.Common.{ℕ, suc, ◌≡◌, ◌++◌, Option, Some, None, List, Bor, length, option_map}
use Rattle.st_line.specs.declared.lexeme.Lexeme.{Lexeme}
use Rattle.st_line.specs.Operands.{parts_of}
use Rattle.st_line.specs.Views.{lexes, operand_list, parts_left}
use Rattle.st_line.proofs.operand.operands_in.Given as goal

abbrev pub invariant-loop-left : goal.invariant-loop-left
invariant-loop-left l = operand_list l.found.items ++ parts_left (option_map (λ ls. lexes ls.now) l.left) ≡ parts_of (lexes l.lexemes)

abbrev pub left_length : Option (Bor (List Lexeme)) → ℕ
left_length None = 0
left_length (Some ls) = suc (length ls.now)

abbrev pub decreases-loop-left : goal.decreases-loop-left
decreases-loop-left l = left_length l.left
