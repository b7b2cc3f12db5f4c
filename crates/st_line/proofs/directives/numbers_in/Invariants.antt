-- The loop of `numbers_in`: the numbers so far, and the operands that are left, give what all operands give.
use Rattle.std.proofs.Common.{ℕ, suc, ◌≡◌, true, [], Option, Some, None, List, Bor, length, option_map}
use Rattle.st_line.specs.declared.lexeme.Lexeme.{Lexeme}
use Rattle.st_line.specs.Operands.{parts_of}
use Rattle.st_line.specs.Views.{lexes, parts_left, numbers_after}
use Rattle.st_line.proofs.directives.numbers_in.Given as goal

abbrev pub invariant-loop-left : goal.invariant-loop-left
invariant-loop-left l = numbers_after l.size l.fits l.bytes.items (parts_left (option_map (λ ls. lexes ls.now) l.left)) ≡ numbers_after l.size true [] (parts_of (lexes l.lexemes))

abbrev pub left_length : Option (Bor (List Lexeme)) → ℕ
left_length None = 0
left_length (Some ls) = suc (length ls.now)

abbrev pub decreases-loop-left : goal.decreases-loop-left
decreases-loop-left l = left_length l.left
