-- The loop of `cut_tokens`: the tokens so far, and those of what is left, are the text's.
use Rattle.std.proofs.Common.{◌≡◌, ◌≤◌, ◌++◌, drop, length, All}
use Rattle.st_line.specs.Tokens.{tokens_after, tokens_of}
use Rattle.st_line.proofs.lexer.cut_tokens.Given as goal

abbrev pub invariant-loop-i : goal.invariant-loop-i
invariant-loop-i l = record {
  all : l.found.items ++ tokens_after l.mode l.from l.i (drop l.i l.text) ≡ tokens_of l.text;
  spans : All (λ t. (t.from ≤ t.to) × (t.to ≤ length l.text)) l.found.items;
  begun : l.from ≤ l.i;
}
