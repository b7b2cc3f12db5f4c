use Rattle.std.proofs.Common.{◌≡◌, ◌+◌, ◌*◌, ◌++◌, drop}
use Rattle.st_main.specs.Listing.{word_lines}
use Rattle.st_main.proofs.listing.push_lines.Given as goal

abbrev pub invariant-loop-word : goal.invariant-loop-word
invariant-loop-word l = record {
  place : l.address ≡ l.fn.from + 4 * l.word-index;
  lines : l.text.items ++ word_lines l.address (drop l.word-index l.words) ≡ l.fn.text.items ++ word_lines l.fn.from l.words;
}
