use Rattle.std.proofs.Common.{◌≡◌, ◌≤◌, length, vec_capacity}
use Rattle.st_words.proofs.ZeroedLists.{zeroed}
use Rattle.st_words.proofs.zeroed.fill.Given as goal

abbrev pub invariant-loop : goal.invariant-loop
invariant-loop l = record {
  items : l.words.items ≡ zeroed l.fn.words.items l.counter;
  room : vec_capacity l.fn.words ≤ vec_capacity l.words;
  behind : length l.fn.words.items ≤ l.counter;
}
