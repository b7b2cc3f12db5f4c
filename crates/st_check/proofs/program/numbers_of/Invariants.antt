use Rattle.std.proofs.Common.{◌≡◌, ◌≤◌, ◌+◌, ℕ, false, drop}
use Rattle.std.specs.BTreeMap as tree
use Rattle.std.specs.Ordering.{nat_cmp}
use Rattle.st_check.specs.Programs.{item_number}
use Rattle.st_check.specs.Views.{number_or_end, groups_view}
use Rattle.st_check.proofs.program.numbers_of.Given as goal

abbrev pub invariant-loop-at : goal.invariant-loop-at
invariant-loop-at l = record {
  few : l.next ≤ l.at + 1;
  numbers : (q : ℕ) → item_number 1 false q (groups_view l.groups) ≡ number_or_end (item_number l.next l.forked q (groups_view (drop l.at l.groups))) (tree.get_by (nat_cmp q) l.items);
}
