use Rattle.std.proofs.Common.{◌≡◌, ◌-◌, length, take, reverse}
use Rattle.st_plain.specs.Threads.{path_above}
use Rattle.st_plain.proofs.threads.Threads.into_path.Given as goal

abbrev pub invariant-loop-i : goal.invariant-loop-i
invariant-loop-i l = record {
  path : l.path.items.items ≡ path_above (reverse (take (l.i - 1) l.notes.items.items));
  long : length l.path.items.items ≡ l.i - 1;
  most : l.path.most ≡ l.initial.path.most;
}
