use Rattle.std.proofs.Common.{◌≡◌, ◌≤◌, ◌-◌, ◌+◌, length}
use Rattle.st_main.proofs.ReadOn.{Progress}
use Rattle.st_main.proofs.reading.read_text.Given as goal

abbrev pub invariant-loop-files : goal.invariant-loop-files
invariant-loop-files g l = record {
  contents : g.F.Files.contents l.files ≡ g.F.Files.contents l.initial.files;
  faults : g.F.Files.faults l.initial.files ≤ g.F.Files.faults l.files;
  progress : Progress (g.F.Files.contents l.initial.files) l.name l.text.items;
}

abbrev pub decreases-loop-files : goal.decreases-loop-files
decreases-loop-files g l = l.room + 1 - length l.text.items
