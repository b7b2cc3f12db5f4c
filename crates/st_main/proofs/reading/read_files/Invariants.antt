use Rattle.std.proofs.Common.{◌≡◌, ◌≤◌, length, map}
use Rattle.std.specs.Prelude.{string_bytes}
use Rattle.st_main.proofs.ReadTexts.{SoFar}
use Rattle.st_main.proofs.reading.read_files.Given as goal

abbrev pub invariant-loop-i : goal.invariant-loop-i
invariant-loop-i g l = record {
  contents : g.F.Files.contents l.files ≡ g.F.Files.contents l.initial.files;
  faults : g.F.Files.faults l.initial.files ≤ g.F.Files.faults l.files;
  count : length l.texts.items ≡ l.i;
  so_far : SoFar (g.F.Files.contents l.initial.files) (map (λ n. string_bytes n) l.names) (map (λ t. t.items) l.texts.items) l.room;
}
