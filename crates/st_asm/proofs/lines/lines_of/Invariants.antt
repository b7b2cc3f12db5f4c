use Rattle.std.proofs.Common.{◌≡◌, ◌+◌, ◌++◌, map, drop}
use Rattle.st_asm.specs.Labels.{located}
use Rattle.st_asm.specs.Reading.{located_views}
use Rattle.st_asm.proofs.lines.lines_of.Given as goal

abbrev pub invariant-loop-text : goal.invariant-loop-text
invariant-loop-text l = record {
  rest : located_views l.found.items ++ located l.file (map (λ t. t.items) (drop l.text-index l.texts)) ≡ located 1 (map (λ t. t.items) l.texts);
  file : l.file ≡ l.text-index + 1;
}
