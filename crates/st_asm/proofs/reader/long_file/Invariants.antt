use Rattle.std.proofs.Common.{◌≡◌, ◌+◌, ◌-◌, ◌≤◌, map, drop}
use Rattle.st_asm.specs.Assembly.{too_long}
use Rattle.st_asm.proofs.reader.long_file.Given as goal

abbrev pub invariant-loop-text : goal.invariant-loop-text
invariant-loop-text l = record {
  rest : too_long l.file (1048576 - l.left) (map (λ t. t.items) (drop l.text-index l.texts)) ≡ too_long 1 0 (map (λ t. t.items) l.texts);
  left : l.left ≤ 1048576;
  file : l.file ≡ l.text-index + 1;
}
