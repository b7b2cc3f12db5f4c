use Rattle.std.proofs.Common.{◌≡◌, List, drop}
use Rattle.st_asm.specs.Labels.{Definition}
use Rattle.st_asm.specs.Assembly.{checked_lines, nothing}
use Rattle.st_asm.specs.Reading.{seen, located_views, TellsLines, IsSmall}
use Rattle.st_asm.proofs.reader.check_lines.Given as goal

abbrev pub invariant-loop-located : goal.invariant-loop-located
invariant-loop-located l = record {
  rest : (ds : List Definition) → TellsLines l.labels ds → checked_lines ds (seen l.assembled) (located_views (drop l.located-index l.lines)) ≡ checked_lines ds nothing (located_views l.lines);
  small : IsSmall (seen l.assembled);
}
