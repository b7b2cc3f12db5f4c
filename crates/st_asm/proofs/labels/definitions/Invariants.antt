use Rattle.std.proofs.Common.{take}
use Rattle.st_asm.specs.Labels.{definitions_of}
use Rattle.st_asm.specs.Reading.{TellsLines, located_views}
use Rattle.st_asm.proofs.labels.definitions.Given as goal

abbrev pub invariant-loop-located : goal.invariant-loop-located
invariant-loop-located l = TellsLines l.labels (definitions_of (located_views (take l.located-index l.lines)))
