use Rattle.std.proofs.Common.{take}
use Rattle.st_asm.specs.Reading.{TellsSpots, label_views}
use Rattle.st_asm.proofs.places.places_of.Given as goal

abbrev pub invariant-loop-label : goal.invariant-loop-label
invariant-loop-label l = TellsSpots l.places (label_views (take l.label-index l.labels))
