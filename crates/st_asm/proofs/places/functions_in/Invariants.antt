use Rattle.std.proofs.Common.{◌≡◌, ◌++◌, List, map}
use Rattle.std.specs.Vec.Iter.{into_iter_items}
use Rattle.st_asm.specs.Assembly.{Label, function_in}
use Rattle.st_asm.specs.Reading.{TellsSpots}
use Rattle.st_asm.proofs.places.functions_in.Given as goal

abbrev pub invariant-loop-function : goal.invariant-loop-function
invariant-loop-function l = (ls : List Label) → TellsSpots l.places ls → l.found ++ map (function_in ls) (into_iter_items l.function-iterator) ≡ map (function_in ls) l.fn.functions.items
