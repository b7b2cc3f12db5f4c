use Rattle.std.proofs.Common.{◌≡◌, ◌++◌, List, map}
use Rattle.std.specs.Vec.Iter.{into_iter_items}
use Rattle.st_asm.specs.Assembly.{Label, item_in}
use Rattle.st_asm.specs.Reading.{TellsSpots}
use Rattle.st_asm.proofs.places.items_in.Given as goal

abbrev pub invariant-loop-item : goal.invariant-loop-item
invariant-loop-item l = (ls : List Label) → TellsSpots l.places ls → l.found ++ map (item_in ls) (into_iter_items l.item-iterator) ≡ map (item_in ls) l.fn.items.items
