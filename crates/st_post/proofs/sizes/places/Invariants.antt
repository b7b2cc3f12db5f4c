use Rattle.std.proofs.Common.{◌≡◌, ◌+◌, ◌++◌, drop}
use Rattle.st_model.specs.Layout.{items_size}
use Rattle.st_post.specs.Places.{places_from}
use Rattle.st_post.proofs.sizes.places.Given as goal

abbrev pub invariant-loop-item : goal.invariant-loop-item
invariant-loop-item l = record {
  size : l.at + items_size l.layout l.function (drop l.item-index l.function.items) ≡ items_size l.layout l.function l.function.items;
  rest : l.places.items ++ places_from l.layout l.function l.at (drop l.item-index l.function.items) ≡ places_from l.layout l.function 0 l.function.items;
}
