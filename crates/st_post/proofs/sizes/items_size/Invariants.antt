use Rattle.std.proofs.Common.{◌≡◌, ◌+◌, drop}
use Rattle.st_model.specs.Layout.{items_size}
use Rattle.st_post.proofs.sizes.items_size.Given as goal

abbrev pub invariant-loop-item : goal.invariant-loop-item
invariant-loop-item l =
    l.size + items_size l.layout l.function (drop l.item-index l.function.items) ≡ items_size l.layout l.function l.function.items
