use Rattle.std.proofs.Common.{◌≡◌, ◌+◌, ◌*◌, ◌++◌, drop}
use Rattle.st_model.specs.Layout.{items_size, item_forks}
use Rattle.st_post.proofs.rows.push_forks.Given as goal

abbrev pub invariant-loop-item : goal.invariant-loop-item
invariant-loop-item l = record {
  low : l.address + 4 * items_size l.layout l.function (drop l.item-index l.function.items) ≡ l.from + 4 * items_size l.layout l.function l.function.items;
  rest : l.forks ++ item_forks l.layout l.function l.address (drop l.item-index l.function.items) ≡ l.initial.forks ++ item_forks l.layout l.function l.from l.function.items;
}
