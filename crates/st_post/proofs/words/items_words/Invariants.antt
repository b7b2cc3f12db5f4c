use Rattle.std.proofs.Common.{◌≡◌, ◌++◌, drop}
use Rattle.st_model.specs.Layout.{item_place, items_words}
use Rattle.st_post.proofs.words.items_words.Given as goal

abbrev pub invariant-loop-number : goal.invariant-loop-number
invariant-loop-number l =
    l.words.items ++ items_words l.plan.layout l.plan.function.now (item_place l.plan.layout l.plan.function.now l.number) (drop l.number l.plan.function.now.items) ≡ items_words l.plan.layout l.plan.function.now 0 l.plan.function.now.items
