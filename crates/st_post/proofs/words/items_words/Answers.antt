use Rattle.std.proofs.Common.{◌∙◌}
use Rattle.st_model.specs.declared.program.ItemKind.TheVariants.{Prologue}
use Rattle.st_model.specs.Layout.{items_words}
use Rattle.st_post.proofs.ItemPlaces.{items_words-pushed}
use Rattle.st_post.proofs.words.items_words.Goals as goal

pub loop-number-preserved : goal.loop-number-preserved
loop-number-preserved c =
    let plan = c.args.plan.now in
    items_words-pushed plan.layout plan.function.now c.as_slice-items.result.now c.loop-number.number
    (record { line = record { file = 0; line = 0 }; kind = Prologue })
    c.loop-number.words.items c.push_words.new.words.items
    (items_words plan.layout plan.function.now 0 plan.function.now.items)
    c.clear.new.self.items c.deref.result.now c.item_place.result c.as_slice-items.ensures c.loop-number-test.true c.item_place.ensures.value
    c.clear.ensures.items (c.deref.ensures.value ∙ c.in_ok-push_item.ensures)
    c.in_ok-push_words.ensures c.loop-number.invariant
