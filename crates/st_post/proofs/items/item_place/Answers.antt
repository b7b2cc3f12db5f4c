use Rattle.std.proofs.Common.{◌≡◌, ◌+◌, ◌<◌, length, arith}
use Rattle.st_model.specs.Layout.{item_place}
use Rattle.st_post.proofs.ItemPlaces.{length-places, place-read, items_size-take}
use Rattle.st_post.proofs.items.item_place.Goals as goal

pub index-requires : goal.index-requires
index-requires c =
    omega (arith, length-places c.args.plan.now.layout c.args.plan.now.function.now c.args.plan.now.places.items c.requires.plan.places)

pub returns : goal.returns
returns c =
    let plan = c.args.plan.now in
    let long : length plan.places.items ≡ length plan.function.now.items + 1 = length-places plan.layout plan.function.now plan.places.items c.requires.plan.places in
    let inside : c.args.number < length plan.places.items = omega arith in
    let place : c.index.result.now ≡ item_place plan.layout plan.function.now c.args.number = place-read plan.layout plan.function.now plan.places.items c.args.number c.index.result.now c.requires.plan.places inside c.index.ensures in
    record { value = place; low = omega (arith, place, items_size-take plan.layout plan.function.now plan.function.now.items c.args.number) }
