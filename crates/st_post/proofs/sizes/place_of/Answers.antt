use Rattle.std.proofs.Common.{◌∙◌, ◌-◌, ◌<◌, ◌≤◌, length, sym, ap}
use Rattle.std.proofs.lemmas.Bool.{ltb-true, ltb-false}
use Rattle.std.proofs.lemmas.Option.{unwrap_or-slice_get}
use Rattle.std.specs.Option.{unwrap_or}
use Rattle.st_post.proofs.ItemPlaces.{place-read, place-past}
use Rattle.st_post.proofs.sizes.place_of.Goals as goal

pub returns-in-Some : goal.returns-in-Some
returns-in-Some c = λ layout function are.
    let inside : c.args.number < length c.args.places.now = ltb-true _ _ (sym c.in-Some.ensures.lookup.0) in
    place-read layout function c.args.places.now c.args.number c.in-Some.place.now are inside c.in-Some.ensures.lookup.1

pub returns-in-None : goal.returns-in-None
returns-in-None c = λ layout function are.
    let past : length c.args.places.now ≤ c.args.number = ltb-false _ _ (sym c.in-None.ensures.lookup.0) in
    c.unwrap_or.ensures
    ∙ ap (λ o. unwrap_or o 0) (c.copied.ensures ∙ c.last.ensures.value)
    ∙ unwrap_or-slice_get c.args.places.now (length c.args.places.now - 1) 0
    ∙ place-past layout function c.args.places.now c.args.number are past
