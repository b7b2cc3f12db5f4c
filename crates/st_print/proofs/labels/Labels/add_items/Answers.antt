use Rattle.std.proofs.Common.{◌≡◌, ◌∷◌, [], ◌++◌, take, length, filter, ap, sym, ◌∙◌, subst, arith, ◌+◌}
use Rattle.std.proofs.lemmas.Result.{on_ok_weaker}
use Rattle.st_line.specs.declared.source.Target.TheVariants.{Place}
use Rattle.st_print.specs.Spots.{item_places}
use Rattle.st_print.specs.Numbering.{is_held, AreLabels}
use Rattle.st_print.proofs.Places.{walked, item_places-more, item_places-whole}
use Rattle.st_print.proofs.labels.Labels.add_items.Goals as goal

pub loop-i-preserved : goal.loop-i-preserved
loop-i-preserved c spots are =
    let i = c.loop-i.i in
    let f = c.args.function in
    let all = item_places c.args.function 0 c.args.items.now in
    let more = item_places-more c.args.function c.loop-i.i c.args.items.now (omega arith) in
    subst (AreLabels c.add_named_place.new.self)
    (walked (λ spot. is_held c.args.named.now spot) spots (take i all) (Place f i ∷ []) (take (i + 1) all) more)
    (c.in_ok-add_named_place.ensures (spots ++ filter (λ spot. is_held c.args.named.now spot) (take i all)) (c.loop-i.invariant spots are))

pub returns : goal.returns
returns c =
    let f = c.args.function in
    let n = length c.args.items.now in
    let all = item_places c.args.function 0 c.args.items.now in
    let same : c.loop-i.i ≡ length c.args.items.now = omega arith in
    let whole = item_places-whole c.args.function c.args.items.now ∙ ap (λ k. take k all ++ Place f n ∷ []) (sym same) in
    on_ok_weaker c.add_named_place-2.result
    (λ step spots are.
    subst (AreLabels c.add_named_place-2.new.self)
    (walked (λ spot. is_held c.args.named.now spot) spots (take c.loop-i.i all) (Place f n ∷ []) all whole)
    (step (spots ++ filter (λ spot. is_held c.args.named.now spot) (take c.loop-i.i all)) (c.loop-i.invariant spots are)))
    c.add_named_place-2.ensures
