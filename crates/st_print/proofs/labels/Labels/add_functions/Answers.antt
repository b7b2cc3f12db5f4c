use Rattle.std.proofs.Common.{◌++◌, take, filter, subst, arith, ◌+◌, ap, sym, ◌∙◌}
use Rattle.st_asm.specs.declared.unit.Function.{Function}
use Rattle.st_print.specs.Spots.{function_places, item_places}
use Rattle.st_print.specs.Numbering.{is_held, AreLabels}
use Rattle.st_print.proofs.Places.{walked, function_places-more}
use Rattle.st_print.proofs.labels.Labels.add_functions.Goals as goal

pub loop-f-preserved : goal.loop-f-preserved
loop-f-preserved c spots are =
    let f = c.loop-f.f in
    let all = c.args.functions.now in
    let same = c.as_slice.ensures ∙ ap (λ (g : Function). g.items) c.index-functions-f.is in
    let more = function_places-more c.loop-f.f c.args.functions.now c.index-functions-f.result (omega arith) ∙ ap (λ items. function_places 0 (take f all) ++ item_places f 0 items) (sym same) in
    subst (AreLabels c.add_items.new.self)
    (walked (λ spot. is_held c.args.named.now spot) spots (function_places 0 (take f all)) (item_places f 0 c.as_slice.result.now) (function_places 0 (take (f + 1) all)) more)
    (c.in_ok-add_items.ensures (spots ++ filter (λ spot. is_held c.args.named.now spot) (function_places 0 (take f all))) (c.loop-f.invariant spots are))
