use Rattle.std.proofs.Common.{◌≡◌, ◌∷◌, [], ◌++◌, take, length, filter, ap, sym, ◌∙◌, subst, arith, ◌+◌}
use Rattle.std.proofs.lemmas.Result.{on_ok_weaker}
use Rattle.st_line.specs.declared.source.Target.TheVariants.{Data}
use Rattle.st_print.specs.Spots.{data_places}
use Rattle.st_print.specs.Numbering.{is_held, AreLabels}
use Rattle.st_print.proofs.Places.{walked, data_places-more, data_places-whole}
use Rattle.st_print.proofs.labels.Labels.add_bytes.Goals as goal

pub loop-i-preserved : goal.loop-i-preserved
loop-i-preserved c spots are =
    let i = c.loop-i.i in
    let all = data_places 0 c.args.rodata.now in
    let more = data_places-more c.loop-i.i c.args.rodata.now (omega arith) in
    subst (AreLabels c.add_named_offset.new.self)
    (walked (λ spot. is_held c.args.named.now spot) spots (take i all) (Data i ∷ []) (take (i + 1) all) more)
    (c.in_ok-add_named_offset.ensures (spots ++ filter (λ spot. is_held c.args.named.now spot) (take i all)) (c.loop-i.invariant spots are))

pub returns : goal.returns
returns c =
    let n = length c.args.rodata.now in
    let all = data_places 0 c.args.rodata.now in
    let same : c.loop-i.i ≡ length c.args.rodata.now = omega arith in
    let whole = data_places-whole c.args.rodata.now ∙ ap (λ k. take k all ++ Data n ∷ []) (sym same) in
    on_ok_weaker c.add_named_offset-2.result
    (λ step spots are.
    subst (AreLabels c.add_named_offset-2.new.self)
    (walked (λ spot. is_held c.args.named.now spot) spots (take c.loop-i.i all) (Data n ∷ []) all whole)
    (step (spots ++ filter (λ spot. is_held c.args.named.now spot) (take c.loop-i.i all)) (c.loop-i.invariant spots are)))
    c.add_named_offset-2.ensures
