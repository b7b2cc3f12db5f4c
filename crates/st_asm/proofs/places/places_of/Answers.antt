use Rattle.std.proofs.Common.{◌∙◌, sym, ap, ◌<◌, length, arith, take}
use Rattle.st_asm.specs.Assembly.{target_at}
use Rattle.st_asm.specs.Reading.{label_views}
use Rattle.st_asm.proofs.LabelMaps.{label_views-take}
use Rattle.st_asm.proofs.places.places_of.Goals as goal

pub loop-label-preserved : goal.loop-label-preserved
loop-label-preserved c = λ scope name.
    let inside : c.loop-label.label-index < length c.args.labels.now = omega arith in
    c.in_ok-add_place.ensures (label_views (take c.loop-label.label-index c.args.labels.now)) c.loop-label.invariant scope name
    ∙ ap (target_at scope name) (sym (label_views-take c.args.labels.now c.loop-label.label-index _ inside))
