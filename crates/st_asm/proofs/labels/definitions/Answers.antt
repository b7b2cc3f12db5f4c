use Rattle.std.proofs.Common.{◌∙◌, sym, ap, ◌<◌, length, arith, take}
use Rattle.st_asm.specs.Labels.{definitions_of, first_line}
use Rattle.st_asm.specs.Reading.{located_views}
use Rattle.st_asm.proofs.LabelMaps.{definitions_of-take}
use Rattle.st_asm.proofs.labels.definitions.Goals as goal

pub loop-located-preserved : goal.loop-located-preserved
loop-located-preserved c = λ scope name.
    let inside : c.loop-located.located-index < length c.args.lines.now = omega arith in
    c.in_ok-define.ensures (definitions_of (located_views (take c.loop-located.located-index c.args.lines.now))) c.loop-located.invariant scope name
    ∙ ap (first_line scope name) (sym (definitions_of-take c.args.lines.now c.loop-located.located-index _ inside))
