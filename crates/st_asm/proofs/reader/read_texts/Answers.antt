use Rattle.std.proofs.Common.{List, map, ap, sym, subst, ◌∙◌}
use Rattle.st_asm.specs.declared.lines.Located.{Located}
use Rattle.st_asm.specs.Labels.{definitions_of}
use Rattle.st_asm.specs.Assembly.{checked_lines, nothing}
use Rattle.st_asm.specs.Reading.{TellsLines, located_views, seen}
use Rattle.st_asm.proofs.Units.{is_unit_in_from_views}
use Rattle.st_asm.proofs.reader.read_texts.Goals as goal

pub unit_in-requires : goal.unit_in-requires
unit_in-requires c =
    let views = located_views c.in_ok-lines.lines.items in
    let P : List Located → Type 0 = λ ls. TellsLines c.in_ok-labels.labels (definitions_of (located_views ls)) in
    let tells : P c.in_ok-lines.lines.items = subst P c.deref.ensures.value c.in_ok-labels.ensures in
    is_unit_in_from_views (map (λ t. t.items) c.args.texts.now) views (seen c.in_ok-assembled.assembled) c.in_ok-lines.ensures
    (ap (λ (ls : List Located). checked_lines (definitions_of views) nothing (located_views ls)) (sym c.deref-2.ensures.value) ∙ c.in_ok-assembled.ensures (definitions_of views) tells)
