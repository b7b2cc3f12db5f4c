use Rattle.std.proofs.Common.{subst}
use Rattle.st_print.specs.Spots.{is_named, places_of, spots_of}
use Rattle.st_print.specs.Numbering.{is_held, AreLabels}
use Rattle.st_print.proofs.Places.{filter-same}
use Rattle.st_print.proofs.Lines.{unit_text-written}
use Rattle.st_print.proofs.canonical.text_of.Goals as goal

pub returns : goal.returns
returns c =
    let functions = c.args.functions.now in
    let rodata = c.args.rodata.now in
    let same = filter-same (λ spot. is_held c.in_ok-named.named spot) (λ spot. is_named functions spot) c.in_ok-named.ensures (places_of functions rodata) in
    let labels = subst (AreLabels c.in_ok-labels.labels) same c.in_ok-labels.ensures in
    unit_text-written functions rodata _ _ c.new-text.ensures.items (c.in_ok-push_unit.ensures (spots_of functions rodata) labels)
