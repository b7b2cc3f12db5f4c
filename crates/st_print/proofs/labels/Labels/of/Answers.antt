use Rattle.std.proofs.Common.{[], filter, subst, sym}
use Rattle.std.proofs.lemmas.List.Elements.{filter-append}
use Rattle.st_print.specs.Spots.{function_places, data_places}
use Rattle.st_print.specs.Numbering.{is_held, AreLabels}
use Rattle.st_print.proofs.labels.Labels.of.Goals as goal

pub returns : goal.returns
returns c =
    subst (AreLabels c.add_bytes.new.self) (sym (filter-append (λ spot. is_held c.args.named.now spot) (function_places 0 c.args.functions.now) (data_places 0 c.args.rodata.now)))
    (c.in_ok-add_bytes.ensures (filter (λ spot. is_held c.args.named.now spot) (function_places 0 c.args.functions.now)) (c.in_ok-add_functions.ensures [] c.new-labels.ensures))
