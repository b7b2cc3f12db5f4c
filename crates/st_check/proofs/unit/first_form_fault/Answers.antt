use Rattle.std.proofs.Common.{◌∙◌, ap, sym, None}
use Rattle.st_check.specs.Faults.{main_faults, functions_faults, unit_faults}
use Rattle.st_check.specs.Views.{least_onto}
use Rattle.st_check.proofs.LeastFaults.{least_onto-append, least_fault-onto}
use Rattle.st_check.proofs.unit.first_form_fault.Goals as goal

pub returns : goal.returns
unfolding unit_faults
returns c =
    let functions = c.args.functions.now in
    c.main_fault.ensures ∙ ap (least_onto (main_faults functions)) (c.in_ok-best.ensures c.in_ok-names.ensures)
    ∙ sym (least_fault-onto (unit_faults functions) ∙ least_onto-append (main_faults functions) (functions_faults functions 0 functions) None)
