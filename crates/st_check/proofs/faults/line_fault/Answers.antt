use Rattle.std.proofs.Common.{◌∙◌, ap, sym, not}
use Rattle.st_base.specs.declared.form.FormKind.TheVariants as forms
use Rattle.st_check.specs.Faults.{fault_when}
use Rattle.st_check.specs.Views.{formed_view, least_onto}
use Rattle.st_check.proofs.LeastFaults.{least_onto-line}
use Rattle.st_check.proofs.faults.line_fault.Goals as goal

pub returns : goal.returns
returns c = λ functions gs context behind.
    let at = c.args.line.now.line in
    let shape = formed_view c.args.context.now.shape.now in
    least_onto-line _ _ _ _ _ _ _ c.args.best c.with_fault-best.result c.with_fault-best-2.result c.with_fault-best-3.result c.with_fault-best-4.result c.with_fault-best-5.result c.with_fault-best-6.result c.with_fault.result
    (c.with_fault-best.ensures ∙ ap (λ t. least_onto (fault_when (not t) at forms.BadCall) c.args.best) (c.calls_right.ensures functions context.names))
    (c.with_fault-best-2.ensures ∙ ap (λ t. least_onto (fault_when (not t) at forms.ForkPlace) c.with_fault-best.result) (c.forks_right.ensures functions gs behind.1))
    (c.with_fault-best-3.ensures ∙ ap (λ t. least_onto (fault_when t at forms.FallsOut) c.with_fault-best-2.result) (c.falls_out.ensures gs behind.0))
    (c.with_fault-best-4.ensures ∙ ap (λ t. least_onto (fault_when (not t) at forms.BranchOut) c.with_fault-best-3.result) (c.target_stays.ensures shape context.begins))
    (c.with_fault-best-5.ensures ∙ ap (λ t. least_onto (fault_when (not t) at forms.NotSaved) c.with_fault-best-4.result) (c.may_write.ensures shape (sym c.deref.ensures.value)))
    (c.with_fault-best-6.ensures ∙ ap (λ t. least_onto (fault_when (not t) at forms.Partition) c.with_fault-best-5.result) c.keeps_classes.ensures)
    (c.with_fault.ensures ∙ ap (λ t. least_onto (fault_when t at forms.SlotRange) c.with_fault-best-6.result) c.line_slot_fault.ensures)
