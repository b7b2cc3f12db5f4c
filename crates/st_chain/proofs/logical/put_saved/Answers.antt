use Rattle.std.proofs.Common.{List, ◌+◌, ◌∙◌, ap, arith, drop, subst, sym}
use Rattle.std.proofs.lemmas.List.{drop_more}
use Rattle.st_base.specs.declared.reg.Reg.{Reg}
use Rattle.st_base.specs.declared.reg.Reg.TheVariants as registers
use Rattle.st_model.specs.Layout.{saveable}
use Rattle.st_step.specs.Runs.{AreValues}
use Rattle.st_step.proofs.Writes.{values-written}
use Rattle.st_chain.specs.Logical.{with_values}
use Rattle.st_chain.proofs.logical.put_saved.Goals as goal

pub loop-k-preserved : goal.loop-k-preserved
loop-k-preserved c =
    let k = c.loop-k.k in
    let saved = c.args.saved.now in (
      ap (with_values (k + 1) (drop (k + 1) saveable) saved) c.set_reg.ensures ∙ sym (ap (λ (rs : List Reg). with_values k rs saved c.loop-k.m) (drop_more saveable k registers.Zero c.loop-k-test.true)) ∙ c.loop-k.invariant.0,
      λ values. subst AreValues (sym c.set_reg.ensures) (values-written c.loop-k.m _ _ (c.loop-k.invariant.1 values) (omega arith)),
    )
