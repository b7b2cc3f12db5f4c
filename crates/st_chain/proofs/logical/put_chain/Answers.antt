use Rattle.std.proofs.Common.{◌<◌, ◌^◌, slice_index, arith, subst, sym}
use Rattle.st_base.specs.declared.reg.Reg.TheVariants as registers
use Rattle.st_step.specs.declared.state.State.{State}
use Rattle.st_step.specs.Runs.{AreValues}
use Rattle.st_step.proofs.Writes.{values-written}
use Rattle.st_chain.proofs.logical.put_chain.Goals as goal

pub returns-clause-values : goal.returns-clause-values
returns-clause-values c values x =
    let first = subst AreValues (sym c.set_reg.ensures) (values-written c.args.m.now registers.S0 c.args.c.now.fp values (omega arith)) in
    subst (λ (m : State). slice_index m.registers x < 2 ^ 64) (sym c.set_pc.ensures) (c.put_saved.ensures.values first x)
