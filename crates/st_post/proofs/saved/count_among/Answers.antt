use Rattle.std.proofs.Common.{◌∙◌, ◌<◌, sym, ap, length, arith, List}
use Rattle.st_base.specs.declared.reg.Reg.{Reg}
use Rattle.st_base.specs.declared.reg.Reg.TheVariants as registers
use Rattle.st_post.proofs.SavedRegisters.{saved_among-skips, saved_among-takes}
use Rattle.st_post.proofs.saved.count_among.Goals as goal
use Rattle.st_post.proofs.saved.count_among.Goals.{then-is_set, else-is_set}

pub loop-place-preserved : goal.loop-place-preserved
loop-place-preserved c =
    let inside : c.loop-place.place < length c.args.registers.now = omega arith in
    elim c.if-is_set.branch [
      | then-is_set w ↦
          (let more = ap (λ (rs : List Reg). length rs) (saved_among-takes c.args.bits c.loop-place.place c.args.registers.now registers.Zero inside (sym c.is_set.ensures ∙ w.if-is_set.true)) in
          record { few = omega arith; rest = omega (arith, more) })
      | else-is_set w ↦
          (let more = ap (λ (rs : List Reg). length rs) (saved_among-skips c.args.bits c.loop-place.place c.args.registers.now inside (sym c.is_set.ensures ∙ w.if-is_set.false)) in
          record { few = omega arith; rest = omega (arith, more) })
    ]
