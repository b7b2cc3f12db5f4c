use Rattle.std.proofs.Common.{◌≡◌, ◌∙◌, ◌<◌, ◌+◌, ◌++◌, ◌∷◌, List, [], sym, ap, drop, length, length-append, get_or, arith, Vec, Global}
use Rattle.st_base.specs.declared.reg.Reg.{Reg}
use Rattle.st_base.specs.declared.reg.Reg.TheVariants as registers
use Rattle.st_model.specs.Layout.{saved_among}
use Rattle.st_post.proofs.SavedRegisters.{saved_among-skips, saved_among-takes, saved_among-pushed}
use Rattle.st_post.proofs.saved.saved_among.Goals as goal
use Rattle.st_post.proofs.saved.saved_among.Goals.{then-is_set+in_ok-push, else-is_set}

pub loop-place-preserved : goal.loop-place-preserved
loop-place-preserved c =
    let inside : c.loop-place.place < length c.args.registers.now = omega arith in
    elim c.if-is_set.branch [
      | then-is_set+in_ok-push w ↦
          (let items : c.if-is_set.saved.items ≡ c.loop-place.saved.items ++ get_or c.args.registers.now c.loop-place.place registers.Zero ∷ [] = ap (λ (v : Vec Reg Global). v.items) w.saved-is ∙ w.in_ok-push.ensures.items in
          let long = simp length-append at (ap (λ (rs : List Reg). length rs) items) in
          record {
            few = omega (arith, long);
            rest = saved_among-pushed _ _ _ _ _ _ items (saved_among-takes c.args.bits c.loop-place.place c.args.registers.now registers.Zero inside (sym c.is_set.ensures ∙ w.if-is_set.true)) c.loop-place.invariant.rest;
          })
      | else-is_set w ↦
          (let items : c.if-is_set.saved.items ≡ c.loop-place.saved.items = ap (λ (v : Vec Reg Global). v.items) w.saved-is in
          let long = ap (λ (rs : List Reg). length rs) items in
          record {
            few = omega (arith, long);
            rest =
                (λ j. items j ++ saved_among c.args.bits (c.loop-place.place + 1) (drop (c.loop-place.place + 1) c.args.registers.now))
                ∙ ap (λ rs. c.loop-place.saved.items ++ rs) (sym (saved_among-skips c.args.bits c.loop-place.place c.args.registers.now inside (sym c.is_set.ensures ∙ w.if-is_set.false)))
                ∙ c.loop-place.invariant.rest;
          })
    ]
