use Rattle.std.proofs.Common.{◌≡◌, ◌-◌, arith, sym, subst, ◌∙◌, ap, Some, drop}
use Rattle.std.specs.Prelude.{nat_eq}
use Rattle.std.specs.Cmp.Lexicographic.{pointwise, bytes_decides}
use Rattle.st_model.specs.Ends.{NoneOf}
use Rattle.st_model.proofs.Ending.{value_found}
use Rattle.st_model.proofs.Lookup.{value_of_none}
use Rattle.st_model.proofs.ordinary.value_of.Goals as goal

pub returns-then-is : goal.returns-then-is
returns-then-is c =
    let x = c.index-ended-left.result in
    let at = c.index-ended-left.is in
    let same = (bytes_decides x.path c.args.path.now).1 (c.is.ensures.0 c.if-is.true) in
    let here = ap (λ e. pointwise nat_eq e.path c.args.path.now) (sym at) ∙ same in
    ap (λ e. Some e.value) at
    ∙ sym (value_found c.args.ended.now c.args.path.now (c.loop-left.left - 1) x c.requires (omega arith) here)

pub returns : goal.returns
returns c =
    let none_left : c.loop-left.left ≡ 0 = omega arith in
    sym (value_of_none c.args.ended.now c.args.path.now (subst (λ n. NoneOf (drop n c.args.ended.now) c.args.path.now) none_left c.loop-left.invariant.none))
