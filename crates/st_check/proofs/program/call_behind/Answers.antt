use Rattle.std.proofs.Common.{◌∙◌, ◌+◌, ◌∷◌, drop, ap, sym, refl, arith}
use Rattle.st_check.specs.Programs.{call_behind}
use Rattle.st_check.specs.Views.{group_view, groups_view}
use Rattle.st_check.proofs.LeastFaults.{groups_view-read}
use Rattle.st_check.proofs.program.call_behind.Goals as goal

pub returns : goal.returns
returns c = λ functions tells.
    let p = c.index-groups-at.result in
    let gs = groups_view (drop (c.args.at + 1) c.args.groups.now) in
    c.in_ok-function.ensures functions p.at gs tells
    ∙ (λ k. call_behind functions ((p.at, group_view (sym c.index-groups-at.is k).group) ∷ gs))
    ∙ ap (call_behind functions) (sym (groups_view-read c.args.groups.now c.args.at (c.args.at + 1) p refl (omega arith) c.index-groups-at.is))
