use Rattle.std.proofs.Common.{◌≡◌, drop}
use Rattle.std.specs.Prelude.{neg_ℤ}
use Rattle.st_check.specs.Shape.{body_of}
use Rattle.st_check.specs.Views.{groups_view}
use Rattle.st_check.proofs.Bodies.{with_groups}
use Rattle.st_check.proofs.body.body_of.Given as goal

abbrev pub invariant-loop-at : goal.invariant-loop-at
invariant-loop-at l =
    body_of (neg_ℤ l.first.imm) l.saved l.start 0 (drop l.start l.items) ≡ with_groups (groups_view l.groups.items) (body_of (neg_ℤ l.first.imm) l.saved l.at l.skip (drop l.at l.items))
