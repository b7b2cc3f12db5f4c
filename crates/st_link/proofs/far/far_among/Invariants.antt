use Rattle.std.proofs.Common.{◌≡◌, drop}
use Rattle.st_model.specs.Layout.{far_among}
use Rattle.st_link.proofs.far.far_among.Given as goal

abbrev pub invariant-loop-at : goal.invariant-loop-at
invariant-loop-at l = far_among 0 l.words ≡ far_among l.at (drop l.at l.words)
