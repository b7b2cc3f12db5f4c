use Rattle.st_leaves.proofs.Phases.{leavers_fit}
use Rattle.st_leaves.proofs.laws.leavers_fit.Goals as goal

pub returns : goal.returns
returns c = leavers_fit
