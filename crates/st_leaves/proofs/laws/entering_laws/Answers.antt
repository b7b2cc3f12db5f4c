use Rattle.st_leaves.proofs.Entering.{entering_laws}
use Rattle.st_leaves.proofs.laws.entering_laws.Goals as goal

pub returns : goal.returns
returns c = entering_laws
