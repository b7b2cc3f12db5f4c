use Rattle.st_kept.proofs.Standing.{resting_laws}
use Rattle.st_kept.proofs.laws.resting_laws.Goals as goal

pub returns : goal.returns
returns c = resting_laws
