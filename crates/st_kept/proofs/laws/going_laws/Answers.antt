use Rattle.st_kept.proofs.Going.{going_laws}
use Rattle.st_kept.proofs.laws.going_laws.Goals as goal

pub returns : goal.returns
returns c = going_laws
