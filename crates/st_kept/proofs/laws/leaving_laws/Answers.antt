use Rattle.st_kept.proofs.Stepping.{leaving_laws}
use Rattle.st_kept.proofs.laws.leaving_laws.Goals as goal

pub returns : goal.returns
returns c = leaving_laws
