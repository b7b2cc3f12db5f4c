use Rattle.st_kept.proofs.Keeping.{keeping_laws}
use Rattle.st_kept.proofs.laws.keeping_laws.Goals as goal

pub returns : goal.returns
returns c = keeping_laws
