use Rattle.st_draws.proofs.Follows as proven
use Rattle.st_draws.proofs.laws.told_laws.Goals as goal

pub returns : goal.returns
returns c = proven.told_laws
