use Rattle.st_names.proofs.Follows as proven
use Rattle.st_names.proofs.laws.told_laws.Goals as goal

pub returns : goal.returns
returns c = proven.told_laws
