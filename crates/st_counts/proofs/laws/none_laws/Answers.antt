use Rattle.st_counts.proofs.Follows as proven
use Rattle.st_counts.proofs.laws.none_laws.Goals as goal

pub returns : goal.returns
returns c = proven.none_laws
