use Rattle.st_counts.proofs.Firsts as proven
use Rattle.st_counts.proofs.laws.first_counts.Goals as goal

pub returns : goal.returns
returns c = proven.first_counts
