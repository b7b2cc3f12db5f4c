use Rattle.st_limits.proofs.Firsts as proven
use Rattle.st_limits.proofs.laws.first_limits.Goals as goal

pub returns : goal.returns
returns c = proven.first_limits
