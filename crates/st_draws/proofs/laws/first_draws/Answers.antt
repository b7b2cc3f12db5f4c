use Rattle.st_draws.proofs.Firsts as proven
use Rattle.st_draws.proofs.laws.first_draws.Goals as goal

pub returns : goal.returns
returns c = proven.first_draws
