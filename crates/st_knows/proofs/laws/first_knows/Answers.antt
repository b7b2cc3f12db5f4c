use Rattle.st_knows.proofs.Firsts as proven
use Rattle.st_knows.proofs.laws.first_knows.Goals as goal

pub returns : goal.returns
returns c = proven.first_knows
