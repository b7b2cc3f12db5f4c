use Rattle.st_names.proofs.Firsts as proven
use Rattle.st_names.proofs.laws.first_names.Goals as goal

pub returns : goal.returns
returns c = proven.first_names
