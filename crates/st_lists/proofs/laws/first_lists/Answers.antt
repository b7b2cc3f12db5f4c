use Rattle.st_lists.proofs.Firsts as proven
use Rattle.st_lists.proofs.laws.first_lists.Goals as goal

pub returns : goal.returns
returns c = proven.first_lists
