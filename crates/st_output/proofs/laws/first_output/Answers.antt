use Rattle.st_output.proofs.Firsts as proven
use Rattle.st_output.proofs.laws.first_output.Goals as goal

pub returns : goal.returns
returns c = proven.first_output
