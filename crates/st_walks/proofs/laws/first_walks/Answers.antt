use Rattle.st_walks.proofs.Firsts as proven
use Rattle.st_walks.proofs.laws.first_walks.Goals as goal

pub returns : goal.returns
returns g c = proven.first_walks g.P.Program.means
