use Rattle.st_words.proofs.Closed as proven
use Rattle.st_words.proofs.run.refused_laws.Goals as goal

pub returns : goal.returns
returns g c = proven.refused g.P.Program.means
