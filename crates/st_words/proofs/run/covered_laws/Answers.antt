use Rattle.st_words.proofs.Covered as proven
use Rattle.st_words.proofs.run.covered_laws.Goals as goal

pub returns : goal.returns
returns g c = proven.covered_laws g.P.Program.means
