use Rattle.st_words.proofs.WholeChains as proven
use Rattle.st_words.proofs.run.operation_laws.Goals as goal

pub returns : goal.returns
returns g c = proven.operation_laws g.P.Program.means
