use Rattle.st_words.proofs.Starting as proven
use Rattle.st_words.proofs.run.starting_laws.Goals as goal

pub returns : goal.returns
returns g c = proven.starting_laws g.P.Program.means
