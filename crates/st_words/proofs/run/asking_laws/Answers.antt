use Rattle.st_words.proofs.Asking as proven
use Rattle.st_words.proofs.run.asking_laws.Goals as goal

pub returns : goal.returns
returns g c = proven.asking_laws g.P.Program.means
