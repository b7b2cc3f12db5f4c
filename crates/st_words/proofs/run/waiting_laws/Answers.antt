use Rattle.st_words.proofs.Waiting as proven
use Rattle.st_words.proofs.run.waiting_laws.Goals as goal

pub returns : goal.returns
returns g c = proven.waiting_laws g.P.Program.means
