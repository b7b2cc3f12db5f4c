use Rattle.st_words.proofs.Ending as proven
use Rattle.st_words.proofs.run.ending_laws.Goals as goal

pub returns : goal.returns
returns g c = proven.ending_laws g.P.Program.means
