use Rattle.st_knows.proofs.Steps as proven
use Rattle.st_knows.proofs.laws.kept_by_steps.Goals as goal

pub returns : goal.returns
returns g c = proven.careful_kept g.P.Program.means
