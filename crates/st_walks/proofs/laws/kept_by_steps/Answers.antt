use Rattle.st_walks.proofs.Walks as proven
use Rattle.st_walks.proofs.laws.kept_by_steps.Goals as goal

pub returns : goal.returns
returns g c = proven.step_kept g.P.Program.means
