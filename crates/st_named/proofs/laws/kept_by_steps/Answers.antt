use Rattle.st_named.proofs.Steps as proven
use Rattle.st_named.proofs.laws.kept_by_steps.Goals as goal

pub returns : goal.returns
returns g c = proven.step_kept g.P.Program.means
