use Rattle.st_limits.proofs.Steps as proven
use Rattle.st_limits.proofs.laws.kept_by_steps.Goals as goal

pub returns : goal.returns
returns g c = proven.step_kept g.P.Program.means
