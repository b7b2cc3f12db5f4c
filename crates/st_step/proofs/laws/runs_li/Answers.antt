use Rattle.st_step.proofs.LiRuns.{li_law}
use Rattle.st_step.proofs.laws.runs_li.Goals as goal

pub returns : goal.returns
returns c = li_law
