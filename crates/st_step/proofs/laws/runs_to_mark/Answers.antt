use Rattle.st_step.proofs.Marking.{to_mark_law}
use Rattle.st_step.proofs.laws.runs_to_mark.Goals as goal

pub returns : goal.returns
returns c = to_mark_law
