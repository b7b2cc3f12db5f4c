use Rattle.st_step.proofs.Restoring.{pure_copy_law}
use Rattle.st_step.proofs.laws.runs_pure_copy.Goals as goal

pub returns : goal.returns
returns c = pure_copy_law
