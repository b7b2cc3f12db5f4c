use Rattle.st_laws.proofs.Summing as summing
use Rattle.st_laws.proofs.steps.steps_within.Goals as goal

pub returns : goal.returns
returns c = summing.steps_within
