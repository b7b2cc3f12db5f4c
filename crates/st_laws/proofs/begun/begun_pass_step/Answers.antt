use Rattle.st_laws.proofs.Passing as passing
use Rattle.st_laws.proofs.begun.begun_pass_step.Goals as goal

pub returns : goal.returns
returns c = passing.begun_pass_step
