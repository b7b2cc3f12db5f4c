use Rattle.st_laws.proofs.HeapSteps as heapsteps
use Rattle.st_laws.proofs.steps.one_step.Goals as goal

pub returns : goal.returns
returns c = heapsteps.one_step
