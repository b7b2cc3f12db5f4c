use Rattle.st_laws.proofs.HeapSteps as heapsteps
use Rattle.st_laws.proofs.steps.diamond.Goals as goal

pub returns : goal.returns
returns c = heapsteps.diamond
