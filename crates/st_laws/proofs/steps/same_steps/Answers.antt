use Rattle.st_laws.proofs.HeapRuns as heapruns
use Rattle.st_laws.proofs.steps.same_steps.Goals as goal

pub returns : goal.returns
returns c = heapruns.same_steps
