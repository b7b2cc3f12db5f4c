use Rattle.st_laws.proofs.HeapRuns as heapruns
use Rattle.st_laws.proofs.steps.keeps_step.Goals as goal

pub returns : goal.returns
returns c = heapruns.keeps_step
