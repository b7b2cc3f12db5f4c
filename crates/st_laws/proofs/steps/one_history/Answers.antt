use Rattle.st_laws.proofs.HeapRuns as heapruns
use Rattle.st_laws.proofs.steps.one_history.Goals as goal

pub returns : goal.returns
returns c = heapruns.one_history
