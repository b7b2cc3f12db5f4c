use Rattle.st_laws.proofs.HeapRuns as heapruns
use Rattle.st_laws.proofs.steps.one_quiet.Goals as goal

pub returns : goal.returns
returns c = heapruns.one_quiet
