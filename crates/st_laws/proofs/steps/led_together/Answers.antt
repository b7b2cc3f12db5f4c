use Rattle.st_laws.proofs.HeapRuns as heapruns
use Rattle.st_laws.proofs.steps.led_together.Goals as goal

pub returns : goal.returns
returns c = heapruns.led_together
