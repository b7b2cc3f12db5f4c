use Rattle.st_laws.proofs.Passing as passing
use Rattle.st_laws.proofs.begun.quiet_passes.Goals as goal

pub returns : goal.returns
returns c = passing.quiet_passes
