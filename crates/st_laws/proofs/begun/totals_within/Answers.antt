use Rattle.st_laws.proofs.Passing as passing
use Rattle.st_laws.proofs.begun.totals_within.Goals as goal

pub returns : goal.returns
returns c = passing.totals_within
