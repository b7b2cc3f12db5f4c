use Rattle.st_laws.proofs.Staying as staying
use Rattle.st_laws.proofs.stays.reached_is_numbered.Goals as goal

pub returns : goal.returns
returns c = staying.reached_is_numbered
