use Rattle.st_laws.proofs.Staying as staying
use Rattle.st_laws.proofs.stays.run_is_numbered.Goals as goal

pub returns : goal.returns
returns c = staying.run_is_numbered
