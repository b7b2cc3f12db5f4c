use Rattle.st_laws.proofs.Staying as staying
use Rattle.st_laws.proofs.stays.rests.Goals as goal

pub returns : goal.returns
returns c = staying.rests
