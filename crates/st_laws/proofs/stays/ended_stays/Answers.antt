use Rattle.st_laws.proofs.Staying as staying
use Rattle.st_laws.proofs.stays.ended_stays.Goals as goal

pub returns : goal.returns
returns c = staying.ended_stays
