use Rattle.st_laws.proofs.Staying as staying
use Rattle.st_laws.proofs.stays.seen_stays.Goals as goal

pub returns : goal.returns
returns c = staying.seen_stays
