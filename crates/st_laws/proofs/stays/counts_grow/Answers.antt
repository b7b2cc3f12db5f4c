use Rattle.st_laws.proofs.Staying as staying
use Rattle.st_laws.proofs.stays.counts_grow.Goals as goal

pub returns : goal.returns
returns c = staying.counts_grow
