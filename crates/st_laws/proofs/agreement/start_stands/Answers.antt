use Rattle.st_laws.proofs.First as first
use Rattle.st_laws.proofs.agreement.start_stands.Goals as goal

pub returns : goal.returns
returns c = first.start_stands
