use Rattle.st_laws.proofs.Quieting as quieting
use Rattle.st_laws.proofs.quiet.quiet_is_ordinary.Goals as goal

pub returns : goal.returns
returns c = quieting.quiet_is_ordinary
