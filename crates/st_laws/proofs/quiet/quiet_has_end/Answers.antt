use Rattle.st_laws.proofs.Quieting as quieting
use Rattle.st_laws.proofs.quiet.quiet_has_end.Goals as goal

pub returns : goal.returns
returns c = quieting.quiet_has_end
