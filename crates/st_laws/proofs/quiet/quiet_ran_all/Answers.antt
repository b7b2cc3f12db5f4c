use Rattle.st_laws.proofs.Quieting as quieting
use Rattle.st_laws.proofs.quiet.quiet_ran_all.Goals as goal

pub returns : goal.returns
returns c = quieting.quiet_ran_all
