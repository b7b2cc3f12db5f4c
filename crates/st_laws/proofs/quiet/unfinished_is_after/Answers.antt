use Rattle.st_laws.proofs.Quieting as quieting
use Rattle.st_laws.proofs.quiet.unfinished_is_after.Goals as goal

pub returns : goal.returns
returns c = quieting.unfinished_is_after
