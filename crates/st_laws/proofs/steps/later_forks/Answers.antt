use Rattle.st_laws.proofs.Later as later
use Rattle.st_laws.proofs.steps.later_forks.Goals as goal

pub returns : goal.returns
returns c = later.later_forks
