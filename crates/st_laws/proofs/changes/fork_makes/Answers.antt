use Rattle.st_laws.proofs.Forking as forking
use Rattle.st_laws.proofs.changes.fork_makes.Goals as goal

pub returns : goal.returns
returns c = forking.fork_makes
