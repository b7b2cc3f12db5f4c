use Rattle.st_made.proofs.MadeRuns as proven
use Rattle.st_made.proofs.laws.made_runs.Goals as goal

pub returns : goal.returns
returns c = proven.made_runs
