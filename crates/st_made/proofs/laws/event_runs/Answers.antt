use Rattle.st_made.proofs.Events as proven
use Rattle.st_made.proofs.laws.event_runs.Goals as goal

pub returns : goal.returns
returns c = proven.event_runs
