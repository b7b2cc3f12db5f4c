use Rattle.st_run.proofs.NextDefined as proven
use Rattle.st_run.proofs.run.next_defined.Goals as goal

pub returns : goal.returns
returns c = proven.next_defined
