use Rattle.st_laws.proofs.Summing as summing
use Rattle.st_laws.proofs.begun.done_keeps_limits.Goals as goal

pub returns : goal.returns
returns c = summing.done_keeps_limits
