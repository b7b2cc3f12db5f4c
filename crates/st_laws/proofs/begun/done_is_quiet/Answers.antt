use Rattle.st_laws.proofs.Summing as summing
use Rattle.st_laws.proofs.begun.done_is_quiet.Goals as goal

pub returns : goal.returns
returns c = summing.done_is_quiet
