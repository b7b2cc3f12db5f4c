use Rattle.st_laws.proofs.Agreeing as agreeing
use Rattle.st_laws.proofs.agreement.agrees_without_end.Goals as goal

pub returns : goal.returns
returns c = agreeing.agrees_without_end
