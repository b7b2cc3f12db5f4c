use Rattle.st_laws.proofs.Agreeing as agreeing
use Rattle.st_laws.proofs.agreement.agrees_with_end.Goals as goal

pub returns : goal.returns
returns c = agreeing.agrees_with_end
