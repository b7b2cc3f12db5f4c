use Rattle.st_laws.proofs.Agreeing as agreeing
use Rattle.st_laws.proofs.agreement.ended_agrees.Goals as goal

pub returns : goal.returns
returns c = agreeing.ended_agrees
