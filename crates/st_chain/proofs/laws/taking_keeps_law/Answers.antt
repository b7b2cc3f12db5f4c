use Rattle.st_chain.proofs.KeepingLaw.{keeps_law}
use Rattle.st_chain.proofs.laws.taking_keeps_law.Goals as goal

pub returns : goal.returns
returns c = keeps_law
