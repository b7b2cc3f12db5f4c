use Rattle.st_chain.proofs.LawsHold as hold
use Rattle.st_chain.proofs.laws.restarts.Goals as goal

pub returns : goal.returns
returns c = hold.restarts
