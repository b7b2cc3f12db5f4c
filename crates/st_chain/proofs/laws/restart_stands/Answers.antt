use Rattle.st_chain.proofs.LawsHold as hold
use Rattle.st_chain.proofs.laws.restart_stands.Goals as goal

pub returns : goal.returns
returns c = hold.restart_stands
