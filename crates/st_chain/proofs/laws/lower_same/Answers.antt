use Rattle.st_chain.proofs.LawsHold as hold
use Rattle.st_chain.proofs.laws.lower_same.Goals as goal

pub returns : goal.returns
returns c = hold.lower_same
