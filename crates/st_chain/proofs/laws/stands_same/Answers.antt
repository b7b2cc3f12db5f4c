use Rattle.st_chain.proofs.LawsHold as hold
use Rattle.st_chain.proofs.laws.stands_same.Goals as goal

pub returns : goal.returns
returns c = hold.stands_same
