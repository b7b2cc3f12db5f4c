use Rattle.st_chain.proofs.LawsHold as hold
use Rattle.st_chain.proofs.laws.older_unseen.Goals as goal

pub returns : goal.returns
returns c = hold.older_unseen
