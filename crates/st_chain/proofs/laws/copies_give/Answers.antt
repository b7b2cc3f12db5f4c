use Rattle.st_chain.proofs.LawsHold as hold
use Rattle.st_chain.proofs.laws.copies_give.Goals as goal

pub returns : goal.returns
returns c = hold.copies_give
