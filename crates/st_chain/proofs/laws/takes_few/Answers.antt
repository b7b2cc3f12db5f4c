use Rattle.st_chain.proofs.Few as few
use Rattle.st_chain.proofs.laws.takes_few.Goals as goal

pub returns : goal.returns
returns c = few.takes_few
