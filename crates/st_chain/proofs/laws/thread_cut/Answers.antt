use Rattle.st_chain.proofs.LawsHold as hold
use Rattle.st_chain.proofs.laws.thread_cut.Goals as goal

pub returns : goal.returns
returns c = hold.thread_cut
