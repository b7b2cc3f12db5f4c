use Rattle.st_refused.proofs.Waiters as proven
use Rattle.st_refused.proofs.laws.tail_lost.Goals as goal

pub returns : goal.returns
returns c = proven.tail_lost
