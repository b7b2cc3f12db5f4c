use Rattle.st_refused.proofs.Waiters as proven
use Rattle.st_refused.proofs.laws.leader_linked.Goals as goal

pub returns : goal.returns
returns c = proven.leader_linked
