use Rattle.st_refused.proofs.Threads as proven
use Rattle.st_refused.proofs.unbacked.thread_dropped.Goals as goal

pub returns : goal.returns
returns c = proven.thread_dropped
