use Rattle.st_laws.proofs.CountThreads as countthreads
use Rattle.st_laws.proofs.quiet.threads_are_counted.Goals as goal

pub returns : goal.returns
returns c = countthreads.threads_are_counted
