use Rattle.st_threads.proofs.Holdings as proven
use Rattle.st_threads.proofs.laws.told_laws.Goals as goal

pub returns : goal.returns
returns c = proven.told_laws
