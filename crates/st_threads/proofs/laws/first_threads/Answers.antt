use Rattle.st_threads.proofs.Firsts as proven
use Rattle.st_threads.proofs.laws.first_threads.Goals as goal

pub returns : goal.returns
returns c = proven.first_threads
