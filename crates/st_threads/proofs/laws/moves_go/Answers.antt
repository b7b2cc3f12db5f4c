use Rattle.st_threads.proofs.Moves as proven
use Rattle.st_threads.proofs.laws.moves_go.Goals as goal

pub returns : goal.returns
returns c = proven.moves_go
