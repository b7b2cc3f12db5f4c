use Rattle.st_threads.proofs.Moves as proven
use Rattle.st_threads.proofs.laws.moves_keep.Goals as goal

pub returns : goal.returns
returns c = proven.moves_kept
