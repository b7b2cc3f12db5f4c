use Rattle.st_named.proofs.Moves as proven
use Rattle.st_named.proofs.laws.moves_keep.Goals as goal

pub returns : goal.returns
returns c = proven.moves_keep
