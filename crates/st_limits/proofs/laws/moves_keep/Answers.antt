use Rattle.st_limits.proofs.Moves as proven
use Rattle.st_limits.proofs.laws.moves_keep.Goals as goal

pub returns : goal.returns
returns c = proven.move_kept
