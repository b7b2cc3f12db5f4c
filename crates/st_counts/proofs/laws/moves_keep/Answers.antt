use Rattle.st_counts.proofs.Moves as proven
use Rattle.st_counts.proofs.laws.moves_keep.Goals as goal

pub returns : goal.returns
returns c = proven.move_laws
