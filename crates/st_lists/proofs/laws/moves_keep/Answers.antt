use Rattle.st_lists.proofs.Moves as proven
use Rattle.st_lists.proofs.laws.moves_keep.Goals as goal

pub returns : goal.returns
returns c = proven.move_laws
