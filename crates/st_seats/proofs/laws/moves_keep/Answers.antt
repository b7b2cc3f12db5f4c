use Rattle.st_seats.proofs.Moved as proven
use Rattle.st_seats.proofs.laws.moves_keep.Goals as goal

pub returns : goal.returns
returns c = proven.move_laws
