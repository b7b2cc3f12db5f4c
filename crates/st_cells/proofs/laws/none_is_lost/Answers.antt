use Rattle.st_cells.proofs.Waiters.{none_is_lost}
use Rattle.st_cells.proofs.laws.none_is_lost.Goals as goal

pub returns : goal.returns
returns c = none_is_lost
