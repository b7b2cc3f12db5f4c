use Rattle.st_cells.proofs.Waiters.{lists_stay}
use Rattle.st_cells.proofs.laws.lists_stay.Goals as goal

pub returns : goal.returns
returns c = lists_stay
