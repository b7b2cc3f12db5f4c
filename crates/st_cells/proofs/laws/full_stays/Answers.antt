use Rattle.st_cells.proofs.Staying.{full_stays}
use Rattle.st_cells.proofs.laws.full_stays.Goals as goal

pub returns : goal.returns
returns c = full_stays
