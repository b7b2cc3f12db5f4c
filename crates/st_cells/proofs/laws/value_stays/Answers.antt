use Rattle.st_cells.proofs.Staying.{value_stays}
use Rattle.st_cells.proofs.laws.value_stays.Goals as goal

pub returns : goal.returns
returns c = value_stays
