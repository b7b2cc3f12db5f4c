use Rattle.st_cells.proofs.Staying.{again_keeps}
use Rattle.st_cells.proofs.laws.again_keeps.Goals as goal

pub returns : goal.returns
returns c = again_keeps
