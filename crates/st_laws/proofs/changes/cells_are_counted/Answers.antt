use Rattle.st_laws.proofs.CountCells as countcells
use Rattle.st_laws.proofs.changes.cells_are_counted.Goals as goal

pub returns : goal.returns
returns c = countcells.cells_are_counted
