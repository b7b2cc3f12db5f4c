use Rattle.st_laws.proofs.ItemChanges as itemchanges
use Rattle.st_laws.proofs.changes.one_is_drawn.Goals as goal

pub returns : goal.returns
returns c = itemchanges.one_is_drawn
