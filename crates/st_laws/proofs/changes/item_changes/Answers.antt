use Rattle.st_laws.proofs.ItemChanges as itemchanges
use Rattle.st_laws.proofs.changes.item_changes.Goals as goal

pub returns : goal.returns
returns c = itemchanges.item_changes
