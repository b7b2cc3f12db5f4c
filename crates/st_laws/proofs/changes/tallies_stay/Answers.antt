use Rattle.st_laws.proofs.ItemChanges as itemchanges
use Rattle.st_laws.proofs.changes.tallies_stay.Goals as goal

pub returns : goal.returns
returns c = itemchanges.tallies_stay
