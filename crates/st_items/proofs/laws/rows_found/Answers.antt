use Rattle.st_items.proofs.LawsHold as hold
use Rattle.st_items.proofs.laws.rows_found.Goals as goal

pub returns : goal.returns
returns c = hold.rows_found
