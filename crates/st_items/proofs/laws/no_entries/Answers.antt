use Rattle.st_items.proofs.LawsHold as hold
use Rattle.st_items.proofs.laws.no_entries.Goals as goal

pub returns : goal.returns
returns c = hold.no_entries
