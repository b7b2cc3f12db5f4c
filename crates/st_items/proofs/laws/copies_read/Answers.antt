use Rattle.st_items.proofs.LawsHold as hold
use Rattle.st_items.proofs.laws.copies_read.Goals as goal

pub returns : goal.returns
returns c = hold.copies_read
