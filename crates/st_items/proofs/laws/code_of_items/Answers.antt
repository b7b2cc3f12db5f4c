use Rattle.st_items.proofs.LawsHold as hold
use Rattle.st_items.proofs.laws.code_of_items.Goals as goal

pub returns : goal.returns
returns c = hold.code_of_items
