use Rattle.st_items.proofs.LawsHold as hold
use Rattle.st_items.proofs.laws.items_lie_low.Goals as goal

pub returns : goal.returns
returns c = hold.items_lie_low
