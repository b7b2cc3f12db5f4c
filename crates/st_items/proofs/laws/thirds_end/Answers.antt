use Rattle.st_items.proofs.LawsHold as hold
use Rattle.st_items.proofs.laws.thirds_end.Goals as goal

pub returns : goal.returns
returns c = hold.thirds_end
