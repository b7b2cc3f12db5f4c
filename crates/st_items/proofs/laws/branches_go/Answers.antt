use Rattle.st_items.proofs.LawsHold as hold
use Rattle.st_items.proofs.laws.branches_go.Goals as goal

pub returns : goal.returns
returns c = hold.branches_go
