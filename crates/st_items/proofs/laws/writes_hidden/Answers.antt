use Rattle.st_items.proofs.LawsHold as hold
use Rattle.st_items.proofs.laws.writes_hidden.Goals as goal

pub returns : goal.returns
returns c = hold.writes_hidden
