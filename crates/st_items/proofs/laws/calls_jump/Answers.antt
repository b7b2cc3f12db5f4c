use Rattle.st_items.proofs.LawsHold as hold
use Rattle.st_items.proofs.laws.calls_jump.Goals as goal

pub returns : goal.returns
returns c = hold.calls_jump
