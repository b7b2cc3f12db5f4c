use Rattle.st_items.proofs.LawsHold as hold
use Rattle.st_items.proofs.laws.gotos_jump.Goals as goal

pub returns : goal.returns
returns c = hold.gotos_jump
