use Rattle.st_items.proofs.LawsHold as hold
use Rattle.st_items.proofs.laws.forks_jump.Goals as goal

pub returns : goal.returns
returns c = hold.forks_jump
