use Rattle.st_items.proofs.LawsHold as hold
use Rattle.st_items.proofs.laws.frames_alone.Goals as goal

pub returns : goal.returns
returns c = hold.frames_alone
