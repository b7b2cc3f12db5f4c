use Rattle.st_items.proofs.LawsHold as hold
use Rattle.st_items.proofs.laws.frames_found.Goals as goal

pub returns : goal.returns
returns c = hold.frames_found
