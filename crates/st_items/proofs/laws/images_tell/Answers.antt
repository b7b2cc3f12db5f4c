use Rattle.st_items.proofs.LawsHold as hold
use Rattle.st_items.proofs.laws.images_tell.Goals as goal

pub returns : goal.returns
returns c = hold.images_tell
