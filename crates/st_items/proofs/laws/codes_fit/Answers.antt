use Rattle.st_items.proofs.LawsHold as hold
use Rattle.st_items.proofs.laws.codes_fit.Goals as goal

pub returns : goal.returns
returns c = hold.codes_fit
