use Rattle.st_items.proofs.LawsHold as hold
use Rattle.st_items.proofs.laws.stretches_lead.Goals as goal

pub returns : goal.returns
returns c = hold.stretches_lead
