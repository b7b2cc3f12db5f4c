use Rattle.st_refused.proofs.Others as proven
use Rattle.st_refused.proofs.laws.unit_lowered.Goals as goal

pub returns : goal.returns
returns c = proven.unit_lowered
