use Rattle.st_refused.proofs.Others as proven
use Rattle.st_refused.proofs.laws.value_overwritten.Goals as goal

pub returns : goal.returns
returns c = proven.value_overwritten
