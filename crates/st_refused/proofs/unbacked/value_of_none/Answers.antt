use Rattle.st_refused.proofs.Names as proven
use Rattle.st_refused.proofs.unbacked.value_of_none.Goals as goal

pub returns : goal.returns
returns c = proven.value_of_none
