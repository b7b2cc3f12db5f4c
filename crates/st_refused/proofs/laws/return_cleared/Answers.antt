use Rattle.st_refused.proofs.Others as proven
use Rattle.st_refused.proofs.laws.return_cleared.Goals as goal

pub returns : goal.returns
returns c = proven.return_cleared
