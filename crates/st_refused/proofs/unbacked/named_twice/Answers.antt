use Rattle.st_refused.proofs.Names as proven
use Rattle.st_refused.proofs.unbacked.named_twice.Goals as goal

pub returns : goal.returns
returns c = proven.named_twice
