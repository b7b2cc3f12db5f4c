use Rattle.st_ahead.proofs.Named as proven
use Rattle.st_ahead.proofs.laws.all_named.Goals as goal

pub returns : goal.returns
returns c = proven.all_named
