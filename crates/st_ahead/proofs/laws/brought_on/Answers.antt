use Rattle.st_ahead.proofs.Named as proven
use Rattle.st_ahead.proofs.laws.brought_on.Goals as goal

pub returns : goal.returns
returns c = proven.brought_on
