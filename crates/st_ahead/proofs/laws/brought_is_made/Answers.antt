use Rattle.st_ahead.proofs.Bringing as proven
use Rattle.st_ahead.proofs.laws.brought_is_made.Goals as goal

pub returns : goal.returns
returns c = proven.brought_is_made
