use Rattle.st_ahead.proofs.Bringing as proven
use Rattle.st_ahead.proofs.laws.items_are_brought.Goals as goal

pub returns : goal.returns
returns c = proven.items_are_brought
