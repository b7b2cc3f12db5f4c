use Rattle.st_made.proofs.Making as proven
use Rattle.st_made.proofs.laws.made_is_free.Goals as goal

pub returns : goal.returns
returns c = proven.made_is_free
