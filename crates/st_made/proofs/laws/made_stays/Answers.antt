use Rattle.st_made.proofs.Making as proven
use Rattle.st_made.proofs.laws.made_stays.Goals as goal

pub returns : goal.returns
returns c = proven.made_stays
