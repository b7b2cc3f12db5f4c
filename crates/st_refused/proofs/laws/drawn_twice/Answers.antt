use Rattle.st_refused.proofs.Others as proven
use Rattle.st_refused.proofs.laws.drawn_twice.Goals as goal

pub returns : goal.returns
returns c = proven.drawn_twice
