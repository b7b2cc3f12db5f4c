use Rattle.st_holders.proofs.Held as proven
use Rattle.st_holders.proofs.laws.held_laws.Goals as goal

pub returns : goal.returns
returns c = proven.held_laws
