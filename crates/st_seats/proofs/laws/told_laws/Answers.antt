use Rattle.st_seats.proofs.Told as proven
use Rattle.st_seats.proofs.laws.told_laws.Goals as goal

pub returns : goal.returns
returns c = proven.told_laws
