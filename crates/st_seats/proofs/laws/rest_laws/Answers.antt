use Rattle.st_seats.proofs.Rested as proven
use Rattle.st_seats.proofs.laws.rest_laws.Goals as goal

pub returns : goal.returns
returns c = proven.rest_laws
