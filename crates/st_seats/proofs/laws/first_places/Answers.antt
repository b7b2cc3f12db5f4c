use Rattle.st_seats.proofs.Firsts as proven
use Rattle.st_seats.proofs.laws.first_places.Goals as goal

pub returns : goal.returns
returns c = proven.first_places
