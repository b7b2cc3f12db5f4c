use Rattle.st_seats.proofs.Slots as proven
use Rattle.st_seats.proofs.laws.slot_laws.Goals as goal

pub returns : goal.returns
returns c = proven.slot_laws
