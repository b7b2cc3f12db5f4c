use Rattle.st_spots.proofs.Tidies as proven
use Rattle.st_spots.proofs.laws.view_laws.Goals as goal

pub returns : goal.returns
returns c = proven.view_laws
