use Rattle.st_requests.proofs.Follows as proven
use Rattle.st_requests.proofs.laws.moves_keep.Goals as goal

pub returns : goal.returns
returns c = proven.move_laws
