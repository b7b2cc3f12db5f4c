use Rattle.st_draws.proofs.Steps as proven
use Rattle.st_draws.proofs.laws.moves_keep.Goals as goal

pub returns : goal.returns
returns c = proven.move_laws
