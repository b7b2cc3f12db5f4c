use Rattle.st_knows.proofs.Steps as proven
use Rattle.st_knows.proofs.laws.moves_keep.Goals as goal

pub returns : goal.returns
returns c = proven.move_laws
