use Rattle.st_output.proofs.Steps as proven
use Rattle.st_output.proofs.laws.moves_keep.Goals as goal

pub returns : goal.returns
returns c = proven.move_kept
