use Rattle.st_leases.proofs.Steps as proven
use Rattle.st_leases.proofs.laws.steps_keep.Goals as goal

pub returns : goal.returns
returns c = proven.step_kept
