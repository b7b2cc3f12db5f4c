use Rattle.st_counts.proofs.Steps as proven
use Rattle.st_counts.proofs.laws.steps_keep.Goals as goal

pub returns : goal.returns
returns c = proven.step_kept
