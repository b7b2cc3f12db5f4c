use Rattle.st_lists.proofs.Steps as proven
use Rattle.st_lists.proofs.laws.kept_by_steps.Goals as goal

pub returns : goal.returns
returns c = proven.step_kept
