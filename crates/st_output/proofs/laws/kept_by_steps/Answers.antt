use Rattle.st_output.proofs.Steps as proven
use Rattle.st_output.proofs.laws.kept_by_steps.Goals as goal

pub returns : goal.returns
returns c = proven.step_kept
