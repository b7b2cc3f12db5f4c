use Rattle.st_requests.proofs.Steps as proven
use Rattle.st_requests.proofs.laws.steps_keep.Goals as goal

pub returns : goal.returns
returns c = proven.step_kept
