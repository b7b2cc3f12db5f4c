use Rattle.st_threads.proofs.Steps as proven
use Rattle.st_threads.proofs.laws.steps_go.Goals as goal

pub returns : goal.returns
returns c = proven.steps_go
