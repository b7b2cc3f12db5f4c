use Rattle.st_step.proofs.Prologues.{prologue_law}
use Rattle.st_step.proofs.laws.runs_prologue.Goals as goal

pub returns : goal.returns
returns c = prologue_law
