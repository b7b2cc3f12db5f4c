use Rattle.st_step.proofs.Freeing.{augmented_law}
use Rattle.st_step.proofs.laws.runs_augmented.Goals as goal

pub returns : goal.returns
returns c = augmented_law
