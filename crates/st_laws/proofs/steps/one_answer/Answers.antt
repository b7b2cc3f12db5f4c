use Rattle.st_laws.proofs.Answering as answering
use Rattle.st_laws.proofs.steps.one_answer.Goals as goal

pub returns : goal.returns
returns c = answering.one_answer
