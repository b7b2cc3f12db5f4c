use Rattle.st_laws.proofs.Sequence as sequence
use Rattle.st_laws.proofs.agreement.sequential.Goals as goal

pub returns : goal.returns
returns c = sequence.sequential
