use Rattle.st_laws.proofs.Sequence as sequence
use Rattle.st_laws.proofs.agreement.all_agree.Goals as goal

pub returns : goal.returns
returns c = sequence.all_agree
