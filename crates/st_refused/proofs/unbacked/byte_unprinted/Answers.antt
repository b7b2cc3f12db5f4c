use Rattle.st_refused.proofs.Runs as proven
use Rattle.st_refused.proofs.unbacked.byte_unprinted.Goals as goal

pub returns : goal.returns
returns c = proven.byte_unprinted
