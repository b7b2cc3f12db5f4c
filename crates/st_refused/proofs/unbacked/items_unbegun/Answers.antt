use Rattle.st_refused.proofs.Runs as proven
use Rattle.st_refused.proofs.unbacked.items_unbegun.Goals as goal

pub returns : goal.returns
returns c = proven.items_unbegun
