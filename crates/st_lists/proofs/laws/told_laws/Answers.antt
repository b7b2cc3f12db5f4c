use Rattle.st_lists.proofs.Told as proven
use Rattle.st_lists.proofs.laws.told_laws.Goals as goal

pub returns : goal.returns
returns c = proven.told_laws
