use Rattle.st_kept.proofs.Stepping.{no_item_laws}
use Rattle.st_kept.proofs.laws.no_item_laws.Goals as goal

pub returns : goal.returns
returns c = no_item_laws
