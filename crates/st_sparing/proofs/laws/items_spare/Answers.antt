use Rattle.st_sparing.proofs.AllItems.{items_spare}
use Rattle.st_sparing.proofs.laws.items_spare.Goals as goal

-- src/laws.rt:5:1
pub returns : goal.returns
returns c = items_spare
