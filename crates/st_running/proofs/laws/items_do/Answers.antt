use Rattle.st_running.proofs.AllItems.{items_do}
use Rattle.st_running.proofs.laws.items_do.Goals as goal

-- src/laws.rt:6:1
pub returns : goal.returns
returns c = items_do
