use Rattle.st_settled.proofs.Late.{turns_tick}
use Rattle.st_settled.proofs.laws.turns_tick.Goals as goal

pub returns : goal.returns
returns c = turns_tick
