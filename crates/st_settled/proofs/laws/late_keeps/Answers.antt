use Rattle.st_settled.proofs.Late.{late_keeps}
use Rattle.st_settled.proofs.laws.late_keeps.Goals as goal

pub returns : goal.returns
returns c = late_keeps
