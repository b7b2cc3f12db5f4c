use Rattle.st_made.proofs.Events as proven
use Rattle.st_made.proofs.laws.events_by_kind.Goals as goal

pub returns : goal.returns
returns c = proven.events_by_kind
