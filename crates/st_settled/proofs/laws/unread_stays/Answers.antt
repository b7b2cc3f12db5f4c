use Rattle.st_settled.proofs.Unread.{unread_fits}
use Rattle.st_settled.proofs.laws.unread_stays.Goals as goal

pub returns : goal.returns
returns c = unread_fits
