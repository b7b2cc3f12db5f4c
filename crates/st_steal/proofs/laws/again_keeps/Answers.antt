use Rattle.st_steal.proofs.Mails.{again_keeps}
use Rattle.st_steal.proofs.laws.again_keeps.Goals as goal

pub returns : goal.returns
returns c = again_keeps
