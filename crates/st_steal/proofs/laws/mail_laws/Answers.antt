use Rattle.st_steal.proofs.Mails.{mail_laws}
use Rattle.st_steal.proofs.laws.mail_laws.Goals as goal

pub returns : goal.returns
returns c = mail_laws
