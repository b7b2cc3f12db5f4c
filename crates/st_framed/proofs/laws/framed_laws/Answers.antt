use Rattle.st_framed.proofs.AllLaws.{framed_laws}
use Rattle.st_framed.proofs.laws.framed_laws.Goals as goal

-- src/laws.rt:6:1
pub returns : goal.returns
returns c = framed_laws
