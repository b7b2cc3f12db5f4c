use Rattle.st_print.proofs.ReadBack.{reads_back}
use Rattle.st_print.proofs.laws.reread.Goals as goal

pub returns : goal.returns
returns c = reads_back
