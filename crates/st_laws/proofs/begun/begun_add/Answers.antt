use Rattle.st_laws.proofs.Adding as adding
use Rattle.st_laws.proofs.begun.begun_add.Goals as goal

pub returns : goal.returns
returns c = adding.begun_add
