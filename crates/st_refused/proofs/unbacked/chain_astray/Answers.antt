use Rattle.st_refused.proofs.Astray as proven
use Rattle.st_refused.proofs.unbacked.chain_astray.Goals as goal

pub returns : goal.returns
returns g c = proven.chain_astray g.P.Program.means
