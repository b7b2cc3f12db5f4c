use Rattle.st_leases.proofs.Firsts as proven
use Rattle.st_leases.proofs.laws.first_leases.Goals as goal

pub returns : goal.returns
returns c = proven.first_leases
