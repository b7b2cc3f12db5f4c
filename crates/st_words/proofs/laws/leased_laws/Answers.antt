use Rattle.st_words.proofs.Leases as proven
use Rattle.st_words.proofs.laws.leased_laws.Goals as goal

pub returns : goal.returns
returns c = proven.leased_laws
