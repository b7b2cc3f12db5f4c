use Rattle.st_words.proofs.Carrying as proven
use Rattle.st_words.proofs.laws.cargo_laws.Goals as goal

pub returns : goal.returns
returns c = proven.cargo_laws
