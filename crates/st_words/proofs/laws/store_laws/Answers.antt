use Rattle.st_words.proofs.Naming as proven
use Rattle.st_words.proofs.laws.store_laws.Goals as goal

pub returns : goal.returns
returns c = proven.store_laws
