use Rattle.st_words.proofs.Naming as proven
use Rattle.st_words.proofs.laws.size_laws.Goals as goal

pub returns : goal.returns
returns c = proven.size_laws
