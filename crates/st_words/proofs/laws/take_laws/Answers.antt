use Rattle.st_words.proofs.Takes as proven
use Rattle.st_words.proofs.laws.take_laws.Goals as goal

pub returns : goal.returns
returns c = proven.take_laws
