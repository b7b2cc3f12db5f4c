use Rattle.st_words.proofs.Puts as proven
use Rattle.st_words.proofs.laws.put_laws.Goals as goal

pub returns : goal.returns
returns c = proven.put_laws
