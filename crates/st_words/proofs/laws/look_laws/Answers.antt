use Rattle.st_words.proofs.Looks as proven
use Rattle.st_words.proofs.laws.look_laws.Goals as goal

pub returns : goal.returns
returns c = proven.look_laws
