use Rattle.st_words.proofs.Hands as proven
use Rattle.st_words.proofs.laws.hand_laws.Goals as goal

pub returns : goal.returns
returns c = proven.hand_laws
