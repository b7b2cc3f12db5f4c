use Rattle.st_words.proofs.Marks as proven
use Rattle.st_words.proofs.laws.mark_laws.Goals as goal

pub returns : goal.returns
returns c = proven.mark_laws
