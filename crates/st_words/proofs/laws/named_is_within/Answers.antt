use Rattle.st_words.proofs.Naming as proven
use Rattle.st_words.proofs.laws.named_is_within.Goals as goal

pub returns : goal.returns
returns c = proven.named_is_within
