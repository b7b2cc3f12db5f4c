use Rattle.st_refused.proofs.Others as proven
use Rattle.st_refused.proofs.laws.given_untruly.Goals as goal

pub returns : goal.returns
returns c = proven.given_untruly
