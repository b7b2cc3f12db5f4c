use Rattle.st_refused.proofs.Others as proven
use Rattle.st_refused.proofs.laws.frame_taken_back.Goals as goal

pub returns : goal.returns
returns c = proven.frame_taken_back
