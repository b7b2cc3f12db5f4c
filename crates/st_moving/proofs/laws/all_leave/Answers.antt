use Rattle.st_moving.proofs.Leaving.{all_leave}
use Rattle.st_moving.proofs.laws.all_leave.Goals as goal

-- src/laws.rt:5:1
pub returns : goal.returns
returns c = all_leave
