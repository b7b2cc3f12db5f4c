use Rattle.st_moving.proofs.Coming.{all_come}
use Rattle.st_moving.proofs.laws.all_come.Goals as goal

-- src/laws.rt:21:1
pub returns : goal.returns
returns c = all_come
