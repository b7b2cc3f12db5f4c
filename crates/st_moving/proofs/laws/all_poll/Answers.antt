use Rattle.st_moving.proofs.Polling.{all_poll}
use Rattle.st_moving.proofs.laws.all_poll.Goals as goal

-- src/laws.rt:15:1
pub returns : goal.returns
returns c = all_poll
