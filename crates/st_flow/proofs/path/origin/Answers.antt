use Rattle.st_flow.proofs.Joining.{origin_last}
use Rattle.st_flow.proofs.path.origin.Goals as goal

pub returns : goal.returns
returns c = λ at back e. origin_last c.args.path.now at back e
