use Rattle.st_model.specs.Flow.{takes, gives}
use Rattle.st_flow.proofs.Words.{word_neither}
use Rattle.st_flow.proofs.places.spared.Goals as goal

pub returns : goal.returns
returns c = word_neither (gives c.args.frame c.args.kind) (takes c.args.kind) _ _ c.args.g c.gives.type_inv c.takes.type_inv c.gives.ensures c.takes.ensures
