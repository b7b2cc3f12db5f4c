use Rattle.std.specs.Prelude.{not}
use Rattle.st_model.specs.Flow.{takes, gives}
use Rattle.st_flow.proofs.Words.{word_and, word_not}
use Rattle.st_flow.proofs.places.taken_away.Goals as goal

pub returns : goal.returns
returns c =
    word_and (takes c.args.kind) (λ x. not (gives c.args.frame c.args.kind x)) _ _ c.args.g c.takes.ensures (word_not (gives c.args.frame c.args.kind) c.gives.result c.args.g c.gives.type_inv c.gives.ensures)
