use Rattle.std.proofs.Common.{◌==◌}
use Rattle.st_model.specs.Flow.{is_argument}
use Rattle.st_flow.proofs.Words.{word_neither}
use Rattle.st_flow.proofs.places.absent.Goals as goal

pub returns : goal.returns
returns c =
    word_neither (λ x. x == 0) (is_argument c.args.function.now.ints c.args.function.now.handles) _ _ c.args.g c.place.type_inv c.arguments.type_inv c.place.ensures c.arguments.ensures
