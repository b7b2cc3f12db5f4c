use Rattle.std.proofs.Common.{◌==◌}
use Rattle.std.specs.Prelude.{◌||◌}
use Rattle.st_model.specs.Flow.{between}
use Rattle.st_flow.proofs.Words.{word_or}
use Rattle.st_flow.proofs.places.taken_by_call.Goals as goal

pub returns : goal.returns
returns c =
    word_or (λ x. (x == 1 || between 5 8 x) || between 10 18 x) (between 28 31) _ _ c.args.g
    (word_or (λ x. x == 1 || between 5 8 x) (between 10 18) _ _ c.args.g (word_or (λ x. x == 1) (between 5 8) _ _ c.args.g c.place.ensures c.span.ensures) c.span-2.ensures) c.span-3.ensures
