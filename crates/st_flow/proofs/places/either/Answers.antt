use Rattle.std.proofs.Common.{◌==◌}
use Rattle.st_flow.proofs.Words.{word_or}
use Rattle.st_flow.proofs.places.either.Goals as goal

pub returns : goal.returns
returns c = word_or (λ x. x == c.args.m) (λ x. x == c.args.n) _ _ c.args.g c.place.ensures c.place-2.ensures
