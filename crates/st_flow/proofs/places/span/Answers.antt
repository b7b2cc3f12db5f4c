use Rattle.std.specs.Prelude.{nat_lt, not, ◌&&◌}
use Rattle.st_model.specs.Flow.{between}
use Rattle.st_flow.proofs.Words.{word_and, word_not, word_same, between_is}
use Rattle.st_flow.proofs.places.span.Goals as goal

pub returns : goal.returns
returns c =
    word_same (λ x. nat_lt x c.args.high && not (nat_lt x c.args.low)) (between c.args.low c.args.high) _ c.args.g (λ x lt. between_is c.args.low c.args.high x)
    (word_and (λ x. nat_lt x c.args.high) (λ x. not (nat_lt x c.args.low)) _ _ c.args.g c.below.ensures (word_not (λ x. nat_lt x c.args.low) c.below-2.result c.args.g c.below-2.type_inv c.below-2.ensures))
