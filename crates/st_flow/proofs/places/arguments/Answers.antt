use Rattle.std.proofs.Common.{◌+◌}
use Rattle.st_model.specs.Flow.{between}
use Rattle.st_flow.proofs.Words.{word_or}
use Rattle.st_flow.proofs.places.arguments.Goals as goal

pub returns : goal.returns
returns c = word_or (between 10 (10 + c.args.ints)) (between 16 (16 + c.args.handles)) _ _ c.args.g c.span.ensures c.span-2.ensures
