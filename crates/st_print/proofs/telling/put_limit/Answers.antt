use Rattle.std.proofs.Common.{◌∙◌}
use Rattle.st_print.proofs.Putting.{puts-as, limit_stack}
use Rattle.st_print.proofs.telling.put_limit.Goals as goal

pub returns-in-Stack : goal.returns-in-Stack
returns-in-Stack g c =
    puts-as _ (limit_stack _ _ _ _ _ c.in-Stack.is (c.as_bytes.ensures.value ∙ c.format.ensures.text) (c.as_bytes-in-Stack.ensures.value ∙ c.format-in-Stack.ensures.text)) c.put_pieces.ensures
