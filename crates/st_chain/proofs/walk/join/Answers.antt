use Rattle.std.proofs.Common.{refl}
use Rattle.st_chain.proofs.Joining.{joins_added}
use Rattle.st_chain.proofs.walk.join.Goals as goal

pub export-new-requires-clause-apart : goal.export-new-requires-clause-apart
export-new-requires-clause-apart c = c.requires c.if-is_taken.true (c.if-is_on.ensures.0 refl)

pub returns-then-is_on : goal.returns-then-is_on
returns-then-is_on c = joins_added c.args.is_taken c.export-new.result c.args.s.now c.export-new.new.self c.args.f c.if-is_taken.true (c.if-is_on.ensures.0 refl) c.export-new.ensures.added c.export-new.ensures.ends
