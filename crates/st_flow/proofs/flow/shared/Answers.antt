use Rattle.std.proofs.Common.{refl}
use Rattle.st_flow.proofs.Hits.{shared_none, shared_there}
use Rattle.st_flow.proofs.flow.shared.Goals as goal

pub returns-then-both-eq0-clause-none : goal.returns-then-both-eq0-clause-none
returns-then-both-eq0-clause-none c = shared_none c.args.set c.args.read c.if-both-eq0.true

pub returns-clause-there : goal.returns-clause-there
returns-clause-there c =
    let t = shared_there c.args.set c.args.read c.if-both-eq0.false c.ranges.set.fits in
    (_, t.0, refl, t.1, t.2)
