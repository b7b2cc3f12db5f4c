use Rattle.std.proofs.Common.{refl, map, get_or, Some}
use Rattle.st_check.proofs.ReadFaults.{lines-more, lines-end}
use Rattle.st_check.proofs.reads.lines_of.Goals as goal

pub loop-at-preserved : goal.loop-at-preserved
loop-at-preserved c =
    lines-more c.args.function.now c.args.path.now c.loop-at.lines c.push.new.self c.loop-at.at-index (get_or c.args.path.now c.loop-at.at-index 0) c.line_at.result c.loop-at-test.true refl c.line_at.ensures c.in_ok-push.ensures.ok c.loop-at.invariant

pub returns : goal.returns
returns c = lines-end c.args.function.now c.args.path.now (map Some c.loop-at.lines) c.loop-at.at-index c.loop-at-test.false c.loop-at.invariant
