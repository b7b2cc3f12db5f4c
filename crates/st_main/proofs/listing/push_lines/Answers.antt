-- At each word what is left begins with it.
use Rattle.std.proofs.Common.{◌+◌, drop, get_or, arith}
use Rattle.st_main.proofs.Listings.{drop-at, lines-next}
use Rattle.st_main.proofs.listing.push_lines.Goals as goal

pub loop-word-preserved : goal.loop-word-preserved
loop-word-preserved c =
    let inv = c.loop-word.invariant in
    let i = c.loop-word.word-index in
    let words = c.args.words.now in
    let place = inv.place in
    record {
      place = omega arith;
      lines = lines-next c.loop-word.text.items c.push_line.new.text.items _ c.loop-word.address (get_or words i 0) (drop (i + 1) words) (drop i words) c.in_ok-push_line.ensures (drop-at words i 0 c.loop-word-test.true) inv.lines;
    }
