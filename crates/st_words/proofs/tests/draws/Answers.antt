use Rattle.std.proofs.Common.{arith}
use Rattle.st_words.specs.Plain.{Exact, view_at}
use Rattle.st_words.specs.Steps.{Draw}
use Rattle.st_words.proofs.Naming.{plain_asks}
use Rattle.st_words.proofs.tests.draws.Goals as goal

pub draw-requires : goal.draw-requires
draw-requires c = record { may = record { serves = omega (arith, c.loop-n.invariant); may = plain_asks (Exact c.loop-n.board.words c.loop-n.board.kept.cargoes 0) (view_at c.loop-n.board.kept.views 0) Draw tt } }
