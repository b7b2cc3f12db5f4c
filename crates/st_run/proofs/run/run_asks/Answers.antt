use Rattle.st_made.specs.Moves.{Made}
use Rattle.st_made.specs.Events.{Event}
use Rattle.st_run.specs.Meanings.{meaning}
use Rattle.st_run.proofs.RunAsks as proven
use Rattle.st_run.proofs.run.run_asks.Goals as goal

pub returns-clause-asks : goal.returns-clause-asks
returns-clause-asks g c =
    let p = g.P.Plan.program in
    let d = g.P.Plan.source in
    let limits = g.P.Plan.limits in
    proven.run_asks g.B.Board.view g.B.Board.serves g.B.Board.forward g.B.Board.moves g.B.Board.says g.B.Board.did (g.B.RunBoard.is_for p d limits) g.B.RunBoard.stays (meaning p d limits) (Made p d) (Event p d) (g.met.B.RunBoard.laws p d limits)

pub returns-clause-leaves : goal.returns-clause-leaves
returns-clause-leaves g c =
    let p = g.P.Plan.program in
    let d = g.P.Plan.source in
    let limits = g.P.Plan.limits in
    proven.run_leaves g.B.Board.view g.B.Board.serves g.B.Board.forward g.B.Board.moves g.B.Board.says g.B.Board.did (g.B.RunBoard.is_for p d limits) g.B.RunBoard.stays (meaning p d limits) (Made p d) (Event p d) (g.met.B.RunBoard.laws p d limits)
