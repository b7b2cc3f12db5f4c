use Rattle.st_run.proofs.RunAsks.{ready_asked, ready_left}
use Rattle.st_run.proofs.run.take_ready.Goals as goal

pub slot_take_by-requires : goal.slot_take_by-requires
slot_take_by-requires g c =
    let p = g.P.Plan.program in
    let d = g.P.Plan.source in
    let limits = g.P.Plan.limits in
    record { may = ready_asked g.B.Board.view g.B.Board.serves g.B.Board.forward g.B.Board.moves g.B.Board.says g.B.Board.did (g.B.RunBoard.is_for p d limits) g.B.RunBoard.stays p d limits (g.met.B.RunBoard.laws p d limits) c.args.board.now c.args.w c.args.c c.requires.here c.requires.serves c.requires.ready c.requires.few }

pub returns : goal.returns
returns g c =
    let p = g.P.Plan.program in
    let d = g.P.Plan.source in
    let limits = g.P.Plan.limits in
    let told = c.slot_take_by.ensures.told in
    let left = ready_left g.B.Board.view g.B.Board.serves g.B.Board.forward g.B.Board.moves g.B.Board.says g.B.Board.did (g.B.RunBoard.is_for p d limits) g.B.RunBoard.stays p d limits (g.met.B.RunBoard.laws p d limits) c.args.board.now c.args.w c.args.c c.requires.here c.requires.serves c.requires.ready c.requires.few c.slot_take_by.result told.0 c.slot_take_by.new.board told.1 in
    record { some = left.some; taken = left.taken; here = left.still; stays = left.stays }
