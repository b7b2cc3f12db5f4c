use Rattle.std.proofs.Common.{◌<◌, arith, length, sym}
use Rattle.st_flow.proofs.order.ranks_of.Goals as goal

pub index_mut-requires : goal.index_mut-requires
index_mut-requires c =
    let end = c.len-turn-end.ensures in
    let within : c.loop-turn.turn < length c.in_ok-left.left.items = omega arith in
    let node = c.in_ok-left.ensures c.index.result.now (c.loop-turn.turn, within, sym c.index.ensures) in
    let long = c.loop-turn.invariant in
    omega arith
