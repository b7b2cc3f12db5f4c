use Rattle.std.proofs.Common.{arith, sym, ◌+◌, ◌-◌}
use Rattle.st_model.specs.Memory.{slot_byte}
use Rattle.st_model.proofs.Loading.{load_start, load_none}
use Rattle.st_model.proofs.memory.load_slots.Goals as goal

pub loop-left-init : goal.loop-left-init
loop-left-init c = record { left = omega arith; same = load_start (slot_byte c.args.cells.now) (c.args.at + c.args.size) c.args.size }

pub returns-in_default : goal.returns-in_default
returns-in_default c =
    let left = c.loop-left.left - 1 in
    sym (load_none (slot_byte c.args.cells.now) c.args.at c.args.size left (let x = c.loop-left.invariant.left in let y = c.loop-left-test.true in omega arith) (cc (c.slot_byte.ensures, c.in_default.is)))
