use Rattle.std.proofs.Common.{arith, sym, ◌+◌, ◌-◌}
use Rattle.st_model.specs.Memory.{data_byte, data_of}
use Rattle.st_model.proofs.Loading.{load_start, load_none}
use Rattle.st_model.proofs.memory.load_data.Goals as goal

pub loop-left-init : goal.loop-left-init
loop-left-init c =
    record {
      left = omega arith;
      same = load_start (data_byte (data_of c.args.rodata.now c.args.input.now)) (c.args.at + c.args.size) c.args.size;
    }

pub returns-in_default : goal.returns-in_default
returns-in_default c =
    let left = c.loop-left.left - 1 in
    sym (load_none (data_byte (data_of c.args.rodata.now c.args.input.now)) c.args.at c.args.size left (let x = c.loop-left.invariant.left in let y = c.loop-left-test.true in omega arith) (cc (c.data_byte.ensures, c.in_default.is)))
