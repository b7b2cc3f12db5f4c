use Rattle.std.proofs.Common.{arith}
use Rattle.st_rv.proofs.Table.{decoded_some, decoded_only, decoded_given}
use Rattle.st_rv.proofs.code.decode.Goals as goal

pub returns : goal.returns
returns c = record {
  some = decoded_some c.args.w c.decoded.result (omega arith) c.decoded.ensures;
  only = decoded_only c.args.w c.decoded.result c.decoded.ensures;
  given = decoded_given c.args.w c.decoded.result c.decoded.ensures;
}
