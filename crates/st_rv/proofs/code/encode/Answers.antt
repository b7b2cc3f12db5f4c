use Rattle.st_rv.proofs.Table.{encoded_some, encoded_only, encoded_fits}
use Rattle.st_rv.proofs.code.encode.Goals as goal

pub returns : goal.returns
returns c = record {
  some = encoded_some c.args.i c.encoded.result c.encoded.ensures;
  only = encoded_only c.args.i c.encoded.result c.encoded.ensures;
  fits = encoded_fits c.args.i c.encoded.result c.encoded.ensures;
}
