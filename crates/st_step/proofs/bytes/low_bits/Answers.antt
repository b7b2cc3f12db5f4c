use Rattle.st_step.proofs.WordParts.{masked_low}
use Rattle.st_step.proofs.bytes.low_bits.Goals as goal

pub returns : goal.returns
returns c = masked_low c.args.word c.args.count c.requires c.if-count-eq64.false
