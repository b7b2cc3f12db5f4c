use Rattle.st_asm.proofs.Room.{power-small}
use Rattle.st_asm.proofs.assembly.Assembled.add_statement.Goals as goal

pub align-requires : goal.align-requires
align-requires c = power-small c.args.statement _ c.in-Align.is c.requires.aligned
