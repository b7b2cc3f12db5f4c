use Rattle.st_asm.proofs.Room.{power-small}
use Rattle.st_asm.proofs.statements.added_bytes.Goals as goal

pub padding-requires : goal.padding-requires
padding-requires c = power-small c.args.statement.now _ c.in-Align.is c.requires
