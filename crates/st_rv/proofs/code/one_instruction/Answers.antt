use Rattle.st_rv.proofs.Table as table
use Rattle.st_rv.proofs.code.one_instruction.Goals as goal

pub returns : goal.returns
returns c = table.one_instruction
