use Rattle.std.proofs.Common.{sym, arith}
use Rattle.std.proofs.lemmas.List.{length-map}
use Rattle.st_line.specs.Views.{lexes, lex_of}
use Rattle.st_line.proofs.OperandLaws.{register_of_other}
use Rattle.st_line.proofs.operand.register_in.Goals as goal

pub returns-in_default-2 : goal.returns-in_default-2
returns-in_default-2 c = sym (register_of_other (lexes c.args.operand.now) (omega (arith, length-map c.args.operand.now lex_of)))
