-- How kinds of faults are printed.
use Rattle.std.specs.Prelude.{ℕ, List, codes}
use Rattle.st_line.specs.declared.fault.AsmKind.{AsmKind}
use Rattle.st_line.specs.declared.fault.AsmKind.TheVariants.{NotAscii, BadLine, UnknownName, BadOperand, ImmRange, DoubleLabel, NoLabel, TooLarge}

abbrev pub kind_text : AsmKind → List ℕ
kind_text NotAscii = codes "E1 NotAscii"
kind_text BadLine = codes "E2 BadLine"
kind_text UnknownName = codes "E3 UnknownName"
kind_text BadOperand = codes "E4 BadOperand"
kind_text ImmRange = codes "E5 ImmRange"
kind_text DoubleLabel = codes "E6 DoubleLabel"
kind_text NoLabel = codes "E7 NoLabel"
kind_text TooLarge = codes "E8 TooLarge"
