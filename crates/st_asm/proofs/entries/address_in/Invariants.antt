use Rattle.std.proofs.Common.{◌≡◌, drop, map}
use Rattle.st_line.specs.Operands.{named_in}
use Rattle.st_asm.proofs.entries.address_in.Given as goal

abbrev pub invariant-loop-address : goal.invariant-loop-address
invariant-loop-address l = named_in (map (λ p. (p.0, p.1.now)) (drop l.address-index l.table)) l.name ≡ named_in (map (λ p. (p.0, p.1.now)) l.table) l.name
