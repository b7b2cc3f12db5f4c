use Rattle.std.proofs.Common.{◌≡◌, drop, map}
use Rattle.st_asm.specs.Labels.{is_named}
use Rattle.st_check.proofs.names.is_named.Given as goal

abbrev pub invariant-loop-other : goal.invariant-loop-other
invariant-loop-other l = is_named l.name (map (λ n. n.now) (drop l.other-index l.names)) ≡ is_named l.name (map (λ n. n.now) l.names)
