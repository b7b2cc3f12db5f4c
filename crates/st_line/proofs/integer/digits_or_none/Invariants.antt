-- The loop of `digits_or_none`: the digits that are left go on from the number so far.
use Rattle.std.proofs.Common.{◌≡◌, ◌≤◌, ◌^◌, drop, Some}
use Rattle.st_line.specs.Views.{capped_after}
use Rattle.st_line.proofs.integer.digits_or_none.Given as goal

abbrev pub invariant-loop-byte : goal.invariant-loop-byte
invariant-loop-byte l = record {
  rest : capped_after l.base (Some l.n) (drop l.byte-index l.text) ≡ capped_after l.base (Some 0) l.text;
  small : l.n ≤ 2 ^ 64;
}
