-- A count that stands still at its last value.
use Rattle.std.proofs.Common.{ℕ, ◌+◌, ◌-◌, ◌<◌, ◌^◌, min, arith}
use Rattle.st_base.specs.Outside.{HasRisen}

pub risen_next : (n : ℕ) → n < 2 ^ 64 → HasRisen n (min (n + 1) (2 ^ 64 - 1))
risen_next n h = grind arith
