-- The stacks of workers, which lie one behind the other: on_range.
use Rattle.std.proofs.Common.{◌≡◌, ℕ, zero, suc, ◌+◌, ◌*◌, ◌%◌, ◌≤◌, arith}
use Rattle.st_stack.specs.Exported.{IsRange}

-- the multiples of a multiple of 16
sixteens : (n bytes : ℕ) → bytes % 16 ≡ 0 → (n * bytes) % 16 ≡ 0
sixteens zero bytes even = omega arith
sixteens (suc n) bytes even = let rest = sixteens n bytes even in omega (arith, even, rest)

pub on_range : (n bytes : ℕ) → 1 ≤ bytes → bytes ≤ 1048576 → bytes % 16 ≡ 0 → IsRange (2147483648 + n * bytes) (2147483648 + n * bytes + bytes)
on_range n bytes least most even =
    let low = sixteens n bytes even in
    record { some = omega (arith, least); size = omega (arith, most); low_even = omega (arith, low); high_even = omega (arith, low, even) }
