-- Parts of a word by masks and shifts: low bits (masked_low), and a word with some bytes replaced (joined, joined_fits).
use Rattle.std.proofs.Common.{◌≡◌, ◌≢◌, ◌∙◌, ℕ, ◌+◌, ◌-◌, ◌*◌, ◌/◌, ◌%◌, ◌^◌, ◌<◌, ◌≤◌, ap, sym, arith, bit_and}
use Rattle.std.proofs.lemmas.Nat.{pow_pos, pow-add, and_mask, one_shl, shl_whole, shr_split, mod_below, mul-add-lt, div_below}
use Rattle.st_step.specs.Moves.{with_bytes}

pub masked_low : (word count : ℕ) → count ≤ 64 → count ≢ 64 → bit_and word (1 * 2 ^ count % 2 ^ 64 - 1) ≡ word % 2 ^ count
masked_low word count most other = let lt : count < 64 = omega arith in rw (one_shl count 64 lt) (and_mask word count)

-- a shift of low bits loses none
pub shifted_part : (n at size : ℕ) → at + size ≤ 8 → n % 2 ^ (8 * size) * 2 ^ (8 * at) % 2 ^ 64 ≡ n % 2 ^ (8 * size) * 2 ^ (8 * at)
shifted_part n at size within =
    let room : 8 * size + 8 * at ≤ 64 = omega arith in
    shl_whole (n % 2 ^ (8 * size)) (8 * size) (8 * at) 64 (mod_below n (2 ^ (8 * size)) (pow_pos (8 * size))) room

pub high_part : (word k : ℕ) → word - word % 2 ^ k ≡ word / 2 ^ k * 2 ^ k
high_part word k = let e = shr_split word k in omega arith

-- what lies below the end of the bytes
pub low_fits : (word n at size : ℕ) → word % 2 ^ (8 * at) + n % 2 ^ (8 * size) * 2 ^ (8 * at) < 2 ^ (8 * (at + size))
low_fits word n at size =
    let b = mul-add-lt (n % 2 ^ (8 * size)) (2 ^ (8 * at)) (word % 2 ^ (8 * at)) (2 ^ (8 * size)) (mod_below n (2 ^ (8 * size)) (pow_pos (8 * size))) (mod_below word (2 ^ (8 * at)) (pow_pos (8 * at))) in
    let e : 8 * (at + size) ≡ 8 * at + 8 * size = omega arith in
    let p : 2 ^ (8 * (at + size)) ≡ 2 ^ (8 * at) * 2 ^ (8 * size) = ap (λ (k : ℕ). 2 ^ k) e ∙ pow-add 2 (8 * at) (8 * size) in
    omega (arith, p, b)

-- a multiple of a power of two with less than that power
pub whole_fits : (word low k : ℕ) → word < 2 ^ 64 → k ≤ 64 → low < 2 ^ k → low + word / 2 ^ k * 2 ^ k < 2 ^ 64
whole_fits word low k fits most less =
    let e : k + (64 - k) ≡ 64 = omega arith in
    let p : 2 ^ k * 2 ^ (64 - k) ≡ 2 ^ 64 = sym (pow-add 2 k (64 - k)) ∙ ap (λ (j : ℕ). 2 ^ j) e in
    let q : word < 2 ^ (64 - k) * 2 ^ k = omega (arith, p) in
    let b = mul-add-lt (word / 2 ^ k) (2 ^ k) low (2 ^ (64 - k)) (div_below word (2 ^ k) (2 ^ (64 - k)) (pow_pos k) q) less in
    omega (arith, p, b)

pub joined_fits : (word at size n : ℕ) → word < 2 ^ 64 → at + size ≤ 8 → with_bytes word at size n < 2 ^ 64
joined_fits word at size n fits within =
    let most : 8 * (at + size) ≤ 64 = omega arith in
    whole_fits word (word % 2 ^ (8 * at) + n % 2 ^ (8 * size) * 2 ^ (8 * at)) (8 * (at + size)) fits most (low_fits word n at size)

pub joined : (word at size n below part low : ℕ) → at + size ≤ 8 → below ≡ word % 2 ^ (8 * at) → part ≡ n % 2 ^ (8 * size) → low ≡ word % 2 ^ (8 * (at + size)) → below + part * 2 ^ (8 * at) % 2 ^ 64 + (word - low) ≡ with_bytes word at size n
joined word at size n below part low within b p l =
    let e = shifted_part n at size within in
    let h = high_part word (8 * (at + size)) in
    cc
