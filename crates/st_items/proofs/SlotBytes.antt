-- Bytes of words and of slots. A load of some bytes gives the number that they have in their word (loads_number), a store writes just its
-- bytes (byte_stored, byte_kept; stored_inside, stored_outside for the slots), and a store of a whole word is one of eight bytes (whole_stored).
use Rattle.std.proofs.Common.{◌≡◌, ◌≢◌, ◌⊎◌, inl, inr, ℕ, zero, suc, ◌+◌, ◌-◌, ◌*◌, ◌/◌, ◌%◌, ◌^◌, ◌<◌, ◌≤◌, List, length, Option, Some, None, slice_index_or, slice_set, refl, ap, sym, ◌∙◌, subst, arith}
use Rattle.std.proofs.lemmas.Bool.{cases_eq}
use Rattle.std.proofs.lemmas.Nat.{pow_pos, pow-add, shr-shr, mod-pow-add, field_of, shr_high, mod_low, mod_below}
use Rattle.std.proofs.lemmas.List.{length-set, get_or-set_same, get_or-set_other}
use Rattle.st_base.specs.Slots.{store_bytes}
use Rattle.st_model.specs.Memory.{byte_below, load_from}
use Rattle.st_words.specs.Steps.{place_of}
use Rattle.st_step.specs.Moves.{bytes_of, with_bytes}
use Rattle.st_step.specs.Runs.{stored}
use Rattle.st_step.specs.Frames.{byte_at}
use Rattle.st_items.proofs.FrameWords.{stored_same, stored_other}

-- ---- the bytes of a word

-- the byte of a word at a place
abbrev pub byte_of : ℕ → ℕ → ℕ
byte_of word at = word / 2 ^ (8 * at) % 256

byte_above : (w a b : ℕ) → byte_of w (a + b) ≡ byte_of (w / 2 ^ (8 * a)) b
byte_above w a b =
    let e : 8 * (a + b) ≡ 8 * a + 8 * b = omega arith in
    ap (λ (k : ℕ). w / 2 ^ k % 256) e ∙ ap (λ (n : ℕ). n % 256) (sym (shr-shr w (8 * a) (8 * b)))

low_byte : (n j : ℕ) → n % 2 ^ (j + 8) % 256 ≡ n % 256
low_byte n j = ap (λ (k : ℕ). k % 256) (mod-pow-add n j 8) ∙ mod_low (n / 2 ^ 8 % 2 ^ j) 8 (n % 2 ^ 8) (mod_below n (2 ^ 8) (omega arith))

low_bytes : (w b c : ℕ) → b < c → byte_of w b ≡ w % 2 ^ (8 * c) / 2 ^ (8 * b) % 256
low_bytes w b c less =
    let e : 8 * c ≡ 8 * (c - b - 1) + 8 + 8 * b = omega arith in
    sym (low_byte (w / 2 ^ (8 * b)) (8 * (c - b - 1)))
    ∙ ap (λ (n : ℕ). n % 256) (sym (field_of w (8 * (c - b - 1) + 8) (8 * b)))
    ∙ ap (λ (k : ℕ). w % 2 ^ k / 2 ^ (8 * b) % 256) (sym e)

-- a byte is one of the low bytes
byte_by_low : (w n b c : ℕ) → b < c → w % 2 ^ (8 * c) ≡ n % 2 ^ (8 * c) → byte_of w b ≡ byte_of n b
byte_by_low w n b c less same = low_bytes w b c less ∙ ap (λ (k : ℕ). k / 2 ^ (8 * b) % 256) same ∙ sym (low_bytes n b c less)

-- one more byte, below the others
bytes_more : (w at k : ℕ) → bytes_of w at (suc k) ≡ bytes_of w (at + 1) k * 256 + byte_of w at
bytes_more w at k =
    let e : 8 * suc k ≡ 8 * k + 8 = omega arith in
    let f : 8 * at + 8 ≡ 8 * (at + 1) = omega arith in
    ap (λ (j : ℕ). w / 2 ^ (8 * at) % 2 ^ j) e
    ∙ mod-pow-add (w / 2 ^ (8 * at)) (8 * k) 8
    ∙ ap (λ (n : ℕ). n % 2 ^ (8 * k) * 2 ^ 8 + w / 2 ^ (8 * at) % 2 ^ 8) (shr-shr w (8 * at) 8 ∙ ap (λ (j : ℕ). w / 2 ^ j) f)

-- ---- a word with some bytes of a number

powers : (at size : ℕ) → 2 ^ (8 * (at + size)) ≡ 2 ^ (8 * at) * 2 ^ (8 * size)
powers at size = let e : 8 * (at + size) ≡ 8 * at + 8 * size = omega arith in ap (λ (k : ℕ). 2 ^ k) e ∙ pow-add 2 (8 * at) (8 * size)

-- what lies from the byte `at` on
abbrev upper_part : ℕ → ℕ → ℕ → ℕ → ℕ
upper_part word at size n = word / 2 ^ (8 * (at + size)) * 2 ^ (8 * size) + n % 2 ^ (8 * size)

regrouped : (low mid high p q r : ℕ) → r ≡ p * q → low + mid * p + high * r ≡ (high * q + mid) * p + low
regrouped low mid high p q r e = omega (arith, ap (λ (x : ℕ). high * x) e)

parts : (word at size n : ℕ) → with_bytes word at size n ≡ upper_part word at size n * 2 ^ (8 * at) + word % 2 ^ (8 * at)
parts word at size n =
    regrouped (word % 2 ^ (8 * at)) (n % 2 ^ (8 * size)) (word / 2 ^ (8 * (at + size))) (2 ^ (8 * at)) (2 ^ (8 * size)) (2 ^ (8 * (at + size))) (powers at size)

part_below : (word at : ℕ) → word % 2 ^ (8 * at) < 2 ^ (8 * at)
part_below word at = mod_below word (2 ^ (8 * at)) (pow_pos (8 * at))

lower_stays : (word at size n : ℕ) → with_bytes word at size n % 2 ^ (8 * at) ≡ word % 2 ^ (8 * at)
lower_stays word at size n =
    ap (λ (x : ℕ). x % 2 ^ (8 * at)) (parts word at size n) ∙ mod_low (upper_part word at size n) (8 * at) (word % 2 ^ (8 * at)) (part_below word at)

upper_is : (word at size n : ℕ) → with_bytes word at size n / 2 ^ (8 * at) ≡ upper_part word at size n
upper_is word at size n =
    ap (λ (x : ℕ). x / 2 ^ (8 * at)) (parts word at size n) ∙ shr_high (upper_part word at size n) (8 * at) (word % 2 ^ (8 * at)) (part_below word at)

-- a byte below those that are written
byte_under : (word at size n b : ℕ) → b < at → byte_of (with_bytes word at size n) b ≡ byte_of word b
byte_under word at size n b less = byte_by_low (with_bytes word at size n) word b at less (lower_stays word at size n)

upper_low : (word at size n : ℕ) → upper_part word at size n % 2 ^ (8 * size) ≡ n % 2 ^ (8 * size)
upper_low word at size n = mod_low (word / 2 ^ (8 * (at + size))) (8 * size) (n % 2 ^ (8 * size)) (part_below n size)

-- one that is written
byte_within : (word at size n b : ℕ) → b < size → byte_of (with_bytes word at size n) (at + b) ≡ byte_of n b
byte_within word at size n b less =
    byte_above (with_bytes word at size n) at b
    ∙ ap (λ (x : ℕ). byte_of x b) (upper_is word at size n)
    ∙ byte_by_low (upper_part word at size n) n b size less (upper_low word at size n)

-- and one above them
byte_over : (word at size n b : ℕ) → byte_of (with_bytes word at size n) (at + size + b) ≡ byte_of word (at + size + b)
byte_over word at size n b =
    let e : at + size + b ≡ at + (size + b) = omega arith in
    ap (byte_of (with_bytes word at size n)) e
    ∙ byte_above (with_bytes word at size n) at (size + b)
    ∙ ap (λ (x : ℕ). byte_of x (size + b)) (upper_is word at size n)
    ∙ byte_above (upper_part word at size n) size b
    ∙ ap (λ (x : ℕ). byte_of x b) (shr_high (word / 2 ^ (8 * (at + size))) (8 * size) (n % 2 ^ (8 * size)) (part_below n size))
    ∙ sym (byte_above word (at + size) b)

-- a whole word is eight bytes
pub whole_stored : (word n : ℕ) → word < 2 ^ 64 → n < 2 ^ 64 → with_bytes word 0 8 n ≡ n
whole_stored word n less fits = omega arith

-- ---- an access of memory

-- an access of so many bytes lies in one word of the stacks
pub record IsInWord (address size : ℕ) : Type 0 where
  pub low : 0x8000_0000 ≤ address
  pub within : address % 8 + size ≤ 8

place_inside : (address size x : ℕ) → IsInWord address size → x < size → place_of (address + x) ≡ place_of address
place_inside address size x is less = let l = is.low in let w = is.within in omega arith

byte_inside : (address size x : ℕ) → IsInWord address size → x < size → (address + x) % 8 ≡ address % 8 + x
byte_inside address size x is less = let l = is.low in let w = is.within in omega arith

byte_at_inside : (word : ℕ → ℕ) (address size x : ℕ) → IsInWord address size → x < size → byte_at word (address + x) ≡ byte_of (word (place_of address)) (address % 8 + x)
byte_at_inside word address size x is less =
    ap (λ (q : ℕ). byte_of (word q) ((address + x) % 8)) (place_inside address size x is less) ∙ ap (byte_of (word (place_of address))) (byte_inside address size x is less)

-- ---- loads

both_there : (o m : Option ℕ) (v : ℕ) → byte_below o m ≡ Some v → (b : ℕ) × ((u : ℕ) × (o ≡ Some b) × (m ≡ Some u) × (v ≡ (u * 256 % 2 ^ 64 + b) % 2 ^ 64))
both_there None m v same = absurd (let never : ⊥ = cc in never)
both_there (Some b) None v same = absurd (let never : ⊥ = cc in never)
both_there (Some b) (Some u) v same = (b, (u, refl, refl, cc))

no_wrap : (u b : ℕ) → u < 2 ^ 56 → b < 256 → (u * 256 % 2 ^ 64 + b) % 2 ^ 64 ≡ u * 256 + b
no_wrap u b less few = omega arith

bytes_few : (w at k : ℕ) → k ≤ 7 → bytes_of w at k < 2 ^ 56
bytes_few w at k few =
    let less = part_below (w / 2 ^ (8 * at)) k in
    let e : 8 * k + (56 - 8 * k) ≡ 56 = omega arith in
    let p : 2 ^ (8 * k) * 2 ^ (56 - 8 * k) ≡ 2 ^ 56 = sym (pow-add 2 (8 * k) (56 - 8 * k)) ∙ ap (λ (j : ℕ). 2 ^ j) e in
    let some = pow_pos (56 - 8 * k) in
    at_most (bytes_of w at k) (2 ^ (8 * k)) (2 ^ (56 - 8 * k)) less some p
  where
    at_most : (x a b : ℕ) → x < a → 0 < b → a * b ≡ 2 ^ 56 → x < 2 ^ 56
    at_most x a b less some p = let q : a ≤ a * b = grind arith in omega arith

-- the bytes that are there are those of a word, from its byte `j` on
pub loads_bytes : (byte : ℕ → Option ℕ) (w at j k v : ℕ) → j + k ≤ 8 → ((x b : ℕ) → x < k → byte (at + x) ≡ Some b → byte_of w (j + x) ≡ b) → load_from byte at k ≡ Some v → v ≡ bytes_of w j k
unfolding load_from
loads_bytes byte w at j zero v few has same =
    let e : v ≡ 0 = cc in
    let n : w / 2 ^ (8 * j) % 1 ≡ 0 = omega arith in
    e ∙ sym n
loads_bytes byte w at j (suc k) v few has same =
    let there = both_there (byte at) (load_from byte (at + 1) k) v same in
    let b = there.0 in
    let u = there.1.0 in
    let first : byte_of w j ≡ b = subst (λ (i : ℕ). byte_of w i ≡ b) (let z : j + 0 ≡ j = omega arith in z) (has 0 b (omega arith) (ap byte (let z : at + 0 ≡ at = omega arith in z) ∙ there.1.1)) in
    let rest : u ≡ bytes_of w (j + 1) k = loads_bytes byte w (at + 1) (j + 1) k u (omega arith) (λ x c less here. subst (λ (i : ℕ). byte_of w i ≡ c) (let z : j + suc x ≡ j + 1 + x = omega arith in z) (has (suc x) c (omega arith) (ap byte (let z : at + suc x ≡ at + 1 + x = omega arith in z) ∙ here))) there.1.2 in
    let less : u < 2 ^ 56 = subst (λ (n : ℕ). n < 2 ^ 56) (sym rest) (bytes_few w (j + 1) k (omega arith)) in
    let few_b : b < 256 = subst (λ (n : ℕ). n < 256) first (mod_below (w / 2 ^ (8 * j)) 256 (omega arith)) in
    let whole = no_wrap u b less few_b in
    let more = bytes_more w j k in
    there.1.3 ∙ whole ∙ ap (λ (n : ℕ). n * 256 + b) rest ∙ ap (λ (n : ℕ). bytes_of w (j + 1) k * 256 + n) (sym first) ∙ sym more

-- a load of bytes that are in memory gives the number in their word
pub loads_number : (byte : ℕ → Option ℕ) (word : ℕ → ℕ) (at address size v : ℕ) → IsInWord address size → ((x b : ℕ) → x < size → byte (at + x) ≡ Some b → byte_at word (address + x) ≡ b) → load_from byte at size ≡ Some v → v ≡ bytes_of (word (place_of address)) (address % 8) size
loads_number byte word at address size v is has same =
    loads_bytes byte (word (place_of address)) at (address % 8) size v is.within (λ x b less here. sym (byte_at_inside word address size x is less) ∙ has x b less here) same

-- ---- stores

-- the words with so many bytes of a number at an address
abbrev pub with_number : (ℕ → ℕ) → ℕ → ℕ → ℕ → ℕ → ℕ
with_number word address size n = stored (place_of address) (with_bytes (word (place_of address)) (address % 8) size n) word

-- a byte that is written
pub byte_stored : (word : ℕ → ℕ) (address size n x : ℕ) → IsInWord address size → x < size → byte_at (with_number word address size n) (address + x) ≡ byte_of n x
byte_stored word address size n x is less =
    byte_at_inside (with_number word address size n) address size x is less
    ∙ ap (λ (w : ℕ). byte_of w (address % 8 + x)) (stored_same (place_of address) (with_bytes (word (place_of address)) (address % 8) size n) word)
    ∙ byte_within (word (place_of address)) (address % 8) size n x less

-- the same word, and a byte of it below or above those that are written
byte_beside : (w at size n b : ℕ) → (b < at) ⊎ (at + size ≤ b) → byte_of (with_bytes w at size n) b ≡ byte_of w b
byte_beside w at size n b (inl less) = byte_under w at size n b less
byte_beside w at size n b (inr more) = subst (λ (k : ℕ). byte_of (with_bytes w at size n) k ≡ byte_of w k) (let e : at + size + (b - (at + size)) ≡ b = omega arith in e) (byte_over w at size n (b - (at + size)))

beside : (a address size : ℕ) → IsInWord address size → 0x8000_0000 ≤ a → (a < address) ⊎ (address + size ≤ a) → place_of a ≡ place_of address → (a % 8 < address % 8) ⊎ (address % 8 + size ≤ a % 8)
beside a address size is low (inl less) same = let l = is.low in let w = is.within in inl (omega arith)
beside a address size is low (inr more) same = let l = is.low in let w = is.within in inr (omega arith)

-- a byte elsewhere
pub byte_kept : (word : ℕ → ℕ) (address size n a : ℕ) → IsInWord address size → 0x8000_0000 ≤ a → (a < address) ⊎ (address + size ≤ a) → byte_at (with_number word address size n) a ≡ byte_at word a
byte_kept word address size n a is low apart = choose (cases_eq (place_of a) (place_of address))
  where
    choose : (place_of a ≡ place_of address) ⊎ (place_of a ≡ place_of address → ⊥) → byte_at (with_number word address size n) a ≡ byte_at word a
    choose (inl same) =
        ap (λ (q : ℕ). byte_of (with_number word address size n q) (a % 8)) same
        ∙ ap (λ (w : ℕ). byte_of w (a % 8)) (stored_same (place_of address) (with_bytes (word (place_of address)) (address % 8) size n) word)
        ∙ byte_beside (word (place_of address)) (address % 8) size n (a % 8) (beside a address size is low apart same)
        ∙ ap (λ (q : ℕ). byte_of (word q) (a % 8)) (sym same)
    choose (inr other) = ap (λ (w : ℕ). byte_of w (a % 8)) (stored_other (place_of address) (with_bytes (word (place_of address)) (address % 8) size n) word (place_of a) other)

-- ---- bytes of slots

pub length-stored : (cells : List (Option ℕ)) (at k v : ℕ) → length (store_bytes cells at k v) ≡ length cells
unfolding store_bytes
length-stored cells at zero v = refl
length-stored cells at (suc k) v = length-stored (slice_set cells at (Some (v % 256))) (at + 1) k (v / 256) ∙ length-set cells at (Some (v % 256))

-- the others stay
pub stored_outside : (cells : List (Option ℕ)) (at k v x : ℕ) → (x < at) ⊎ (at + k ≤ x) → slice_index_or (store_bytes cells at k v) x None ≡ slice_index_or cells x None
unfolding store_bytes
stored_outside cells at zero v x apart = refl
stored_outside cells at (suc k) v x (inl less) =
    let other : x ≢ at = omega arith in
    stored_outside (slice_set cells at (Some (v % 256))) (at + 1) k (v / 256) x (inl (omega arith)) ∙ get_or-set_other cells at x (Some (v % 256)) None other
stored_outside cells at (suc k) v x (inr more) =
    let other : x ≢ at = omega arith in
    stored_outside (slice_set cells at (Some (v % 256))) (at + 1) k (v / 256) x (inr (omega arith)) ∙ get_or-set_other cells at x (Some (v % 256)) None other

-- those that are written are the number's
pub stored_inside : (cells : List (Option ℕ)) (at k v x : ℕ) → at + k ≤ length cells → x < k → slice_index_or (store_bytes cells at k v) (at + x) None ≡ Some (byte_of v x)
unfolding store_bytes
stored_inside cells at zero v x room less = absurd (omega arith)
stored_inside cells at (suc k) v zero room less =
    let within : at < length cells = omega arith in
    let e : at + 0 ≡ at = omega arith in
    let byte : v % 256 ≡ v / 1 % 256 = omega arith in
    ap (λ (i : ℕ). slice_index_or (store_bytes (slice_set cells at (Some (v % 256))) (at + 1) k (v / 256)) i None) e
    ∙ stored_outside (slice_set cells at (Some (v % 256))) (at + 1) k (v / 256) at (inl (omega arith))
    ∙ get_or-set_same cells at (Some (v % 256)) None within
    ∙ ap (λ (b : ℕ). Some b) byte
stored_inside cells at (suc k) v (suc x) room less =
    let e : at + suc x ≡ at + 1 + x = omega arith in
    let few : at + 1 + k ≤ length (slice_set cells at (Some (v % 256))) = omega (arith, length-set cells at (Some (v % 256))) in
    let f : 8 + 8 * x ≡ 8 * suc x = omega arith in
    ap (λ (i : ℕ). slice_index_or (store_bytes (slice_set cells at (Some (v % 256))) (at + 1) k (v / 256)) i None) e
    ∙ stored_inside (slice_set cells at (Some (v % 256))) (at + 1) k (v / 256) x few (omega arith)
    ∙ ap (λ (b : ℕ). Some (b % 256)) (shr-shr v 8 (8 * x) ∙ ap (λ (j : ℕ). v / 2 ^ j) f)
