-- A stack word at an address (in_one_word) lies among the stacks: word_low, word_high.
use Rattle.std.proofs.Common.{◌≡◌, ℕ, ◌+◌, ◌%◌, ◌^◌, ◌≤◌, ◌<◌, true, ◌&&◌, nat_le, nat_lt}
use Rattle.std.proofs.lemmas.Bool.{leb-true, ltb-true}
use Rattle.st_words.proofs.Lists.{both_true}
use Rattle.st_step.specs.Moves.{in_one_word}

pub word_low : (address : ℕ) → in_one_word address 8 ≡ true → 0x8000_0000 ≤ address
word_low address e = leb-true _ _ (both_true _ _ (both_true (nat_le 0x8000_0000 address && nat_lt address (0x8000_0000 + 2 ^ 32)) (nat_le (address % 8 + 8) 8) e).0).0

pub word_high : (address : ℕ) → in_one_word address 8 ≡ true → address < 0x8000_0000 + 2 ^ 32
word_high address e = ltb-true _ _ (both_true (nat_le 0x8000_0000 address) (nat_lt address (0x8000_0000 + 2 ^ 32)) (both_true (nat_le 0x8000_0000 address && nat_lt address (0x8000_0000 + 2 ^ 32)) (nat_le (address % 8 + 8) 8) e).0).1
