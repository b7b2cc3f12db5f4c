-- Places by groups of 64: group g has the places from 64 * g on, and a word stands for a set of them, its bit b for place 64 * g + b.
-- Read IsWord, and the tests spared and taken_away, which say what an item does to a place that is not defined.
use Rattle.std.specs.Prelude.{◌≡◌, ◌↔◌, ℕ, ◌<◌, ◌+◌, ◌*◌, Bool, true, not, ◌&&◌, ◌||◌}
use Rattle.std.specs.Int.{bit_at}
use Rattle.st_model.specs.declared.program.ItemKind.{ItemKind}
use Rattle.st_model.specs.Flow.{gives, takes}
use Rattle.st_flow.specs.declared.places.Change.{Change}
use Rattle.st_flow.specs.declared.places.Change.TheVariants.{Spared, TakenAway}

-- the word has just the places of its group that pass the test
abbrev pub IsWord : ℕ → ℕ → (ℕ → Bool) → Type 0
IsWord word g test = (b : ℕ) → b < 64 → (bit_at word b ≡ 1) ↔ (test (64 * g + b) ≡ true)

-- the item neither gives the place nor takes it
abbrev pub is_spared : ℕ → ItemKind → ℕ → Bool
is_spared frame kind x = not (gives frame kind x || takes kind x)

-- the item takes the place's definition, and doesn't give it
abbrev pub is_taken_away : ℕ → ItemKind → ℕ → Bool
is_taken_away frame kind x = takes kind x && not (gives frame kind x)

abbrev pub is_changed : Change → ℕ → ItemKind → ℕ → Bool
is_changed Spared frame kind x = is_spared frame kind x
is_changed TakenAway frame kind x = is_taken_away frame kind x
