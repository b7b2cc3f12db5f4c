-- What the words of a cell tell: owner_word (FitsWord), counted_up, and how a call's result is read from the word that was found (IsDrawn, IsLooked, IsCounted,
-- IsTried).
use Rattle.std.specs.Prelude.{◌≡◌, ◌≢◌, ℕ, ◌<◌, ◌≤◌, ◌^◌, if◌then◌else◌, Result, Ok, Err}
use Rattle.st_base.specs.declared.chain.Again.{Again}
use Rattle.st_words.specs.Encodings.{thread_owner, counter_owner, full_word, count_in, head_in, counter_word, count_after}
use Rattle.st_cells.specs.declared.found.Owner.{Owner}
use Rattle.st_cells.specs.declared.found.Full.{Full}
use Rattle.st_cells.specs.declared.found.Looked.{Looked}
use Rattle.st_cells.specs.declared.found.Looked.TheVariants as looks
use Rattle.st_cells.specs.declared.found.Counted.{Counted}

-- the Owner word of a cell
abbrev pub owner_word : Owner → ℕ
owner_word owner = if owner.counter then counter_owner owner.parent owner.number else thread_owner owner.parent owner.number

-- an owner whose parts an Owner word has room for
abbrev pub FitsWord : Owner → Type 0
FitsWord owner = (owner.parent < 2 ^ 17) × (owner.number < 2 ^ 32)

-- the State word of a counter after its count has grown by one, or stood still at its end: nobody waits
abbrev pub counted_up : ℕ → ℕ
counted_up seen = counter_word (count_after (count_in seen)) 0

-- a number was drawn, or the number found isn't below the number of cells
abbrev pub IsDrawn : ℕ → ℕ → Result ℕ Full → Type 0
IsDrawn cells found (Ok cell) = (found < cells) × (cell ≡ found)
IsDrawn cells found (Err full) = (cells ≤ found) × (full.cells ≡ cells)

-- a future is full, or has this State word
abbrev pub IsLooked : ℕ → Looked → Type 0
IsLooked found looks.Full = found ≡ full_word
IsLooked found (looks.Empty seen) = (seen ≡ found) × (found ≢ full_word)

-- the count, the waiters' head and the State word of a counter
abbrev pub IsCounted : ℕ → Counted → Type 0
IsCounted found c = (c.count ≡ count_in found) × (c.head ≡ head_in found) × (c.seen ≡ found)

-- a compare and exchange found what was carried in, or another word, which is told
abbrev pub IsTried : {A : Type 0} → ℕ → ℕ → (A → Type 0) → Result A Again → Type 0
IsTried seen found P (Ok x) = (found ≡ seen) × P x
IsTried seen found P (Err again) = (found ≢ seen) × (again.now ≡ found)
