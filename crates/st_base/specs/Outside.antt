-- What the outside promises: files, sources and sinks that may fail, and whose failures are counted. The words to use:
-- HasRisen, next_count, IsReadAt, IsTaken, Appends.
use Rattle.std.specs.Prelude.{◌≡◌, ◌⊎◌, ℕ, ◌+◌, ◌<◌, ◌≤◌, ◌^◌, ◌-◌, min, List, [], ◌++◌, length, take, drop, Option, Some, IfSome, IsSomeAnd}

-- a count of faults has risen, or stands at its last value, where it can't rise any more
abbrev pub HasRisen : ℕ → ℕ → Type 0
HasRisen before after = (before < after) ⊎ (2 ^ 64 ≤ after + 1)

-- a count that stands still at its last value
abbrev pub next_count : ℕ → ℕ
next_count count = min (count + 1) (2 ^ 64 - 1)

-- n bytes of a file from a place on came to the front of a buffer; none only where the file ends at the place or before it
pub record IsReadAt (file : List ℕ) (place n : ℕ) (old new : List ℕ) : Type 0 where
  pub there : n ≤ length (drop place file)
  pub front : new ≡ take n (drop place file) ++ drop n old
  pub end : 0 < length old → n ≡ 0 → length file ≤ place

-- n bytes went from the front of what was left to the front of a buffer; none only where nothing was left
pub record IsTaken (before : List ℕ) (after : Option (List ℕ)) (n : ℕ) (old new : List ℕ) : Type 0 where
  pub there : n ≤ length before
  pub left : after ≡ Some (drop n before)
  pub front : new ≡ take n before ++ drop n old
  pub end : 0 < length old → n ≡ 0 → before ≡ []

-- a sink that tells its bytes after a call told them before it, and has taken just this piece
abbrev pub Appends : Option (List ℕ) → Option (List ℕ) → List ℕ → Type 0
Appends before after piece = IfSome after (λ bytes. IsSomeAnd before (λ was. bytes ≡ was ++ piece))
