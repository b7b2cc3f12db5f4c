-- A text in pieces (joined), and what comes of putting a text into a sink (Puts).
use Rattle.std.specs.Prelude.{◌≡◌, ℕ, ◌≤◌, List, [], ◌∷◌, ◌++◌, take, Option, Result, OnOk, OnErr}
use Rattle.st_base.specs.Outside.{HasRisen, Appends}

-- the pieces one after another
abbrev pub joined : List (List ℕ) → List ℕ
joined [] = []
joined (p ∷ ps) = p ++ joined ps

-- The count of faults never falls. Where all went well the whole text was taken; else there was a text, the count rose, and a prefix was
-- taken.
pub record Puts {T E : Type 0} (text : List ℕ) (result : Result T E) (before after : ℕ) (old new : Option (List ℕ)) : Type 0 where
  pub faults : before ≤ after
  pub taken : OnOk result (Appends old new text)
  pub some : OnErr result (text ≡ [] → ⊥)
  pub failed : OnErr result (HasRisen before after)
  pub prefix : OnErr result ((n : ℕ) × Appends old new (take n text))
