-- No two threads that have ended have one path, so that a value may be looked for from anywhere in their list. Read IsOrdered, which
-- every state of the ordinary run meets, and Distinct.
use Rattle.std.specs.Prelude.{◌≡◌, ◌≢◌, ◌⊎◌, ℕ, ◌<◌, List, [], ◌∷◌, ◌++◌}
use Rattle.st_model.specs.declared.ordinary.Ended.{Ended}
use Rattle.st_model.specs.declared.ordinary.Tally.{Tally}
use Rattle.st_model.specs.declared.ordinary.Rest.{Rest}

-- the thread of path e came from a fork before the fork f of the thread of path q: where the paths part, e has the smaller number
abbrev pub Before : List ℕ → List ℕ → ℕ → Type 0
Before [] q f = ⊥
Before (x ∷ e) [] f = x < f
Before (x ∷ e) (y ∷ q) f = (x < y) ⊎ ((x ≡ y) × Before e q f)

abbrev pub AllBefore : List Ended → List ℕ → ℕ → Type 0
AllBefore [] q f = Unit {0}
AllBefore (e ∷ es) q f = Before e.path q f × AllBefore es q f

-- no thread of the list has this path
abbrev pub NoneOf : List Ended → List ℕ → Type 0
NoneOf [] path = Unit {0}
NoneOf (e ∷ es) path = (e.path ≢ path) × NoneOf es path

abbrev pub Distinct : List Ended → Type 0
Distinct [] = Unit {0}
Distinct (e ∷ es) = NoneOf es e.path × Distinct es

-- the thread of this path came from a fork that the other has made
pub record IsForkOf (parent : Tally) (path : List ℕ) : Type 0 where
  pub number : ℕ
  pub named : path ≡ parent.path ++ number ∷ []
  pub made : number < parent.forks

-- each thread came from a fork of the next
abbrev pub Linked : List ℕ → List Tally → Type 0
Linked path [] = Unit {0}
Linked path (parent ∷ parents) = IsForkOf parent path × Linked parent.path parents

pub record IsOrdered (rest : Rest) : Type 0 where
  pub linked : Linked rest.thread.path rest.parents
  pub before : AllBefore rest.ended rest.thread.path rest.thread.forks
  pub distinct : Distinct rest.ended
