-- Event keys: the order of the ordinary-call run, in which every fork runs at once as a call. An event of the thread p after j forks
-- has the key event_key p j; keys are compared as lists (slice_cmp nat_cmp), a proper prefix being less.
use Rattle.std.specs.Prelude.{ℕ, ◌+◌, ◌*◌, ◌≡◌, ◌<◌, ◌≤◌, List, [], ◌∷◌, ◌++◌}
use Rattle.std.specs.Ordering.{nat_cmp}
use Rattle.std.specs.Cmp.Lexicographic.{slice_cmp}
use Rattle.std.specs.declared.cmp.Ordering.TheVariants.{Less}

-- each number k of the path as 2k + 1, then twice the forks so far
abbrev pub event_key : List ℕ → ℕ → List ℕ
event_key [] j = 2 * j ∷ []
event_key (k ∷ p) j = (2 * k + 1) ∷ event_key p j

abbrev pub IsBefore : List ℕ → List ℕ → Type 0
IsBefore a b = slice_cmp nat_cmp a b ≡ Less

-- each event of the thread p after at most k forks, as its fork k is, is before all events of the child k and of its descendants
abbrev pub ChildComesAfter : Type 0
ChildComesAfter = (p q : List ℕ) (k j n : ℕ) → n ≤ k → IsBefore (event_key p n) (event_key (p ++ (k ∷ q)) j)

-- and each event of p after more forks is after them
abbrev pub ChildComesBefore : Type 0
ChildComesBefore = (p q : List ℕ) (k j n : ℕ) → k < n → IsBefore (event_key (p ++ (k ∷ q)) j) (event_key p n)
