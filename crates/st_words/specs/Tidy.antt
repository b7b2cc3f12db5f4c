-- What is always so of the view of a worker on a board for a program: Tidy. No step asks it; a caller has it of each view that it brings forward.
use Rattle.std.specs.Prelude.{◌≡◌, ◌≢◌, ◌⊎◌, ℕ, ◌≤◌, ◌<◌, false, List, [], ◌∷◌, Option, Some}
use Rattle.std.specs.List.{Contains}
use Rattle.st_base.specs.declared.thread.Held.{Held}
use Rattle.st_words.specs.declared.view.Carried.{Carried}
use Rattle.st_words.specs.declared.view.Waiter.{Waiter}
use Rattle.st_words.specs.declared.view.View.{View}
use Rattle.st_words.specs.Names.{KnowsNames}
use Rattle.st_words.specs.Encodings.{waits_word, is_counter}
use Rattle.st_words.specs.Views.{kind_of}
use Rattle.st_words.specs.Steps.{HasThread, HasChain, IsChild, HasInHand, IsWaiting, taken_share}
use Rattle.st_words.specs.Laws.{SeesOneOwner}
use Rattle.st_words.specs.Leased.{KeepsLeased}

-- each number once
abbrev pub AreOnce : List Waiter → Type 0
AreOnce [] = Prim.Unit
AreOnce (x ∷ xs) = ((y : Waiter) → Contains xs y → y.cell ≢ x.cell) × AreOnce xs

-- the numbers of threads, chains and waiters
pub record TidyNumbers (v : View) : Type 0 where
  pub below : (c : ℕ) → HasThread v c ⊎ (HasChain v c ⊎ (HasInHand v c ⊎ Contains v.ready c)) → c < v.cells
  pub hand : AreOnce v.hand
  pub chains : (x y : Carried) → Contains v.chains x → Contains v.chains y → x.known.note.cell ≡ y.known.note.cell → x ≡ y
  -- a thread is in one place, and a number in the hand is of a chain that waits
  pub threads : (c : ℕ) → HasThread v c → HasChain v c ⊎ (HasInHand v c ⊎ Contains v.ready c) → ⊥
  pub ready : (c : ℕ) → Contains v.ready c → HasChain v c ⊎ HasInHand v c → ⊥
  pub waits : (x : Carried) → Contains v.chains x → HasInHand v x.known.note.cell → IsWaiting x.wait × (x.standing ≡ Some waits_word)
  -- a thread that is here hasn't ended
  pub unfinished : (c : ℕ) → HasThread v c → Contains v.full c → ⊥
  -- a Next word is stored only after what was behind the waiter is known
  pub linked : (x : Waiter) (n : ℕ) → Contains v.hand x → x.next ≡ Some n → x.leads ≡ false

pub record TidyNames (v : View) : Type 0 where
  pub knows : KnowsNames v
  pub below : (name : Held) (c : ℕ) → Contains v.names (name, c) → c < v.cells
  pub one_name : (a b : Held) (c : ℕ) → Contains v.names (a, c) → Contains v.names (b, c) → a ≡ b
  pub one_cell : (a : Held) (c d : ℕ) → Contains v.names (a, c) → Contains v.names (a, d) → c ≡ d
  pub owners : SeesOneOwner v
  pub kinds : (name : Held) (c n : ℕ) → Contains v.names (name, c) → Contains v.owners (c, n) → kind_of name ≡ Some (is_counter n)
  pub child : (c : ℕ) → IsChild v c → c < v.cells

pub record Tidy (v : View) : Type 0 where
  pub numbers : TidyNumbers v
  pub names : TidyNames v
  pub leased : KeepsLeased v
  -- the share covers the threads and the turn, and who has a number in hand has a share
  pub covers : taken_share v ≤ v.share
  pub holds : v.hand ≢ [] → 1 ≤ v.share
