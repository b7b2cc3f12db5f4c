-- What views have seen of the words of cells is so still. Read Knows, which is of a world: an Owner word that was seen stays, a full future stays full with its value,
-- a count never falls, a name tells the kind of its cell, and a stop code stays.
use Rattle.std.specs.Prelude.{◌≡◌, ◌≢◌, ℕ, ◌≤◌, Bool, true, false, List, Some}
use Rattle.std.specs.List.{Contains}
use Rattle.st_base.specs.declared.thread.Held.{Held}
use Rattle.st_words.specs.declared.view.Slot.{Slot}
use Rattle.st_words.specs.declared.view.Cargo.{Cargo}
use Rattle.st_words.specs.declared.view.View.{View}
use Rattle.st_words.specs.Encodings.{is_counter, full_word, count_in}
use Rattle.st_words.specs.Views.{kind_of}
use Rattle.st_world.specs.World.{World, cargo_of}

-- the cell is named, and for a counter or not
pub record IsOfKind (counter : Bool) (owner : ℕ) : Type 0 where
  pub named : owner ≢ 0
  pub kind : is_counter owner ≡ counter

-- each name is of a cell that is named for such a thing
abbrev pub KnowsKinds : (ℕ → ℕ) → List (Held × ℕ) → Type 0
KnowsKinds owner names = (name : Held) (c : ℕ) → Contains names (name, c) → (owner c ≢ 0) × (kind_of name ≡ Some (is_counter (owner c)))

pub record KnowsWords (owner state value : ℕ → ℕ) (stop : ℕ) (v : View) : Type 0 where
  pub owners : (c n : ℕ) → Contains v.owners (c, n) → (owner c ≡ n) × (n ≢ 0)
  pub full : (c : ℕ) → Contains v.full c → IsOfKind false (owner c) × (state c ≡ full_word)
  -- those that the worker made full by itself
  pub filled : (c : ℕ) → Contains v.filled c → IsOfKind false (owner c) × (state c ≡ full_word)
  pub values : (c n : ℕ) → Contains v.values (c, n) → IsOfKind false (owner c) × (state c ≡ full_word) × (value c ≡ n)
  pub counts : (c k : ℕ) → Contains v.counts (c, k) → IsOfKind true (owner c) × (k ≤ count_in (state c))
  pub names : KnowsKinds owner v.names
  pub stops : (code : ℕ) → v.stop ≡ Some code → (stop ≡ code) × (code ≢ 0)

pub record Knowing (owner state value : ℕ → ℕ) (stop : ℕ) (cargo : Slot → Cargo) (view : ℕ → View) : Type 0 where
  pub views : (w : ℕ) → KnowsWords owner state value stop (view w)
  -- what a chain in a slot takes along of names
  pub slots : (z : Slot) → KnowsKinds owner (cargo z).names

abbrev pub Knows : World → Type 0
Knows x = Knowing x.owner x.state x.value x.stop (cargo_of x) x.view
