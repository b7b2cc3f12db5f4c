-- What a worker finds where it looks at the return word of a frame that it has exported. Read Looks: a word that it holds is the one that is there, since it changes by a step of that worker
-- alone.
use Rattle.std.specs.Prelude.{◌≡◌, ◌≢◌, ℕ, Some}
use Rattle.st_words.specs.declared.view.Cargo.{Cargo}
use Rattle.st_words.specs.declared.view.View.{View}
use Rattle.st_words.specs.Careful.{Meaning}
use Rattle.st_words.specs.RunLaws.{May}
use Rattle.st_words.specs.declared.view.CellWord.TheVariants.{State}
use Rattle.st_words.specs.Encodings.{full_word}
use Rattle.st_words.specs.Steps.{Step, Look, CellLoad, CellChange, Answer, Number, Looked, kept, HasThread}

-- the State word of a thread that is here is found not full
abbrev pub IsUnfilled : View → Step → Answer → Type 0
IsUnfilled u (CellLoad c State) (Number n) = HasThread u c → n ≢ full_word
IsUnfilled u (CellChange c old new) (Number n) = HasThread u c → n ≢ full_word
IsUnfilled u _ _ = Prim.Unit

module _ {Self : Type 0} (view : Self → ℕ → View) (serves : Self → ℕ → Type 0) (forward : Self → View → View → Type 0) (moves : Self → View → Step → Answer → View → Type 0) (says : Self → ℕ → Step → Answer → Type 0) (did : Self → ℕ → Step → Answer → Self → Type 0) where
  module _ (IsFor : Self → Type 0) (Stays : Self → Self → Type 0) (means : Meaning) (Made : View → View → Type 0) (Event : View → Step → Answer → View → Type 0) where
    -- the State word of a thread that is here isn't full
    abbrev pub Unfilled : Type 0
    Unfilled = (b : Self) (w : ℕ) (u : View) (s : Step) (a : Answer) → May view serves forward moves says did IsFor Stays means Made Event b w u s → says b w s a → IsUnfilled u s a

    -- the word that is said is the one that the worker's view holds
    abbrev pub Looks : Type 0
    Looks = (b : Self) (w : ℕ) (u : View) (p n : ℕ) (cargo : Cargo) (m : ℕ) → May view serves forward moves says did IsFor Stays means Made Event b w u (Look p) → says b w (Look p) (Looked n cargo) → kept u.held p ≡ Some m → n ≡ m
