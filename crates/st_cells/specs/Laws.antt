-- What no step of any worker does to the words of a board over vectors: a full future stays full and keeps its value, and after a compare and
-- exchange that found another word nothing has changed.
use Rattle.std.specs.Prelude.{◌≡◌, ◌≢◌, ℕ, Some, slice_get}
use Rattle.std.specs.List.{Contains}
use Rattle.st_words.specs.declared.view.View.{View}
use Rattle.st_words.specs.declared.words.Words.{Words}
use Rattle.st_words.specs.Encodings.{full_word}
use Rattle.st_words.specs.Plain.{Exact, Cargoes, words_after}
use Rattle.st_words.specs.Steps.{Step, CellChange, Answer, Number, Can, IsCounter, HasThread}

-- a step that a worker may ask, which doesn't know the cell for a counter
abbrev pub FullStays : Type 0
FullStays = (x : Words) (ls : Cargoes) (w : ℕ) (u : View) (s : Step) (a : Answer) (c : ℕ) → Can u s → Exact x ls w s a → (IsCounter u c → ⊥) → slice_get x.states c ≡ Some full_word → slice_get (words_after x w s a).states c ≡ Some full_word

-- only who holds its thread may store its value, and not where that worker has seen it full or has made it so
abbrev pub ValueStays : Type 0
ValueStays = (x : Words) (ls : Cargoes) (w : ℕ) (u : View) (s : Step) (a : Answer) (c : ℕ) → Can u s → Exact x ls w s a → (HasThread u c → Contains u.full c) → slice_get (words_after x w s a).values c ≡ slice_get x.values c

abbrev pub AgainKeeps : Type 0
AgainKeeps = (x : Words) (w c old new n : ℕ) → n ≢ old → words_after x w (CellChange c old new) (Number n) ≡ x
