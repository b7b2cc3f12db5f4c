-- The waiters of a cell over the words of a board over vectors: IsList reads a list by the Next words, Waits says which numbers wait at a cell, and
-- NoneIsLost what each step of any worker leaves of them: they stay, or one more waits before them, or all are handed out by the head that the
-- step found. ListsStay says that a list which was handed out stays for those who go through it.
use Rattle.std.specs.Prelude.{◌≡◌, ◌≢◌, ◌⊎◌, ℕ, ◌+◌, ◌≤◌, Bool, true, false, List, [], ◌∷◌, length, Some, slice_get}
use Rattle.std.specs.List.{Contains}
use Rattle.st_words.specs.declared.view.View.{View}
use Rattle.st_words.specs.declared.words.Words.{Words}
use Rattle.st_words.specs.Encodings.{full_word, head_in}
use Rattle.st_words.specs.Plain.{Exact, Cargoes, words_after}
use Rattle.st_words.specs.Steps.{Step, Answer, Number, Can, IsCounter, IsFuture, HasInHand, IsLinked}

-- ---- lists of waiters

-- the list from a head on: each waiter's number and 1, then by its Next word, 0 at the end
abbrev pub IsList : List ℕ → ℕ → List ℕ → Type 0
IsList nexts head [] = head ≡ 0
IsList nexts head (d ∷ ds) = (head ≡ d + 1) × ((next : ℕ) × (slice_get nexts d ≡ Some next) × IsList nexts next ds)

-- the head of the waiters in a State word: of a counter, or of a future that isn't full
abbrev pub head_by : Bool → ℕ → ℕ
head_by true state = head_in state
head_by false state = state

-- somebody may wait at the cell
abbrev pub IsOpen : Bool → ℕ → Type 0
IsOpen true state = Prim.Unit
IsOpen false state = state ≢ full_word

-- the numbers that wait at a counter or a future, the newest first
abbrev pub Waits : Bool → Words → ℕ → List ℕ → Type 0
Waits counter x c ds = (state : ℕ) × (slice_get x.states c ≡ Some state) × IsOpen counter state × IsList x.nexts (head_by counter state) ds

-- ---- what a step leaves of them

-- a waiter that is linked waits before those that were there
abbrev pub OneMore : Bool → Words → View → ℕ → List ℕ → Words → Type 0
OneMore counter x u c ds x' = (waiter : ℕ) × (head : ℕ) × IsLinked u waiter head × (slice_get x.nexts waiter ≡ Some head → Waits counter x' c (waiter ∷ ds))

-- nobody waits at the counter any more, or the future is full
abbrev pub IsEmptied : Bool → Words → ℕ → Type 0
IsEmptied true x c = Waits true x c []
IsEmptied false x c = slice_get x.states c ≡ Some full_word

-- all that waited are handed out, by the head in the word that the step found
abbrev pub AllOut : Bool → Answer → ℕ → List ℕ → Words → Type 0
AllOut counter a c ds x' = (state : ℕ) × (a ≡ Number state) × IsList x'.nexts (head_by counter state) ds × IsEmptied counter x' c

abbrev pub AreKept : Bool → Words → View → Answer → ℕ → List ℕ → Words → Type 0
AreKept counter x u a c ds x' = Waits counter x' c ds ⊎ (OneMore counter x u c ds x' ⊎ AllOut counter a c ds x')

-- ---- the laws

-- the worker takes a future for a counter, or a counter for a future
abbrev pub IsMistaken : Bool → View → ℕ → Type 0
IsMistaken true u c = IsFuture u c
IsMistaken false u c = IsCounter u c

-- none of the numbers is in the worker's hand
abbrev pub NoneInHand : View → List ℕ → Type 0
NoneInHand u ds = (d : ℕ) → Contains ds d → HasInHand u d → ⊥

-- at a board of at most 65,536 cells
abbrev pub NoneIsLost : Type 0
NoneIsLost = (counter : Bool) (x : Words) (ls : Cargoes) (w : ℕ) (u : View) (s : Step) (a : Answer) (c : ℕ) (ds : List ℕ) → length x.nexts ≤ 65536 → Can u s → Exact x ls w s a → (IsMistaken counter u c → ⊥) → NoneInHand u ds → Waits counter x c ds → AreKept counter x u a c ds (words_after x w s a)

abbrev pub ListsStay : Type 0
ListsStay = (x : Words) (ls : Cargoes) (w : ℕ) (u : View) (s : Step) (a : Answer) (head : ℕ) (ds : List ℕ) → Can u s → Exact x ls w s a → NoneInHand u ds → IsList x.nexts head ds → IsList (words_after x w s a).nexts head ds
