-- The laws of a board for a program, over the members of the trait alone, so that it is seen that these suffice. A trait of a crate above
-- carries them; what is the program's stands as parameters:
--   IsFor: the board is for the program's image and input
--   Stays: what keeps a board the one that it was, as the table under it
--   m: what the program means to a board (Careful)
--   Made: the view is brought forward by items that the worker's threads make, with the values and counts that it has seen, and by the moves of Moves
--   Event: the step is an event of the heap-frame machine that changes a word, and this is its item, or it is none
-- Read RunLaws: law 1 is `forward_so` and `moves_so`, law 2 `comes`, laws 3 to 5 are within `promises` (TakenFrom, OwnerIs) and `tidy`, and `keeps` says
-- that a careful step leaves the board for its program. A caller shows May before the step, and Names for each answer, for which it has what
-- the answer promises: so it owes what the step asks (Suffices).
use Rattle.std.specs.Prelude.{◌≡◌, ◌≢◌, ℕ, Option, Some}
use Rattle.st_base.specs.declared.chain.Chain.{Chain}
use Rattle.st_words.specs.declared.view.Slot.{Slot}
use Rattle.st_words.specs.declared.view.Slot.TheVariants.{Cell, Mail}
use Rattle.st_words.specs.declared.view.Cargo.{Cargo}
use Rattle.st_words.specs.declared.view.View.{View}
use Rattle.st_words.specs.Steps.{Step, SlotTake, Answer, Took, Can, Asks}
use Rattle.st_words.specs.Made.{StepMade}
use Rattle.st_words.specs.Views.{Does}
use Rattle.st_words.specs.Careful.{Meaning, Careful, ShowsPlace}
use Rattle.st_words.specs.Promises.{Promises, IsByHand}
use Rattle.st_words.specs.Tidy.{Tidy}

module _ {Self : Type 0} (view : Self → ℕ → View) (serves : Self → ℕ → Type 0) (forward : Self → View → View → Type 0) (moves : Self → View → Step → Answer → View → Type 0) (says : Self → ℕ → Step → Answer → Type 0) (did : Self → ℕ → Step → Answer → Self → Type 0) where
  -- the other views that the board serves stay
  abbrev pub OthersStay : Self → ℕ → Self → Type 0
  OthersStay b w b' = (o : ℕ) → o ≢ w → serves b o → serves b' o × (view b' o ≡ view b o)

  module _ (IsFor : Self → Type 0) (Stays : Self → Self → Type 0) (m : Meaning) (Made : View → View → Type 0) (Event : View → Step → Answer → View → Type 0) where
    -- what the caller shows before a step of the worker w, of the view u to which it has come
    pub record May (b : Self) (w : ℕ) (u : View) (s : Step) : Type 0 where
      pub here : IsFor b
      pub serving : serves b w
      pub made : Made (view b w) u
      pub can : Can u s
      pub careful : Careful m u s

    -- and for an answer, of the view that it names
    abbrev pub Names : View → Step → Answer → View → Type 0
    Names u s a v' = Does u s a v' × Event u s a v'

    -- a chain that is taken walks to the thread that goes with it, and where it waits its Trap word shows it
    abbrev pub Comes : View → Slot → Chain → Cargo → Type 0
    Comes u slot chain cargo = m.walks cargo chain × (IsByHand u slot → ShowsPlace m cargo.carried cargo.carried.wait)

    pub record RunLaws : Type 0 where
      -- what is always so of a view
      pub tidy : (b : Self) (w : ℕ) (u : View) → IsFor b → serves b w → Made (view b w) u → Tidy u
      -- what the threads make, and the item that goes with the step, is within what the board allows
      pub forward_so : (b : Self) (w : ℕ) (u : View) (s : Step) → May b w u s → forward b (view b w) u
      pub moves_so : (b : Self) (w : ℕ) (u : View) (s : Step) (a : Answer) (v' : View) → May b w u s → says b w s a → Names u s a v' → moves b u s a v'
      -- what the answers promise
      pub promises : (b : Self) (w : ℕ) (u : View) (s : Step) (a : Answer) → May b w u s → says b w s a → Promises u s a
      pub comes : (b : Self) (w : ℕ) (u : View) (slot : Slot) (chain : Chain) (cargo : Cargo) → May b w u (SlotTake slot) → says b w (SlotTake slot) (Took (Some chain) cargo) → Comes u slot chain cargo
      -- a careful step leaves the board for its program
      pub keeps : (b : Self) (w : ℕ) (u : View) (s : Step) (a : Answer) (b' : Self) → May b w u s → says b w s a → Names u s a (view b' w) → did b w s a b' → OthersStay b w b' → IsFor b'
      -- and the one that it was
      pub stays : (b : Self) → Stays b b
      pub stays_on : (b c d : Self) → Stays b c → Stays c d → Stays b d
      pub stays_so : (b : Self) (w : ℕ) (s : Step) (a : Answer) (b' : Self) → did b w s a b' → Stays b b'

    -- by the laws a caller meets what a step asks
    abbrev pub Suffices : (View → Step → Answer → View) → Type 0
    Suffices after = (b : Self) (w : ℕ) (u : View) (s : Step) → May b w u s → ((a : Answer) → says b w s a → Promises u s a → Names u s a (after (view b w) s a)) → Asks (says b w) (forward b) (moves b) after (view b w) s

    -- and the step, with its answer, leaves the board for its program and the one that it was, with what the answer promises
    abbrev pub Leaves : (View → Step → Answer → View) → Type 0
    Leaves after = (b : Self) (w : ℕ) (u : View) (s : Step) (a : Answer) (b' : Self) → May b w u s → Names u s a (after (view b w) s a) → StepMade view serves says did after b w s a b' → IsFor b' × Stays b b' × Promises u s a
