-- What a worker has in hand between two turns, as its view tells: Bag. Read HasBag (the view has exactly that), units (nothing but units of the active count), before_rest (a waiter in hand, and behind
-- it the rest of its list), RestIs, and Settles (a waiter that is to be made ready or parked).
use Rattle.std.specs.Prelude.{◌≡◌, ◌≢◌, ℕ, ◌+◌, ◌<◌, ◌≤◌, Bool, true, false, List, [], ◌∷◌, Option, Some, None}
use Rattle.std.specs.List.{Contains}
use Rattle.st_base.specs.declared.chain.Waiting.{Waiting}
use Rattle.st_base.specs.declared.chain.Waiting.TheVariants as waits
use Rattle.st_base.specs.declared.thread.Held.TheVariants.{Future, Counter}
use Rattle.st_words.specs.declared.view.Answering.{Answering}
use Rattle.st_words.specs.declared.view.Carried.{Carried}
use Rattle.st_words.specs.declared.view.Child.{Child}
use Rattle.st_words.specs.declared.view.View.{View}
use Rattle.st_words.specs.declared.view.Waiter.{Waiter}
use Rattle.st_words.specs.Careful.{IsOver}
use Rattle.st_words.specs.Encodings.{full_word, head_in}
use Rattle.st_words.specs.Steps.{IsCounter, IsFuture, some_thread}
use Rattle.st_words.specs.Views.{followed}
use Rattle.st_phases.specs.declared.phase.Rest.{Rest}
use Rattle.st_phases.specs.declared.phase.Settling.{Settling}

-- ---- bags

pub record Bag : Type 0 where
  pub chains : List Carried
  pub hand : List Waiter
  pub share : ℕ
  pub drawn : List ℕ
  pub child : Option Child
  pub answering : Option Answering
  pub given : Bool
  pub root : Bool

-- the view has these and no others
pub record HasBag (b : Bag) (u : View) : Type 0 where
  pub chains : u.chains ≡ b.chains
  pub hand : u.hand ≡ b.hand
  pub share : u.share ≡ b.share
  pub drawn : u.drawn ≡ b.drawn
  pub child : u.child ≡ b.child
  pub answering : u.answering ≡ b.answering
  pub given : u.given ≡ b.given
  pub root : u.root ≡ b.root

-- nothing but so many units
abbrev pub units : ℕ → Bag
units share = record { chains = []; hand = []; share = share; drawn = []; child = None; answering = None; given = false; root = false }

-- the unit of a worker that has a thread, and so many more
abbrev pub own_and : ℕ → View → Bag
own_and n u = units (some_thread u.threads + n)

abbrev pub with_chain : Carried → Bag → Bag
with_chain x b = record b { chains = x ∷ [] }

-- a request of this worker is answered: a chain was put into its mail, and the answer told
abbrev pub answers : ℕ → Bool → Bool → Bag → Bag
answers asker put told b = record b { answering = Some (record { asker = asker; put = put; told = told }) }

-- ---- lists of waiters

-- those of a future wait for the same
abbrev pub common_by : Bool → ℕ → Option Waiting
common_by true cell = None
common_by false cell = Some (waits.Touch cell)

abbrev pub common : Rest → Option Waiting
common rest = common_by rest.counter rest.cell

-- the first one, which leads the others
abbrev pub leader : Rest → List Waiter
leader rest = followed (common rest) rest.next []

-- a waiter whose Next word was read, before the rest of its list
abbrev pub before_rest : ℕ → Option Waiting → Option ℕ → Rest → List Waiter
before_rest waiter wait next rest = record { cell = waiter; wait = wait; next = next; leads = false } ∷ leader rest

-- the waiters of a future were handed out since it is full
pub record RestIs (rest : Rest) (u : View) : Type 0 where
  pub here : rest.cell < u.cells
  pub next : rest.next ≤ u.cells
  pub full : rest.counter ≡ false → Contains u.full rest.cell × (rest.word ≡ full_word)

-- ---- a waiter in hand

-- the worker knows the name of what it waits for, and what it has stored or seen of that cell
abbrev pub IsNamed : Waiting → View → Type 0
IsNamed (waits.Touch cell) u = (q : List ℕ) × Contains u.names (Future q, cell)
IsNamed (waits.Join cell least) u = (q : List ℕ) × (i : ℕ) × Contains u.names (Counter q i, cell)
IsNamed _ u = ⊥

abbrev pub IsOfKind : Waiting → View → Type 0
IsOfKind (waits.Touch cell) u = (cell < u.cells) × IsFuture u cell
IsOfKind (waits.Join cell least) u = (cell < u.cells) × IsCounter u cell
IsOfKind _ u = ⊥

-- its Next word tells so; it is of a list, whose rest is in hand too, or the thread that left here
abbrev pub Settles : Settling → Option ℕ → Option Rest → View → Type 0
Settles s next (Some rest) u = HasBag (record (units 2) { hand = before_rest s.waiter (Some s.wait) next rest }) u × RestIs rest u
Settles s next None u = HasBag (record (own_and 1 u) { hand = record { cell = s.waiter; wait = Some s.wait; next = next; leads = false } ∷ [] }) u

-- it can be parked by the State word that was seen
pub record CanPark (s : Settling) (u : View) : Type 0 where
  pub named : IsNamed s.wait u
  pub kind : IsOfKind s.wait u
  pub head : head_in s.seen ≤ u.cells
  pub small : (cell : ℕ) → s.wait ≡ waits.Touch cell → s.seen ≢ full_word → s.seen ≤ u.cells

-- a unit is taken away where none is needed: a waiter was parked, or a thread has left
abbrev pub LowersTo : Option Rest → View → Type 0
LowersTo (Some rest) u = HasBag (record (units 2) { hand = leader rest }) u × RestIs rest u
LowersTo None u = HasBag (own_and 1 u) u
