-- Where each thread is. Read Place, Placing (slots, turns, stacks, named children and the words Standing and Trap are as the place of each cell tells), and
-- Places, which is of a world with its lists. No clause is about two views: a place names the one worker that has the thread.
use Rattle.std.specs.Prelude.{◌≡◌, ◌≢◌, ℕ, ◌≤◌, ◌<◌, Bool, true, false, List, [], ◌∷◌, map, Option, Some, None}
use Rattle.std.specs.List.{Contains}
use Rattle.st_base.specs.declared.chain.Chain.{Chain}
use Rattle.st_base.specs.declared.chain.Waiting.{Waiting}
use Rattle.st_base.specs.declared.chain.Waiting.TheVariants as waits
use Rattle.st_words.specs.declared.view.Known.{Known}
use Rattle.st_words.specs.declared.view.Carried.{Carried}
use Rattle.st_words.specs.declared.view.Cargo.{Cargo}
use Rattle.st_words.specs.declared.view.Child.{Child}
use Rattle.st_words.specs.declared.view.View.{View}
use Rattle.st_words.specs.Encodings.{full_word, count_in, running, waits_word, ready, trapped}
use Rattle.st_words.specs.Steps.{IsWaiting}
use Rattle.st_words.specs.Promises.{IsCargoOf, IsGoingOn}
use Rattle.st_words.specs.Views.{no_cargo}
use Rattle.st_world.specs.World.{World}
use Rattle.st_spots.specs.Listing.{Spot, Nowhere, Listed, Held, Behind, Readied, Rooted, Lists, counters}

-- where the thread of a cell is
pub data Place : Type 0 where
  -- it isn't there yet, or has ended
  Gone : Place
  -- its cell is named for the next child of this worker's top thread, and it isn't begun
  Named : ℕ → Place
  -- a chain in the slot of its cell
  Home : Place
  -- a chain in the mail of this worker
  InMail : ℕ → Place
  -- a chain in the turn of this worker
  InTurn : ℕ → Place
  -- a thread on the logical stack of this worker
  OnStack : ℕ → Place

-- it has no wait, or its wait is over, by the State words
abbrev pub IsOver : (ℕ → Bool) → (ℕ → ℕ) → Waiting → Type 0
IsOver counter state waits.Start = Prim.Unit
IsOver counter state waits.Ready = Prim.Unit
IsOver counter state (waits.Touch c) = (counter c ≡ false) × (state c ≡ full_word)
IsOver counter state (waits.Join c least) = (counter c ≡ true) × (least ≤ count_in (state c))
IsOver counter state waits.Trapped = ⊥

-- the numbers of threads and of chains, in their order
abbrev pub cells_of : List Known → List ℕ
cells_of ts = map (λ (t : Known). t.note.cell) ts

abbrev pub chain_cells : List Carried → List ℕ
chain_cells xs = map (λ (x : Carried). x.known.note.cell) xs

-- each number once
abbrev pub AreOnce : List ℕ → Type 0
AreOnce [] = Prim.Unit
AreOnce (c ∷ cs) = (Contains cs c → ⊥) × AreOnce cs

-- ---- by where the number is

-- a chain in the slot of its cell: what it waits for, its Standing word, and whether it counts as active
abbrev pub Rests : (Waiting → Type 0) → Waiting → ℕ → Spot → ℕ → ℕ → Type 0
Rests Over k c (Listed cell n) standing unit = IsWaiting k × (standing ≡ waits_word) × (unit ≡ 0)
Rests Over k c (Held w) standing unit = IsWaiting k × (standing ≡ waits_word) × (unit ≡ 0)
Rests Over k c (Behind w m n) standing unit = IsWaiting k × (standing ≡ waits_word) × (unit ≡ 0)
Rests Over k c (Readied w) standing unit = Over k × (standing ≡ ready) × (unit ≡ 1)
Rests Over k c (Rooted o) standing unit = (c ≡ 0) × (k ≡ waits.Start) × (standing ≡ ready) × (unit ≡ 1)
Rests Over k c Nowhere standing unit = (k ≡ waits.Trapped) × (standing ≡ trapped) × (unit ≡ 0)

-- a chain waits for what its number waits for, where the number is in a list or a hand
abbrev pub WaitsFor : Waiting → Spot → Waiting → Type 0
WaitsFor wait (Listed cell n) k = k ≡ wait
WaitsFor wait (Held w) k = k ≡ wait
WaitsFor wait (Behind w m n) k = k ≡ wait
WaitsFor wait _ k = Prim.Unit

-- the number of a chain in a turn is nowhere, or in the hand of the same worker, where it waits and isn't just suspended
abbrev pub IsTurnSpot : ℕ → Spot → Waiting → Carried → Type 0
IsTurnSpot w Nowhere wait x = Prim.Unit
IsTurnSpot w (Held v) wait x = (v ≡ w) × IsWaiting x.wait × (x.wait ≡ wait) × (x.standing ≡ Some waits_word)
IsTurnSpot w _ wait x = ⊥

-- what a chain knows of its Trap word is so
abbrev pub ShowsTrap : ℕ → Carried → Type 0
ShowsTrap trap x = (n : ℕ) → x.trap ≡ Some n → trap ≡ n

module _ (workers cells : ℕ) (spot : ℕ → Spot) (wait : ℕ → Waiting) (owner state standing trap : ℕ → ℕ) (home : ℕ → Option Chain) (home_cargo : ℕ → Cargo) (post : ℕ → Option Chain) (post_cargo : ℕ → Cargo) (view : ℕ → View) (place : ℕ → Place) where
  -- a cell that is named for a thread which hasn't ended
  pub record IsOfThread (c : ℕ) : Type 0 where
    pub below : c < cells
    pub named : owner c ≢ 0
    pub future : counters owner c ≡ false
    pub unfilled : state c ≢ full_word

  abbrev pub IsEmpty : ℕ → Type 0
  IsEmpty c = (home c ≡ None) × (home_cargo c ≡ no_cargo)

  pub record HomeHolds (c : ℕ) (chain : Chain) (cargo : Cargo) : Type 0 where
    pub at : home c ≡ Some chain
    pub cell : chain.cell ≡ c
    pub of : IsCargoOf (Some chain) cargo
    pub rests : Rests (IsOver (counters owner) state) cargo.carried.wait c (spot c) (standing c) cargo.unit
    pub waits : WaitsFor (wait c) (spot c) cargo.carried.wait
    pub stands : cargo.carried.standing ≡ Some (standing c)
    pub traps : ShowsTrap (trap c) cargo.carried

  abbrev pub PlaceHolds : ℕ → Place → Type 0
  PlaceHolds c Gone = IsEmpty c × (spot c ≡ Nowhere)
  PlaceHolds c (Named w) = IsEmpty c × (spot c ≡ Nowhere) × IsOfThread c × ((x : Child) × ((view w).child ≡ Some x) × (x.cell ≡ c)) × (w < workers)
  PlaceHolds c Home = IsOfThread c × ((chain : Chain) × HomeHolds c chain (home_cargo c))
  PlaceHolds c (InMail v) = IsEmpty c × (spot c ≡ Nowhere) × IsOfThread c × ((chain : Chain) × (post v ≡ Some chain) × (chain.cell ≡ c)) × (v < workers)
  PlaceHolds c (InTurn w) = IsEmpty c × IsOfThread c × Contains (chain_cells (view w).chains) c × (w < workers)
  PlaceHolds c (OnStack w) = IsEmpty c × (spot c ≡ Nowhere) × IsOfThread c × Contains (cells_of (view w).threads) c × (w < workers)

  -- a chain in mail goes on, and counts as active
  pub record PostHolds (v : ℕ) (chain : Chain) (cargo : Cargo) : Type 0 where
    pub there : place chain.cell ≡ InMail v
    pub of : IsCargoOf (Some chain) cargo
    pub over : IsOver (counters owner) state cargo.carried.wait
    pub unit : cargo.unit ≡ 1
    pub stands : (cargo.carried.standing ≡ Some running) × (standing chain.cell ≡ running)
    pub traps : ShowsTrap (trap chain.cell) cargo.carried

  abbrev pub MailHolds : ℕ → Option Chain → Cargo → Type 0
  MailHolds v None cargo = cargo ≡ no_cargo
  MailHolds v (Some chain) cargo = PostHolds v chain cargo

  -- a chain in a turn; one that goes on has its wait over
  pub record TurnHolds (w : ℕ) (x : Carried) : Type 0 where
    pub there : place x.known.note.cell ≡ InTurn w
    pub number : IsTurnSpot w (spot x.known.note.cell) (wait x.known.note.cell) x
    pub stands : (n : ℕ) → x.standing ≡ Some n → standing x.known.note.cell ≡ n
    pub traps : ShowsTrap (trap x.known.note.cell) x
    pub over : IsGoingOn x → IsOver (counters owner) state x.wait

  -- a thread on a stack has the Standing word 1
  pub record StackHolds (w c : ℕ) : Type 0 where
    pub there : place c ≡ OnStack w
    pub stands : standing c ≡ running

  pub record ChildHolds (w : ℕ) (x : Child) : Type 0 where
    pub there : place x.cell ≡ Named w
    pub stands : x.stands ≡ true → standing x.cell ≡ running

  pub record ViewPlaces (w : ℕ) (v : View) : Type 0 where
    pub turn : (x : Carried) → Contains v.chains x → TurnHolds w x
    pub stack : (c : ℕ) → Contains (cells_of v.threads) c → StackHolds w c
    pub child : (x : Child) → v.child ≡ Some x → ChildHolds w x
    pub chains_once : AreOnce (chain_cells v.chains)
    pub threads_once : AreOnce (cells_of v.threads)
    -- a cell that the worker made full is full, so none of these is another's
    pub filled : (c : ℕ) → Contains v.filled c → (counters owner c ≡ false) × (state c ≡ full_word)

pub record Placing (workers cells : ℕ) (spot : ℕ → Spot) (wait : ℕ → Waiting) (owner state standing trap : ℕ → ℕ) (home : ℕ → Option Chain) (home_cargo : ℕ → Cargo) (post : ℕ → Option Chain) (post_cargo : ℕ → Cargo) (view : ℕ → View) : Type 0 where
  pub place : ℕ → Place
  pub each : (c : ℕ) → PlaceHolds workers cells spot wait owner state standing trap home home_cargo post post_cargo view place c (place c)
  pub mail : (v : ℕ) → MailHolds workers cells spot wait owner state standing trap home home_cargo post post_cargo view place v (post v) (post_cargo v)
  pub views : (w : ℕ) → ViewPlaces workers cells spot wait owner state standing trap home home_cargo post post_cargo view place w (view w)

abbrev pub Places : (x : World) → Lists x → Type 0
Places x l = Placing x.workers x.cells l.spot l.wait x.owner x.state x.standing x.trap x.home x.home_cargo x.post x.post_cargo x.view
