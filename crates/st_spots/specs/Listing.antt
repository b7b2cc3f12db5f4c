-- Where the number of each thread that doesn't run is. Read Spot, Listing (the Next words spell the waiter lists, and the hands and the ready numbers
-- are as the views tell), Rooting (who may take the root's chain), and Lists, which is of a world.
use Rattle.std.specs.Prelude.{◌≡◌, ◌≢◌, ◌⊎◌, ℕ, suc, ◌≤◌, ◌<◌, Bool, true, false, List, [], ◌∷◌, length, Option, Some, None, ◌==◌, if◌then◌else◌}
use Rattle.std.specs.List.{Contains}
use Rattle.st_base.specs.declared.chain.Waiting.{Waiting}
use Rattle.st_base.specs.declared.chain.Waiting.TheVariants as waits
use Rattle.st_words.specs.declared.view.Waiter.{Waiter}
use Rattle.st_words.specs.declared.view.View.{View}
use Rattle.st_words.specs.Encodings.{full_word, count_in, head_in, is_counter}
use Rattle.st_world.specs.World.{World}

-- where the number of a thread is
pub data Spot : Type 0 where
  -- in no list, no hand, and not ready
  Nowhere : Spot
  -- in the waiter list of this cell, with so many behind it
  Listed : ℕ → ℕ → Spot
  -- an entry of the hand of this worker
  Held : ℕ → Spot
  -- in the hand of this worker, behind this entry, with so many behind it
  Behind : ℕ → ℕ → ℕ → Spot
  -- made ready by this worker
  Readied : ℕ → Spot
  -- the root's before its chain is taken: nobody, or this worker, found Root 1
  Rooted : Option ℕ → Spot

abbrev pub Among : ℕ → List ℕ → Type 0
Among d [] = ⊥
Among d (e ∷ es) = (e ≡ d) ⊎ Among d es

-- ---- lists

-- the numbers to which the Next words lead from a word; each is at a spot that tells how many are behind it
abbrev pub Spells : (ℕ → ℕ) → (ℕ → Spot) → (ℕ → Spot) → ℕ → List ℕ → Type 0
Spells next spot at word [] = word ≡ 0
Spells next spot at word (d ∷ ds) = (word ≡ suc d) × (spot d ≡ at (length ds)) × Spells next spot at (next d) ds

-- all numbers at these spots are one list from the word
abbrev pub IsList : (ℕ → ℕ) → (ℕ → Spot) → (ℕ → Spot) → ℕ → Type 0
IsList next spot at word = (ds : List ℕ) × Spells next spot at word ds × ((d k : ℕ) → spot d ≡ at k → Among d ds)

-- the head of the list of a cell, which is a counter or a future
abbrev pub head_by : Bool → ℕ → ℕ
head_by true state = head_in state
head_by false state = if state == full_word then 0 else state

-- the wait isn't over
abbrev pub IsOpen : Bool → ℕ → ℕ → Waiting → Type 0
IsOpen false state c (waits.Touch e) = (e ≡ c) × (state ≢ full_word)
IsOpen true state c (waits.Join e least) = (e ≡ c) × (count_in state < least)
IsOpen _ _ _ _ = ⊥

abbrev pub Alike : Waiting → Waiting → Type 0
Alike a b = (e : ℕ) → ((a ≡ waits.Touch e) → (b ≡ waits.Touch e)) × ((b ≡ waits.Touch e) → (a ≡ waits.Touch e))

abbrev pub HandHas : List Waiter → ℕ → Type 0
HandHas hand c = (x : Waiter) × Contains hand x × (x.cell ≡ c)

abbrev pub Once : List Waiter → Type 0
Once [] = Prim.Unit
Once (x ∷ xs) = (HandHas xs x.cell → ⊥) × Once xs

module _ (workers : ℕ) (spot : ℕ → Spot) (wait : ℕ → Waiting) (next : ℕ → ℕ) where
  -- what is behind an entry
  abbrev pub IsTail : ℕ → ℕ → Bool → Type 0
  IsTail w c true = IsList next spot (Behind w c) (next c)
  IsTail w c false = (d k : ℕ) → spot d ≢ Behind w c k

  pub record EntryHolds (w : ℕ) (x : Waiter) : Type 0 where
    pub held : spot x.cell ≡ Held w
    pub tail : IsTail w x.cell x.leads
    -- its Next word is stored only after what is behind it was read
    pub linked : (n : ℕ) → x.next ≡ Some n → (next x.cell ≡ n) × (x.leads ≡ false)
    pub told : (k : Waiting) → x.wait ≡ Some k → wait x.cell ≡ k

  pub record HandHolds (w : ℕ) (hand : List Waiter) : Type 0 where
    pub once : Once hand
    pub entries : (x : Waiter) → Contains hand x → EntryHolds w x
    pub has : (d : ℕ) → spot d ≡ Held w → HandHas hand d × (w < workers)

  pub record ReadyHolds (w : ℕ) (ready : List ℕ) : Type 0 where
    pub of : (c : ℕ) → Contains ready c → spot c ≡ Readied w
    pub has : (c : ℕ) → spot c ≡ Readied w → Contains ready c

  -- the waiter lists, the hands, and the ready numbers
  pub record Listing (counter : ℕ → Bool) (state : ℕ → ℕ) (hand : ℕ → List Waiter) (ready : ℕ → List ℕ) : Type 0 where
    pub lists : (c : ℕ) → IsList next spot (Listed c) (head_by (counter c) (state c))
    pub waiting : (d c k : ℕ) → spot d ≡ Listed c k → IsOpen (counter c) (state c) c (wait d)
    pub hands : (w : ℕ) → HandHolds w (hand w)
    pub behind : (d w c k : ℕ) → spot d ≡ Behind w c k → (spot c ≡ Held w) × Alike (wait c) (wait d)
    pub readies : (w : ℕ) → ReadyHolds w (ready w)

-- the Root word, and who found it 1
pub record Rooting (spot : ℕ → Spot) (root : ℕ) (found : ℕ → Bool) : Type 0 where
  pub untaken : root ≡ 1 → spot 0 ≡ Rooted None
  pub taken : spot 0 ≡ Rooted None → root ≡ 1
  pub finder : (w : ℕ) → found w ≡ true → spot 0 ≡ Rooted (Some w)
  pub finds : (w : ℕ) → spot 0 ≡ Rooted (Some w) → found w ≡ true

-- ---- worlds

-- the parts of the views that are read, and which cells are of counters
abbrev pub hands : (ℕ → View) → ℕ → List Waiter
hands views w = (views w).hand

abbrev pub readies : (ℕ → View) → ℕ → List ℕ
readies views w = (views w).ready

abbrev pub finders : (ℕ → View) → ℕ → Bool
finders views w = (views w).root

abbrev pub counters : (ℕ → ℕ) → ℕ → Bool
counters owner c = is_counter (owner c)

-- a head in a State word of a counter has 17 bits, so there are few cells
pub record Numbers (workers cells : ℕ) (owner state next : ℕ → ℕ) (root : ℕ) (view : ℕ → View) : Type 0 where
  pub spot : ℕ → Spot
  pub wait : ℕ → Waiting
  pub few : cells ≤ 65536
  pub below : (d : ℕ) → spot d ≢ Nowhere → d < cells
  pub sized : (w : ℕ) → w < workers → (view w).cells ≡ cells
  pub listing : Listing workers spot wait next (counters owner) state (hands view) (readies view)
  pub rooting : Rooting spot root (finders view)

abbrev pub Lists : World → Type 0
Lists x = Numbers x.workers x.cells x.owner x.state x.next x.root x.view
