-- Who holds each word of the stacks: a worker, the chain in a slot, or nobody, where the word is of a leased frame that was given up; and in which
-- leased frame it lies. Read Leasing, which is of a world, and Leases, which is of the functions that it reads. Each clause is of one word, one
-- view or one slot; that no word is held twice and that leased frames are apart follows, since a word has one holder and one frame.
use Rattle.std.specs.Prelude.{◌≡◌, ◌≢◌, ℕ, ◌*◌, ◌^◌, ◌<◌, [], length, Option, Some, None}
use Rattle.std.specs.List.{Contains}
use Rattle.st_base.specs.declared.chain.Chain.{Chain}
use Rattle.st_base.specs.declared.chain.Frame.{Frame}
use Rattle.st_words.specs.declared.view.Slot.{Slot}
use Rattle.st_words.specs.declared.view.Cargo.{Cargo}
use Rattle.st_words.specs.declared.view.View.{View}
use Rattle.st_words.specs.Steps.{Inside, return_place, home_of, kept}
use Rattle.st_world.specs.World.{World, slot_of, cargo_of}
use Rattle.st_world.specs.Holders.{Holder, InView, InSlot, Nobody}

-- the holder of each word, and the leased frame in which it lies
pub record Keeping : Type 0 where
  pub holder : ℕ → Holder
  pub frame : ℕ → Option Frame

-- so many words on all stacks, and on each
module _ (size each : ℕ) (word : ℕ → ℕ) (k : Keeping) where
  -- a word of the leased frame f: all its words have one holder and lie on one stack, and its return word is 0 exactly where it was given up
  pub record LeasedWord (p : ℕ) (f : Frame) : Type 0 where
    pub inside : Inside f p
    pub deep : return_place f < size
    pub all : (q : ℕ) → Inside f q → (k.frame q ≡ Some f) × (k.holder q ≡ k.holder p) × (home_of each q ≡ home_of each p)
    pub given : word (return_place f) ≡ 0 → k.holder p ≡ Nobody
    pub gave : k.holder p ≡ Nobody → word (return_place f) ≡ 0

  -- a word of no leased frame is held by the worker on whose stack it lies
  abbrev pub WordHolds : ℕ → Option Frame → Type 0
  WordHolds p None = k.holder p ≡ InView (home_of each p)
  WordHolds p (Some f) = LeasedWord p f

  -- what goes with the chain in a slot: the words that it holds, and the frames that these are of
  pub record SlotHolds (z : Slot) (cargo : Cargo) : Type 0 where
    pub has : (p n : ℕ) → kept cargo.words p ≡ Some n → (p < size) × (k.holder p ≡ InSlot z) × (word p ≡ n)
    pub all : (p : ℕ) → p < size → k.holder p ≡ InSlot z → (n : ℕ) × (kept cargo.words p ≡ Some n)
    pub frames : (f : Frame) → Contains cargo.frames f → (return_place f < size) × (k.frame (return_place f) ≡ Some f) × (k.holder (return_place f) ≡ InSlot z)
    pub leased : (f : Frame) (p : ℕ) → p < size → k.frame p ≡ Some f → k.holder p ≡ InSlot z → Contains cargo.frames f

  -- what a worker holds; the exported frames are all leased ones on its stack, and the others that it holds are away from theirs
  pub record ViewHolds (w : ℕ) (v : View) : Type 0 where
    pub held : (p n : ℕ) → kept v.held p ≡ Some n → (p < size) × (k.holder p ≡ InView w) × (word p ≡ n)
    pub all : (p : ℕ) → p < size → k.holder p ≡ InView w → (n : ℕ) × (kept v.held p ≡ Some n)
    pub exported : (f : Frame) → Contains v.exported f → (return_place f < size) × (k.frame (return_place f) ≡ Some f) × (home_of each (return_place f) ≡ w)
    pub exports : (f : Frame) (p : ℕ) → p < size → k.frame p ≡ Some f → home_of each p ≡ w → Contains v.exported f
    pub away : (f : Frame) → Contains v.away f → (return_place f < size) × (k.frame (return_place f) ≡ Some f) × (k.holder (return_place f) ≡ InView w) × (home_of each (return_place f) ≢ w)
    pub aways : (f : Frame) (p : ℕ) → p < size → k.frame p ≡ Some f → k.holder p ≡ InView w → home_of each p ≢ w → Contains v.away f

-- no words and frames go with it
abbrev pub IsBare : Cargo → Type 0
IsBare cargo = (cargo.words ≡ []) × (cargo.frames ≡ [])

-- a view has its worker's number and the sizes of the stacks
pub record IsSized (size each w : ℕ) (v : View) : Type 0 where
  pub number : v.number ≡ w
  pub stack : v.each ≡ each
  pub held : length v.held ≡ size

pub record Leases (workers each : ℕ) (word : ℕ → ℕ) (chain : Slot → Option Chain) (cargo : Slot → Cargo) (view : ℕ → View) : Type 0 where
  pub keeping : Keeping
  pub small : (p : ℕ) → word p < 2 ^ 64
  pub words : (p : ℕ) → p < workers * each → WordHolds (workers * each) each word keeping p (keeping.frame p)
  pub views : (w : ℕ) → ViewHolds (workers * each) each word keeping w (view w)
  pub slots : (z : Slot) → SlotHolds (workers * each) each word keeping z (cargo z)
  pub bare : (z : Slot) → chain z ≡ None → IsBare (cargo z)
  pub sized : (w : ℕ) → w < workers → IsSized (workers * each) each w (view w)

abbrev pub Leasing : World → Type 0
Leasing x = Leases x.workers x.each x.stack (slot_of x) (cargo_of x) x.view
