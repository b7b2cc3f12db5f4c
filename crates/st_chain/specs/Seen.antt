-- What is read of threads in memory, and where frames lie to one another. Read SameIn (a frame reads the same over other words), AreApart (a frame overlaps
-- none of others), IsOldest and IsCut (the return word of a thread's oldest frame has the entry st_end).
use Rattle.std.specs.Prelude.{◌≡◌, ◌≢◌, ℕ, ◌+◌, ◌%◌, ◌≤◌, Bool, true, List, [], ◌∷◌, ◌++◌}
use Rattle.st_base.specs.declared.chain.Frame.{Frame}
use Rattle.st_words.specs.Steps.{Inside}
use Rattle.st_step.specs.Frames.{is_kept}
use Rattle.st_step.specs.Runs.{return_word}
use Rattle.st_stack.specs.Exported.{Apart}

-- ---- other words

-- the words of a frame are the same, and those that were held are
pub record SameIn (holds holds' : ℕ → Bool) (word word' : ℕ → ℕ) (f : Frame) : Type 0 where
  pub held : (q : ℕ) → Inside f q → holds q ≡ true → holds' q ≡ true
  pub words : (q : ℕ) → Inside f q → word q ≡ word' q

abbrev pub AllSame : (ℕ → Bool) → (ℕ → Bool) → (ℕ → ℕ) → (ℕ → ℕ) → List Frame → Type 0
AllSame holds holds' word word' [] = Prim.Unit
AllSame holds holds' word word' (f ∷ fs) = SameIn holds holds' word word' f × AllSame holds holds' word word' fs

-- the registers that a call keeps are the same
abbrev pub SameKept : (ℕ → ℕ) → (ℕ → ℕ) → Type 0
SameKept value value' = (x : ℕ) → is_kept x ≡ true → value x ≡ value' x

-- ---- places

-- the frames of several threads
abbrev pub joined : List (List Frame) → List Frame
joined [] = []
joined (fs ∷ rest) = fs ++ joined rest

-- from and up to addresses that are multiples of 16
pub record IsEven (f : Frame) : Type 0 where
  pub low : f.low % 16 ≡ 0
  pub base : f.base % 16 ≡ 0

-- the frame overlaps none of these
abbrev pub AreApart : Frame → List Frame → Type 0
AreApart f [] = Prim.Unit
AreApart f (g ∷ gs) = Apart f g × IsEven g × AreApart f gs

-- ---- one word

-- a frame of some words of a stack
pub record IsWhole (f : Frame) : Type 0 where
  pub above : 0x8000_0000 ≤ f.low
  pub even : IsEven f
  pub some : f.low + 16 ≤ f.base

-- of the frames from f on g is the last, and the others lie apart from it
abbrev pub IsOldest : Frame → Frame → List Frame → Type 0
IsOldest g f [] = f ≡ g
IsOldest g f (h ∷ hs) = Apart g f × IsOldest g h hs

-- the return word of the frame has the entry st_end, and no other word is changed
pub record IsCut (word word' : ℕ → ℕ) (g : Frame) : Type 0 where
  pub cut : word' (return_word g.base) ≡ 0x30
  pub others : (q : ℕ) → q ≢ return_word g.base → word q ≡ word' q
