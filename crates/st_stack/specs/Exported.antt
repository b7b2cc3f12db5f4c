-- The exported frames of one stack. Read IsFrameOn (a frame that a stack may have), MayExport (one that may be
-- exported beside the others), IsAdded (what an export does), IsWithout (what is left when one is taken back) and IsLimit. Contracts see a stack
-- as Exports.
use Rattle.std.specs.Prelude.{◌≡◌, ◌≢◌, ◌⊎◌, ℕ, ◌-◌, ◌/◌, ◌%◌, ◌<◌, ◌≤◌, Bool, true, false, List, [], length, slice_index_or, Result, Ok, Err}
use Rattle.std.specs.List.{Contains}
use Rattle.st_base.specs.declared.chain.Frame.{Frame}

-- ---- frames of a stack

-- a stack from lo up to hi
pub record IsRange (lo hi : ℕ) : Type 0 where
  pub some : lo < hi
  pub size : hi - lo ≤ 1048576
  pub low_even : lo % 16 ≡ 0
  pub high_even : hi % 16 ≡ 0

-- a frame that lies on it
pub record IsFrameOn (lo hi : ℕ) (f : Frame) : Type 0 where
  pub from : lo ≤ f.low
  pub some : f.low < f.base
  pub to : f.base ≤ hi
  pub low_even : f.low % 16 ≡ 0
  pub base_even : f.base % 16 ≡ 0

-- two frames that don't overlap
abbrev pub Apart : Frame → Frame → Type 0
Apart f g = (f.base ≤ g.low) ⊎ (g.base ≤ f.low)

-- ---- what contracts see of a stack: its exported frames, in any order, and its ends

pub record Exports : Type 0 where
  pub exported : List Frame
  pub lo : ℕ
  pub hi : ℕ

-- ---- exports

-- the frame overlaps no other exported one
abbrev pub MayExport : List Frame → Frame → Type 0
MayExport fs f = (g : Frame) → Contains fs g → g ≢ f → Apart f g

-- those frames and this one
pub record IsWith (fs : List Frame) (f : Frame) (fs' : List Frame) : Type 0 where
  pub here : Contains fs' f
  pub stay : (g : Frame) → Contains fs g → Contains fs' g
  pub were : (g : Frame) → Contains fs' g → (g ≡ f) ⊎ Contains fs g

-- those frames but this one
pub record IsWithout (fs : List Frame) (f : Frame) (fs' : List Frame) : Type 0 where
  pub gone : Contains fs' f → ⊥
  pub stay : (g : Frame) → g ≢ f → Contains fs g → Contains fs' g
  pub were : (g : Frame) → Contains fs' g → Contains fs g

-- what an export answers and leaves
abbrev pub IsAdded : List Frame → Frame → Bool → List Frame → Type 0
IsAdded fs f true fs' = (Contains fs f → ⊥) × IsWith fs f fs'
IsAdded fs f false fs' = Contains fs f × (fs' ≡ fs)

-- ---- the limit

-- the exported frame of least low end
pub record IsLowest (fs : List Frame) (f : Frame) : Type 0 where
  pub there : Contains fs f
  pub least : (g : Frame) → Contains fs g → f.low ≤ g.low

-- the least low end of an exported frame, or the stack's high end where there is none
abbrev pub IsLimit : ℕ → List Frame → ℕ → Type 0
IsLimit hi fs n = ((fs ≡ []) × (n ≡ hi)) ⊎ ((f : Frame) × IsLowest fs f × (n ≡ f.low))

-- ---- the list as it is kept

abbrev pub no_frame : Frame
no_frame = record { low = 0; base = 0 }

abbrev pub frame_at : List Frame → ℕ → Frame
frame_at fs k = slice_index_or fs k no_frame

abbrev pub AllOn : ℕ → ℕ → List Frame → Type 0
AllOn lo hi fs = (k : ℕ) → k < length fs → IsFrameOn lo hi (frame_at fs k)

-- each lies above those that come after it
abbrev pub IsDescending : List Frame → Type 0
IsDescending fs = (j k : ℕ) → j < k → k < length fs → (frame_at fs k).base ≤ (frame_at fs j).low

-- there is room for one frame in each 16 bytes
pub record IsKept (lo hi capacity : ℕ) (fs : List Frame) : Type 0 where
  pub range : IsRange lo hi
  pub on : AllOn lo hi fs
  pub descending : IsDescending fs
  pub room : (hi - lo) / 16 ≤ capacity

-- the frames before it have their low ends above this frame's, and no others do
pub record IsPlaceOf (f : Frame) (fs : List Frame) (n : ℕ) : Type 0 where
  pub within : n ≤ length fs
  pub before : (k : ℕ) → k < n → f.low < (frame_at fs k).low
  pub after : (k : ℕ) → n ≤ k → k < length fs → (frame_at fs k).low ≤ f.low

-- a frame was found among them, or stands there nowhere
abbrev pub IsFound : Frame → List Frame → Result ℕ ℕ → Type 0
IsFound f fs (Ok k) = (k < length fs) × (frame_at fs k ≡ f)
IsFound f fs (Err n) = (Contains fs f → ⊥) × IsPlaceOf f fs n
