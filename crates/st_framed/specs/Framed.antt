-- Where the frames of a worker's threads lie: Framed. No two overlap, none lies below sp on the worker's own stack, and those of its own stack that aren't exported are the newest ones, the newer the
-- lower. Read RoomIs (what that means for the words below sp) and what keeps it: an item (ItemsFrame), shrinking (ShrinkingFrames), a thread that is taken out, the top or the bottom one
-- (TopLeaves, BottomLeaves), and a chain that comes (ComesFramed).
use Rattle.std.specs.Prelude.{◌≡◌, ◌≢◌, ◌⊎◌, ℕ, ◌+◌, ◌%◌, ◌^◌, ◌<◌, ◌≤◌, Bool, true, List, [], ◌∷◌, ◌++◌, Option, Some, None}
use Rattle.std.specs.List.{Contains}
use Rattle.st_base.specs.declared.chain.Frame.{Frame}
use Rattle.st_model.specs.declared.program.Program.{Program}
use Rattle.st_model.specs.Memory.{Data}
use Rattle.st_words.specs.Steps.{place_of, return_place, Inside}
use Rattle.st_step.specs.Runs.{Situation}
use Rattle.st_stack.specs.declared.stack.Shrunk.{Shrunk}
use Rattle.st_stack.specs.declared.stack.Shrunk.TheVariants as shrunks
use Rattle.st_stack.specs.Exported.{Exports, IsRange, IsFrameOn, IsLowest, IsWithout, IsLimit, Apart}
use Rattle.st_stack.specs.Shrinking.{lesser}
use Rattle.st_items.specs.Body.{Ends}
use Rattle.st_chain.specs.Seen.{IsEven}
use Rattle.st_chain.specs.Taking.{AllApart}
use Rattle.st_standing.specs.Standing.{HasRoom}
use Rattle.st_running.specs.Running.{FramesAfter}

-- ---- where they lie

-- on another worker's stack, wholly below this one or above it
abbrev pub IsElsewhere : ℕ → ℕ → Frame → Type 0
IsElsewhere lo hi f = (f.base ≤ lo) ⊎ (hi ≤ f.low)

-- these lie on the stack from there on, each above the one before it, and aren't exported
abbrev pub AreRising : Exports → ℕ → List Frame → Type 0
AreRising s at [] = Prim.Unit
AreRising s at (f ∷ fs) = (at ≤ f.low) × IsFrameOn s.lo s.hi f × (Contains s.exported f → ⊥) × AreRising s f.base fs

-- the worker's stack, with sp on it; there is no exported frame below sp
pub record IsStack (s : Exports) (ends : Ends) : Type 0 where
  pub range : IsRange s.lo s.hi
  pub lo : ends.lo ≡ s.lo
  pub hi : ends.hi ≡ s.hi
  pub low : 0x8000_0000 ≤ s.lo
  pub high : s.hi < 0x8000_0000 + 2 ^ 32
  pub above : ends.lo ≤ ends.sp
  pub even : ends.sp % 16 ≡ 0
  pub limit : (n : ℕ) → IsLimit s.hi s.exported n → ends.sp ≤ n
  pub on : (f : Frame) → Contains s.exported f → IsFrameOn s.lo s.hi f
  pub apart : (f g : Frame) → Contains s.exported f → Contains s.exported g → f ≢ g → Apart f g

-- of all frames of the worker's threads, the newest first, the young ones are on its stack and not exported, and of the others those on its stack are exported
pub record Framed (s : Exports) (ends : Ends) (frames : List Frame) : Type 0 where
  pub stack : IsStack s ends
  pub all_apart : AllApart frames
  pub some : (f : Frame) → Contains frames f → f.low < f.base
  -- each is exported or overlaps no exported one
  pub clear : (f g : Frame) → Contains frames f → Contains s.exported g → f ≢ g → Apart f g
  pub young : List Frame
  pub old : List Frame
  pub parts : frames ≡ young ++ old
  pub rising : AreRising s ends.sp young
  pub others : (f : Frame) → Contains old f → Contains s.exported f ⊎ IsElsewhere s.lo s.hi f

-- ---- what it means

-- the worker holds each word of its stack that is in no exported frame
abbrev pub HoldsOwn : (ℕ → Bool) → Exports → Type 0
HoldsOwn holds s = (q : ℕ) → place_of s.lo ≤ q → q < place_of s.hi → ((f : Frame) → Contains s.exported f → Inside f q → ⊥) → holds q ≡ true

abbrev pub RoomIs : Type 0
RoomIs = (holds : ℕ → Bool) (s : Exports) (ends : Ends) (frames : List Frame) → Framed s ends frames → HoldsOwn holds s → HasRoom holds ends frames

-- ---- what keeps it

-- an item of the top thread, whose frames are fs; gp is the limit of the stack
abbrev pub ItemsFrame : Type 0
ItemsFrame =
    (p : Program) (d : Data) (holds : ℕ → Bool) (s : Exports) (ends ends' : Ends) (t u : Situation) (fs fs' rest : List Frame) → Framed s ends (fs ++ rest) → IsLimit s.hi s.exported ends.gp → FramesAfter p d holds ends t fs ends' u fs' → ((f : Frame) → Contains fs' f → IsEven f) → Framed s ends' (fs' ++ rest)

-- a frame of the worker's threads has a return word that isn't 0, so none of them is taken back
abbrev pub AreAlive : (ℕ → Bool) → List Frame → Type 0
AreAlive is_zero frames = (f : Frame) → Contains frames f → is_zero (return_place f) ≡ true → ⊥

-- the newest frame, where it is on the worker's stack and not exported
abbrev pub IsNewest : Exports → List Frame → Option Frame → Type 0
IsNewest s [] top = top ≡ None
IsNewest s (f ∷ fs) None = IsFrameOn s.lo s.hi f → Contains s.exported f
IsNewest s (f ∷ fs) (Some top) = (top ≡ f) × IsFrameOn s.lo s.hi f × (Contains s.exported f → ⊥)

-- a frame is taken back whose return word is 0; then sp may lie at the limit, or at the newest frame where that is lower
abbrev pub ShrinksTo : (ℕ → Bool) → Exports → Exports → Ends → Ends → Option Frame → Shrunk → Type 0
ShrinksTo is_zero s s' ends ends' top shrunks.More = (ends' ≡ ends) × ((f : Frame) × IsLowest s.exported f × (is_zero (return_place f) ≡ true) × IsWithout s.exported f s'.exported)
ShrinksTo is_zero s s' ends ends' top (shrunks.Done sp) = (s'.exported ≡ s.exported) × (ends' ≡ record ends { sp = sp }) × ((limit : ℕ) × IsLimit s.hi s.exported limit × (sp ≡ lesser limit top))

abbrev pub ShrinkingFrames : Type 0
ShrinkingFrames =
    (is_zero : ℕ → Bool) (s s' : Exports) (ends ends' : Ends) (frames : List Frame) (top : Option Frame) (shrunk : Shrunk) → Framed s ends frames → AreAlive is_zero frames → IsNewest s frames top → s'.lo ≡ s.lo → s'.hi ≡ s.hi → ShrinksTo is_zero s s' ends ends' top shrunk → Framed s' ends' frames

-- frames of a thread that is taken out are exported, those on the stack, and no others
pub record Exporting (s s' : Exports) (fs : List Frame) : Type 0 where
  pub lo : s'.lo ≡ s.lo
  pub hi : s'.hi ≡ s.hi
  pub stay : (g : Frame) → Contains s.exported g → Contains s'.exported g
  pub come : (g : Frame) → Contains fs g → IsFrameOn s.lo s.hi g → Contains s'.exported g
  pub were : (g : Frame) → Contains s'.exported g → Contains s.exported g ⊎ (Contains fs g × IsFrameOn s.lo s.hi g)

-- the top thread, whose frames are the newest ones
abbrev pub TopLeaves : Type 0
TopLeaves = (s s' : Exports) (ends : Ends) (fs rest : List Frame) → Framed s ends (fs ++ rest) → Exporting s s' fs → Framed s' ends rest

-- the bottom one, whose frames are the oldest ones
abbrev pub BottomLeaves : Type 0
BottomLeaves = (s s' : Exports) (ends : Ends) (above fs : List Frame) → Framed s ends (above ++ fs) → Exporting s s' fs → Framed s' ends above

-- a chain comes to a worker without a thread: its frames on this stack are exported
abbrev pub ComesFramed : Type 0
ComesFramed = (s : Exports) (ends : Ends) (fs : List Frame) → IsStack s ends → AllApart fs → ((f : Frame) → Contains fs f → f.low < f.base) → ((f g : Frame) → Contains fs f → Contains s.exported g → f ≢ g → Apart f g) → ((f : Frame) → Contains fs f → Contains s.exported f ⊎ IsElsewhere s.lo s.hi f) → Framed s ends fs

-- what a taking may export of the frames of a worker's threads
abbrev pub MayBeExported : Type 0
MayBeExported = (s : Exports) (ends : Ends) (frames : List Frame) (f : Frame) → Framed s ends frames → Contains frames f → (g : Frame) → Contains s.exported g → g ≢ f → Apart f g

pub record FramedLaws : Type 0 where
  pub room : RoomIs
  pub items : ItemsFrame
  pub shrinking : ShrinkingFrames
  pub top : TopLeaves
  pub bottom : BottomLeaves
  pub comes : ComesFramed
  pub may : MayBeExported
