-- What goes with a chain that a worker puts into a slot, as a function of the worker's view (goes_with): the frames that its thread has, found from the chain's frame pointer and the activations of
-- the thread; the words of these; and the names that the worker has. Read HasFrames (the chain is in the turn, and stands for its thread over frames that are leased) and ChainsCarried (then
-- it may be put with that).
use Rattle.std.specs.Prelude.{◌≡◌, ◌⊎◌, ℕ, ◌-◌, ◌==◌, List, [], ◌∷◌, Option, Some, None, slice_get, if◌then◌else◌}
use Rattle.std.specs.List.{Contains}
use Rattle.st_base.specs.declared.chain.Chain.{Chain}
use Rattle.st_base.specs.declared.chain.Frame.{Frame}
use Rattle.st_base.specs.declared.chain.Waiting.{Waiting}
use Rattle.st_base.specs.declared.chain.Waiting.TheVariants as waits
use Rattle.st_base.specs.declared.thread.Activation.{Activation}
use Rattle.st_base.specs.declared.thread.Held.{Held}
use Rattle.st_model.specs.declared.program.Program.{Program}
use Rattle.st_model.specs.declared.program.ProgramFunction.{ProgramFunction}
use Rattle.st_model.specs.Accepted.{IsAccepted}
use Rattle.st_model.specs.Memory.{Data}
use Rattle.st_words.specs.declared.view.Cargo.{Cargo}
use Rattle.st_words.specs.declared.view.Carried.{Carried}
use Rattle.st_words.specs.declared.view.Slot.{Slot}
use Rattle.st_words.specs.declared.view.View.{View}
use Rattle.st_words.specs.Careful.{MayCarry, unit_in}
use Rattle.st_words.specs.Laws.{cargo_of}
use Rattle.st_words.specs.Names.{IsName, ThreadHas}
use Rattle.st_words.specs.Steps.{home_of, return_place, IsLeased}
use Rattle.st_words.specs.Views.{no_known}
use Rattle.st_step.specs.Runs.{caller_word}
use Rattle.st_chain.specs.Walk.{word_in}
use Rattle.st_chain.specs.Chains.{IsUnbegun, StandsFor, CanGoOn, HasBegun, saved_value, Walks}

-- ---- frames

-- of a function, with this base
abbrev pub frame_below : Option ProgramFunction → ℕ → Frame
frame_below None base = record { low = base; base = base }
frame_below (Some function) base = record { low = base - function.frame_bytes; base = base }

-- those of these activations, the newest first, whose frame has this base: each frame has the base of the one below it in its caller's word
abbrev pub frames_from : Program → (ℕ → ℕ) → ℕ → List Activation → List Frame
frames_from p word base [] = []
frames_from p word base (a ∷ older) = frame_below (slice_get p.functions a.function) base ∷ frames_from p word (word (caller_word base)) older

-- one that hasn't begun has none
abbrev pub frames_by : Waiting → Program → (ℕ → ℕ) → ℕ → List Activation → List Frame
frames_by waits.Start p word base acts = []
frames_by _ p word base acts = frames_from p word base acts

-- ---- what goes with a chain

-- the chain of the turn that has this number
abbrev pub no_carried : Carried
no_carried = record { known = no_known; wait = waits.Ready; trap = None; standing = None }

abbrev pub found : ℕ → List Carried → Carried
found c [] = no_carried
found c (x ∷ xs) = if x.known.note.cell == c then x else found c xs

abbrev pub frames_of : Program → View → Chain → List Frame
frames_of p u chain = frames_by chain.wait p (word_in u.held) chain.fp (found chain.cell u.chains).known.thread.activations

-- put into a slot
abbrev pub goes_with : Program → View → Slot → Chain → Cargo
goes_with p u slot chain = cargo_of u (found chain.cell u.chains) (frames_of p u chain) (unit_in slot)

-- ---- laws

-- the chain stands for a chain of the turn, whose frames are leased, with all their words held, and exported where they lie on the worker's own stack
pub record HasFrames (p : Program) (d : Data) (u : View) (chain : Chain) (x : Carried) (frames : List Frame) : Type 0 where
  pub there : Contains u.chains x
  pub single : (y : Carried) → Contains u.chains y → y.known.note.cell ≡ x.known.note.cell → y ≡ x
  pub note : x.known.note ≡ chain.note
  pub cell : chain.note.cell ≡ chain.cell
  pub wait : x.wait ≡ chain.wait
  pub stands : IsUnbegun p d chain x.known.thread frames ⊎ (StandsFor p u.names u.held chain.wait chain.pc chain.fp (saved_value chain.saved) x.known.thread frames × CanGoOn p chain.wait x.known.thread)
  pub begun : HasBegun chain.wait x.known.begun
  pub leased : (f : Frame) → Contains frames f → IsLeased u f
  pub own : (f : Frame) → Contains frames f → home_of u.each (return_place f) ≡ u.number → Contains u.exported f
  pub knows : (name : Held) → IsName name → ThreadHas x.known.thread name → (c : ℕ) × Contains u.names (name, c)

-- it is found, with its frames, and may be put with what the view tells of it
pub record IsCarried (p : Program) (d : Data) (u : View) (slot : Slot) (chain : Chain) (x : Carried) (frames : List Frame) : Type 0 where
  pub found_is : (goes_with p u slot chain).carried ≡ x
  pub frames_are : (goes_with p u slot chain).frames ≡ frames
  pub carries : MayCarry u chain (goes_with p u slot chain)
  pub walks : Walks p d chain (goes_with p u slot chain)

abbrev pub ChainsCarried : Type 0
ChainsCarried = (p : Program) (d : Data) (u : View) (slot : Slot) (chain : Chain) (x : Carried) (frames : List Frame) → IsAccepted p → HasFrames p d u chain x frames → IsCarried p d u slot chain x frames
