-- Taking a thread off its worker, a step at a time: the top one, which is suspended, or the bottom one, which is given. Its frames stay where they
-- lie. Read Taking (all that is said of one taking: the worker's threads with their frames, which one is taken, and the words, names and exported
-- frames), MaySuspend and MayGive (what a step asks), and SuspendStep and GiveStep (what it comes to). No start of a taking is remembered: a
-- step says that whatever its state leads to, the state after it leads to, or is.
use Rattle.std.specs.Prelude.{◌≡◌, ◌≢◌, ◌⊎◌, ℕ, suc, ◌+◌, ◌*◌, ◌≤◌, Bool, true, false, nat_lt, List, [], ◌∷◌, ◌++◌, length, Option, Some, None, slice_set, if◌then◌else◌}
use Rattle.std.specs.List.{Contains}
use Rattle.st_base.specs.declared.chain.Chain.{Chain}
use Rattle.st_base.specs.declared.chain.Frame.{Frame}
use Rattle.st_base.specs.declared.chain.Note.{Note}
use Rattle.st_base.specs.declared.chain.Waiting.{Waiting}
use Rattle.st_base.specs.declared.chain.Waiting.TheVariants as waits
use Rattle.st_base.specs.declared.image.Image.{Image}
use Rattle.st_base.specs.declared.reg.Reg.TheVariants as registers
use Rattle.st_base.specs.declared.thread.Activation.{Activation}
use Rattle.st_base.specs.declared.thread.ActivationKind.TheVariants.{Forked}
use Rattle.st_base.specs.declared.thread.Held.{Held}
use Rattle.st_model.specs.declared.code.Layout.TheVariants.{Postprocessed}
use Rattle.st_model.specs.declared.program.Program.{Program}
use Rattle.st_model.specs.Effect.{File}
use Rattle.st_model.specs.Layout.{IsCodeOf}
use Rattle.st_model.specs.Memory.{Data}
use Rattle.st_words.specs.declared.view.Known.{Known}
use Rattle.st_words.specs.Steps.{Step, StackLoad, StackStore, Answer, return_place, Done}
use Rattle.st_stack.specs.Exported.{Exports, IsFrameOn, MayExport, Apart, IsLimit}
use Rattle.st_stack.specs.FrameLaw.{FrameLaw}
use Rattle.st_step.specs.declared.state.State.{State}
use Rattle.st_step.specs.Frames.{is_kept, value_in}
use Rattle.st_step.specs.Moves.{register}
use Rattle.st_step.specs.Runs.{return_word}
use Rattle.st_items.specs.Body.{Context, Ends, IsOn}
use Rattle.st_chain.specs.declared.walk.Walk.{Walk}
use Rattle.st_chain.specs.declared.logical.Moved.{Moved}
use Rattle.st_chain.specs.declared.logical.Moved.TheVariants.{More}
use Rattle.st_chain.specs.declared.logical.Moved.TheVariants as moved
use Rattle.st_chain.specs.Walk.{word_in, is_held, named_by, FromNewest}
use Rattle.st_chain.specs.Threads.{AtEnd, Lower, HoldsOver}
use Rattle.st_chain.specs.Chains.{saved_value, StandsOver, StandsFor}
use Rattle.st_chain.specs.Seen.{joined, IsEven, AreApart}
use Rattle.st_chain.specs.Copying.{over, Loads}
use Rattle.st_chain.specs.Walking.{IsAt, steps_of}

-- ---- what a taking is of

-- the worker's threads, the newest first, each with its frames: those above the one that is taken, that one, and those below it; the names and words
-- that the worker has, the frames of its stack that are exported once the thread is taken, what the thread waits for then, and the place where it stands
-- when its suspension begins, for which a giving has no use
pub record Taking : Type 0 where
  pub p : Program
  pub d : Data
  pub names : List (Held × ℕ)
  pub held : List (Option ℕ)
  pub above : List Known
  pub above_frames : List (List Frame)
  pub taken : Known
  pub frames : List Frame
  pub below : List Known
  pub below_frames : List (List Frame)
  pub exported : List Frame
  pub wait : Waiting
  pub place : ℕ

abbrev pub threads_of : Taking → List Known
threads_of t = t.above ++ t.taken ∷ t.below

abbrev pub frames_of : Taking → List (List Frame)
frames_of t = t.above_frames ++ t.frames ∷ t.below_frames

-- the notes of threads, the bottom thread's first
abbrev pub notes_of : List Known → List Note
notes_of [] = []
notes_of (u ∷ us) = notes_of us ++ u.note ∷ []

-- what lies below a thread of this cell
abbrev pub beneath : Taking → ℕ → List Known → List (List Frame) → Context
beneath t cell us rest = Lower t.p (named_by t.names) (is_held t.held) cell us rest

-- no two of these frames overlap
abbrev pub AllApart : List Frame → Type 0
AllApart [] = Prim.Unit
AllApart (f ∷ fs) = IsEven f × AreApart f fs × AllApart fs

-- the return word of the last of these frames
abbrev pub bottom_word : List Frame → ℕ
bottom_word [] = 0
bottom_word (f ∷ []) = return_word f.base
bottom_word (f ∷ g ∷ fs) = bottom_word (g ∷ fs)

-- of these frames those that lie on the stack are exported yet, each of which overlaps no other exported one, and then these are all exported frames
pub record WillExport (s : Exports) (fs : List Frame) (final : List Frame) : Type 0 where
  pub stay : (g : Frame) → Contains s.exported g → Contains final g
  pub come : (g : Frame) → Contains fs g → IsFrameOn s.lo s.hi g → Contains final g
  pub were : (g : Frame) → Contains final g → Contains s.exported g ⊎ (Contains fs g × IsFrameOn s.lo s.hi g)
  pub may : (g : Frame) → Contains fs g → IsFrameOn s.lo s.hi g → MayExport s.exported g

-- the same frames are exported, in whatever order
pub record AreExported (s : Exports) (final : List Frame) : Type 0 where
  pub all : (g : Frame) → Contains final g → Contains s.exported g
  pub only : (g : Frame) → Contains s.exported g → Contains final g

-- so much of a thread's frames is read: those before the ones that are left, the last of which has this base
pub record IsRead (frames : List Frame) (base : ℕ) (fs : List Frame) : Type 0 where
  pub before : List Frame
  pub parts : frames ≡ before ++ fs
  pub last : before ≢ [] → bottom_word before ≡ return_word base

-- ---- the threads that stay

-- behind a fork the thread below goes on, with the frame pointer and the registers that a call keeps: those are its own, with the handle of the one
-- above, and no other register is changed
pub record GoesOn (t : Taking) (held : List (Option ℕ)) (u : Known) (fs : List Frame) (us : List Known) (rest : List (List Frame)) (m m' : State) : Type 0 where
  pub holds : HoldsOver (named_by t.names) u.thread.registers (value_in m')
  pub thread : FromNewest t.p (named_by t.names) (is_held held) (Lower t.p (named_by t.names) (is_held held) u.note.cell us rest) 0 m'.pc (register m' registers.S0) (word_in held) (value_in m') u.thread.activations fs
  pub others : (x : ℕ) → x ≢ 8 → is_kept x ≡ false → value_in m' x ≡ value_in m x
  pub count : length m'.registers ≡ length m.registers
  pub lo : m'.lo ≡ m.lo
  pub hi : m'.hi ≡ m.hi
  pub whole : m'.half ≡ None

-- a machine stands at the top one of threads: at an item of it, or just forked, at the second jump of its fork, without a frame
abbrev pub TopStands : Program → List (Held × ℕ) → List (Option ℕ) → State → List Known → List (List Frame) → Type 0
TopStands p names held m [] rest = ⊥
TopStands p names held m (u ∷ us) [] = ⊥
TopStands p names held m (u ∷ us) (fs ∷ rest) =
    FromNewest p (named_by names) (is_held held) (Lower p (named_by names) (is_held held) u.note.cell us rest) 0 m.pc (register m registers.S0) (word_in held) (value_in m) u.thread.activations fs
    ⊎ ((fs ≡ []) × ((kept : File) × Lower p (named_by names) (is_held held) u.note.cell us rest Forked kept (word_in held) (value_in m) (register m registers.S0) (m.pc + 4)))

-- ---- the top thread is suspended

-- where the machine stands in its thread: behind the word that called an entry of the runtime, where it is at one
abbrev pub place_in : State → ℕ
place_in m = if nat_lt m.pc 0x10000 then value_in m 1 else m.pc

-- the thread is the top one, and these are the worker's notes
pub record IsTop (t : Taking) (notes : List Note) : Type 0 where
  pub alone : t.above ≡ []
  pub alone_frames : t.above_frames ≡ []
  pub notes_are : notes ≡ notes_of (threads_of t)
  pub apart : AllApart (joined (frames_of t))

-- the first step may be made: the threads stand on the machine, the top one at its place, where it waits so, and so many steps are to come
pub record CanSuspend (t : Taking) (notes : List Note) (m : State) (s : Exports) (wait : Waiting) (n : ℕ) : Type 0 where
  pub top : IsTop t notes
  pub is_wait : wait ≡ t.wait
  pub at_place : place_in m ≡ t.place
  pub ends : Ends
  pub machine : IsOn ends (over t.held m)
  pub whole : m.half ≡ None
  pub stands : StandsOver t.p t.names t.held (beneath t t.taken.note.cell t.below t.below_frames) wait (place_in m) (register m registers.S0) (value_in m) t.taken.thread t.frames
  pub exports : WillExport s t.frames t.exported
  pub steps : n ≡ suc (steps_of t.p t.taken.thread.activations)

-- the chain stands at the place for the thread over what lies below it, a walk is at some of its frames, and so many steps are to come
pub record Suspending (t : Taking) (notes : List Note) (walk : Walk) (m : State) (s : Exports) (n : ℕ) : Type 0 where
  pub top : IsTop t notes
  pub ends : Ends
  pub machine : IsOn ends (over t.held m)
  pub chain : Chain
  pub is_chain : walk.chain ≡ Some chain
  pub is_note : chain.note ≡ t.taken.note
  pub is_cell : chain.cell ≡ t.taken.note.cell
  pub is_wait : chain.wait ≡ t.wait
  pub at_place : chain.pc ≡ t.place
  pub stands : StandsOver t.p t.names t.held (beneath t t.taken.note.cell t.below t.below_frames) chain.wait chain.pc chain.fp (saved_value chain.saved) t.taken.thread t.frames
  pub thread : walk.thread ≡ length t.below
  pub acts : List Activation
  pub fs : List Frame
  pub at : IsAt t.p t.d t.names t.held (beneath t t.taken.note.cell t.below t.below_frames) walk.stage walk.machine acts fs n
  pub read : IsRead t.frames walk.base fs
  pub exports : WillExport s fs t.exported

-- by whether a taking has begun
abbrev pub Suspends : Taking → Waiting → List Note → Option Walk → State → Exports → ℕ → Type 0
Suspends t wait notes None m s n = CanSuspend t notes m s wait n
Suspends t wait notes (Some walk) m s n = Suspending t notes walk m s n

-- the chain stands for the thread, with nothing below it, and all of its frames on the stack are exported
pub record IsTaken (t : Taking) (held : List (Option ℕ)) (chain : Chain) (s : Exports) : Type 0 where
  pub is_note : chain.note ≡ t.taken.note
  pub is_cell : chain.cell ≡ t.taken.note.cell
  pub is_wait : chain.wait ≡ t.wait
  pub stands : StandsFor t.p t.names held chain.wait chain.pc chain.fp (saved_value chain.saved) t.taken.thread t.frames
  pub exported : AreExported s t.exported

-- the machine goes on with the thread below, or is as it was where there is none
abbrev pub NextGoesOn : Taking → List (Option ℕ) → List Known → List (List Frame) → State → State → Type 0
NextGoesOn t held [] rest m m' = m' ≡ m
NextGoesOn t held (u ∷ us) [] m m' = ⊥
NextGoesOn t held (u ∷ us) (fs ∷ rest) m m' = GoesOn t held u fs us rest m m'

-- what lies below is cut off by one stored word, the return word of the thread's oldest frame; with nothing below no step is made
module _ {Board : Type 0} (made : Step → Answer → Board → Type 0) (old : Board) where
  abbrev pub Cuts : Taking → List Known → Board → (List (Option ℕ) → Type 0) → Type 0
  Cuts t [] new so = (new ≡ old) × so t.held
  Cuts t (u ∷ us) new so = made (StackStore (bottom_word t.frames) 0x30) Done new × so (slice_set t.held (bottom_word t.frames) (Some 0x30))

  -- what a step of suspending comes to, wherever the state before it led to. The chain's place is the one where its suspension began
  abbrev pub SuspendStep : Taking → ℕ → List Note → List Note → Option Walk → State → State → Exports → Moved → Board → Type 0
  SuspendStep t n notes notes' walk' m m' s' More new = (notes' ≡ notes) × (m' ≡ m) × ((walk : Walk) × (walk' ≡ Some walk) × Loads made old t.held new (Suspending t notes walk m s' n))
  SuspendStep t n notes notes' walk' m m' s' (moved.Done chain) new =
      (notes' ≡ notes_of t.below) × (walk' ≡ None) × (chain.pc ≡ t.place) × Cuts t t.below new (λ held. IsTaken t held chain s' × NextGoesOn t held t.below t.below_frames m m')

-- ---- the bottom thread is given

-- the thread is the bottom one, and these are the worker's notes
pub record IsBottom (t : Taking) (notes : List Note) : Type 0 where
  pub alone : t.below ≡ []
  pub alone_frames : t.below_frames ≡ []
  pub ready : t.wait ≡ waits.Ready
  pub notes_are : notes ≡ notes_of (threads_of t)
  pub apart : AllApart (joined (frames_of t))

-- how many steps the frames of threads take
abbrev pub threads_steps : Program → List Known → ℕ
threads_steps p [] = 0
threads_steps p (u ∷ us) = steps_of p u.thread.activations + threads_steps p us

-- the top thread may have no frame: then one step tells what lies below it
abbrev pub all_steps : Program → List Known → List (List Frame) → ℕ
all_steps p (u ∷ us) ([] ∷ rest) = 1 + threads_steps p us
all_steps p us rest = threads_steps p us

-- the first step may be made: the threads stand on the machine, the second one from the bottom has a frame, and so many steps are to come
pub record CanGive (t : Taking) (notes : List Note) (m : State) (s : Exports) (n : ℕ) : Type 0 where
  pub bottom : IsBottom t notes
  pub ends : Ends
  pub machine : IsOn ends (over t.held m)
  pub whole : m.half ≡ None
  pub some : t.above ≢ []
  pub framed : t.above_frames ≢ [] ∷ []
  pub stands : TopStands t.p t.names t.held m (threads_of t) (frames_of t)
  pub exports : WillExport s t.frames t.exported
  pub steps : n ≡ suc (all_steps t.p (threads_of t) (frames_of t))

-- a walk is at some frames of a thread above the one that is given
pub record GivingAbove (t : Taking) (notes : List Note) (walk : Walk) (m : State) (s : Exports) (n : ℕ) : Type 0 where
  pub bottom : IsBottom t notes
  pub framed : t.above_frames ≢ [] ∷ []
  pub stands : TopStands t.p t.names t.held m (threads_of t) (frames_of t)
  pub none : walk.chain ≡ None
  pub upper : List Known
  pub upper_frames : List (List Frame)
  pub u : Known
  pub u_frames : List Frame
  pub between : List Known
  pub between_frames : List (List Frame)
  pub parts : t.above ≡ upper ++ u ∷ between
  pub frame_parts : t.above_frames ≡ upper_frames ++ u_frames ∷ between_frames
  pub thread : walk.thread ≡ suc (length between)
  pub acts : List Activation
  pub fs : List Frame
  pub steps : ℕ
  pub at : IsAt t.p t.d t.names t.held (beneath t u.note.cell (between ++ t.taken ∷ []) (between_frames ++ t.frames ∷ [])) walk.stage walk.machine acts fs steps
  pub read : IsRead u_frames walk.base fs
  pub exports : WillExport s t.frames t.exported
  pub total : n ≡ steps + threads_steps t.p (between ++ t.taken ∷ [])

-- the one that is given is cut off: the chain stands for it, the threads above stand on the machine with nothing below them, and a walk is at some
-- frames of it
pub record GivingBottom (t : Taking) (notes : List Note) (walk : Walk) (m : State) (s : Exports) (n : ℕ) : Type 0 where
  pub bottom : IsBottom t notes
  pub stands : TopStands t.p t.names t.held m t.above t.above_frames
  pub chain : Chain
  pub is_chain : walk.chain ≡ Some chain
  pub is_note : chain.note ≡ t.taken.note
  pub is_cell : chain.cell ≡ t.taken.note.cell
  pub is_wait : chain.wait ≡ t.wait
  pub chain_stands : StandsFor t.p t.names t.held chain.wait chain.pc chain.fp (saved_value chain.saved) t.taken.thread t.frames
  pub thread : walk.thread ≡ 0
  pub acts : List Activation
  pub fs : List Frame
  pub at : IsAt t.p t.d t.names t.held AtEnd walk.stage walk.machine acts fs n
  pub read : IsRead t.frames walk.base fs
  pub exports : WillExport s fs t.exported

-- by whether a taking has begun, and how far it is
abbrev pub Gives : Taking → List Note → Option Walk → State → Exports → ℕ → Type 0
Gives t notes None m s n = CanGive t notes m s n
Gives t notes (Some walk) m s n = GivingAbove t notes walk m s n ⊎ GivingBottom t notes walk m s n

-- the taking over other words
abbrev pub over_words : List (Option ℕ) → Taking → Taking
over_words held t = record t { held = held }

-- the return word of the oldest frame of the thread right above the bottom one
abbrev pub cut_word : Taking → ℕ
cut_word t = bottom_word (joined t.above_frames)

module _ {Board : Type 0} (made : Step → Answer → Board → Type 0) (old : Board) where
  -- no step is made, or a load, or the one store that cuts the bottom thread off
  abbrev pub Goes : Taking → Board → (List (Option ℕ) → Type 0) → Type 0
  Goes t new so = Loads made old t.held new (so t.held) ⊎ (made (StackStore (cut_word t) 0x30) Done new × so (slice_set t.held (cut_word t) (Some 0x30)))

  -- what a step of giving comes to, wherever the state before it led to
  abbrev pub GiveStep : Taking → ℕ → List Note → List Note → Option Walk → State → Exports → Moved → Board → Type 0
  GiveStep t n notes notes' walk' m s' More new = (notes' ≡ notes) × ((walk : Walk) × (walk' ≡ Some walk) × Goes t new (λ held. GivingAbove (over_words held t) notes walk m s' n ⊎ GivingBottom (over_words held t) notes walk m s' n))
  GiveStep t n notes notes' walk' m s' (moved.Done chain) new = (notes' ≡ notes_of t.above) × (walk' ≡ None) × (new ≡ old) × IsTaken t t.held chain s' × TopStands t.p t.names t.held m t.above t.above_frames

-- ---- what a step asks

-- a taking is begun or goes on, so many steps are to come, and each step of the board that it may need may be asked: a load of a word that is held, or
-- the store that cuts
pub record MaySuspend (asks : Step → Type 0) (image : Image) (d : Data) (wait : Waiting) (notes : List Note) (walk : Option Walk) (m : State) (s : Exports) : Type 0 where
  pub t : Taking
  pub code : IsCodeOf Postprocessed t.p image
  pub data_is : t.d ≡ d
  pub n : ℕ
  pub suspends : Suspends t wait notes walk m s (suc n)
  pub loads : (q : ℕ) → is_held t.held q ≡ true → asks (StackLoad q)
  pub cut : t.below ≢ [] → asks (StackStore (bottom_word t.frames) 0x30)

pub record MayGive (asks : Step → Type 0) (image : Image) (d : Data) (notes : List Note) (walk : Option Walk) (m : State) (s : Exports) : Type 0 where
  pub t : Taking
  pub code : IsCodeOf Postprocessed t.p image
  pub data_is : t.d ≡ d
  pub n : ℕ
  pub gives : Gives t notes walk m s (suc n)
  pub loads : (q : ℕ) → is_held t.held q ≡ true → asks (StackLoad q)
  pub cut : asks (StackStore (cut_word t) 0x30)

-- ---- laws

-- at most 20 steps a frame and 8 more
abbrev pub TakesFew : Type 0
TakesFew =
    ((t : Taking) (notes : List Note) (m : State) (s : Exports) (wait : Waiting) (n : ℕ) → CanSuspend t notes m s wait n → n ≤ 20 * length t.frames + 8)
    × ((t : Taking) (notes : List Note) (m : State) (s : Exports) (n : ℕ) → CanGive t notes m s n → n ≤ 20 * length (joined (frames_of t)) + 8)

-- what a taking makes of the exported frames of a stack and of the worker's own: a frame that is exported now was so or is the worker's, none of those
-- is exported no more, and one that isn't the worker's any more is exported. The worker's frames were not left for ever
pub record ExportsOwn (is_zero : ℕ → Bool) (exported exported' own own' : List Frame) : Type 0 where
  pub stay : (g : Frame) → Contains exported g → Contains exported' g
  pub come : (g : Frame) → Contains exported' g → Contains exported g ⊎ Contains own g
  pub gone : (g : Frame) → Contains own g → Contains own' g ⊎ Contains exported' g
  pub left : (g : Frame) → Contains own' g → Contains own g
  pub lives : (g : Frame) → Contains own g → is_zero (return_place g) ≡ false
  pub apart : (f g : Frame) → Contains exported' f → Contains exported' g → f ≢ g → Apart f g

-- it keeps the law of frames on the stack, with sp where it was: while the taking goes on the thread that is taken counts among the worker's, and at its
-- end no longer
abbrev pub KeepsFrameLaw : Type 0
KeepsFrameLaw = (is_zero : ℕ → Bool) (hi sp n : ℕ) (exported exported' live own own' : List Frame) → IsLimit hi exported n → sp ≤ hi → ExportsOwn is_zero exported exported' own own' → FrameLaw is_zero hi sp exported live own → FrameLaw is_zero hi sp exported' live own'
