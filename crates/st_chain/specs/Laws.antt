-- Laws of threads in memory, over the words that a worker or a chain holds and the names that it has. StandsSame (the frame law: only the words of its
-- frames are read of a thread) and LowerSame (of the threads below one another), OlderUnseen (what is older than an activation sees no word of
-- a frame that is apart), ThreadCut (a thread is cut from what lies below it), CopiesGive (a pure copy gives the older activation), and Restarts and
-- RestartStands (a chain goes on).
use Rattle.std.specs.Prelude.{◌≡◌, ◌≢◌, ℕ, ◌+◌, true, List, ◌∷◌, length, Option, Some, slice_set}
use Rattle.std.specs.List.{Contains}
use Rattle.st_base.specs.declared.chain.Chain.{Chain}
use Rattle.st_base.specs.declared.chain.Frame.{Frame}
use Rattle.st_base.specs.declared.chain.Waiting.{Waiting}
use Rattle.st_base.specs.declared.chain.Waiting.TheVariants as waits
use Rattle.st_base.specs.declared.reg.Reg.TheVariants as registers
use Rattle.st_base.specs.declared.thread.Activation.{Activation}
use Rattle.st_base.specs.declared.thread.ActivationKind.{ActivationKind}
use Rattle.st_base.specs.declared.thread.Held.{Held}
use Rattle.st_base.specs.declared.thread.Thread.{Thread}
use Rattle.st_model.specs.declared.code.Layout.TheVariants.{Postprocessed}
use Rattle.st_model.specs.declared.program.Program.{Program}
use Rattle.st_model.specs.declared.program.ProgramFunction.{ProgramFunction}
use Rattle.st_model.specs.Accepted.{IsAccepted}
use Rattle.st_model.specs.Effect.{File}
use Rattle.st_model.specs.Layout.{saved_of}
use Rattle.st_model.specs.Memory.{Data}
use Rattle.st_words.specs.declared.view.Cargo.{Cargo}
use Rattle.st_words.specs.declared.view.Known.{Known}
use Rattle.st_step.specs.declared.state.State.{State}
use Rattle.st_step.specs.Frames.{value_in}
use Rattle.st_step.specs.Moves.{register}
use Rattle.st_step.specs.Runs.{HasRegisters, IsReturn, return_word}
use Rattle.st_items.specs.Body.{Ends, IsOn, SeesOutside}
use Rattle.st_items.specs.Code.{IsSized}
use Rattle.st_items.specs.Copied.{copy_address, Older}
use Rattle.st_chain.specs.Walk.{word_in, is_held, named_by, IsActivation, Below, FromNewest}
use Rattle.st_chain.specs.Threads.{AtEnd, Lower}
use Rattle.st_chain.specs.Chains.{StandsFor, CanGoOn, Walks}
use Rattle.st_chain.specs.Seen.{AllSame, SameKept, joined, IsEven, AreApart, IsWhole, IsOldest}
use Rattle.st_chain.specs.Copying.{over, CopyRuns}
use Rattle.st_chain.specs.Logical.{restarted, IsRestarted}

-- ---- what is read

-- a list of names has all of another
abbrev pub HasNames : List (Held × ℕ) → List (Held × ℕ) → Type 0
HasNames names names' = (name : Held) (cell : ℕ) → Contains names (name, cell) → Contains names' (name, cell)

-- these frames are read the same over other held words
abbrev pub AllSameHeld : List (Option ℕ) → List (Option ℕ) → List Frame → Type 0
AllSameHeld held held' = AllSame (is_held held) (is_held held') (word_in held) (word_in held')

-- a lone thread, over other words and more names
abbrev pub StandsSame : Type 0
StandsSame =
    (p : Program) (names names' : List (Held × ℕ)) (held held' : List (Option ℕ)) (wait : Waiting) (pc fp : ℕ) (value value' : ℕ → ℕ) (thread : Thread) (frames : List Frame) → IsAccepted p → HasNames names names' → AllSameHeld held held' frames → SameKept value value'
    → StandsFor p names held wait pc fp value thread frames → StandsFor p names' held' wait pc fp value' thread frames

-- the threads below one another
abbrev pub LowerSame : Type 0
LowerSame =
    (p : Program) (names names' : List (Held × ℕ)) (held held' : List (Option ℕ)) (cell : ℕ) (ts : List Known) (frames : List (List Frame)) (kind : ActivationKind) (kept : File) (value value' : ℕ → ℕ) (fp ret : ℕ) → IsAccepted p → HasNames names names' → AllSameHeld held held' (joined frames) → SameKept value value'
    → Lower p (named_by names) (is_held held) cell ts frames kind kept (word_in held) value fp ret → Lower p (named_by names') (is_held held') cell ts frames kind kept (word_in held') value' fp ret

-- what is older than an activation sees no word of a frame that is apart from all others
abbrev pub OlderUnseen : Type 0
OlderUnseen =
    (p : Program) (names : List (Held × ℕ)) (held : List (Option ℕ)) (f : Frame) (older : List Activation) (fs : List Frame) (cell : ℕ) (ts : List Known) (frames : List (List Frame)) → IsAccepted p → IsEven f → AreApart f fs → AreApart f (joined frames)
    → SeesOutside (Below p (named_by names) (is_held held) (Lower p (named_by names) (is_held held) cell ts frames) older fs) f.low f.base

-- ---- what moves

-- the return word of its oldest frame has the entry st_end: the thread is read as before, and nothing lies below it
abbrev pub ThreadCut : Type 0
ThreadCut =
    (p : Program) (names : List (Held × ℕ)) (held : List (Option ℕ)) (g f : Frame) (fs : List Frame) (cell : ℕ) (ts : List Known) (frames : List (List Frame)) (ahead pc fp : ℕ) (value : ℕ → ℕ) (acts : List Activation) → IsAccepted p → IsWhole g → IsOldest g f fs → is_held held (return_word g.base) ≡ true
    → FromNewest p (named_by names) (is_held held) (Lower p (named_by names) (is_held held) cell ts frames) ahead pc fp (word_in held) value acts (f ∷ fs)
    → FromNewest p (named_by names) (is_held (slice_set held (return_word g.base) (Some 0x30))) AtEnd ahead pc fp (word_in (slice_set held (return_word g.base) (Some 0x30))) value acts (f ∷ fs)

-- the copy of the newest activation's function gives what is older, with its place, its frame pointer and its registers on the machine
abbrev pub CopiesGive : Type 0
CopiesGive =
    (p : Program) (d : Data) (names : List (Held × ℕ)) (held : List (Option ℕ)) (ends : Ends) (m : State) (a : Activation) (older : List Activation) (f : Frame) (fs : List Frame) (cell : ℕ) (ts : List Known) (frames : List (List Frame)) (ahead pc : ℕ) (function : ProgramFunction)
    → IsAccepted p → IsSized Postprocessed p → IsOn ends (over held m) → m.pc ≡ copy_address p a.function function → AreApart f fs → AreApart f (joined frames) → IsReturn (word_in held (return_word (register m registers.S0)))
    → IsActivation p (named_by names) (is_held held) (Below p (named_by names) (is_held held) (Lower p (named_by names) (is_held held) cell ts frames) older fs) (word_in held) (value_in m) ahead pc (register m registers.S0) a function f
    → (last : State) × CopyRuns p d held a.function function (4 + length (saved_of function)) m last × Older ends (register m registers.S0) function (over held m) (over held last)
    × Below p (named_by names) (is_held held) (Lower p (named_by names) (is_held held) cell ts frames) older fs a.kind a.kept (word_in held) (value_in last) (register last registers.S0) last.pc

-- ---- chains

abbrev pub Restarts : Type 0
Restarts = (c : Chain) (m : State) → HasRegisters m → IsRestarted c m (restarted c m)

-- a machine that goes on with a chain that has begun stands for its thread, which can go on, over the words of whoever took it
abbrev pub RestartStands : Type 0
RestartStands =
    (p : Program) (d : Data) (c : Chain) (cargo : Cargo) (names : List (Held × ℕ)) (held : List (Option ℕ)) (m : State) → IsAccepted p → HasRegisters m → c.wait ≢ waits.Start → HasNames cargo.names names → AllSameHeld cargo.words held cargo.frames → Walks p d c cargo
    → StandsFor p names held c.wait (restarted c m).pc (register (restarted c m) registers.S0) (value_in (restarted c m)) cargo.carried.known.thread cargo.frames × CanGoOn p c.wait cargo.carried.known.thread
