-- Chains: a thread that doesn't run, by its place, its newest frame and s1 to s11, over the words that go with it. Read Walks, which says that a
-- chain stands for the thread that goes with it: the root that hasn't begun (IsUnbegun), or a thread with frames. StandsFor says of any place, frame
-- pointer and registers what Walks says of those of a chain; its parts are words_ahead, WaitsFor and KeepsFile. CanGoOn says of the thread that it hasn't stopped, and HasBegun whether its
-- next item is begun.
use Rattle.std.specs.Prelude.{◌≡◌, ◌⊎◌, ℕ, ◌-◌, ◌≤◌, ◌==◌, Bool, true, false, List, [], ◌∷◌, length, Option, Some, None, slice_index, slice_index_or, if◌then◌else◌}
use Rattle.st_base.specs.declared.chain.Chain.{Chain}
use Rattle.st_base.specs.declared.chain.Frame.{Frame}
use Rattle.st_base.specs.declared.chain.Waiting.{Waiting}
use Rattle.st_base.specs.declared.chain.Waiting.TheVariants as waits
use Rattle.st_base.specs.declared.thread.Activation.{Activation}
use Rattle.st_base.specs.declared.thread.Held.{Held}
use Rattle.st_base.specs.declared.thread.Held.TheVariants.{Number, Future, Counter}
use Rattle.st_base.specs.declared.thread.Standing.TheVariants.{Going}
use Rattle.st_base.specs.declared.thread.Thread.{Thread}
use Rattle.st_model.specs.declared.program.Item.{Item}
use Rattle.st_model.specs.declared.program.ItemKind.TheVariants.{Entry}
use Rattle.st_model.specs.declared.program.Program.{Program}
use Rattle.st_model.specs.declared.program.ProgramFunction.{ProgramFunction}
use Rattle.st_model.specs.Effect.{File}
use Rattle.st_model.specs.Heap.{new_thread}
use Rattle.st_model.specs.Memory.{Data}
use Rattle.st_model.specs.Ordinary.{start}
use Rattle.st_model.specs.declared.ordinary.State.{State}
use Rattle.st_words.specs.declared.view.Cargo.{Cargo}
use Rattle.st_items.specs.Body.{Context}
use Rattle.st_items.specs.Code.{HasItem}
use Rattle.st_step.specs.Frames.{Naming, IsHeldAs, HoldsKept, is_kept}
use Rattle.st_chain.specs.Walk.{word_in, is_held, named_by, FromNewest}
use Rattle.st_chain.specs.Threads.{AtEnd}

-- what a chain's registers have, by their numbers: s1 is x9, s2 to s11 are x18 to x27
abbrev pub saved_value : List ℕ → ℕ → ℕ
saved_value saved x = if x == 0 then 0 else (if x == 9 then slice_index saved 0 else slice_index saved (x - 17))

-- how many words behind its next item's first a thread stands; one that hasn't begun has no frame
abbrev pub words_ahead : Waiting → ℕ → Type 0
words_ahead (waits.Touch cell) ahead = ahead ≡ 1
words_ahead (waits.Join cell least) ahead = ahead ≡ 1
words_ahead waits.Trapped ahead = ahead ≤ 1
words_ahead waits.Ready ahead = ahead ≡ 0
words_ahead waits.Start ahead = ⊥

-- What it waits for is named in the thread's a6, and the least count of a join is in its a0. One that can go on is behind a fork: it has no registers
-- but those that a call keeps.
abbrev pub WaitsFor : Naming → Thread → Waiting → Type 0
WaitsFor names thread (waits.Touch cell) = (path : List ℕ) × (slice_index_or thread.registers 16 None ≡ Some (Future path)) × names (Future path) cell
WaitsFor names thread (waits.Join cell least) =
    (maker : List ℕ) × (number : ℕ) × (slice_index_or thread.registers 16 None ≡ Some (Counter maker number)) × names (Counter maker number) cell × (slice_index_or thread.registers 10 None ≡ Some (Number least))
WaitsFor names thread waits.Ready = HoldsKept thread.registers × (length thread.registers ≡ 32)
WaitsFor names thread waits.Trapped = Prim.Unit
WaitsFor names thread waits.Start = ⊥

-- of the thread's registers only those that a call keeps are read
abbrev pub KeepsFile : Naming → File → (ℕ → ℕ) → Type 0
KeepsFile names file value = (x : ℕ) (held : Held) → is_kept x ≡ true → slice_index_or file x None ≡ Some held → IsHeldAs names held (value x)

-- a place, a frame pointer and registers stand for a thread that waits so, whose frames are these, over these words and names and what lies below it
abbrev pub StandsOver : Program → List (Held × ℕ) → List (Option ℕ) → Context → Waiting → ℕ → ℕ → (ℕ → ℕ) → Thread → List Frame → Type 0
StandsOver p names held end wait pc fp value thread frames =
    (ahead : ℕ) × words_ahead wait ahead × WaitsFor (named_by names) thread wait × KeepsFile (named_by names) thread.registers value
    × FromNewest p (named_by names) (is_held held) end ahead pc fp (word_in held) value thread.activations frames

-- for a lone one
abbrev pub StandsFor : Program → List (Held × ℕ) → List (Option ℕ) → Waiting → ℕ → ℕ → (ℕ → ℕ) → Thread → List Frame → Type 0
StandsFor p names held wait pc fp value thread frames = StandsOver p names held AtEnd wait pc fp value thread frames

-- the root, which hasn't begun: it has no frame. Nothing is said of its place and its registers, since whoever takes it begins `main`.
pub record IsUnbegun (p : Program) (d : Data) (chain : Chain) (thread : Thread) (frames : List Frame) : Type 0 where
  pub wait : chain.wait ≡ waits.Start
  pub first : State
  pub begins : start p d ≡ Some first
  pub root : thread ≡ new_thread first.top first.registers
  pub none : frames ≡ []

-- the next item of a thread with these activations calls the entry
abbrev pub IsAtEntry : Program → ℕ → List Activation → Type 0
IsAtEntry p entry [] = ⊥
IsAtEntry p entry (newest ∷ older) = (function : ProgramFunction) × (item : Item) × HasItem p newest.function function newest.next item × (item.kind ≡ Entry entry)

-- it hasn't stopped, and is at the item at which it waits
abbrev pub CanGoOn : Program → Waiting → Thread → Type 0
CanGoOn p (waits.Touch cell) thread = (thread.standing ≡ Going) × IsAtEntry p 0x40 thread.activations
CanGoOn p (waits.Join cell least) thread = (thread.standing ≡ Going) × IsAtEntry p 0x70 thread.activations
CanGoOn p waits.Ready thread = thread.standing ≡ Going
CanGoOn p waits.Trapped thread = Prim.Unit
CanGoOn p waits.Start thread = ⊥

-- whether its next item is begun: that at which it waits is, and behind a fork or at the start none is
abbrev pub HasBegun : Waiting → Bool → Type 0
HasBegun (waits.Touch cell) begun = begun ≡ true
HasBegun (waits.Join cell least) begun = begun ≡ true
HasBegun waits.Ready begun = begun ≡ false
HasBegun waits.Trapped begun = Prim.Unit
HasBegun waits.Start begun = begun ≡ false

-- a chain stands for the thread that goes with it, which can go on where it waits; and whether the thread's next item is begun is as it has to be there
abbrev pub Walks : Program → Data → Chain → Cargo → Type 0
Walks p d chain cargo =
    (IsUnbegun p d chain cargo.carried.known.thread cargo.frames
    ⊎ (StandsFor p cargo.names cargo.words chain.wait chain.pc chain.fp (saved_value chain.saved) cargo.carried.known.thread cargo.frames × CanGoOn p chain.wait cargo.carried.known.thread))
    × HasBegun chain.wait cargo.carried.known.begun
