-- What steps of the board leave of a worker's threads. Read RestingLaws (over a view with the same words, frames and threads, and more names, they stand as before), TakenRests and PutRests (the words
-- that come or go with a chain are in none of their frames) and TakenCarries (a chain that was taken is in the turn, with its words).
use Rattle.std.specs.Prelude.{◌≡◌, ℕ, List, [], Some}
use Rattle.st_base.specs.declared.chain.Chain.{Chain}
use Rattle.st_base.specs.declared.chain.Frame.{Frame}
use Rattle.st_words.specs.declared.view.Cargo.{Cargo}
use Rattle.st_words.specs.declared.view.Carried.{Carried}
use Rattle.st_words.specs.declared.view.Slot.{Slot}
use Rattle.st_words.specs.declared.view.View.{View}
use Rattle.st_words.specs.Promises.{Promises}
use Rattle.st_words.specs.Steps.{SlotTake, SlotPut, Done, Took}
use Rattle.st_words.specs.Tidy.{Tidy}
use Rattle.st_model.specs.declared.program.Program.{Program}
use Rattle.st_model.specs.Accepted.{IsAccepted}
use Rattle.st_model.specs.Memory.{Data}
use Rattle.st_step.specs.Runs.{AreWords}
use Rattle.st_chain.specs.Walk.{word_in}
use Rattle.st_chain.specs.Chains.{Walks}
use Rattle.st_cargo.specs.Cargo.{HasFrames, goes_with}
use Rattle.st_phases.specs.declared.automaton.Automaton.{Automaton}
use Rattle.st_fits.specs.Before.{after}
use Rattle.st_fits.specs.Threads.{HasNone, Polls, Rests, IsCalled, Lasts, Carries, now, ends_of}
use Rattle.st_kept.specs.Keeping.{Untouched}

-- ---- the same words, frames and threads

-- what stands of the worker x with its view stands of y with its own, which has as its machine, its stack, its words, its frames and its threads those of x
abbrev pub IsKept : Program → (Automaton → View → Type 0) → Type 0
IsKept p Stands = (x y : Automaton) (u v : View) → IsAccepted p → AreWords (word_in v.held) → y.machine ≡ x.machine → y.stack ≡ x.stack → Untouched u v → v.threads ≡ u.threads → Stands x u → Stands y v

pub record RestingLaws (p : Program) (d : Data) : Type 0 where
  pub none : (others : List Frame) → IsKept p (λ x u. HasNone x u others)
  pub polls : (others : List Frame) → IsKept p (λ x u. Polls p d x u others)
  pub rests : (others : List Frame) → IsKept p (λ x u. Rests p d x u others)
  pub called : (entry : ℕ) → IsKept p (λ x u. IsCalled p d entry x u)
  pub lasts : IsKept p (λ x u. Lasts p d x u (ends_of x.machine) (now x u))

-- ---- a chain is taken

-- the words that come with it are in none of the threads' frames; its frames are the others that are leased then
abbrev pub TakenRests : Program → Data → Type 0
TakenRests p d =
    (x y : Automaton) (u v : View) (slot : Slot) (chain : Chain) (cargo : Cargo) → IsAccepted p → Promises u (SlotTake slot) (Took (Some chain) cargo) → Walks p d chain cargo → v ≡ after p d u (SlotTake slot) (Took (Some chain) cargo) → Tidy v → AreWords (word_in v.held)
    → y.machine ≡ x.machine → y.stack ≡ x.stack → Rests p d x u [] → Rests p d y v cargo.frames

-- it is the only one of the turn, and stands for its thread over the words that are held
abbrev pub TakenCarries : Program → Data → Type 0
TakenCarries p d =
    (u v : View) (slot : Slot) (chain : Chain) (cargo : Cargo) → IsAccepted p → Promises u (SlotTake slot) (Took (Some chain) cargo) → Walks p d chain cargo → v ≡ after p d u (SlotTake slot) (Took (Some chain) cargo) → u.chains ≡ []
    → Carries p d v chain cargo.carried.standing cargo.carried cargo.frames

-- ---- a chain is put

-- its words go, which are in none of the threads' frames
abbrev pub PutRests : Program → Data → Type 0
PutRests p d =
    (x y : Automaton) (u v : View) (slot : Slot) (chain : Chain) (c : Carried) (frames : List Frame) → IsAccepted p → HasFrames p d u chain c frames → v ≡ after p d u (SlotPut slot chain (goes_with p u slot chain)) Done → AreWords (word_in v.held)
    → y.machine ≡ x.machine → y.stack ≡ x.stack → Rests p d x u frames → Rests p d y v []

pub record ChainLaws (p : Program) (d : Data) : Type 0 where
  pub taken_rests : TakenRests p d
  pub taken_carries : TakenCarries p d
  pub put_rests : PutRests p d
