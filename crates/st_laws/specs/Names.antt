-- The names that threads hold. FuturesAreThere: a future that a state of the ordinary-call run names has ended, so a touch finds its value.
-- NamesAreThere: in each reached heap of the heap-frame machine a name that is held is of a thread or a counter that is there.
use Rattle.std.specs.Prelude.{◌≡◌, ◌≢◌, ◌<◌, ℕ, List, [], ◌∷◌, Option, Some, None, slice_index_or}
use Rattle.st_base.specs.declared.thread.Held.{Held}
use Rattle.st_base.specs.declared.thread.Held.TheVariants.{Number, Future, Counter}
use Rattle.st_base.specs.declared.thread.Activation.{Activation}
use Rattle.st_model.specs.declared.program.Program.{Program}
use Rattle.st_model.specs.declared.ordinary.State.{State}
use Rattle.st_model.specs.Ordinary.{value_of, start}
use Rattle.st_base.specs.declared.thread.Thread.{Thread}
use Rattle.st_model.specs.Heap.{Path, Heap, Reached}
use Rattle.st_laws.specs.Sequential.{Steps}
use Rattle.st_model.specs.Memory.{Data}

-- a name of a future or a counter of which F or C holds
abbrev pub IsKnown : (Path → Type 0) → (Path → ℕ → Type 0) → Held → Type 0
IsKnown F C (Number n) = Unit {0}
IsKnown F C (Future p) = F p
IsKnown F C (Counter p n) = C p n

-- the same where something is defined
abbrev pub IsKnownCell : (Path → Type 0) → (Path → ℕ → Type 0) → Option Held → Type 0
IsKnownCell F C None = Unit {0}
IsKnownCell F C (Some held) = IsKnown F C held

-- all names in a register file or in handle slots
abbrev pub AreKnown : (Path → Type 0) → (Path → ℕ → Type 0) → List (Option Held) → Type 0
AreKnown F C cells = (i : ℕ) → IsKnownCell F C (slice_index_or cells i None)

-- all names in what an activation keeps
abbrev pub KnowsNames : (Path → Type 0) → (Path → ℕ → Type 0) → Activation → Type 0
KnowsNames F C a = AreKnown F C a.kept × AreKnown F C a.handles

-- all names in what these activations keep
abbrev pub AllKnowNames : (Path → Type 0) → (Path → ℕ → Type 0) → List Activation → Type 0
AllKnowNames F C [] = Unit {0}
AllKnowNames F C (a ∷ older) = KnowsNames F C a × AllKnowNames F C older

-- the thread of the path has ended, with a value
abbrev pub HasValue : State → Path → Type 0
HasValue s p = (v : ℕ) × (value_of s.rest.ended p ≡ Some v)

-- all futures that the state names have ended
abbrev pub NamesEnded : State → Type 0
NamesEnded s =
    AreKnown (HasValue s) (λ p n. Unit {0}) s.registers × KnowsNames (HasValue s) (λ p n. Unit {0}) s.top × AllKnowNames (HasValue s) (λ p n. Unit {0}) s.rest.older

-- in each state of the ordinary run the futures that it names have ended, so that a touch finds its value
abbrev pub FuturesAreThere : Type 0
FuturesAreThere = (program : Program) (source : Data) (s t : State) (ps : List Path) → start program source ≡ Some s → Steps program source s ps t → NamesEnded t

-- the thread is there
abbrev pub IsThread : Heap → Path → Type 0
IsThread h p = (t : Thread) × (h.thread p ≡ Some t)

-- the counter was made
abbrev pub IsMade : Heap → Path → ℕ → Type 0
IsMade h p n = (t : Thread) × ((h.thread p ≡ Some t) × (n < t.counters))

-- all names that threads hold are of threads and counters that are there, and no other counter has a count
pub record NamesStand (h : Heap) : Type 0 where
  pub registers : (p : Path) (t : Thread) → h.thread p ≡ Some t → AreKnown (IsThread h) (IsMade h) t.registers
  pub activations : (p : Path) (t : Thread) → h.thread p ≡ Some t → AllKnowNames (IsThread h) (IsMade h) t.activations
  pub counts : (p : Path) (n : ℕ) → h.count p n ≢ 0 → IsMade h p n

-- in each reached heap the names that threads hold are of threads and counters that are there
abbrev pub NamesAreThere : Type 0
NamesAreThere = (program : Program) (source : Data) (h : Heap) → Reached program source h → NamesStand h
