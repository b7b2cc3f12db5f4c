-- How a thread leaves a worker's machine as a chain, and how a chain's thread comes to it. Read Leaving (a thread that waits or has stopped stands as a chain has to), Below (the one
-- below it goes on), AtPoll and Polling (the threads stay when the bottom one is given away), and Coming (the thread of a chain that was taken is alone on the machine).
use Rattle.std.specs.Prelude.{◌≡◌, ◌⊎◌, ℕ, ◌^◌, ◌<◌, Bool, List, [], ◌∷◌, length, Option, None, Some}
use Rattle.std.specs.List.{Contains}
use Rattle.st_base.specs.declared.chain.Frame.{Frame}
use Rattle.st_base.specs.declared.chain.Waiting.{Waiting}
use Rattle.st_base.specs.declared.chain.Waiting.TheVariants as waits
use Rattle.st_base.specs.declared.reg.Reg.TheVariants as registers
use Rattle.st_base.specs.declared.thread.Held.{Held}
use Rattle.st_base.specs.declared.thread.Held.TheVariants.{Future, Counter}
use Rattle.st_base.specs.declared.thread.Standing.TheVariants.{Going}
use Rattle.st_base.specs.declared.thread.Thread.{Thread}
use Rattle.st_model.specs.declared.code.Layout.TheVariants.{Postprocessed}
use Rattle.st_model.specs.declared.ordinary.State.{State as OrdinaryState}
use Rattle.st_model.specs.declared.program.Program.{Program}
use Rattle.st_model.specs.Accepted.{IsAccepted}
use Rattle.st_model.specs.Heap.{Path, Change, Touch, Join, new_thread}
use Rattle.st_model.specs.Layout.{function_address}
use Rattle.st_model.specs.Memory.{Data}
use Rattle.st_model.specs.Ordinary.{start}
use Rattle.st_words.specs.declared.view.Known.{Known}
use Rattle.st_step.specs.declared.state.State.{State}
use Rattle.st_step.specs.Frames.{value_in}
use Rattle.st_step.specs.Moves.{register, written}
use Rattle.st_step.specs.Runs.{Situation, HasRegisters, AreValues, AreWords}
use Rattle.st_items.specs.Body.{Ends, IsOn}
use Rattle.st_items.specs.Code.{IsSized}
use Rattle.st_chain.specs.Walk.{word_in, is_held, named_by}
use Rattle.st_chain.specs.Chains.{words_ahead, WaitsFor, StandsOver, StandsFor, CanGoOn}
use Rattle.st_chain.specs.Copying.{over}
use Rattle.st_chain.specs.Taking.{Taking, GoesOn, TopStands, place_in}
use Rattle.st_made.specs.Items.{IsPrivate, next_move, went}
use Rattle.st_standing.specs.Standing.{under, Behind, StandsOn, IsForked, AtCall}

-- ---- it leaves

-- the thread has the activations and registers of the one that is on the machine
pub record HasThose (thread : Thread) (k : Known) : Type 0 where
  pub activations : thread.activations ≡ k.thread.activations
  pub registers : thread.registers ≡ k.thread.registers

pub record Leaving (p : Program) : Type 0 where
  -- from an entry of the runtime, where it waits or has stopped: its place is one word behind its item's first
  pub call : (names : List (Held × ℕ)) (held : List (Option ℕ)) (ends : Ends) (m : State) (k : Known) (fs : List Frame) (ks : List Known) (rest : List (List Frame)) (entry : ℕ) (wait : Waiting) (thread : Thread) → AtCall p names (is_held held) ends (over held m) k fs ks rest entry → HasThose thread k → words_ahead wait 1
      → WaitsFor (named_by names) thread wait → StandsOver p names held (under p names (is_held held) k.note.cell ks rest) wait (place_in m) (register m registers.S0) (value_in m) thread fs
  -- from an item's first word, where it has trapped
  pub trap : (names : List (Held × ℕ)) (held : List (Option ℕ)) (ends : Ends) (m : State) (k : Known) (fs : List Frame) (ks : List Known) (rest : List (List Frame)) (thread : Thread) → StandsOn p names (is_held held) ends (over held m) k fs ks rest
      → Behind p names (is_held held) (under p names (is_held held) k.note.cell ks rest) 0 (over held m) k.thread.activations fs → HasThose thread k → StandsOver p names held (under p names (is_held held) k.note.cell ks rest) waits.Trapped (place_in m) (register m registers.S0) (value_in m) thread fs

-- ---- the one below goes on

-- what a suspension leaves stands on the machine, which keeps its registers and words within 64 bits
abbrev pub BelowGoesOn : Type 0
BelowGoesOn =
    (t : Taking) (held : List (Option ℕ)) (ends : Ends) (m m' : State) (k : Known) (fs : List Frame) (ks : List Known) (rest : List (List Frame)) → IsAccepted t.p → IsOn ends (over t.held m) → HasRegisters m' → AreValues m' → AreWords (word_in held) → GoesOn t held k fs ks rest m m'
    → StandsOn t.p t.names (is_held held) ends (over held m') k fs ks rest × Behind t.p t.names (is_held held) (under t.p t.names (is_held held) k.note.cell ks rest) 0 (over held m') k.thread.activations fs

-- ---- where a worker polls

-- its top thread is behind the prologue of its newest activation, or has just been forked
abbrev pub AtPoll : Program → List (Held × ℕ) → (ℕ → Bool) → Ends → Situation → Known → List Frame → List Known → List (List Frame) → Type 0
AtPoll p names holds ends t k fs ks rest = (StandsOn p names holds ends t k fs ks rest × Behind p names holds (under p names holds k.note.cell ks rest) 0 t k.thread.activations fs) ⊎ ((fs ≡ []) × IsForked p names holds ends t k ks rest)

pub record Polling (p : Program) : Type 0 where
  -- all threads may be walked from there
  pub top : (names : List (Held × ℕ)) (held : List (Option ℕ)) (ends : Ends) (m : State) (k : Known) (fs : List Frame) (ks : List Known) (rest : List (List Frame)) → AtPoll p names (is_held held) ends (over held m) k fs ks rest → TopStands p names held m (k ∷ ks) (fs ∷ rest)
  -- and what is left of them stands there
  pub stays : (names : List (Held × ℕ)) (held held' : List (Option ℕ)) (ends : Ends) (m : State) (k : Known) (fs : List Frame) (ks ks' : List Known) (rest rest' : List (List Frame)) → AreWords (word_in held') → AtPoll p names (is_held held) ends (over held m) k fs ks rest → TopStands p names held' m (k ∷ ks') (fs ∷ rest')
      → AtPoll p names (is_held held') ends (over held' m) k fs ks' rest'

-- ---- a chain's thread comes

-- the thread is alone on the machine, behind the prologue of its newest activation
abbrev pub IsAlone : Program → List (Held × ℕ) → List (Option ℕ) → Ends → State → Known → List Frame → Type 0
IsAlone p names held ends m k fs = StandsOn p names (is_held held) ends (over held m) k fs [] [] × Behind p names (is_held held) (under p names (is_held held) k.note.cell [] []) 0 (over held m) k.thread.activations fs

-- behind the item at which it waited, by this change
pub record IsPast (p : Program) (names : List (Held × ℕ)) (held : List (Option ℕ)) (ends : Ends) (m : State) (k : Known) (fs : List Frame) (change : Change) : Type 0 where
  pub private : IsPrivate k.thread change
  pub going : change.own.standing ≡ Going
  pub stands : IsAlone p names held ends m (went k change.own) fs

module _ (p : Program) (d : Data) where
  -- what a chain says of the machine that goes on with it
  pub record Came (names : List (Held × ℕ)) (held : List (Option ℕ)) (ends : Ends) (m : State) (k : Known) (fs : List Frame) (wait : Waiting) : Type 0 where
    pub machine : IsOn ends (over held m)
    pub whole : m.half ≡ None
    pub stands : StandsFor p names held wait m.pc (register m registers.S0) (value_in m) k.thread fs
    pub can : CanGoOn p wait k.thread

  pub record Touched (names : List (Held × ℕ)) (held : List (Option ℕ)) (ends : Ends) (m : State) (k : Known) (fs : List Frame) (cell v : ℕ) : Type 0 where
    pub q : Path
    pub f : ℕ → Change
    pub name : Contains names (Future q, cell)
    pub moves : next_move p d k ≡ Touch q f
    pub past : IsPast p names held ends (written m registers.A0 v) k fs (f v)

  pub record Joined (names : List (Held × ℕ)) (held : List (Option ℕ)) (ends : Ends) (m : State) (k : Known) (fs : List Frame) (cell least : ℕ) : Type 0 where
    pub q : Path
    pub i : ℕ
    pub change : Change
    pub name : Contains names (Counter q i, cell)
    pub moves : next_move p d k ≡ Join q i least change
    pub past : IsPast p names held ends m k fs change

  -- the root, which hasn't begun, with the length of the input in a0; it comes back to the entry st_end
  pub record Starts (m : State) (k : Known) : Type 0 where
    pub first : OrdinaryState
    pub begins : start p d ≡ Some first
    pub root : k.thread ≡ new_thread first.top first.registers
    pub pc : m.pc ≡ function_address Postprocessed p p.main
    pub ret : register m registers.Ra ≡ 0x30
    pub length_is : register m registers.A0 ≡ length d.input

  pub record Coming : Type 0 where
    pub ready : (names : List (Held × ℕ)) (held : List (Option ℕ)) (ends : Ends) (m : State) (k : Known) (fs : List Frame) → Came names held ends m k fs waits.Ready → IsAlone p names held ends m k fs
    pub touch : (names : List (Held × ℕ)) (held : List (Option ℕ)) (ends : Ends) (m : State) (k : Known) (fs : List Frame) (cell v : ℕ) → v < 2 ^ 64 → Came names held ends m k fs (waits.Touch cell) → Touched names held ends m k fs cell v
    pub join : (names : List (Held × ℕ)) (held : List (Option ℕ)) (ends : Ends) (m : State) (k : Known) (fs : List Frame) (cell least : ℕ) → Came names held ends m k fs (waits.Join cell least) → Joined names held ends m k fs cell least
    pub root : (names : List (Held × ℕ)) (held : List (Option ℕ)) (ends : Ends) (m : State) (k : Known) → IsOn ends (over held m) → m.half ≡ None → Starts m k → StandsOn p names (is_held held) ends (over held m) k [] [] []

-- ---- the laws, of an accepted program

abbrev pub AllLeave : Type 0
AllLeave = (p : Program) → IsAccepted p → IsSized Postprocessed p → Leaving p

abbrev pub AllPoll : Type 0
AllPoll = (p : Program) → IsAccepted p → Polling p

abbrev pub AllCome : Type 0
AllCome = (p : Program) (d : Data) → IsAccepted p → IsSized Postprocessed p → Coming p d
