-- What each phase has to show of a worker that fits its board's view. Read MayLaw (each step that the phase may need may be asked, and its item goes with it) and KeepsLaw (whatever is answered, the worker
-- fits the view afterwards). They are of views alone: what a board tells of a step that was made is Told.
use Rattle.std.specs.Prelude.{◌≡◌, ◌≢◌, ◌⊎◌, ℕ, List, [], Option, Some}
use Rattle.st_base.specs.declared.chain.Chain.{Chain}
use Rattle.st_base.specs.declared.chain.Frame.{Frame}
use Rattle.st_base.specs.declared.image.Image.{Image}
use Rattle.st_base.specs.declared.limits.Limits.{Limits}
use Rattle.st_words.specs.declared.view.Cargo.{Cargo}
use Rattle.st_words.specs.declared.view.Slot.{Slot}
use Rattle.st_words.specs.declared.view.View.{View}
use Rattle.st_words.specs.Careful.{ShowsPlace}
use Rattle.st_words.specs.Laws.{TakesForFuture}
use Rattle.st_words.specs.Promises.{Promises, IsByHand}
use Rattle.st_words.specs.Safely.{Safe}
use Rattle.st_words.specs.declared.view.CellWord.TheVariants.{State}
use Rattle.st_words.specs.Encodings.{full_word}
use Rattle.st_words.specs.Steps.{Step, CellLoad, CellChange, Look, SlotTake, Answer, Number, Looked, Took, kept, return_place, HasThread}
use Rattle.st_words.specs.Tidy.{Tidy}
use Rattle.st_model.specs.declared.program.Program.{Program}
use Rattle.st_model.specs.Memory.{Data}
use Rattle.st_made.specs.Events.{Event}
use Rattle.st_made.specs.Moves.{Made}
use Rattle.st_stack.specs.Exported.{IsWithout, IsLimit, IsLowest}
use Rattle.st_stack.specs.Shrinking.{lesser}
use Rattle.st_stack.specs.declared.stack.Shrunk.{Shrunk}
use Rattle.st_stack.specs.declared.stack.Shrunk.TheVariants.{More, Done}
use Rattle.st_chain.specs.Chains.{Walks}
use Rattle.st_cargo.specs.Cargo.{goes_with}
use Rattle.st_run.specs.Behind.{IsBehind}
use Rattle.st_run.specs.Looking.{IsUnfilled}
use Rattle.st_run.specs.Meanings.{meaning}
use Rattle.st_phases.specs.declared.automaton.Automaton.{Automaton}
use Rattle.st_phases.specs.declared.phase.Phase.{Phase}
use Rattle.st_phases.specs.declared.turn.Turn.{Turn}
use Rattle.st_phases.specs.Turning.{MayPhase, PhaseDoes}
use Rattle.st_fits.specs.Before.{before, after}
use Rattle.st_fits.specs.Fits.{FitsIn, Fits}

module _ (p : Program) (d : Data) (limits : Limits) where
  -- a step may be asked, and whatever is answered, the item that goes with it is the next one of the top thread, or there is none
  pub record MayAsk (u : View) (s : Step) : Type 0 where
    pub safe : Safe (meaning p d limits) u s
    pub event : (a : Answer) → Promises u s a → Event p d u s a (after p d u s a)

  -- of a chain that is taken
  abbrev pub Comes : View → Step → Answer → Type 0
  Comes u (SlotTake slot) (Took (Some chain) cargo) = Walks p d chain cargo × (IsByHand u slot → ShowsPlace (meaning p d limits) cargo.carried cargo.carried.wait)
  Comes u _ _ = Prim.Unit

  -- the word of a frame that is looked at, where the worker holds it
  abbrev pub Looks : View → Step → Answer → Type 0
  Looks u (Look q) (Looked n cargo) = (m : ℕ) → kept u.held q ≡ Some m → n ≡ m
  Looks u _ _ = Prim.Unit

  -- what a board for the program tells of a step that was made, with its answer, from the view u
  pub record Told (u : View) (s : Step) (a : Answer) (v : View) : Type 0 where
    pub promised : Promises u s a
    pub is : v ≡ after p d u s a
    pub tidy : Tidy v
    pub behind : IsBehind p d v
    pub comes : Comes u s a
    pub looks : Looks u s a
    pub unfilled : IsUnfilled u s a

  module _ (u : View) (old : View) where
    abbrev pub LooksAt : Frame → ℕ → View → Type 0
    LooksAt f n v = (cargo : Cargo) × Told u (Look (return_place f)) (Looked n cargo) v

    -- as a stack is shrunk by a step
    abbrev pub Shrinks : ℕ → List Frame → List Frame → Option Frame → Shrunk → View → Type 0
    Shrinks hi fs fs' top More v = (f : Frame) × IsLowest fs f × LooksAt f 0 v × IsWithout fs f fs'
    Shrinks hi fs fs' top (Done sp) v =
        (fs' ≡ fs) × ((limit : ℕ) × IsLimit hi fs limit × (sp ≡ lesser limit top)) × (((fs ≡ []) × (v ≡ old)) ⊎ ((f : Frame) × (n : ℕ) × IsLowest fs f × LooksAt f n v × (n ≢ 0)))

-- ---- the laws of a phase

module _ (p : Program) (d : Data) (limits : Limits) (image : Image) (input : List ℕ) where
  -- what the worker does in its phase, from the view u to which its board's view `old` is brought forward
  abbrev pub Does : View → View → Automaton → Turn → Automaton → View → Phase → Type 0
  Does u old x turn y v phase = PhaseDoes (λ s a b. Told p d limits u s a b) (λ fs fs' top shrunk b. Shrinks p d limits u old x.stack.hi fs fs' top shrunk b) old (λ slot chain. goes_with p u slot chain) image input x turn y v phase

  -- what is so of a worker whose turn comes
  pub record IsReady (x : Automaton) (u : View) : Type 0 where
    pub fits : FitsIn p d limits image input x u
    pub tidy : Tidy u
    pub behind : IsBehind p d u
    -- no Owner word says that the cell of a thread that is here is a counter's
    pub futures : (c : ℕ) → HasThread u c → TakesForFuture u c

  abbrev pub MayLaw : Phase → Type 0
  MayLaw phase = (x : Automaton) (u : View) → x.phase ≡ phase → IsReady x u → MayPhase (λ s. MayAsk p d limits u s) (λ s a. Promises u s a) (λ slot chain. goes_with p u slot chain) image input x phase

  abbrev pub KeepsLaw : Phase → Type 0
  KeepsLaw phase = (x y : Automaton) (old v : View) (turn : Turn) → x.phase ≡ phase → IsReady x (before p d x old) → Made p d old (before p d x old) → Does (before p d x old) old x turn y v phase → Fits p d limits image input y v

  pub record PhaseLaw (phase : Phase) : Type 0 where
    pub may : MayLaw phase
    pub keeps : KeepsLaw phase

  -- where a thread is taken out, a step is told of where it may be asked
  abbrev pub DoesTaking : View → View → Automaton → Turn → Automaton → View → Phase → Type 0
  DoesTaking u old x turn y v phase = PhaseDoes (λ s a b. MayAsk p d limits u s → Told p d limits u s a b) (λ fs fs' top shrunk b. Shrinks p d limits u old x.stack.hi fs fs' top shrunk b) old (λ slot chain. goes_with p u slot chain) image input x turn y v phase

  abbrev pub KeepsTaking : Phase → Type 0
  KeepsTaking phase = (x y : Automaton) (old v : View) (turn : Turn) → x.phase ≡ phase → IsReady x (before p d x old) → Made p d old (before p d x old) → DoesTaking (before p d x old) old x turn y v phase → Fits p d limits image input y v

  pub record TakingLaw (phase : Phase) : Type 0 where
    pub may : MayLaw phase
    pub keeps : KeepsTaking phase
