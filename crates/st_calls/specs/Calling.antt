-- What the phases have to show of a worker whose top thread has called an entry of the runtime. Read MakingLaws (the phases of an entry that makes a cell), EntryLaws (those of one that
-- names a cell in a6), EndLaws (those of a thread's end) and RunningAt (what a worker that runs has to show where its machine is at an entry), of which ServingLaws are.
use Rattle.std.specs.Prelude.{◌≡◌, ◌≢◌, ◌⊎◌, ◌<◌, ◌≤◌, ℕ, Bool, true, false, List}
use Rattle.st_base.specs.declared.image.Image.{Image}
use Rattle.st_base.specs.declared.limits.Limits.{Limits}
use Rattle.st_base.specs.declared.reg.Reg.TheVariants as registers
use Rattle.st_words.specs.declared.view.CellWord.TheVariants.{State}
use Rattle.st_words.specs.declared.view.View.{View}
use Rattle.st_words.specs.Encodings.{full_word, count_in, is_counter}
use Rattle.st_words.specs.Promises.{Promises}
use Rattle.st_words.specs.Steps.{CellLoad, Done, Number}
use Rattle.st_model.specs.declared.program.Program.{Program}
use Rattle.st_model.specs.Memory.{Data}
use Rattle.st_made.specs.Moves.{Made}
use Rattle.st_cargo.specs.Cargo.{goes_with}
use Rattle.st_phases.specs.declared.automaton.Automaton.{Automaton}
use Rattle.st_phases.specs.declared.phase.Phase.TheVariants as phases
use Rattle.st_phases.specs.declared.turn.Turn.{Turn}
use Rattle.st_phases.specs.Automaton.{own_note}
use Rattle.st_phases.specs.Running.{is_root, out_step, has_printed}
use Rattle.st_phases.specs.Turning.{MayPhase}
use Rattle.st_phases.specs.Calls.{owner_step}
use Rattle.st_phases.specs.Entries.{looked, kind_seen}
use Rattle.st_step.specs.Moves.{register}
use Rattle.st_fits.specs.Bags.{HasBag, units}
use Rattle.st_fits.specs.Before.{before}
use Rattle.st_fits.specs.Fits.{Fits}
use Rattle.st_fits.specs.Laws.{MayLaw, PhaseLaw, MayAsk, IsReady, Told, Does}
use Rattle.st_fits.specs.Threads.{IsCalled, Lasts, IsPolling, now, ends_of}

-- by the State word that was found the thread doesn't wait at the entry that it has called: its future is full, or its counter has reached the number in a0
pub record GoesOnAt (x : Automaton) (found : ℕ) : Type 0 where
  pub full : x.machine.pc ≡ 0x40 → found ≡ full_word
  pub enough : x.machine.pc ≡ 0x70 → register x.machine registers.A0 ≤ count_in found

-- it names a cell in a6
abbrev pub NamesCell : ℕ → Type 0
NamesCell entry = (entry ≡ 0x40) ⊎ ((entry ≡ 0x60) ⊎ (entry ≡ 0x70))

-- whether the cell is a counter's is as the entry wants it
pub record WantsKind (entry : ℕ) (counts : Bool) : Type 0 where
  pub future : entry ≡ 0x40 → counts ≡ false
  pub counter : entry ≢ 0x40 → counts ≡ true

module _ (p : Program) (d : Data) (limits : Limits) (image : Image) (input : List ℕ) where
  -- at one that makes a cell: it is named, and a child begins
  pub record MakingLaws : Type 0 where
    pub naming : (cell : ℕ) → PhaseLaw p d limits image input (phases.Naming cell)
    pub beginning : (cell : ℕ) → PhaseLaw p d limits image input (phases.Beginning cell)

  -- the State word of that cell is read, and the thread goes on
  abbrev pub LooksOn : ℕ → Type 0
  LooksOn cell =
      (x y : Automaton) (old v : View) (found : ℕ) → x.phase ≡ phases.Looking cell → IsReady p d limits image input x (before p d x old) → Made p d old (before p d x old) → Told p d limits (before p d x old) (CellLoad cell State) (Number found) v → y ≡ looked cell found x → GoesOnAt x found
      → Fits p d limits image input y v

  -- at a cell that a6 names: the value of a full future is read, and a counter grows
  pub record EntryLaws : Type 0 where
    pub valuing : (cell : ℕ) → PhaseLaw p d limits image input (phases.Valuing cell)
    pub looking_may : (cell : ℕ) → MayLaw p d limits image input (phases.Looking cell)
    pub looks_on : (cell : ℕ) → LooksOn cell
    pub adding : (cell seen : ℕ) → PhaseLaw p d limits image input (phases.Adding cell seen)

  -- at the end of a thread, whose value is stored
  pub record EndLaws : Type 0 where
    pub finding : PhaseLaw p d limits image input phases.Finding
    pub filling : (seen : ℕ) → PhaseLaw p d limits image input (phases.Filling seen)
    pub ending : (cell head : ℕ) → PhaseLaw p d limits image input (phases.Ending cell head)

  -- ---- a worker that runs

  -- where that is so of its machine
  pub record RunningAt (At : Automaton → View → Type 0) : Type 0 where
    pub may : (x : Automaton) (u : View) → x.phase ≡ phases.Running → IsReady p d limits image input x u → At x u → HasBag (units 1) u → MayPhase (λ s. MayAsk p d limits u s) (λ s a. Promises u s a) (λ slot chain. goes_with p u slot chain) image input x phases.Running
    pub keeps : (x y : Automaton) (old v : View) (turn : Turn) → x.phase ≡ phases.Running → IsReady p d limits image input x (before p d x old) → At x (before p d x old) → HasBag (units 1) (before p d x old) → Made p d old (before p d x old)
        → Does p d limits image input (before p d x old) old x turn y v phases.Running → Fits p d limits image input y v

  -- at an entry that names a cell, whose Owner word may be read
  abbrev pub SeesMay : Type 0
  SeesMay =
      (entry : ℕ) → NamesCell entry → (x : Automaton) (u : View) → x.phase ≡ phases.Running → IsReady p d limits image input x u → IsCalled p d entry x u → HasBag (units 1) u → MayPhase (λ s. MayAsk p d limits u s) (λ s a. Promises u s a) (λ slot chain. goes_with p u slot chain) image input x phases.Running

  -- it says that the cell is of the kind that the entry wants
  abbrev pub SeesOn : Type 0
  SeesOn =
      (entry : ℕ) → NamesCell entry → (x y : Automaton) (old v : View) (found : ℕ) → x.phase ≡ phases.Running → IsReady p d limits image input x (before p d x old) → IsCalled p d entry x (before p d x old) → HasBag (units 1) (before p d x old) → Made p d old (before p d x old)
      → Told p d limits (before p d x old) (owner_step x) (Number found) v → y ≡ kind_seen (is_counter found) x → WantsKind entry (is_counter found) → Fits p d limits image input y v

  -- at the entry that prints, which the root's thread has called, where there is room
  abbrev pub PrintsMay : Type 0
  PrintsMay = (x : Automaton) (u : View) → x.phase ≡ phases.Running → IsReady p d limits image input x u → IsCalled p d 0x90 x u → HasBag (units 1) u → is_root x ≡ true → (own_note x).bytes < 1048576 → MayAsk p d limits u (out_step x)

  abbrev pub PrintsOn : Type 0
  PrintsOn =
      (x y : Automaton) (old v : View) → x.phase ≡ phases.Running → IsReady p d limits image input x (before p d x old) → IsCalled p d 0x90 x (before p d x old) → HasBag (units 1) (before p d x old) → Made p d old (before p d x old) → is_root x ≡ true → (own_note x).bytes < 1048576
      → Told p d limits (before p d x old) (out_step x) Done v → y ≡ has_printed x → Fits p d limits image input y v

  pub record ServingLaws : Type 0 where
    -- its thread ends: the value is stored
    pub ends : RunningAt (λ x u. Lasts p d x u (ends_of x.machine) (now x u))
    -- it makes a cell: a number is drawn
    pub draws : RunningAt (λ x u. IsCalled p d 0x10 x u ⊎ IsCalled p d 0x50 x u)
    -- the Owner word of the cell in a6 is read
    pub sees_may : SeesMay
    pub sees_on : SeesOn
    -- the byte in a0 is printed
    pub prints_may : PrintsMay
    pub prints_on : PrintsOn
    -- it polls
    pub polls : RunningAt (λ x u. IsPolling p d x u)
