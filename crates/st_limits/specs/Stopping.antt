-- Limits. Read Met (when a worker may say that it met a limit), StopMeans (what a stop code tells of the heap-frame machine: some run of it passes that limit), and Limiting, which is
-- of a run and a world: the items that workers have begun, the bytes of the frames that they have made and the numbers that they have drawn are those of the run, with the
-- items that are begun at its end and the draws that wait there.
use Rattle.std.specs.Prelude.{◌≡◌, ◌≢◌, ◌⊎◌, ℕ, ◌+◌, ◌≤◌, ◌<◌, true, List, [], ◌∷◌, length, Option, Some, None}
use Rattle.std.specs.List.{Contains}
use Rattle.st_base.specs.declared.chain.Chain.{Chain}
use Rattle.st_base.specs.declared.limits.Limits.{Limits}
use Rattle.st_words.specs.declared.view.Slot.{Slot}
use Rattle.st_words.specs.declared.view.Known.{Known}
use Rattle.st_words.specs.declared.view.Cargo.{Cargo}
use Rattle.st_words.specs.declared.view.View.{View}
use Rattle.st_words.specs.Encodings.{step_code, stack_code, cell_code}
use Rattle.st_words.specs.Careful.{Meaning, TopIs}
use Rattle.st_model.specs.declared.program.Program.{Program}
use Rattle.st_model.specs.Memory.{Data}
use Rattle.st_model.specs.Heap.{Path, Heap, Change, Moves, Run}
use Rattle.st_model.specs.Limits.{IsMember, AreDistinct, IsUnfinished, PassesStep, PassesStack, PassesCell, total, frame_made, cells_drawn}
use Rattle.st_made.specs.Items.{next_move, IsDrawing}
use Rattle.st_made.specs.Runs.{all_known}
use Rattle.st_world.specs.World.{World, slot_of, cargo_of}

module _ (program : Program) (source : Data) where
  -- ---- stop codes

  -- the worker has begun more items than the limit, or its top thread's next item makes a frame beyond the bytes of its stack
  abbrev pub Met : Limits → View → ℕ → Type 0
  Met limits u code = ((code ≡ step_code u.number) × (limits.steps < u.items)) ⊎ ((frame : ℕ) × (code ≡ stack_code u.number frame) × TopIs u.threads (λ t. (c : Change) × (next_move program source t ≡ Moves c) × (frame ≡ frame_made program t.path t.thread) × (limits.stack < u.frame_bytes + frame_made program t.path t.thread)))

  -- what a board is told of limits is so
  abbrev pub MeansLimits : Limits → Meaning → Type 0
  MeansLimits limits m = (u : View) (code : ℕ) → m.meets u code → Met limits u code

  -- some run of the machine from here passes the limit of the code, which names a worker
  abbrev pub StopMeans : Limits → Heap → ℕ → ℕ → Type 0
  StopMeans limits h0 workers code =
      (w : ℕ) × (w < workers) × (((code ≡ step_code w) × PassesStep program source h0 limits.steps) ⊎ (((code ≡ cell_code w) × PassesCell program source h0 limits.cells) ⊎ ((frame : ℕ) × (code ≡ stack_code w frame) × PassesStack program source h0 limits.stack)))

  -- ---- items begun

  -- a thread of a view or of a chain in a slot, whose next item was begun
  abbrev pub IsBegun : (Slot → Option Chain) → (Slot → Cargo) → (ℕ → View) → Path → Type 0
  IsBegun slot cargo view p =
      ((w : ℕ) × (t : Known) × Contains (all_known (view w)) t × (t.path ≡ p) × (t.begun ≡ true)) ⊎ ((z : Slot) × (chain : Chain) × (slot z ≡ Some chain) × ((cargo z).carried.known.path ≡ p) × ((cargo z).carried.known.begun ≡ true))

  pub record AreBegun (h : Heap) (slot : Slot → Option Chain) (cargo : Slot → Cargo) (view : ℕ → View) (begun : List Path) : Type 0 where
    pub distinct : AreDistinct begun
    pub unfinished : (p : Path) → IsMember p begun → IsUnfinished h p
    pub somewhere : (p : Path) → IsMember p begun → IsBegun slot cargo view p

  -- ---- draws

  -- a worker has drawn a number for its top thread, or named a cell for its next child, and the item isn't made yet
  abbrev pub HasPending : View → Type 0
  HasPending v = (v.drawn ≢ []) ⊎ (v.child ≢ None)

  abbrev pub DrawsFor : Path → Known → Type 0
  DrawsFor p t = (t.path ≡ p) × IsDrawing program source t

  pub record AreDrawing (view : ℕ → View) (drawing : List Path) : Type 0 where
    pub distinct : AreDistinct drawing
    pub somewhere : (p : Path) → IsMember p drawing → (w : ℕ) × HasPending (view w) × TopIs (view w).threads (DrawsFor p)

  -- ---- numbers

  -- one number at a time is drawn, and none while a child is named
  abbrev pub IsOnePending : View → Type 0
  IsOnePending v = (v.drawn ≡ []) ⊎ ((c : ℕ) × (v.drawn ≡ c ∷ []) × (v.child ≡ None))

  pub record HasNumbers (items frames : ℕ) (v : View) : Type 0 where
    pub items_within : v.items ≤ items
    pub bytes_within : v.frame_bytes ≤ frames
    -- a number is drawn, and a child named, for the next item of the top thread
    pub pending : HasPending v → TopIs v.threads (IsDrawing program source)
    pub one : IsOnePending v

  pub record Limiting (limits : Limits) (h0 h : Heap) (workers cells drawn stop : ℕ) (slot : Slot → Option Chain) (cargo : Slot → Cargo) (view : ℕ → View) : Type 0 where
    pub steps : List Path
    pub run : Run program source h0 steps h
    pub begun : List Path
    pub drawing : List Path
    pub sized : cells ≡ limits.cells
    pub are_begun : AreBegun h slot cargo view begun
    pub are_drawing : AreDrawing view drawing
    pub numbers : (w : ℕ) → HasNumbers (length steps + length begun) (total program source (frame_made program) h0 steps h run) (view w)
    -- the root's cell was drawn first
    pub draws : drawn ≤ 1 + total program source (cells_drawn program) h0 steps h run + length drawing
    pub stops : stop ≢ 0 → StopMeans limits h0 workers stop

abbrev pub Within : Program → Data → Limits → Heap → Heap → World → Type 0
Within program source limits h0 h x = Limiting program source limits h0 h x.workers x.cells x.drawn x.stop (slot_of x) (cargo_of x) x.view
