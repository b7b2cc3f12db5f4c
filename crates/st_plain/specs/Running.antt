-- A run of unchanged code on its way: what the machine, the cells and the notes stand for. Read IsAt (a run at an item's first instruction) and
-- IsAmid (a run amid an item).
use Rattle.std.specs.Prelude.{IfSome, ◌≡◌, ◌≢◌, ◌⊎◌, ℕ, ◌+◌, ◌-◌, ◌/◌, ◌<◌, ◌≤◌, List, [], ◌∷◌, length, replicate, reverse, Option, Some, None}
use Rattle.st_base.specs.declared.thread.Held.{Held}
use Rattle.st_base.specs.declared.image.Image.{Image}
use Rattle.st_base.specs.declared.limits.Limits.{Limits}
use Rattle.st_base.specs.declared.limits.LimitKind.{LimitKind}
use Rattle.st_base.specs.declared.reg.Reg.TheVariants as registers
use Rattle.st_model.specs.declared.program.Program.{Program}
use Rattle.st_model.specs.declared.code.Layout.TheVariants.{Unchanged}
use Rattle.st_model.specs.declared.ordinary.State.{State}
use Rattle.st_model.specs.Layout.{code_of}
use Rattle.st_model.specs.Memory.{Data}
use Rattle.st_model.specs.Ordinary.{run, step, item_at}
use Rattle.st_model.specs.declared.ordinary.OrdEnd.{OrdEnd}
use Rattle.st_model.specs.declared.ordinary.Turn.TheVariants.{Undefined, Goes, Over}
use Rattle.st_model.specs.Bounded.{BoundedEnd, limit_at}
use Rattle.st_model.specs.Draws.{drawn_by}
use Rattle.st_step.specs.declared.state.State.{State as MachineState}
use Rattle.st_step.specs.Runs.{Situation}
use Rattle.st_plain.specs.declared.cells.Cell.{Cell}
use Rattle.st_plain.specs.declared.cells.Note.{Note}
use Rattle.st_words.specs.declared.plain.PlainBoard.{PlainBoard}
use Rattle.st_words.specs.Plain.{view_at}
use Rattle.st_words.specs.Steps.{Holds}
use Rattle.st_plain.specs.declared.run.PlainRun.{PlainRun}
use Rattle.st_plain.specs.declared.stop.Ending.{Ending}
use Rattle.st_plain.specs.declared.stop.Ending.TheVariants as endings
use Rattle.st_plain.specs.declared.whole.PlainEnd.TheVariants as PlainEnds
use Rattle.st_plain.specs.Answer.{IsPlainImage, end_of}
use Rattle.st_items.specs.Tables.{begins_of, handles_of, instructions_of}
use Rattle.st_items.specs.Ways.{OnWay}
use Rattle.st_plain.specs.Standing.{on_stack, situation, Stands, AtCall, AtEnd}
use Rattle.st_plain.specs.Endings.{end_by}
use Rattle.st_plain.specs.Threads.{NamesStand, NotesStand, HandlesStand}

-- what the cells, the notes (the newest last) and the printed bytes stand for
pub record IsKept (p : Program) (limits : Limits) (names : List Held) (cells : List Cell) (notes : List Note) (out : List ℕ) (s : State) : Type 0 where
  pub stand : NamesStand names cells s.rest
  pub notes_stand : NotesStand names (reverse notes) (s.rest.thread ∷ s.rest.parents)
  pub printed : s.rest.out ≡ out
  pub few_cells : length cells ≤ limits.cells
  pub few_bytes : length out ≤ 1048576
  pub handles : HandlesStand p s.top.kind s.rest.older s.rest.thread.handle s.rest.parents

-- The run is at an item's first instruction and stands for the state s: so each activation of s has its frame's base at the stack's high end
-- less the frame bytes of those that are older.
pub record IsAt (p : Program) (limits : Limits) (m : MachineState) (words : List ℕ) (cells : List Cell) (notes : List Note) (out : List ℕ) (s : State) : Type 0 where
  pub names : List Held
  pub kept : IsKept p limits names cells notes out s
  pub stands : Stands p limits.stack names (situation m words) s

-- nothing undefined is read from here on
abbrev pub IsDefinedFrom : Program → Data → State → Type 0
IsDefinedFrom p d s = (n : ℕ) → run p d n s ≢ None

-- ---- an item as a whole

-- the limit that the item at which s is passes, where so many cells were drawn
abbrev pub limit_met : Program → Limits → ℕ → State → Option BoundedEnd
limit_met p limits drawn s = limit_at limits.stack (limits.cells - drawn) s (item_at p s.top)

-- the item meets a limit, or ends the run
abbrev pub EndsBy : Program → Data → Limits → ℕ → List Note → List ℕ → State → Ending → Type 0
EndsBy p d limits drawn notes out s ending =
    ((limit : BoundedEnd) × (limit_met p limits drawn s ≡ Some limit) × ((kind : LimitKind) × (ending ≡ endings.Limit kind) × (end_of limits limit ≡ PlainEnds.Limit kind))) ⊎ ((limit_met p limits drawn s ≡ None) × ((end : OrdEnd) × (step p d s ≡ Over end) × (end_by (reverse notes) out ending ≡ Some end)))

-- the run comes to the state s' by instructions inside of items
pub record ComesTo (p : Program) (d : Data) (limits : Limits) (r : PlainRun) (s' : State) : Type 0 where
  pub names : List Held
  pub n : ℕ
  pub few : n ≤ 20
  pub t : Situation
  pub way : OnWay Unchanged p d (on_stack limits.stack) n (situation r.machine r.board.words.stack) t
  pub stands : Stands p limits.stack names t s'
  pub kept : IsKept p limits names r.threads.cells.items.items r.threads.notes.items.items r.threads.out.items.items s'

-- the item at which s is, before which so many cells were drawn, leads to the next state, and the run comes there
pub record GoesOn (p : Program) (d : Data) (limits : Limits) (drawn : ℕ) (r : PlainRun) (s : State) : Type 0 where
  pub passes : limit_met p limits drawn s ≡ None
  pub s' : State
  pub steps : step p d s ≡ Goes s'
  pub comes : ComesTo p d limits r s'
  pub drew : length r.threads.cells.items.items ≡ drawn + drawn_by (item_at p s.top)

-- ---- what a run keeps

-- the tables are of the image, and as many cells may be drawn as the limits say
pub record HasTables (p : Program) (image : Image) (limits : Limits) (r : PlainRun) : Type 0 where
  pub is_plain : IsPlainImage p image
  pub instructions : instructions_of r.code.instructions.items ≡ code_of Unchanged p
  pub begins : begins_of r.code.instructions.items ≡ image.begins
  pub handles : r.code.handles.items ≡ handles_of image.forks (replicate (length image.words) registers.Zero)
  pub most : r.threads.cells.most ≡ limits.cells
  pub long : length r.board.words.stack ≡ limits.stack / 8

-- at an entry that belongs to the item at which s is
pub record IsAtEntry (p : Program) (limits : Limits) (r : PlainRun) (names : List Held) (s : State) : Type 0 where
  pub kept : IsKept p limits names r.threads.cells.items.items r.threads.notes.items.items r.threads.out.items.items s
  pub at : AtCall p limits.stack names (situation r.machine r.board.words.stack) s ⊎ AtEnd p limits.stack names (situation r.machine r.board.words.stack) s

-- the machine is at an entry of an item that reads nothing undefined
abbrev pub IsServing : Image → PlainRun → Type 0
IsServing image r =
    (p : Program) × (d : Data) × (limits : Limits) × (names : List Held) × (s : State) × HasTables p image limits r × IsAtEntry p limits r names s × (step p d s ≡ Undefined → ⊥)

-- it was served: the run comes to what follows the item, or ends
pub record Served (image : Image) (old new : PlainRun) (result : Option Ending) : Type 0 where
  pub board : new.board ≡ old.board
  pub code : new.code ≡ old.code
  pub most : new.threads.cells.most ≡ old.threads.cells.most
  pub going : result ≡ None → (p : Program) → (d : Data) → (limits : Limits) → (names : List Held) → (s : State) → HasTables p image limits old → IsAtEntry p limits old names s → (step p d s ≡ Undefined → ⊥) → GoesOn p d limits (length old.threads.cells.items.items) new s
  pub over : IfSome result (λ ending. (p : Program) → (d : Data) → (limits : Limits) → (names : List Held) → (s : State) → HasTables p image limits old → IsAtEntry p limits old names s → (step p d s ≡ Undefined → ⊥) → EndsBy p d limits (length old.threads.cells.items.items) new.threads.notes.items.items new.threads.out.items.items s ending)

-- the board serves the one worker, who holds every word of the stack and knows of no leased frame
pub record HasBoard (board : PlainBoard) : Type 0 where
  pub one : length board.kept.views ≡ 1
  pub holds : (q : ℕ) → q < length board.words.stack → Holds (view_at board.kept.views 0) q
  pub none_exported : (view_at board.kept.views 0).exported ≡ []
  pub none_away : (view_at board.kept.views 0).away ≡ []

-- the run is at the first instruction of the item at which s is, and can go on from there
pub record IsReady (p : Program) (image : Image) (d : Data) (limits : Limits) (r : PlainRun) (s : State) : Type 0 where
  pub tables : HasTables p image limits r
  pub at : IsAt p limits r.machine r.board.words.stack r.threads.cells.items.items r.threads.notes.items.items r.threads.out.items.items s
  pub defined : IsDefinedFrom p d s

-- The run is amid the item at which s is, with so many turns left at most. It is at its beginning; or comes to an entry that the item calls,
-- or in some instructions to the next item.
abbrev pub Starts : Program → Limits → ℕ → PlainRun → State → ℕ → Type 0
Starts p limits drawn r s left =
    (42 ≤ left) × (length r.threads.cells.items.items ≡ drawn) × IsAt p limits r.machine r.board.words.stack r.threads.cells.items.items r.threads.notes.items.items r.threads.out.items.items s

pub record Calls (p : Program) (d : Data) (limits : Limits) (drawn : ℕ) (r : PlainRun) (s : State) (left : ℕ) : Type 0 where
  pub names : List Held
  pub n : ℕ
  pub small : n ≤ 20
  pub few : n + 21 ≤ left
  pub t : Situation
  pub way : OnWay Unchanged p d (on_stack limits.stack) n (situation r.machine r.board.words.stack) t
  pub at : AtCall p limits.stack names t s ⊎ AtEnd p limits.stack names t s
  pub kept : IsKept p limits names r.threads.cells.items.items r.threads.notes.items.items r.threads.out.items.items s
  pub drawn_yet : length r.threads.cells.items.items ≡ drawn

pub record Passes (p : Program) (d : Data) (limits : Limits) (drawn : ℕ) (r : PlainRun) (s : State) (left : ℕ) : Type 0 where
  pub goes : GoesOn p d limits drawn r s
  pub some : 1 ≤ goes.comes.n
  pub few : goes.comes.n ≤ left

abbrev pub IsAmid : Program → Data → Limits → ℕ → PlainRun → State → ℕ → Type 0
IsAmid p d limits drawn r s left = Starts p limits drawn r s left ⊎ (Calls p d limits drawn r s left ⊎ Passes p d limits drawn r s left)

-- it is under way with the item, and what it keeps is in order
pub record IsUnderWay (p : Program) (image : Image) (d : Data) (limits : Limits) (drawn : ℕ) (r : PlainRun) (s : State) (left : ℕ) : Type 0 where
  pub tables : HasTables p image limits r
  pub defined : IsDefinedFrom p d s
  pub amid : IsAmid p d limits drawn r s left

-- it has come to the next item
pub record IsPast (p : Program) (image : Image) (d : Data) (limits : Limits) (drawn : ℕ) (r : PlainRun) (s : State) : Type 0 where
  pub passes : limit_met p limits drawn s ≡ None
  pub s' : State
  pub steps : step p d s ≡ Goes s'
  pub ready : IsReady p image d limits r s'
  pub drew : length r.threads.cells.items.items ≡ drawn + drawn_by (item_at p s.top)

-- where a turn leads amid an item: on in it, with fewer turns left, or to the next one
abbrev pub TurnLeads : Program → Image → Data → Limits → ℕ → PlainRun → State → ℕ → Type 0
TurnLeads p image d limits drawn r s left = ((less : ℕ) × (less < left) × (less < 42) × IsUnderWay p image d limits drawn r s less) ⊎ IsPast p image d limits drawn r s
