-- How a thread begins to leave its worker: at an entry of the runtime that its item has called (LeavesCall), or at an item where it has trapped (LeavesTrap). It may be the thread behind that item, if the item
-- leaves its activations and registers. Read LeavesThere (what the worker is and has left) and WaitsThere (by what it leaves).
use Rattle.std.specs.Prelude.{◌≡◌, ℕ, ◌<◌, ◌≤◌, true, false, List, [], ◌∷◌, None}
use Rattle.st_base.specs.declared.chain.Frame.{Frame}
use Rattle.st_base.specs.declared.chain.Waiting.{Waiting}
use Rattle.st_base.specs.declared.chain.Waiting.TheVariants as waits
use Rattle.st_base.specs.declared.thread.Standing.TheVariants.{Going}
use Rattle.st_model.specs.declared.code.Layout.TheVariants.{Postprocessed}
use Rattle.st_model.specs.declared.program.Program.{Program}
use Rattle.st_model.specs.Accepted.{IsAccepted}
use Rattle.st_model.specs.Memory.{Data}
use Rattle.st_words.specs.declared.view.Known.{Known}
use Rattle.st_words.specs.declared.view.View.{View}
use Rattle.st_made.specs.Items.{WaitsAt}
use Rattle.st_items.specs.Code.{IsSized}
use Rattle.st_chain.specs.Chains.{WaitsFor}
use Rattle.st_chain.specs.Taking.{notes_of}
use Rattle.st_chain.specs.Walk.{is_held, named_by}
use Rattle.st_standing.specs.Standing.{Behind, StandsOn, under}
use Rattle.st_moving.specs.Moving.{HasThose}
use Rattle.st_phases.specs.declared.automaton.Automaton.{Automaton}
use Rattle.st_phases.specs.declared.phase.Leaving.{Leaving}
use Rattle.st_fits.specs.Threads.{IsCalled, Leaves, OfKind, Stands, ends_of, now}

-- what the item that a thread was at leaves of its worker x with the view u: a worker y with the view v, which has no walk, and whose top thread k is the one that stood there, or what that item has made of it
pub record LeavesThere (x y : Automaton) (u v : View) (stood k : Known) (below : List Known) : Type 0 where
  pub machine : y.machine ≡ x.machine
  pub stack : y.stack ≡ x.stack
  pub notes : y.threads.notes ≡ notes_of v.threads
  pub none : y.threads.open ≡ None
  pub threads : v.threads ≡ k ∷ below
  pub those : HasThose k.thread stood
  pub cell : k.note.cell ≡ stood.note.cell
  pub names : v.names ≡ u.names
  pub held : v.held ≡ u.held
  pub exported : v.exported ≡ u.exported
  pub away : v.away ≡ u.away
  pub bytes : u.frame_bytes ≤ v.frame_bytes

-- it waits at the entry of its item, which is begun, or has stopped
abbrev pub WaitsThere : Waiting → ℕ → Known → Type 0
WaitsThere (waits.Touch cell) entry k = (entry ≡ 0x40) × (k.thread.standing ≡ Going) × (k.begun ≡ true)
WaitsThere (waits.Join cell least) entry k = (entry ≡ 0x70) × (k.thread.standing ≡ Going) × (k.begun ≡ true)
WaitsThere waits.Trapped entry k = Prim.Unit
WaitsThere _ entry k = ⊥

module _ (p : Program) (d : Data) where
  abbrev pub LeavesCall : Type 0
  LeavesCall =
      (x y : Automaton) (u v : View) (entry : ℕ) (leaving : Leaving) (k : Known) → IsAccepted p → IsSized Postprocessed p → entry < 0x10000 → (called : IsCalled p d entry x u) → LeavesThere x y u v called.top k called.below → leaving.at_call ≡ true → WaitsThere leaving.wait entry k
      → WaitsFor (named_by v.names) k.thread leaving.wait → WaitsAt p d v k leaving.wait → OfKind p d leaving k leaving.wait → Leaves p d leaving y v

  -- it stands behind the prologue of its newest activation
  abbrev pub StoodThere : Automaton → View → Known → List Frame → List Known → List (List Frame) → Type 0
  StoodThere x u t fs ts rest = StandsOn p u.names (is_held u.held) (ends_of x.machine) (now x u) t fs ts rest × Behind p u.names (is_held u.held) (under p u.names (is_held u.held) t.note.cell ts rest) 0 (now x u) t.thread.activations fs

  abbrev pub LeavesTrap : Type 0
  LeavesTrap =
      (x y : Automaton) (u v : View) (leaving : Leaving) (k : Known) → IsAccepted p → IsSized Postprocessed p → (stood : Stands (StoodThere x u) x u (ends_of x.machine) []) → LeavesThere x y u v stood.top k stood.below → leaving.at_call ≡ false → leaving.wait ≡ waits.Trapped → WaitsAt p d v k waits.Trapped
      → OfKind p d leaving k waits.Trapped → Leaves p d leaving y v

pub record EnteringLaws (p : Program) (d : Data) : Type 0 where
  pub call : LeavesCall p d
  pub trap : LeavesTrap p d
