-- What the next item of a worker's top thread does on its machine. Read ItemDoes: it goes on to the next item of the thread, or of its caller (GoesOn); it traps
-- (Traps), or its frame would come below the stack's low end (Overflows); it calls an entry of the runtime (Calls); or it ends the thread (EndsThread). All the machine comes
-- to is told over words and names that stand still, as Leads of st_items, or Makes where it is one instruction. ItemsDo is the law.
use Rattle.std.specs.Prelude.{◌≡◌, ◌≢◌, ◌⊎◌, ℕ, suc, ◌+◌, ◌-◌, ◌<◌, ◌≤◌, Bool, List, [], ◌∷◌, Some}
use Rattle.st_base.specs.declared.chain.Frame.{Frame}
use Rattle.st_base.specs.declared.thread.Activation.{Activation}
use Rattle.st_base.specs.declared.thread.Held.{Held}
use Rattle.st_base.specs.declared.thread.Standing.TheVariants.{Going}
use Rattle.st_base.specs.declared.thread.Thread.{Thread}
use Rattle.st_base.specs.declared.thread.TrapKind.{TrapKind}
use Rattle.st_rv.specs.declared.ins.Ins.{Ins}
use Rattle.st_model.specs.declared.code.Layout.TheVariants.{Postprocessed}
use Rattle.st_model.specs.declared.program.Item.{Item}
use Rattle.st_model.specs.declared.program.ItemKind.TheVariants.{Prologue}
use Rattle.st_model.specs.declared.program.Program.{Program}
use Rattle.st_model.specs.declared.program.ProgramFunction.{ProgramFunction}
use Rattle.st_model.specs.Accepted.{IsAccepted}
use Rattle.st_model.specs.Heap.{Stays, Moves, own, trapped_thread}
use Rattle.st_model.specs.Memory.{Data}
use Rattle.st_words.specs.declared.view.Known.{Known}
use Rattle.st_step.specs.declared.machine.StepEnd.TheVariants.{Trap, StackFull}
use Rattle.st_step.specs.Moves.{Stops, move_of, goes_on}
use Rattle.st_step.specs.Runs.{Situation, return_word, stored}
use Rattle.st_items.specs.Body.{Ends}
use Rattle.st_items.specs.Code.{code_at, HasItem, IsSized}
use Rattle.st_items.specs.Entered.{lowered}
use Rattle.st_items.specs.Marked.{IsAway, NeedsNoWords, MarksAt}
use Rattle.st_items.specs.Ways.{Makes, Leads}
use Rattle.st_chain.specs.Seen.{joined}
use Rattle.st_chain.specs.Taking.{AllApart}
use Rattle.st_made.specs.Items.{next_move, went, EndsWith}
use Rattle.st_standing.specs.Standing.{StandsOn, HasRoom, AtCall, AtLast}

-- ---- what is asked

-- an accepted program, whose next item reads nothing undefined; the thread stands on the machine, and no two frames of the worker's threads overlap
pub record CanRun (p : Program) (d : Data) (names : List (Held × ℕ)) (holds : ℕ → Bool) (ends : Ends) (t : Situation) (k : Known) (fs : List Frame) (ks : List Known) (rest : List (List Frame)) : Type 0 where
  pub accepted : IsAccepted p
  pub size : IsSized Postprocessed p
  pub going : k.thread.standing ≡ Going
  pub defined : next_move p d k ≢ Stays
  pub on : StandsOn p names holds ends t k fs ks rest
  pub apart : AllApart (joined (fs ∷ rest))
  pub room : HasRoom holds ends (joined (fs ∷ rest))

-- ---- frames

-- the newest frame is freed where its base is above sp and at most gp, and no word is changed; else it is marked by its return word
pub record IsFreed (f : Frame) (ends : Ends) (t : Situation) (ends' : Ends) (u : Situation) : Type 0 where
  pub above : ends.sp < f.base
  pub limit : f.base ≤ ends.gp
  pub words : u.word ≡ t.word
  pub after : ends' ≡ record ends { sp = f.base }

-- the way is split at the mark: s is there. Behind it the jump back, and one more instruction at most, need no words.
pub record IsMarked (p : Program) (d : Data) (holds : ℕ → Bool) (f : Frame) (ends : Ends) (t : Situation) (ends' : Ends) (u : Situation) : Type 0 where
  pub away : IsAway ends f.base
  pub words : u.word ≡ stored (return_word f.base) 0 t.word
  pub after : ends' ≡ ends
  pub s : Situation
  pub marks : MarksAt p d holds f.base t s
  pub further : ℕ
  pub few : further ≤ 1
  pub way : NeedsNoWords Postprocessed p d (suc further) (goes_on s.state) u.state

-- it is left in one of these ways
pub record LeavesFrame (p : Program) (d : Data) (holds : ℕ → Bool) (ends : Ends) (t : Situation) (fs : List Frame) (ends' : Ends) (u : Situation) (fs' : List Frame) : Type 0 where
  pub f : Frame
  pub frames : fs ≡ f ∷ fs'
  pub how : IsFreed f ends t ends' u ⊎ IsMarked p d holds f ends t ends' u

-- a frame is made at sp
pub record MakesFrame (ends : Ends) (fs : List Frame) (ends' : Ends) (fs' : List Frame) : Type 0 where
  pub f : Frame
  pub frames : fs' ≡ f ∷ fs
  pub base : f.base ≡ ends.sp
  pub less : f.low < f.base
  pub room : ends.lo ≤ f.low
  pub after : ends' ≡ lowered ends (f.base - f.low)

abbrev pub FramesAfter : Program → Data → (ℕ → Bool) → Ends → Situation → List Frame → Ends → Situation → List Frame → Type 0
FramesAfter p d holds ends t fs ends' u fs' = ((ends' ≡ ends) × (fs' ≡ fs)) ⊎ (MakesFrame ends fs ends' fs' ⊎ LeavesFrame p d holds ends t fs ends' u fs')

-- ---- what it does

module _ (p : Program) (d : Data) (names : List (Held × ℕ)) (holds : ℕ → Bool) (ends : Ends) (t : Situation) (k : Known) (fs : List Frame) (ks : List Known) (rest : List (List Frame)) where
  -- it changes its thread alone, which stands on the machine at the next item
  pub record GoesOn : Type 0 where
    pub next : Thread
    pub moves : next_move p d k ≡ Moves (own next)
    pub going : next.standing ≡ Going
    pub forks : next.forks ≡ k.thread.forks
    pub counters : next.counters ≡ k.thread.counters
    pub bytes : next.bytes ≡ k.thread.bytes
    pub u : Situation
    pub leads : Leads Postprocessed p d holds t u
    pub ends' : Ends
    pub fs' : List Frame
    pub frames : FramesAfter p d holds ends t fs ends' u fs'
    pub stands : StandsOn p names holds ends' u (went k next) fs' ks rest

  -- the machine stops at its first word, whose line is that of the item
  pub record Traps : Type 0 where
    pub kind : TrapKind
    pub top : Activation
    pub older : List Activation
    pub acts : k.thread.activations ≡ top ∷ older
    pub function : ProgramFunction
    pub item : Item
    pub has : HasItem p top.function function top.next item
    pub begun : 0 < top.next
    pub moves : next_move p d k ≡ Moves (own (trapped_thread k.thread kind item.line))
    pub ins : Ins
    pub there : code_at Postprocessed p t.state.pc ≡ Some ins
    pub stops : move_of d t.state ins ≡ Stops (Trap kind)

  -- the stack has no room for the frame
  pub record Overflows : Type 0 where
    pub top : Activation
    pub older : List Activation
    pub acts : k.thread.activations ≡ top ∷ older
    pub function : ProgramFunction
    pub item : Item
    pub has : HasItem p top.function function top.next item
    pub prologue : item.kind ≡ Prologue
    pub room : ends.sp < ends.lo + function.frame_bytes
    pub ins : Ins
    pub there : code_at Postprocessed p t.state.pc ≡ Some ins
    pub stops : move_of d t.state ins ≡ Stops (StackFull function.frame_bytes)

  -- the item isn't made yet: its first word, one instruction, calls an entry of the runtime
  pub record Calls : Type 0 where
    pub entry : ℕ
    pub u : Situation
    pub makes : Makes Postprocessed p d holds t u
    pub words : u.word ≡ t.word
    pub at : AtCall p names holds ends u k fs ks rest entry

  -- the last activation of the thread leaves; the machine comes to the entry that ends the thread
  pub record EndsThread : Type 0 where
    pub value : ℕ
    pub moves : EndsWith p d k value
    pub u : Situation
    pub leads : Leads Postprocessed p d holds t u
    pub ends' : Ends
    pub frames : LeavesFrame p d holds ends t fs ends' u []
    pub at : AtLast p names holds ends' u k.note.cell value ks rest

  abbrev pub ItemDoes : Type 0
  ItemDoes = GoesOn ⊎ (Traps ⊎ (Overflows ⊎ (Calls ⊎ EndsThread)))

-- the next item of the top thread does one of these
abbrev pub ItemsDo : Type 0
ItemsDo =
    (p : Program) (d : Data) (names : List (Held × ℕ)) (holds : ℕ → Bool) (ends : Ends) (t : Situation) (k : Known) (fs : List Frame) (ks : List Known) (rest : List (List Frame)) → CanRun p d names holds ends t k fs ks rest → ItemDoes p d names holds ends t k fs ks rest
