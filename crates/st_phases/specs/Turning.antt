-- A turn of a worker: at most one step of the board, by its phase. Read MayTurn (what a turn asks: that each step of the board which it may need may be asked) and Turned (which step it
-- made, with which answer, what it leaves of the worker, and what it comes to). After so many turns the stop word is read before all else.
use Rattle.std.specs.Prelude.{◌≡◌, ◌≢◌, ℕ, suc, ◌+◌, ◌-◌, ◌^◌, ◌<◌, ◌≤◌, Bool, true, false, nat_le, ◌==◌, List, [], length, Option, Some}
use Rattle.st_base.specs.Entry.{entry_at}
use Rattle.st_base.specs.declared.chain.Chain.{Chain}
use Rattle.st_base.specs.declared.chain.Frame.{Frame}
use Rattle.st_base.specs.declared.image.Image.{Image}
use Rattle.st_model.specs.declared.code.Layout.TheVariants.{Postprocessed}
use Rattle.st_model.specs.Layout.{IsCodeOf}
use Rattle.st_model.specs.Memory.{data_of}
use Rattle.st_words.specs.declared.view.Cargo.{Cargo}
use Rattle.st_words.specs.declared.view.CellWord.TheVariants as words
use Rattle.st_words.specs.declared.view.Slot.{Slot}
use Rattle.st_words.specs.declared.view.Slot.TheVariants as slots
use Rattle.st_words.specs.Encodings.{full_word, head_in, running, ready, ended, trap_word, asking, answering_word, nothing}
use Rattle.st_words.specs.Steps.{Step, Look, CellLoad, CellStore, CellChange, ActiveAdd, ActiveLoad, StopLoad, StopSet, RequestLoad, RequestChange, MailLoad, MailStore, SlotTake, SlotPut, Answer, Done, Number, Took, return_place}
use Rattle.st_step.specs.Runs.{AreValues}
use Rattle.st_cells.specs.Cells.{owner_word, counted_up}
use Rattle.st_stack.specs.Exported.{IsFrameOn, IsLowest, IsLimit}
use Rattle.st_stack.specs.Shrinking.{IsStackOf}
use Rattle.st_stack.specs.declared.stack.Shrunk.{Shrunk}
use Rattle.st_steal.specs.Words.{IsAsker, told_word}
use Rattle.st_items.specs.Rows.{AreAscending, row_behind}
use Rattle.st_chain.specs.declared.logical.Moved.{Moved}
use Rattle.st_chain.specs.Forks.{AreRising}
use Rattle.st_chain.specs.Taking.{Taking, Suspends, SuspendStep, MaySuspend, Gives, GiveStep, MayGive}
use Rattle.st_phases.specs.declared.automaton.Automaton.{Automaton}
use Rattle.st_phases.specs.declared.phase.Behind.TheVariants as behinds
use Rattle.st_phases.specs.declared.phase.Leaving.{Leaving}
use Rattle.st_phases.specs.declared.phase.Phase.{Phase}
use Rattle.st_phases.specs.declared.phase.Phase.TheVariants as phases
use Rattle.st_phases.specs.declared.turn.Point.TheVariants as points
use Rattle.st_phases.specs.declared.turn.Turn.{Turn}
use Rattle.st_phases.specs.declared.turn.Turn.TheVariants.{Ran}
use Rattle.st_phases.specs.Automaton.{own_note, with_phase, wakes}
use Rattle.st_phases.specs.Entries.{owner_of, named, begins_child, looked, got, added}
use Rattle.st_phases.specs.Ending.{filled, ended_or_step, rest_of}
use Rattle.st_phases.specs.Waking.{NeverEmpty, followed, raised, returned, settled, readied, cell_of, MayPark, parked_word, parked, behind}
use Rattle.st_phases.specs.Leaving.{IsSuspended, item_place, standing_word, slotted}
use Rattle.st_phases.specs.Polling.{heeded, over_or_step, IsTopFrame, RunsOn, IsShrunk}
use Rattle.st_phases.specs.Answering.{GoesOnAnswered, IsAnswered, IsGiven}
use Rattle.st_phases.specs.Coming.{arrived, TakesOn, Sees}
use Rattle.st_phases.specs.Idle.{RoundBegins, ReadsStop, active_read, active_turn, MayTakeOwn, TakesOwn, request_read, request_turn, mail_read, mail_turn, TakesBehind, MaySeventh, Sevenths, next_other, asked_at, ask_turn}
use Rattle.st_phases.specs.Running.{stop_code, stop_turn}
use Rattle.st_phases.specs.Calls.{HasTop, MayGoOn, Goes, Polls}

-- ---- what a turn asks

module _ (asks : Step → Type 0) (says : Step → Answer → Type 0) (cargo : Slot → Chain → Cargo) (image : Image) (input : List ℕ) (x : Automaton) where
  -- the return word of the least exported frame may be looked at
  pub record MayShrink : Type 0 where
    pub stack : IsStackOf x.number x.stack.lo x.stack.hi
    pub looks : (f : Frame) → IsLowest x.stack.exported f → IsFrameOn x.stack.lo x.stack.hi f → asks (Look (return_place f))

  -- a chain may be taken out of a slot, and there is one
  abbrev pub MayTake : Slot → Type 0
  MayTake slot = asks (SlotTake slot) × NeverEmpty (says (SlotTake slot))

  abbrev pub MayPut : Slot → Chain → Type 0
  MayPut slot chain = asks (SlotPut slot chain (cargo slot chain))

  abbrev pub MayPhase : Phase → Type 0
  MayPhase phases.Running = MayGoOn asks (data_of image.rodata input) x (entry_at x.machine.pc)
  MayPhase (phases.Stopping kind) = asks (StopSet (stop_code x.number kind))
  MayPhase (phases.Naming cell) = HasTop x × ((own_note x).counters + 1 < 2 ^ 32) × asks (CellStore cell words.Owner (owner_word (owner_of x)))
  MayPhase (phases.Beginning cell) = (x.threads.notes ≢ []) × (length x.threads.notes < x.threads.room) × ((own_note x).forks + 1 < 2 ^ 32) × asks (CellStore cell words.Standing running)
  MayPhase (phases.Looking cell) = asks (CellLoad cell words.State)
  MayPhase (phases.Valuing cell) = asks (CellLoad cell words.Value)
  MayPhase (phases.Adding cell seen) = asks (CellChange cell seen (counted_up seen))
  MayPhase phases.Finding = (x.threads.notes ≢ []) × asks (CellLoad (own_note x).cell words.State)
  MayPhase (phases.Filling seen) = (x.threads.notes ≢ []) × AreRising 0 image.forks × asks (CellChange (own_note x).cell seen full_word)
  MayPhase (phases.Ending cell head) = asks (CellStore cell words.Standing ended)
  MayPhase (phases.Following rest) = (rest.next ≢ 0) × (rest.next ≤ 2 ^ 32) × asks (CellLoad (rest.next - 1) words.Next)
  MayPhase (phases.Raising waiter rest) = asks (ActiveAdd true)
  MayPhase (phases.Peeking waiter rest) = MayTake (slots.Cell waiter)
  MayPhase (phases.Returning chain rest) = MayPut (slots.Cell chain.cell) chain
  MayPhase (phases.Owning settling) = asks (CellLoad (cell_of settling.wait) words.Owner)
  MayPhase (phases.Weighing settling) = asks (CellLoad (cell_of settling.wait) words.State)
  MayPhase (phases.Readying settling) = (length x.ready.numbers < x.ready.room) × asks (CellStore settling.waiter words.Standing ready)
  MayPhase (phases.Linking settling) = asks (CellStore settling.waiter words.Next (head_in settling.seen))
  MayPhase (phases.Parking settling) = (settling.waiter < 65536) × MayPark settling.wait settling.seen × asks (CellChange (cell_of settling.wait) settling.seen (parked_word settling.wait settling.waiter settling.seen))
  MayPhase (phases.Lowering rest) = asks (ActiveAdd false)
  MayPhase (phases.Parting leaving) = asks (ActiveAdd true)
  MayPhase (phases.Suspending leaving) = MaySuspend asks image (data_of image.rodata []) leaving.wait x.threads.notes x.threads.open x.machine x.stack
  MayPhase (phases.Marking chain leaving) = (leaving.kind < 16) × asks (CellStore chain.cell words.Trap (trap_word (item_place chain.pc leaving.at_call) leaving.kind))
  MayPhase (phases.Standing chain leaving) = asks (CellStore chain.cell words.Standing (standing_word leaving.kind))
  MayPhase (phases.Slotting chain leaving) = MayPut (slots.Cell chain.cell) chain
  MayPhase phases.Polling = asks (RequestLoad x.number)
  MayPhase (phases.Heeding asker) = asks StopLoad
  MayPhase (phases.Shrinking asker) = AreAscending 0 image.rows × MayShrink
  MayPhase (phases.Answering asker) = AreRising 0 image.forks × (x.machine.pc + 4 < 2 ^ 32) × asks (RequestChange x.number (asking asker) answering_word)
  MayPhase (phases.Picking asker cell) = MayTake (slots.Cell cell)
  MayPhase (phases.Waving asker chain) = asks (CellStore chain.cell words.Standing running)
  MayPhase (phases.Sharing asker) = asks (ActiveAdd true)
  MayPhase (phases.Giving asker) = MayGive asks image (data_of image.rodata []) x.threads.notes x.threads.open x.machine x.stack
  MayPhase (phases.Mailing asker chain) = MayPut (slots.Mail asker) chain
  MayPhase (phases.Telling asker given) = asks (MailStore asker (told_word given))
  MayPhase phases.Clearing = asks (RequestChange x.number answering_word 0)
  MayPhase (phases.Coming chain) = (x.threads.notes ≡ []) × asks (CellStore chain.cell words.Standing running)
  MayPhase (phases.Seeing chain) = (x.threads.notes ≡ []) × asks (CellLoad (cell_of chain.wait) words.State)
  MayPhase (phases.Getting chain) = (x.threads.notes ≡ []) × asks (CellLoad (cell_of chain.wait) words.Value)
  MayPhase phases.Settled = MayShrink × asks StopLoad
  MayPhase phases.Stop = asks StopLoad
  MayPhase phases.Active = asks ActiveLoad
  MayPhase phases.Own = MayTakeOwn asks says x.ready.numbers
  MayPhase phases.First = MayTake (slots.Cell 0)
  MayPhase phases.Request = asks (RequestLoad x.number)
  MayPhase phases.Mail = asks MailLoad
  MayPhase phases.Opening = MayTake (slots.Mail x.number)
  MayPhase phases.Seventh = MaySeventh asks x x.asked
  MayPhase phases.Placing = (x.last < x.workers) × (x.workers ≤ 16) × asks (RequestChange (next_other x) 0 (asking x.number))
  MayPhase (phases.Emptying behind) = (x.threads.notes ≡ []) × asks (MailStore x.number nothing)

-- ---- what it does

module _ {Board : Type 0} (made : Step → Answer → Board → Type 0) (shrinks : List Frame → List Frame → Option Frame → Shrunk → Board → Type 0) (old : Board) (cargo : Slot → Chain → Cargo) (image : Image) (input : List ℕ) (x : Automaton) (turn : Turn) (y : Automaton) (new : Board) where
  -- it is a step that is none of the others, and leaves the worker so
  abbrev pub Leaves : Automaton → Type 0
  Leaves z = (y ≡ z) × (turn ≡ Ran points.Step)

  -- the step was made, whose answer tells nothing, and the worker is left so
  abbrev pub Made : Step → Automaton → Type 0
  Made s z = made s Done new × Leaves z

  -- the step was made, which found a number, and by that the worker is left so
  abbrev pub Found : Step → (ℕ → Automaton) → Type 0
  Found s after = (found : ℕ) × made s (Number found) new × Leaves (after found)

  -- a chain was taken out of the slot, and by that the worker is left so
  abbrev pub Takes : Slot → (Chain → Automaton) → Type 0
  Takes slot after = (cargo_of : Cargo) × (chain : Chain) × made (SlotTake slot) (Took (Some chain) cargo_of) new × Leaves (after chain)

  abbrev pub Puts : Slot → Chain → Automaton → Type 0
  Puts slot chain z = Made (SlotPut slot chain (cargo slot chain)) z

  abbrev pub Suspended : Leaving → Type 0
  Suspended leaving =
      (moved : Moved) × IsSuspended leaving moved x y
      × ((t : Taking) (n : ℕ) → IsCodeOf Postprocessed t.p image → t.d ≡ data_of image.rodata [] → Suspends t leaving.wait x.threads.notes x.threads.open x.machine x.stack (suc n) → SuspendStep made old t n x.threads.notes y.threads.notes y.threads.open x.machine y.machine y.stack moved new)
      × (turn ≡ Ran points.Step)

  abbrev pub Given : ℕ → Type 0
  Given asker =
      (moved : Moved) × IsGiven asker moved x y
      × ((t : Taking) (n : ℕ) → IsCodeOf Postprocessed t.p image → t.d ≡ data_of image.rodata [] → Gives t x.threads.notes x.threads.open x.machine x.stack (suc n) → GiveStep made old t n x.threads.notes y.threads.notes y.threads.open x.machine y.stack moved new)
      × (turn ≡ Ran points.Step)

  abbrev pub Shrunken : Option ℕ → Type 0
  Shrunken asker = (top_frame : Option Frame) × (shrunk : Shrunk) × IsTopFrame (row_behind image.rows x.machine.pc) x top_frame × shrinks x.stack.exported y.stack.exported top_frame shrunk new × IsShrunk asker shrunk x y × (turn ≡ Ran points.Step)

  abbrev pub PhaseDoes : Phase → Type 0
  PhaseDoes phases.Running = Goes made old (data_of image.rodata input) x (entry_at x.machine.pc) turn y new
  PhaseDoes (phases.Stopping kind) = (found : ℕ) × made (StopSet (stop_code x.number kind)) (Number found) new × (y ≡ x) × (turn ≡ stop_turn kind found)
  PhaseDoes (phases.Naming cell) = Made (CellStore cell words.Owner (owner_word (owner_of x))) (named cell x)
  PhaseDoes (phases.Beginning cell) = made (CellStore cell words.Standing running) Done new × (y ≡ begins_child cell x) × (turn ≡ Ran points.Forked)
  PhaseDoes (phases.Looking cell) = Found (CellLoad cell words.State) (λ found. looked cell found x)
  PhaseDoes (phases.Valuing cell) = (found : ℕ) × (found < 2 ^ 64) × made (CellLoad cell words.Value) (Number found) new × Leaves (got found x)
  PhaseDoes (phases.Adding cell seen) = Found (CellChange cell seen (counted_up seen)) (λ found. added cell seen found x)
  PhaseDoes phases.Finding = Found (CellLoad (own_note x).cell words.State) (λ found. with_phase (phases.Filling found) x)
  PhaseDoes (phases.Filling seen) = (found : ℕ) × made (CellChange (own_note x).cell seen full_word) (Number found) new × (y ≡ filled image.forks seen found x) × (turn ≡ ended_or_step seen found)
  PhaseDoes (phases.Ending cell head) = Made (CellStore cell words.Standing ended) (wakes (rest_of cell head) x)
  PhaseDoes (phases.Following rest) = Found (CellLoad (rest.next - 1) words.Next) (λ found. followed rest found x)
  PhaseDoes (phases.Raising waiter rest) = Found (ActiveAdd true) (λ found. raised waiter rest x)
  PhaseDoes (phases.Peeking waiter rest) = Takes (slots.Cell waiter) (λ chain. with_phase (phases.Returning chain rest) x)
  PhaseDoes (phases.Returning chain rest) = Puts (slots.Cell chain.cell) chain (returned chain rest x)
  PhaseDoes (phases.Owning settling) = Found (CellLoad (cell_of settling.wait) words.Owner) (λ found. with_phase (phases.Weighing settling) x)
  PhaseDoes (phases.Weighing settling) = Found (CellLoad (cell_of settling.wait) words.State) (λ found. settled (record settling { seen = found }) x)
  PhaseDoes (phases.Readying settling) = Made (CellStore settling.waiter words.Standing ready) (readied settling x)
  PhaseDoes (phases.Linking settling) = Made (CellStore settling.waiter words.Next (head_in settling.seen)) (with_phase (phases.Parking settling) x)
  PhaseDoes (phases.Parking settling) = Found (CellChange (cell_of settling.wait) settling.seen (parked_word settling.wait settling.waiter settling.seen)) (λ found. parked settling found x)
  PhaseDoes (phases.Lowering rest) = Found (ActiveAdd false) (λ found. behind rest x)
  PhaseDoes (phases.Parting leaving) = Found (ActiveAdd true) (λ found. with_phase (phases.Suspending leaving) x)
  PhaseDoes (phases.Suspending leaving) = Suspended leaving
  PhaseDoes (phases.Marking chain leaving) = Made (CellStore chain.cell words.Trap (trap_word (item_place chain.pc leaving.at_call) leaving.kind)) (with_phase (phases.Standing chain leaving) x)
  PhaseDoes (phases.Standing chain leaving) = Made (CellStore chain.cell words.Standing (standing_word leaving.kind)) (with_phase (phases.Slotting chain leaving) x)
  PhaseDoes (phases.Slotting chain leaving) = Puts (slots.Cell chain.cell) chain (slotted chain leaving x)
  PhaseDoes phases.Polling = Polls made old x turn y new
  PhaseDoes (phases.Heeding asker) = (found : ℕ) × made StopLoad (Number found) new × (y ≡ heeded (phases.Shrinking asker) found x) × (turn ≡ over_or_step found)
  PhaseDoes (phases.Shrinking asker) = Shrunken asker
  PhaseDoes (phases.Answering asker) = (found : ℕ) × made (RequestChange x.number (asking asker) answering_word) (Number found) new × IsAnswered asker image.forks found x y × (turn ≡ Ran points.Step)
  PhaseDoes (phases.Picking asker cell) = Takes (slots.Cell cell) (λ chain. with_phase (phases.Waving asker chain) x)
  PhaseDoes (phases.Waving asker chain) = Made (CellStore chain.cell words.Standing running) (with_phase (phases.Mailing asker chain) x)
  PhaseDoes (phases.Sharing asker) = Found (ActiveAdd true) (λ found. with_phase (phases.Giving asker) x)
  PhaseDoes (phases.Giving asker) = Given asker
  PhaseDoes (phases.Mailing asker chain) = Puts (slots.Mail asker) chain (with_phase (phases.Telling asker true) x)
  PhaseDoes (phases.Telling asker given) = Made (MailStore asker (told_word given)) (with_phase phases.Clearing x)
  PhaseDoes phases.Clearing = (found : ℕ) × made (RequestChange x.number answering_word 0) (Number found) new × GoesOnAnswered x.threads.notes x y × (turn ≡ Ran points.Step)
  PhaseDoes (phases.Coming chain) = made (CellStore chain.cell words.Standing running) Done new × TakesOn chain.wait chain image.main_at x turn y
  PhaseDoes (phases.Seeing chain) = (found : ℕ) × made (CellLoad (cell_of chain.wait) words.State) (Number found) new × Sees chain.wait chain image.main_at x turn y
  PhaseDoes (phases.Getting chain) = (found : ℕ) × made (CellLoad (cell_of chain.wait) words.Value) (Number found) new × RunsOn (arrived chain (Some found) image.main_at x) y × (AreValues x.machine → AreValues y.machine) × (turn ≡ Ran points.Took)
  PhaseDoes phases.Settled = (limit : ℕ) × IsLimit x.stack.hi x.stack.exported limit × RoundBegins shrinks made (limit == x.machine.hi) x turn y new
  PhaseDoes phases.Stop = ReadsStop made x turn y new
  PhaseDoes phases.Active = (found : ℕ) × made ActiveLoad (Number found) new × (y ≡ active_read found x) × (turn ≡ active_turn found)
  PhaseDoes phases.Own = TakesOwn made x.ready.numbers x turn y new
  PhaseDoes phases.First = Takes (slots.Cell 0) (λ chain. with_phase (phases.Coming chain) x)
  PhaseDoes phases.Request = (found : ℕ) × (asker : Option ℕ) × made (RequestLoad x.number) (Number found) new × IsAsker found asker × (y ≡ request_read asker x) × (turn ≡ request_turn asker)
  PhaseDoes phases.Mail = (found : ℕ) × made MailLoad (Number found) new × (y ≡ mail_read found x) × (turn ≡ mail_turn found x)
  PhaseDoes phases.Opening = Takes (slots.Mail x.number) (λ chain. with_phase (phases.Emptying (behinds.Chain chain)) x)
  PhaseDoes phases.Seventh = Sevenths made x x.asked turn y new
  PhaseDoes phases.Placing = (found : ℕ) × made (RequestChange (next_other x) 0 (asking x.number)) (Number found) new × (y ≡ asked_at found x) × (turn ≡ ask_turn found)
  PhaseDoes (phases.Emptying next) = made (MailStore x.number nothing) Done new × TakesBehind next image.main_at x turn y

-- ---- the turn

-- so many turns after it was read the stop word is read before all else
abbrev pub is_late : Automaton → Bool
is_late x = nat_le 4095 x.since

abbrev pub ticked : Automaton → Automaton
ticked x = record x { since = x.since + 1 }

abbrev pub MayBy : Bool → (Step → Type 0) → (Step → Answer → Type 0) → (Slot → Chain → Cargo) → Image → List ℕ → Automaton → Type 0
MayBy true asks says cargo image input x = asks StopLoad
MayBy false asks says cargo image input x = MayPhase asks says cargo image input (ticked x) x.phase

abbrev pub MayTurn : (Step → Type 0) → (Step → Answer → Type 0) → (Slot → Chain → Cargo) → Image → List ℕ → Automaton → Type 0
MayTurn asks says cargo image input x = MayBy (is_late x) asks says cargo image input x

module _ {Board : Type 0} (made : Step → Answer → Board → Type 0) (shrinks : List Frame → List Frame → Option Frame → Shrunk → Board → Type 0) (old : Board) (cargo : Slot → Chain → Cargo) (image : Image) (input : List ℕ) (x : Automaton) (turn : Turn) (y : Automaton) (new : Board) where
  abbrev pub TurnedBy : Bool → Type 0
  TurnedBy true = (found : ℕ) × made StopLoad (Number found) new × (y ≡ heeded x.phase found x) × (turn ≡ over_or_step found)
  TurnedBy false = PhaseDoes made shrinks old cargo image input (ticked x) turn y new x.phase

  abbrev pub Turned : Type 0
  Turned = TurnedBy (is_late x)
