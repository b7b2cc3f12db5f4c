-- A worker that fits its board's view. Read Fits: the view comes, by what the worker has done by itself, to one from which its next step may be made (before), and the worker fits that (FitsIn): it is for the
-- program (IsFor), what it keeps is what the view tells (Holds), and in its phase its threads and chains are where they have to be (ByPhase).
use Rattle.std.specs.Prelude.{◌≡◌, ◌≢◌, ◌⊎◌, ℕ, ◌+◌, ◌*◌, ◌/◌, ◌<◌, ◌≤◌, Bool, true, false, List, [], ◌∷◌, ◌++◌, length, Option, Some, None}
use Rattle.std.specs.List.{Contains}
use Rattle.st_base.specs.declared.chain.Chain.{Chain}
use Rattle.st_base.specs.declared.chain.Frame.{Frame}
use Rattle.st_base.specs.declared.chain.Waiting.{Waiting}
use Rattle.st_base.specs.declared.chain.Waiting.TheVariants as waits
use Rattle.st_base.specs.declared.image.Image.{Image}
use Rattle.st_base.specs.declared.thread.Held.TheVariants.{Future}
use Rattle.st_base.specs.declared.limits.LimitKind.{LimitKind}
use Rattle.st_base.specs.declared.limits.LimitKind.TheVariants as kinds
use Rattle.st_base.specs.declared.limits.Limits.{Limits}
use Rattle.st_words.specs.declared.view.Carried.{Carried}
use Rattle.st_words.specs.declared.view.Known.{Known}
use Rattle.st_words.specs.declared.view.View.{View}
use Rattle.st_words.specs.Careful.{IsOver, ShowsPlace, standing_of}
use Rattle.st_words.specs.Encodings.{full_word, running, ready, waits_word, waiting, stop_kind, head_in, is_counter}
use Rattle.st_words.specs.Steps.{IsCounter, some_thread}
use Rattle.st_words.specs.Views.{followed}
use Rattle.st_model.specs.declared.code.Layout.TheVariants.{Postprocessed}
use Rattle.st_model.specs.declared.program.Program.{Program}
use Rattle.st_model.specs.Layout.{IsCodeOf, code_of, forks_of}
use Rattle.st_model.specs.Memory.{Data, data_of}
use Rattle.st_made.specs.Items.{child_path}
use Rattle.st_made.specs.Moves.{Made}
use Rattle.st_step.specs.Moves.{register}
use Rattle.st_step.specs.Runs.{HasRegisters, AreValues}
use Rattle.st_base.specs.declared.reg.Reg.TheVariants as registers
use Rattle.st_items.specs.Code.{IsSized}
use Rattle.st_items.specs.Tables.{instructions_of, begins_of}
use Rattle.st_chain.specs.Taking.{notes_of}
use Rattle.st_seats.specs.Placing.{AreOnce}
use Rattle.st_run.specs.Meanings.{IsAt, meaning}
use Rattle.st_phases.specs.declared.automaton.Automaton.{Automaton}
use Rattle.st_phases.specs.declared.phase.Behind.{Behind}
use Rattle.st_phases.specs.declared.phase.Behind.TheVariants as behinds
use Rattle.st_phases.specs.declared.phase.Leaving.{Leaving}
use Rattle.st_phases.specs.declared.phase.Phase.{Phase}
use Rattle.st_phases.specs.declared.phase.Phase.TheVariants as phases
use Rattle.st_phases.specs.declared.phase.Rest.{Rest}
use Rattle.st_phases.specs.declared.phase.Settling.{Settling}
use Rattle.st_phases.specs.Answering.{has_two}
use Rattle.st_phases.specs.Leaving.{item_place}
use Rattle.st_phases.specs.Opening.{stack_low}
use Rattle.st_phases.specs.Running.{stop_code}
use Rattle.st_phases.specs.Waking.{is_over, MayPark}
use Rattle.st_fits.specs.Before.{before}
use Rattle.st_fits.specs.Bags.{HasBag, Bag, units, own_and, with_chain, answers, common, leader, before_rest, RestIs, IsNamed, IsOfKind, Settles, CanPark, LowersTo}
use Rattle.st_fits.specs.Threads.{Lies, HasNone, Polls, Rests, IsCalled, Lasts, Runs, OfKind, Leaves, GivesOut, Carries, MayCome, now, ends_of}

-- ---- what never changes

-- it runs the postprocessed code of the program with its data, within these limits
pub record IsFor (p : Program) (d : Data) (limits : Limits) (image : Image) (input : List ℕ) (x : Automaton) : Type 0 where
  pub code : IsCodeOf Postprocessed p image
  pub size : IsSized Postprocessed p
  pub source : d ≡ data_of image.rodata input
  pub instructions : instructions_of x.code.instructions.items ≡ code_of Postprocessed p
  pub begins : begins_of x.code.instructions.items ≡ image.begins
  pub input_is : x.length ≡ length input
  pub steps : x.steps ≡ limits.steps
  pub cells : x.cells ≡ limits.cells
  pub room : x.threads.room ≡ limits.cells
  pub ready_room : x.ready.room ≡ limits.cells
  pub lo : x.stack.lo ≡ stack_low limits x.number
  pub hi : x.stack.hi ≡ stack_low limits x.number + limits.stack
  pub low : x.machine.lo ≡ x.stack.lo
  pub high : x.machine.hi ≡ x.stack.hi

-- ---- what it keeps

-- a number that was taken out of the ready ones is still ready in the view, until its chain is taken
abbrev pub taken_of : Phase → List ℕ
taken_of (phases.Picking asker cell) = cell ∷ []
taken_of _ = []

-- a worker begins as many items as it may, and one more where it stops for that
abbrev pub most_items : Phase → ℕ → ℕ
most_items (phases.Stopping kind) steps = steps + 1
most_items _ steps = steps

-- a thread is being taken out
abbrev pub is_taking : Phase → Bool
is_taking (phases.Suspending leaving) = true
is_taking (phases.Giving asker) = true
is_taking _ = false

-- its numbers, notes, ready numbers, request and exported frames are those of the view
pub record Holds (limits : Limits) (x : Automaton) (u : View) : Type 0 where
  pub number : x.number ≡ u.number
  pub below : u.number < u.workers
  pub workers : x.workers ≡ u.workers
  pub few_workers : u.workers ≤ 16
  pub cells : x.cells ≡ u.cells
  pub few_cells : u.cells ≤ 65536
  pub each : u.each ≡ limits.stack / 8
  pub words : length u.held ≡ u.workers * u.each
  pub notes : x.threads.notes ≡ notes_of u.threads
  pub items : x.items ≡ u.items
  pub frame_bytes : x.frame_bytes ≡ u.frame_bytes
  pub few_items : x.items ≤ most_items x.phase limits.steps
  pub few_bytes : x.frame_bytes ≤ 2032 * x.items
  pub ready_once : AreOnce (taken_of x.phase ++ x.ready.numbers)
  pub ready : (c : ℕ) → Contains (taken_of x.phase ++ x.ready.numbers) c → Contains u.ready c
  pub all_ready : (c : ℕ) → Contains u.ready c → Contains (taken_of x.phase ++ x.ready.numbers) c
  pub asked : u.asked ≡ x.asked
  pub asked_other : (at : ℕ) → x.asked ≡ Some at → (at < u.workers) × (at ≢ u.number)
  pub exported : (f : Frame) → Contains x.stack.exported f → Contains u.exported f
  pub all_exported : (f : Frame) → Contains u.exported f → Contains x.stack.exported f
  pub last : x.last < u.workers
  pub not_open : is_taking x.phase ≡ false → x.threads.open ≡ None
  pub registers : HasRegisters x.machine
  pub values : AreValues x.machine

-- ---- by its phase

-- the worker has seen by the cell's Owner word that it is a future's
abbrev pub SeesFuture : View → ℕ → Type 0
SeesFuture u cell = (owner : ℕ) × Contains u.owners (cell, owner) × (is_counter owner ≡ false)

-- the cell is named for the next child of the top thread
abbrev pub IsForChild : ℕ → View → Type 0
IsForChild cell u = (t : Known) × (ts : List Known) × (u.threads ≡ t ∷ ts) × Contains u.names (Future (child_path t), cell)

module _ (p : Program) (d : Data) (limits : Limits) where
  -- its threads rest, and it has this in hand
  abbrev pub InHand : Automaton → View → Bag → Type 0
  InHand x u b = Rests p d x u [] × HasBag b u

  -- it has a thread, or none
  abbrev pub OnTop : Automaton → View → Bag → Type 0
  OnTop x u b = Polls p d x u [] × HasBag b u

  abbrev pub Idle : Automaton → View → Bag → Type 0
  Idle x u b = HasNone x u [] × HasBag b u

  -- its top thread is at the entry
  abbrev pub AtEntry : ℕ → Automaton → View → Bag → Type 0
  AtEntry entry x u b = (x.machine.pc ≡ entry) × IsCalled p d entry x u × HasBag b u

  -- at one that draws a cell
  abbrev pub Draws : Automaton → View → Bag → Type 0
  Draws x u b = AtEntry 0x10 x u b ⊎ AtEntry 0x50 x u b

  -- at one that names a cell in a6, whose kind the worker has seen
  pub record AtCell (cell : ℕ) (x : Automaton) (u : View) : Type 0 where
    pub handle : cell ≡ register x.machine registers.A6
    pub below : cell < u.cells
    pub kind : ((AtEntry 0x40 x u (units 1)) × SeesFuture u cell) ⊎ ((AtEntry 0x60 x u (units 1) ⊎ AtEntry 0x70 x u (units 1)) × IsCounter u cell)

  abbrev pub top_cell : List Known → ℕ
  top_cell [] = 0
  top_cell (t ∷ ts) = t.note.cell

  -- its top thread ends with a value that is stored
  pub record Ends (x : Automaton) (u : View) : Type 0 where
    pub lasts : Lasts p d x u (ends_of x.machine) (now x u)
    pub value : Contains u.valued (top_cell u.threads, register x.machine registers.A0)
    pub bag : HasBag (units 1) u

  -- ---- a thread that leaves

  -- its unit, and that of the threads that stay
  abbrev pub leaving_units : List Known → Bag
  leaving_units [] = units 0
  leaving_units (t ∷ ts) = units (1 + some_thread ts)

  -- what it waits for, as the worker has seen it, or that it has stopped
  abbrev pub OfWait : Leaving → View → Waiting → Type 0
  OfWait leaving u waits.Trapped = (leaving.kind ≢ 0) × (leaving.kind < 16)
  OfWait leaving u wait = (leaving.kind ≡ 0) × CanPark (record { waiter = 0; wait = wait; seen = leaving.seen; rest = None }) u × MayPark wait leaving.seen

  -- the chain of one that has left, with its words as they are now; the other threads rest
  pub record HasLeft (chain : Chain) (leaving : Leaving) (standing : Option ℕ) (Shows : Carried → Type 0) (x : Automaton) (u : View) : Type 0 where
    pub carried : Carried
    pub frames : List Frame
    pub carries : Carries p d u chain standing carried frames
    pub bag : HasBag (with_chain carried (own_and 1 u)) u
    pub wait : chain.wait ≡ leaving.wait
    pub of_wait : OfWait leaving u leaving.wait
    pub kind : OfKind p d leaving carried.known leaving.wait
    pub shows : Shows carried
    pub place : IsAt p carried.known.thread.activations (item_place chain.pc leaving.at_call)
    pub rests : Rests p d x u frames

  -- ---- a limit is met

  abbrev pub Meets : LimitKind → Automaton → View → Type 0
  Meets (kinds.Stack worker frame) x u = (worker ≡ u.number) × (meaning p d limits).meets u (stop_code x.number (kinds.Stack worker frame)) × HasBag (units 1) u
  Meets (kinds.Step worker) x u = (worker ≡ u.number) × (limits.steps < u.items) × HasBag (units 1) u
  Meets (kinds.Cell cells) x u = (cells ≡ u.cells) × ((n : ℕ) × (u.cells ≤ n) × HasBag (record (units 1) { drawn = n ∷ [] }) u)
  Meets kind x u = ⊥

  -- ---- chains

  -- a chain that was taken to run, or that is to run
  pub record HasCome (chain : Chain) (standing : ℕ) (x : Automaton) (u : View) : Type 0 where
    pub carried : Carried
    pub frames : List Frame
    pub carries : Carries p d u chain (Some standing) carried frames
    pub bag : HasBag (with_chain carried (units 1)) u
    pub goes : chain.wait ≢ waits.Trapped
    pub none : HasNone x u frames
    pub may : MayCome x u frames

  -- one that goes to another worker; the threads rest
  pub record HasToGo (asker : ℕ) (chain : Chain) (standing : ℕ) (x : Automaton) (u : View) : Type 0 where
    pub carried : Carried
    pub frames : List Frame
    pub carries : Carries p d u chain (Some standing) carried frames
    pub bag : HasBag (answers asker false false (with_chain carried (own_and 1 u))) u
    pub goes : chain.wait ≢ waits.Trapped
    pub rests : Rests p d x u frames
    pub asks : (asker < u.workers) × (asker ≢ u.number)

  abbrev pub IsAsking : ℕ → View → Type 0
  IsAsking asker u = (asker < u.workers) × (asker ≢ u.number)

  abbrev pub IsAsked : Option ℕ → View → Type 0
  IsAsked None u = Prim.Unit
  IsAsked (Some asker) u = IsAsking asker u

  -- a waiter's chain was taken for a look
  pub record HasLooked (chain : Chain) (rest : Rest) (x : Automaton) (u : View) : Type 0 where
    pub carried : Carried
    pub frames : List Frame
    pub carries : Carries p d u chain (Some waits_word) carried frames
    pub bag : HasBag (record (with_chain carried (units 2)) { hand = before_rest chain.cell (Some chain.wait) None rest }) u
    pub named : IsNamed chain.wait u
    pub shows : ShowsPlace (meaning p d limits) carried carried.wait
    pub rest_is : RestIs rest u
    pub rests : Rests p d x u frames

  abbrev pub Empties : Behind → Automaton → View → Type 0
  Empties (behinds.Chain chain) x u = HasCome chain running x u
  Empties behinds.Seventh x u = Idle x u (units 0) × (u.workers ≢ 1)
  Empties behinds.Round x u = Idle x u (units 0)

  -- what its wait needs has been seen
  abbrev pub IsSeen : View → Waiting → Type 0
  IsSeen u (waits.Touch cell) = Contains u.full cell
  IsSeen u wait = ⊥

  abbrev pub IsToWait : Waiting → Type 0
  IsToWait (waits.Touch cell) = Prim.Unit
  IsToWait (waits.Join cell least) = Prim.Unit
  IsToWait wait = ⊥

  abbrev pub ByPhase : Phase → Automaton → View → Type 0
  ByPhase phases.Running x u = Runs p d x u × HasBag (units 1) u
  ByPhase (phases.Stopping kind) x u = (u.threads ≢ []) × Meets kind x u
  ByPhase (phases.Naming cell) x u = (cell < u.cells) × Draws x u (record (units 1) { drawn = cell ∷ [] })
  ByPhase (phases.Beginning cell) x u = (cell < u.cells) × IsForChild cell u × AtEntry 0x10 x u (record (units 1) { child = Some (record { cell = cell; stands = false }) })
  ByPhase (phases.Looking cell) x u = AtCell cell x u
  ByPhase (phases.Valuing cell) x u = AtCell cell x u × Contains u.full cell × (x.machine.pc ≡ 0x40)
  ByPhase (phases.Adding cell seen) x u = AtCell cell x u × (x.machine.pc ≡ 0x60) × (head_in seen ≤ u.cells)
  ByPhase phases.Finding x u = Ends x u
  ByPhase (phases.Filling seen) x u = Ends x u × (seen ≢ full_word) × (seen ≤ u.cells)
  ByPhase (phases.Ending cell head) x u = (cell < u.cells) × Contains u.filled cell × Contains u.full cell × (head ≤ u.cells) × InHand x u (record (units 1) { hand = followed (Some (waits.Touch cell)) head [] })
  ByPhase (phases.Following rest) x u = RestIs rest u × (rest.next ≢ 0) × InHand x u (record (units 1) { hand = leader rest })
  ByPhase (phases.Raising waiter rest) x u = RestIs rest u × InHand x u (record (units 1) { hand = before_rest waiter (common rest) None rest })
  ByPhase (phases.Peeking waiter rest) x u = RestIs rest u × (rest.counter ≡ true) × InHand x u (record (units 2) { hand = before_rest waiter None None rest })
  ByPhase (phases.Returning chain rest) x u = HasLooked chain rest x u
  ByPhase (phases.Owning settling) x u = IsNamed settling.wait u × Settles settling None settling.rest u × Rests p d x u []
  ByPhase (phases.Weighing settling) x u = IsNamed settling.wait u × IsOfKind settling.wait u × Settles settling None settling.rest u × Rests p d x u []
  ByPhase (phases.Readying settling) x u = IsOver u settling.wait × ((next : Option ℕ) × Settles settling next settling.rest u) × Rests p d x u []
  ByPhase (phases.Linking settling) x u = CanPark settling u × (is_over settling.wait settling.seen ≡ false) × ((next : Option ℕ) × Settles settling next settling.rest u) × Rests p d x u []
  ByPhase (phases.Parking settling) x u = CanPark settling u × MayPark settling.wait settling.seen × Settles settling (Some (head_in settling.seen)) settling.rest u × Rests p d x u []
  ByPhase (phases.Lowering rest) x u = LowersTo rest u × Rests p d x u []
  ByPhase (phases.Parting leaving) x u = Leaves p d leaving x u × OfWait leaving u leaving.wait × HasBag (units 1) u × (length x.threads.notes ≢ 1)
  ByPhase (phases.Suspending leaving) x u = Leaves p d leaving x u × OfWait leaving u leaving.wait × HasBag (leaving_units u.threads) u
  ByPhase (phases.Marking chain leaving) x u = HasLeft chain leaving None (λ y. y.trap ≡ None) x u
  ByPhase (phases.Standing chain leaving) x u = HasLeft chain leaving None (λ y. ShowsPlace (meaning p d limits) y y.wait) x u
  ByPhase (phases.Slotting chain leaving) x u = HasLeft chain leaving (standing_of chain.wait) (λ y. ShowsPlace (meaning p d limits) y y.wait) x u
  ByPhase phases.Polling x u = OnTop x u (units 1)
  ByPhase (phases.Heeding asker) x u = OnTop x u (units 1) × IsAsked asker u
  ByPhase (phases.Shrinking asker) x u = OnTop x u (units 1) × IsAsked asker u
  ByPhase (phases.Answering asker) x u = InHand x u (own_and 0 u) × IsAsking asker u
  ByPhase (phases.Picking asker cell) x u = InHand x u (answers asker false false (own_and 0 u)) × IsAsking asker u
  ByPhase (phases.Waving asker chain) x u = HasToGo asker chain ready x u
  ByPhase (phases.Sharing asker) x u = OnTop x u (answers asker false false (units 1)) × (has_two (forks_of Postprocessed p) x ≡ true) × IsAsking asker u
  ByPhase (phases.Giving asker) x u = GivesOut p d x u × HasBag (answers asker false false (units 2)) u × IsAsking asker u
  ByPhase (phases.Mailing asker chain) x u = HasToGo asker chain running x u
  ByPhase (phases.Telling asker given) x u = InHand x u (answers asker given false (own_and 0 u)) × IsAsking asker u
  ByPhase phases.Clearing x u = (asker : ℕ) × (put : Bool) × InHand x u (answers asker put true (own_and 0 u))
  ByPhase (phases.Coming chain) x u = HasCome chain ready x u
  ByPhase (phases.Seeing chain) x u = HasCome chain running x u × IsToWait chain.wait
  ByPhase (phases.Getting chain) x u = HasCome chain running x u × IsSeen u chain.wait
  ByPhase phases.Settled x u = Idle x u (units 0)
  ByPhase phases.Stop x u = Idle x u (units 0)
  ByPhase phases.Active x u = Idle x u (units 0)
  ByPhase phases.Own x u = Idle x u (units 0)
  ByPhase phases.First x u = Idle x u (record (units 0) { root = true }) × (x.ready.numbers ≡ [])
  ByPhase phases.Request x u = Idle x u (units 0)
  ByPhase phases.Mail x u = Idle x u (units 0)
  ByPhase phases.Opening x u = Idle x u (record (units 0) { given = true }) × (u.asked ≡ None)
  ByPhase phases.Seventh x u = Idle x u (units 0) × (u.workers ≢ 1)
  ByPhase phases.Placing x u = Idle x u (units 0) × (u.workers ≢ 1) × (u.asked ≡ None) × (u.mail ≡ waiting)
  ByPhase (phases.Emptying behind) x u = (u.asked ≡ None) × Empties behind x u

-- ---- a worker that fits

module _ (p : Program) (d : Data) (limits : Limits) (image : Image) (input : List ℕ) where
  pub record FitsIn (x : Automaton) (u : View) : Type 0 where
    pub is_for : IsFor p d limits image input x
    pub holds : Holds limits x u
    pub by : ByPhase p d limits x.phase x u

  pub record Fits (x : Automaton) (v : View) : Type 0 where
    pub made : Made p d v (before p d x v)
    pub fits : FitsIn x (before p d x v)
