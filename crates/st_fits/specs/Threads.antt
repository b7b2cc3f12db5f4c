-- A worker's threads on its machine and stack, as its phases find them. Read Stands (the threads of the view stand on the machine, the top one as it is said), Rests (they stand where a worker polls),
-- IsCalled (at an entry of the runtime), Lasts (at an entry that ends a thread), Runs (on the way through an item), Leaves and Gives (a thread is being taken out) and Carries (a chain
-- is in the turn).
use Rattle.std.specs.Prelude.{◌≡◌, ◌≢◌, ◌⊎◌, ℕ, zero, suc, ◌+◌, ◌^◌, ◌<◌, ◌≤◌, Bool, true, false, List, [], ◌∷◌, ◌++◌, Option, Some, None}
use Rattle.std.specs.List.{Contains}
use Rattle.st_base.specs.declared.chain.Chain.{Chain}
use Rattle.st_base.specs.declared.chain.Frame.{Frame}
use Rattle.st_base.specs.declared.chain.Waiting.{Waiting}
use Rattle.st_base.specs.declared.chain.Waiting.TheVariants as waits
use Rattle.st_base.specs.declared.image.Image.{Image}
use Rattle.st_base.specs.declared.reg.Reg.TheVariants as registers
use Rattle.st_base.specs.declared.thread.Standing.TheVariants.{Going}
use Rattle.st_words.specs.declared.view.Carried.{Carried}
use Rattle.st_words.specs.declared.view.Known.{Known}
use Rattle.st_words.specs.declared.view.View.{View}
use Rattle.st_words.specs.Encodings.{stop_kind}
use Rattle.st_words.specs.Steps.{Mark, Done, return_place, Inside, Holds, IsLeased}
use Rattle.st_model.specs.declared.code.Layout.TheVariants.{Postprocessed}
use Rattle.st_model.specs.declared.program.Program.{Program}
use Rattle.st_model.specs.Memory.{Data, data_of}
use Rattle.st_made.specs.Items.{EndsWith, WaitsAt}
use Rattle.st_rv.specs.declared.ins.Ins.{Ins}
use Rattle.st_step.specs.declared.state.State.{State}
use Rattle.st_step.specs.Moves.{Writes, move_of, register, goes_on}
use Rattle.st_step.specs.Runs.{Situation, IsAtMark, HasRegisters}
use Rattle.st_stack.specs.Exported.{Exports, Apart, IsLimit}
use Rattle.st_items.specs.Body.{Ends}
use Rattle.st_items.specs.Code.{code_at}
use Rattle.st_items.specs.Marked.{NeedsNoWords}
use Rattle.st_items.specs.Ways.{IsInside, IsBehind, Makes}
use Rattle.st_chain.specs.Chains.{CanGoOn, HasBegun}
use Rattle.st_chain.specs.Walk.{word_in, is_held}
use Rattle.st_chain.specs.Copying.{over}
use Rattle.st_chain.specs.Seen.{joined}
use Rattle.st_chain.specs.Taking.{Taking, threads_of, frames_of, WillExport, Suspends, Gives as CanGive, AllApart}
use Rattle.st_standing.specs.Standing.{StandsOn, AtCall, AtLast}
use Rattle.st_serving.specs.Serving.{back}
use Rattle.st_moving.specs.Moving.{AtPoll}
use Rattle.st_framed.specs.Framed.{Framed, IsElsewhere}
use Rattle.st_cargo.specs.Cargo.{HasFrames}
use Rattle.st_run.specs.Meanings.{IsAt}
use Rattle.st_phases.specs.declared.automaton.Automaton.{Automaton}
use Rattle.st_phases.specs.declared.phase.Leaving.{Leaving}
use Rattle.st_phases.specs.Leaving.{item_place}
use Rattle.st_fits.specs.Before.{is_at_entry, after}

-- the machine, over the words that the worker holds
abbrev pub now : Automaton → View → Situation
now x u = over u.held x.machine

abbrev pub ends_of : State → Ends
ends_of m = record { lo = m.lo; hi = m.hi; sp = register m registers.Sp; gp = register m registers.Gp }

-- ---- threads

-- it can go on, and its next item isn't begun
pub record IsPlain (t : Known) : Type 0 where
  pub going : t.thread.standing ≡ Going
  pub not_yet : t.begun ≡ false

-- its next item is begun, and isn't made
pub record IsOpen (t : Known) : Type 0 where
  pub going : t.thread.standing ≡ Going
  pub begun : t.begun ≡ true

abbrev pub ArePlain : List Known → Type 0
ArePlain ts = (t : Known) → Contains ts t → IsPlain t

-- ---- frames

-- where the frames of its threads lie, with these ends of the stack; it has made so many bytes of them at least as are used
pub record Lies (x : Automaton) (u : View) (ends : Ends) (frames : List Frame) : Type 0 where
  pub framed : Framed x.stack ends frames
  pub used : x.stack.hi ≤ ends.sp + u.frame_bytes
  pub away : (f : Frame) → Contains frames f → IsElsewhere x.stack.lo x.stack.hi f → Contains u.away f

-- these are all leased frames whose words it holds
abbrev pub Leases : View → List Frame → Type 0
Leases u frames = (f : Frame) → IsLeased u f → Holds u (return_place f) → Contains frames f

-- ---- the threads stand

-- the top thread, its frames, and the threads below it with theirs, as it is said; beside them the worker has only these leased frames
pub record Stands (At : Known → List Frame → List Known → List (List Frame) → Type 0) (x : Automaton) (u : View) (ends : Ends) (others : List Frame) : Type 0 where
  pub top : Known
  pub below : List Known
  pub is : u.threads ≡ top ∷ below
  pub frames : List Frame
  pub lower : List (List Frame)
  pub at : At top frames below lower
  pub plain : ArePlain below
  pub lies : Lies x u ends (joined (frames ∷ lower))
  pub leases : Leases u (joined (frames ∷ lower) ++ others)
  pub apart : (f g : Frame) → Contains (joined (frames ∷ lower)) f → Contains others g → Apart f g

-- there is none
pub record HasNone (x : Automaton) (u : View) (others : List Frame) : Type 0 where
  pub is : u.threads ≡ []
  pub place : x.machine.pc + 4 < 2 ^ 32
  pub lies : Lies x u (ends_of x.machine) []
  pub leases : Leases u others

-- the frames of a chain that may come to run are apart, and those on the worker's own stack are exported
pub record MayCome (x : Automaton) (u : View) (fs : List Frame) : Type 0 where
  pub apart : AllApart fs
  pub some : (f : Frame) → Contains fs f → f.low < f.base
  pub others : (f : Frame) → Contains fs f → Contains x.stack.exported f ⊎ IsElsewhere x.stack.lo x.stack.hi f

-- a number that is stored isn't 0 where a leased frame has its return word
abbrev pub Spares : Program → Data → View → Situation → Type 0
Spares p d u s = (ins : Ins) (q n : ℕ) (m : State) → code_at Postprocessed p s.state.pc ≡ Some ins → move_of d s.state ins ≡ Writes q n m → n ≡ 0 → (f : Frame) → IsLeased u f → return_place f ≢ q

-- so many instructions, all of them inside of items, lead from one situation to another
abbrev pub WayTo : Program → Data → View → ℕ → Situation → Situation → Type 0
WayTo p d u zero s t = s ≡ t
WayTo p d u (suc n) s t = IsInside Postprocessed p s.state × Spares p d u s × ((r : Situation) × Makes Postprocessed p d (is_held u.held) s r × WayTo p d u n r t)

module _ (p : Program) (d : Data) where
  -- where a worker polls
  abbrev pub AtRest : Automaton → View → Known → List Frame → List Known → List (List Frame) → Type 0
  AtRest x u t fs ts rest = IsPlain t × AtPoll p u.names (is_held u.held) (ends_of x.machine) (now x u) t fs ts rest

  abbrev pub Polls : Automaton → View → List Frame → Type 0
  Polls x u others = Stands (AtRest x u) x u (ends_of x.machine) others

  -- or there is no thread
  abbrev pub Rests : Automaton → View → List Frame → Type 0
  Rests x u others = HasNone x u others ⊎ Polls x u others

  -- the top thread's next item has called an entry
  abbrev pub HasCalled : ℕ → Automaton → View → Known → List Frame → List Known → List (List Frame) → Type 0
  HasCalled entry x u t fs ts rest = IsOpen t × AtCall p u.names (is_held u.held) (ends_of x.machine) (now x u) t fs ts rest entry

  abbrev pub IsCalled : ℕ → Automaton → View → Type 0
  IsCalled entry x u = Stands (HasCalled entry x u) x u (ends_of x.machine) []

  -- or it ends its thread, whose last frame is gone
  abbrev pub IsAtEnd : View → Ends → Situation → ℕ → Known → List Frame → List Known → List (List Frame) → Type 0
  IsAtEnd u ends s value t fs ts rest = IsOpen t × (fs ≡ []) × EndsWith p d t value × AtLast p u.names (is_held u.held) ends s t.note.cell value ts rest

  abbrev pub Lasts : Automaton → View → Ends → Situation → Type 0
  Lasts x u ends s = (value : ℕ) × Stands (IsAtEnd u ends s value) x u ends []

  -- ---- on the way through an item

  -- the top thread stands at its next item
  abbrev pub IsAtItem : View → Ends → Situation → Known → List Frame → List Known → List (List Frame) → Type 0
  IsAtItem u ends s t fs ts rest = IsPlain t × StandsOn p u.names (is_held u.held) ends s t fs ts rest

  abbrev pub Comes : Automaton → View → Ends → Situation → Type 0
  Comes x u ends s = Stands (IsAtItem u ends s) x u ends [] × IsLimit x.stack.hi x.stack.exported ends.gp

  abbrev pub Arrives : Automaton → View → Ends → Situation → Type 0
  Arrives x u ends s = Comes x u ends s ⊎ Lasts x u ends s

  -- the rest of an item's way
  pub record OnItsWay (x : Automaton) (u : View) : Type 0 where
    pub left : ℕ
    pub few : left ≤ 20
    pub last : Situation
    pub ends : Ends
    pub way : WayTo p d u left (now x u) last
    pub arrives : Arrives x u ends last

  -- the way of an item that marks a leased frame, up to the mark, and behind it, where the frame is given up
  pub record ToMark (x : Automaton) (u : View) : Type 0 where
    pub frame : Frame
    pub leased : IsLeased u frame
    pub holds : (q : ℕ) → Inside frame q → Holds u q
    pub left : ℕ
    pub few : left ≤ 20
    pub mark : Situation
    pub way : WayTo p d u left (now x u) mark
    pub words : mark.word ≡ word_in u.held
    pub whole : mark.state.half ≡ None
    pub marks : IsAtMark d (code_at Postprocessed p) frame.base mark
    pub inside : IsBehind Postprocessed p mark.state.pc
    pub further : ℕ
    pub few_more : further ≤ 1
    pub last : State
    pub rest : NeedsNoWords Postprocessed p d (suc further) (goes_on mark.state) last
    pub ends : Ends
    pub arrives : Arrives x (after p d u (Mark (return_place frame)) Done) ends (over (after p d u (Mark (return_place frame)) Done).held last)

  -- at an entry that needs no step of the board before its item: behind it the top thread is at its next item
  pub record IsPolling (x : Automaton) (u : View) : Type 0 where
    pub at : x.machine.pc ≡ 0x80
    pub goes : Polls (record x { machine = back x.machine }) u []

  -- at another one
  pub record IsCalling (x : Automaton) (u : View) : Type 0 where
    pub entry : ℕ
    pub other : is_at_entry entry ≡ true
    pub called : IsCalled entry x u

  abbrev pub Runs : Automaton → View → Type 0
  Runs x u = OnItsWay x u ⊎ (ToMark x u ⊎ (IsPolling x u ⊎ IsCalling x u))

  -- ---- a thread is taken out

  -- what its Trap word will say of it: that it waits, or by what it has stopped
  abbrev pub OfKind : Leaving → Known → Waiting → Type 0
  OfKind leaving t waits.Trapped = stop_kind t.thread.standing ≡ Some leaving.kind
  OfKind leaving t wait = leaving.kind ≡ 0

  -- what the taking is of
  pub record IsOf (x : Automaton) (u : View) (t : Taking) : Type 0 where
    pub program : t.p ≡ p
    pub source : t.d ≡ data_of d.rodata []
    pub names : t.names ≡ u.names
    pub held : t.held ≡ u.held
    pub threads : threads_of t ≡ u.threads
    -- where the frames lay when it began, and which of them may be exported then
    pub start : Exports
    pub lo : start.lo ≡ x.stack.lo
    pub hi : start.hi ≡ x.stack.hi
    pub framed : Framed start (ends_of x.machine) (joined (frames_of t))
    pub will : WillExport start t.frames t.exported
    pub were : (f : Frame) → Contains start.exported f → Contains x.stack.exported f
    pub used : x.stack.hi ≤ register x.machine registers.Sp + u.frame_bytes
    pub away : (f : Frame) → Contains (joined (frames_of t)) f → IsElsewhere x.stack.lo x.stack.hi f → Contains u.away f
    pub leases : Leases u (joined (frames_of t))

  -- the top one, which waits so
  pub record Leaves (leaving : Leaving) (x : Automaton) (u : View) : Type 0 where
    pub t : Taking
    pub n : ℕ
    pub of : IsOf x u t
    pub suspends : Suspends t leaving.wait x.threads.notes x.threads.open x.machine x.stack (suc n)
    pub wait : t.wait ≡ leaving.wait
    pub waits : WaitsAt p d u t.taken leaving.wait
    pub kind : OfKind leaving t.taken leaving.wait
    -- it can go on there, and whether its item is begun is as it has to be
    pub can : CanGoOn p leaving.wait t.taken.thread
    pub begun : HasBegun leaving.wait t.taken.begun
    -- its item is where its Trap word will say
    pub place : IsAt p t.taken.thread.activations (item_place t.place leaving.at_call)
    pub below : x.machine.pc + 4 < 2 ^ 32
    pub plain : ArePlain t.below

  -- the bottom one; the top one was where a worker polls, over the words that were held then
  pub record GivesOut (x : Automaton) (u : View) : Type 0 where
    pub t : Taking
    pub n : ℕ
    pub of : IsOf x u t
    pub gives : CanGive t x.threads.notes x.threads.open x.machine x.stack (suc n)
    pub plain : ArePlain u.threads
    pub first : List (Option ℕ)
    pub top : Known
    pub rest : List Known
    pub is_top : threads_of t ≡ top ∷ rest
    pub frames : List Frame
    pub lower : List (List Frame)
    pub are_frames : frames_of t ≡ frames ∷ lower
    pub polls : AtPoll p u.names (is_held first) (ends_of x.machine) (over first x.machine) top frames rest lower

  -- ---- a chain is in the turn

  -- the only one, with these words; its frames are leased, and the worker holds them
  pub record Carries (u : View) (chain : Chain) (standing : Option ℕ) (x : Carried) (fs : List Frame) : Type 0 where
    pub only : u.chains ≡ x ∷ []
    pub has : HasFrames p d u chain x fs
    pub stands : x.standing ≡ standing
    pub below : chain.cell < u.cells
