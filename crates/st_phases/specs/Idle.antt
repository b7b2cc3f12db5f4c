-- What the phases of a worker's round without a thread do to it, and what its turn comes to then.
use Rattle.std.specs.Prelude.{◌≡◌, ℕ, ◌+◌, ◌%◌, ◌==◌, Bool, true, false, ◌&&◌, ◌||◌, List, [], ◌∷◌, Option, Some, None, is_some, if◌then◌else◌}
use Rattle.std.specs.Int.{from_bool}
use Rattle.st_base.specs.declared.chain.Chain.{Chain}
use Rattle.st_base.specs.declared.chain.Frame.{Frame}
use Rattle.st_words.specs.declared.view.Cargo.{Cargo}
use Rattle.st_words.specs.declared.view.Slot.TheVariants.{Cell}
use Rattle.st_words.specs.Steps.{Step, StopLoad, RootTake, RequestChange, MailStore, SlotTake, Answer, Done, Number, Took}
use Rattle.st_words.specs.Encodings.{asking, waiting, given, refused}
use Rattle.st_stack.specs.declared.stack.Shrunk.{Shrunk}
use Rattle.st_stack.specs.declared.stack.Shrunk.TheVariants as shrunks
use Rattle.st_phases.specs.declared.automaton.Automaton.{Automaton}
use Rattle.st_phases.specs.declared.phase.Behind.{Behind}
use Rattle.st_phases.specs.declared.phase.Behind.TheVariants as behinds
use Rattle.st_phases.specs.declared.phase.Phase.{Phase}
use Rattle.st_phases.specs.declared.phase.Phase.TheVariants as phases
use Rattle.st_phases.specs.declared.turn.Point.TheVariants as points
use Rattle.st_phases.specs.declared.turn.Turn.{Turn}
use Rattle.st_phases.specs.declared.turn.Turn.TheVariants.{Ran, Idle, Over}
use Rattle.st_phases.specs.Automaton.{with_phase, with_ready}
use Rattle.st_phases.specs.Waking.{NeverEmpty}
use Rattle.st_phases.specs.Polling.{heeded, with_sp}
use Rattle.st_phases.specs.Coming.{TakesOn}

-- ---- frames are taken back

abbrev pub over_or_idle : ℕ → Turn
over_or_idle found = if found == 0 then Idle found else Over found

-- the stop word is read
abbrev pub ReadsStop : {Board : Type 0} → (Step → Answer → Board → Type 0) → Automaton → Turn → Automaton → Board → Type 0
ReadsStop made x turn y new = (found : ℕ) × made StopLoad (Number found) new × (y ≡ heeded phases.Active found x) × (turn ≡ over_or_idle found)

abbrev pub IsShrunkIdle : Shrunk → Automaton → Automaton → Type 0
IsShrunkIdle shrunks.More x y = (y ≡ record x { stack = y.stack }) × (y.stack.lo ≡ x.stack.lo) × (y.stack.hi ≡ x.stack.hi)
IsShrunkIdle (shrunks.Done sp) x y = (y ≡ with_phase phases.Stop (with_sp sp (record x { stack = y.stack }))) × (y.stack.lo ≡ x.stack.lo) × (y.stack.hi ≡ x.stack.hi)

-- the exported frame of least low end is looked at; where there is none (true), the stop word is read in this turn
abbrev pub RoundBegins : {Board : Type 0} → (List Frame → List Frame → Option Frame → Shrunk → Board → Type 0) → (Step → Answer → Board → Type 0) → Bool → Automaton → Turn → Automaton → Board → Type 0
RoundBegins shrinks made false x turn y new = (shrunk : Shrunk) × shrinks x.stack.exported y.stack.exported None shrunk new × IsShrunkIdle shrunk x y × (turn ≡ Ran points.Step)
RoundBegins shrinks made true x turn y new = ReadsStop made (with_sp x.machine.hi x) turn y new

-- ---- the places of a round

abbrev pub active_read : ℕ → Automaton → Automaton
active_read found x = if found == 0 then x else with_phase phases.Own x

abbrev pub active_turn : ℕ → Turn
active_turn found = if found == 0 then Over found else Idle found

abbrev pub root_taken : Bool → Automaton → Automaton
root_taken true x = with_phase phases.First x
root_taken false x = with_phase phases.Request x

abbrev pub root_turn : Bool → Turn
root_turn true = Ran points.Step
root_turn false = Idle 0

abbrev pub request_read : Option ℕ → Automaton → Automaton
request_read (Some asker) x = with_phase (phases.Answering asker) x
request_read None x = with_phase phases.Mail x

abbrev pub request_turn : Option ℕ → Turn
request_turn (Some asker) = Ran points.Polled
request_turn None = Idle 0

-- the chain of the own ready number that came first is taken, or, where there is none, the Root word
abbrev pub MayTakeOwn : (Step → Type 0) → (Step → Answer → Type 0) → List ℕ → Type 0
MayTakeOwn asks says [] = asks RootTake
MayTakeOwn asks says (cell ∷ cells) = asks (SlotTake (Cell cell)) × NeverEmpty (says (SlotTake (Cell cell)))

abbrev pub TakesOwn : {Board : Type 0} → (Step → Answer → Board → Type 0) → List ℕ → Automaton → Turn → Automaton → Board → Type 0
TakesOwn made [] x turn y new = (found : Bool) × made RootTake (Number (from_bool found)) new × (y ≡ root_taken found x) × (turn ≡ root_turn found)
TakesOwn made (cell ∷ cells) x turn y new =
    (cargo : Cargo) × (chain : Chain) × made (SlotTake (Cell cell)) (Took (Some chain) cargo) new × (y ≡ with_phase (phases.Coming chain) (with_ready cells x)) × (turn ≡ Ran points.Step)

-- ---- mail

-- no request of its own stands any more, since it was answered
abbrev pub no_request : Phase → Automaton → Automaton
no_request phase x = record x { asked = None; begun = false; phase = phase }

-- no answer has come: with one worker, or where the answer has begun, none is asked
abbrev pub seventh_or_round : Automaton → Phase
seventh_or_round x = if (x.workers == 1) || x.begun then phases.Settled else phases.Seventh

abbrev pub mail_read : ℕ → Automaton → Automaton
mail_read found x =
    if is_some x.asked && (found == given) then no_request phases.Opening x else (if is_some x.asked && (found == refused) then no_request (phases.Emptying behinds.Seventh) x else with_phase (seventh_or_round x) x)

abbrev pub mail_turn : ℕ → Automaton → Turn
mail_turn found x = if is_some x.asked && (found == given) then Ran points.Step else Idle found

abbrev pub TakesBehind : Behind → ℕ → Automaton → Turn → Automaton → Type 0
TakesBehind (behinds.Chain chain) main_at x turn y = TakesOn chain.wait chain main_at x turn y
TakesBehind behinds.Seventh main_at x turn y = (turn ≡ Ran points.Step) × (y ≡ with_phase phases.Seventh x)
TakesBehind behinds.Round main_at x turn y = (turn ≡ Ran points.Step) × (y ≡ with_phase phases.Settled x)

-- ---- requests

abbrev pub withdrawn : ℕ → Automaton → Automaton
withdrawn found x = if found == asking x.number then record x { asked = None; phase = phases.Emptying behinds.Round } else record x { begun = true; phase = phases.Settled }

abbrev pub withdraw_turn : ℕ → Automaton → Turn
withdraw_turn found x = if found == asking x.number then Ran points.Step else Idle found

-- a request that stands is withdrawn; where none stands, the own mail word becomes waiting
abbrev pub MaySeventh : (Step → Type 0) → Automaton → Option ℕ → Type 0
MaySeventh asks x (Some v) = asks (RequestChange v (asking x.number) 0)
MaySeventh asks x None = asks (MailStore x.number waiting)

abbrev pub Sevenths : {Board : Type 0} → (Step → Answer → Board → Type 0) → Automaton → Option ℕ → Turn → Automaton → Board → Type 0
Sevenths made x (Some v) turn y new = (found : ℕ) × made (RequestChange v (asking x.number) 0) (Number found) new × (y ≡ withdrawn found x) × (turn ≡ withdraw_turn found x)
Sevenths made x None turn y new = made (MailStore x.number waiting) Done new × (y ≡ with_phase phases.Placing x) × (turn ≡ Ran points.Step)

-- the others are asked in turn
abbrev pub not_own : ℕ → Automaton → ℕ
not_own v x = if v == x.number then (v + 1) % x.workers else v

abbrev pub next_other : Automaton → ℕ
next_other x = not_own ((x.last + 1) % x.workers) x

abbrev pub asked_at : ℕ → Automaton → Automaton
asked_at found x = record x { last = next_other x; asked = if found == 0 then Some (next_other x) else x.asked; phase = phases.Settled }

abbrev pub ask_turn : ℕ → Turn
ask_turn found = if found == 0 then Ran points.Asked else Idle found
