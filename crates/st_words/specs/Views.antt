-- What a step does to the view of the worker that makes it: view_after, which is a function, so that a caller can name the view after each
-- answer. Does is what every board asks of the view that is named; it leaves the threads and the two numbers of items and of frame bytes
-- open, since what becomes of these is the program's. Keeps lists what each kind of step does not touch.
use Rattle.std.specs.Prelude.{◌≡◌, ℕ, zero, suc, ◌+◌, ◌-◌, Bool, true, false, not, ◌&&◌, ◌||◌, ◌==◌, nat_lt, nat_le, List, [], ◌∷◌, ◌++◌, map, is_some, Option, Some, None, slice_set, if◌then◌else◌}
use Rattle.std.specs.List.{filter}
use Rattle.st_base.specs.declared.chain.Chain.{Chain}
use Rattle.st_base.specs.declared.thread.Held.{Held}
use Rattle.st_base.specs.declared.thread.Held.TheVariants as held
use Rattle.st_base.specs.declared.thread.Standing.TheVariants as standings
use Rattle.st_base.specs.declared.chain.Frame.{Frame}
use Rattle.st_base.specs.declared.chain.Waiting.{Waiting}
use Rattle.st_base.specs.declared.chain.Waiting.TheVariants as waits
use Rattle.st_words.specs.declared.view.CellWord.{CellWord}
use Rattle.st_words.specs.declared.view.CellWord.TheVariants.{Owner, State, Value, Next, Standing, Trap}
use Rattle.st_words.specs.declared.view.Slot.{Slot}
use Rattle.st_words.specs.declared.view.Slot.TheVariants.{Cell, Mail}
use Rattle.st_words.specs.declared.view.Known.{Known}
use Rattle.st_words.specs.declared.view.Carried.{Carried}
use Rattle.st_words.specs.declared.view.Cargo.{Cargo}
use Rattle.st_words.specs.declared.view.Waiter.{Waiter}
use Rattle.st_words.specs.declared.view.Child.{Child}
use Rattle.st_words.specs.declared.view.Answering.{Answering}
use Rattle.st_words.specs.declared.view.Loaded.{Loaded}
use Rattle.st_words.specs.declared.view.Loaded.TheVariants as words
use Rattle.st_words.specs.declared.view.View.{View}
use Rattle.st_words.specs.Encodings.{is_counter, full_word, count_in, head_in, running, ready, given, refused}
use Rattle.st_words.specs.Steps.{Step, StackStore, Mark, Look, CellLoad, CellStore, CellChange, Draw, ActiveAdd, ActiveLoad, StopLoad, StopSet, RootTake, RequestChange, MailLoad, MailStore, SlotTake, SlotPut, OutLoad, Answer, Done, Number, Looked, Took, place_of, return_place, kept, home_of}

-- ---- lists by numbers

abbrev pub is_at : ℕ → ℕ × ℕ → Bool
is_at c entry = entry.0 == c

abbrev pub has_number : List ℕ → ℕ → Bool
has_number [] c = false
has_number (d ∷ ds) c = (d == c) || has_number ds c

abbrev pub without_number : ℕ → List ℕ → List ℕ
without_number c ds = filter (λ d. not (d == c)) ds

-- ---- held words

-- each held word is made anew, by its place from p on
abbrev pub remade : (ℕ → Option ℕ → Option ℕ) → ℕ → List (Option ℕ) → List (Option ℕ)
remade make p [] = []
remade make p (h ∷ hs) = make p h ∷ remade make (p + 1) hs

abbrev pub is_inside : Frame → ℕ → Bool
is_inside f p = nat_le (place_of f.low) p && nat_lt p (place_of f.base)

-- the words of a frame go out
abbrev pub held_without : Frame → List (Option ℕ) → List (Option ℕ)
held_without f held = remade (λ p h. if is_inside f p then None else h) 0 held

-- the words of a frame come in, with what is told of them
abbrev pub held_with : Frame → List (Option ℕ) → List (Option ℕ) → List (Option ℕ)
held_with f words held = remade (λ p h. if is_inside f p then kept words p else h) 0 held

abbrev pub first_word : Option ℕ → Option ℕ → Option ℕ
first_word None h = h
first_word (Some n) h = Some n

-- words come in
abbrev pub held_and : List (Option ℕ) → List (Option ℕ) → List (Option ℕ)
held_and words held = remade (λ p h. first_word (kept words p) h) 0 held

-- words go out
abbrev pub held_but : List (Option ℕ) → List (Option ℕ) → List (Option ℕ)
held_but words held = remade (λ p h. if is_some (kept words p) then None else h) 0 held

-- ---- frames

abbrev pub returns_at : ℕ → Frame → Bool
returns_at p f = return_place f == p

-- the first frame among these whose return word is at the place
abbrev pub frame_returning : ℕ → List Frame → Option Frame
frame_returning p [] = None
frame_returning p (f ∷ fs) = if returns_at p f then Some f else frame_returning p fs

abbrev pub without_returning : ℕ → List Frame → List Frame
without_returning p fs = filter (λ f. not (returns_at p f)) fs

abbrev pub is_among : List Frame → Frame → Bool
is_among [] f = false
is_among (g ∷ gs) f = ((g.low == f.low) && (g.base == f.base)) || is_among gs f

abbrev pub without_frames : List Frame → List Frame → List Frame
without_frames gone fs = filter (λ f. not (is_among gone f)) fs

-- those of other stacks than the worker's
abbrev pub foreign : View → List Frame → List Frame
foreign v fs = filter (λ f. not (home_of v.each (return_place f) == v.number)) fs

-- ---- mark and look

-- a leased frame is given up, another return word becomes 0
abbrev pub marked_held : ℕ → Option Frame → List (Option ℕ) → List (Option ℕ)
marked_held p (Some f) held = held_without f held
marked_held p None held = slice_set held p (Some 0)

abbrev pub marked : ℕ → View → View
marked p v = record v {
  held = marked_held p (frame_returning p (v.exported ++ v.away)) v.held;
  away = without_returning p v.away;
}

-- an exported frame that was given up is the worker's again
abbrev pub taken_back : ℕ → List (Option ℕ) → Option Frame → View → View
taken_back p words None v = v
taken_back p words (Some f) v = record v { held = held_with f words v.held; exported = without_returning p v.exported }

abbrev pub looked : ℕ → ℕ → Cargo → View → View
looked p zero cargo v = taken_back p cargo.words (frame_returning p v.exported) v
looked p (suc n) cargo v = v

-- ---- cells

abbrev pub note_loaded : Loaded → ℕ → View → View
note_loaded word n v = record v { loaded = (word, n) ∷ v.loaded }

-- the Owner word of a cell, where the worker has seen it
abbrev pub owner_seen : ℕ → List (ℕ × ℕ) → Option ℕ
owner_seen c [] = None
owner_seen c (entry ∷ entries) = if is_at c entry then Some entry.1 else owner_seen c entries

abbrev pub with_owner : ℕ → ℕ → View → View
with_owner c zero v = v
with_owner c (suc n) v = record v { owners = (c, suc n) ∷ v.owners }

abbrev pub state_when : ℕ → ℕ → Bool → Bool → View → View
state_when c n true is_full v = record v { counts = (c, count_in n) ∷ v.counts }
state_when c n false true v = record v { full = c ∷ v.full }
state_when c n false false v = v

-- a State word is read by what the worker knows of the cell
-- what the name of a cell tells: true for a counter
abbrev pub kind_of : Held → Option Bool
kind_of (held.Number n) = None
kind_of (held.Future path) = Some false
kind_of (held.Counter maker number) = Some true

abbrev pub kind_named : ℕ → List (Held × ℕ) → Option Bool
kind_named c [] = None
kind_named c (entry ∷ entries) = if entry.1 == c then kind_of entry.0 else kind_named c entries

-- whether the worker knows the cell for a counter or a future: by the Owner word that it saw, else by the cell's name
abbrev pub kind_by : Option ℕ → Option Bool → Option Bool
kind_by (Some owner) named = Some (is_counter owner)
kind_by None named = named

abbrev pub kind_seen : ℕ → View → Option Bool
kind_seen c v = kind_by (owner_seen c v.owners) (kind_named c v.names)

abbrev pub with_state_by : Option Bool → ℕ → ℕ → View → View
with_state_by None c n v = v
with_state_by (Some counter) c n v = state_when c n counter (n == full_word) v

abbrev pub with_state : ℕ → ℕ → View → View
with_state c n v = with_state_by (kind_seen c v) c n v

abbrev pub with_value : ℕ → ℕ → Bool → View → View
with_value c n true v = record v { values = (c, n) ∷ v.values }
with_value c n false v = v

-- all waiters of a future wait for the same; those of a counter don't
abbrev pub common_wait : Option Waiting → Option Waiting
common_wait (Some (waits.Touch cell)) = Some (waits.Touch cell)
common_wait _ = None

-- the next of a list that was handed out, by its number + 1
abbrev pub followed : Option Waiting → ℕ → List Waiter → List Waiter
followed wait zero hand = hand
followed wait (suc waiter) hand = record { cell = waiter; wait = wait; next = None; leads = true } ∷ hand

-- a waiter that leads a list has its Next word read: it leads no more, and the next one does
abbrev pub with_next : ℕ → ℕ → List Waiter → List Waiter
with_next c n [] = []
with_next c n (x ∷ xs) = if (x.cell == c) && x.leads then record x { leads = false } ∷ followed (common_wait x.wait) n xs else x ∷ with_next c n xs

abbrev pub cell_seen : ℕ → CellWord → ℕ → View → View
cell_seen c Owner n v = with_owner c n v
cell_seen c State n v = with_state c n v
cell_seen c Value n v = with_value c n (has_number v.full c) v
cell_seen c Next n v = record v { hand = with_next c n v.hand }
cell_seen c Standing n v = v
cell_seen c Trap n v = v

abbrev pub linked : ℕ → ℕ → List Waiter → List Waiter
linked c n hand = map (λ (x : Waiter). if x.cell == c then record x { next = Some n } else x) hand

abbrev pub in_hand : ℕ → List Waiter → Bool
in_hand c [] = false
in_hand c (x ∷ xs) = (x.cell == c) || in_hand c xs

abbrev pub without_waiter : ℕ → List Waiter → List Waiter
without_waiter c hand = filter (λ x. not (x.cell == c)) hand

-- the Trap and Standing words of a chain in the turn
abbrev pub with_trap : ℕ → ℕ → List Carried → List Carried
with_trap c n chains = map (λ (x : Carried). if x.known.note.cell == c then record x { trap = Some n } else x) chains

abbrev pub with_standing : ℕ → ℕ → List Carried → List Carried
with_standing c n chains = map (λ (x : Carried). if x.known.note.cell == c then record x { standing = Some n } else x) chains

-- a waiter in hand whose Standing becomes ready: a unit of the share is now its chain's
abbrev pub made_ready : Bool → ℕ → View → View
made_ready true c v = record v { hand = without_waiter c v.hand; ready = c ∷ v.ready; share = v.share - 1 }
made_ready false c v = v

-- the Standing word of the next child becomes 1
abbrev pub child_stands : ℕ → Option Child → Option Child
child_stands c None = None
child_stands c (Some x) = if x.cell == c then Some (record x { stands = true }) else Some x

abbrev pub made_running : Bool → ℕ → View → View
made_running true c v = record v { child = child_stands c v.child }
made_running false c v = v

abbrev pub stood : ℕ → ℕ → View → View
stood c n v = made_ready ((n == ready) && in_hand c v.hand) c (made_running (n == running) c (record v { chains = with_standing c n v.chains }))

-- a cell is named for the next counter or the next child of the top thread
abbrev pub name_for : Bool → Known → Held
name_for true t = held.Counter t.path t.note.counters
name_for false t = held.Future (t.path ++ t.note.forks ∷ [])

abbrev pub with_name : Bool → ℕ → List Known → List (Held × ℕ) → List (Held × ℕ)
with_name counter c [] names = names
with_name counter c (t ∷ ts) names = (name_for counter t, c) ∷ names

abbrev pub child_named : Bool → ℕ → Option Child → Option Child
child_named true c child = child
child_named false c child = Some (record { cell = c; stands = false })

abbrev pub named_cell : Bool → ℕ → ℕ → View → View
named_cell counter c n v = record v { drawn = without_number c v.drawn; child = child_named counter c v.child; owners = (c, n) ∷ v.owners; names = with_name counter c v.threads v.names }

abbrev pub other_cell : ℕ → ℕ × ℕ → Bool
other_cell c entry = not (is_at c entry)

abbrev pub cell_stored : ℕ → CellWord → ℕ → View → View
cell_stored c Owner n v = named_cell (is_counter n) c n v
cell_stored c State n v = v
cell_stored c Value n v = record v { valued = (c, n) ∷ filter (other_cell c) v.valued }
cell_stored c Next n v = record v { hand = linked c n v.hand }
cell_stored c Standing n v = stood c n v
cell_stored c Trap n v = record v { chains = with_trap c n v.chains }

-- a list of waiters is handed out, by its head
abbrev pub handed : Option Waiting → ℕ → View → View
handed wait head v = record v { hand = followed wait head v.hand }

-- a State word is changed: a future becomes full, its own thread's or not; a counter grows; or a waiter is parked
abbrev pub changed_future : ℕ → ℕ → ℕ → Bool → View → View
changed_future c old new true v = handed (Some (waits.Touch c)) old (record v { full = c ∷ v.full; filled = c ∷ v.filled })
changed_future c old new false v = record v { hand = without_waiter (new - 1) v.hand }

abbrev pub changed_counter : ℕ → ℕ → ℕ → Bool → View → View
changed_counter c old new true v = handed None (head_in old) (record v { counts = (c, count_in new) ∷ v.counts })
changed_counter c old new false v = record v { hand = without_waiter (head_in new - 1) v.hand }

abbrev pub changed_by : Bool → ℕ → ℕ → ℕ → View → View
changed_by true c old new v = changed_counter c old new (head_in new == 0) v
changed_by false c old new v = changed_future c old new (new == full_word) v

-- the worker knows the cell for a counter
abbrev pub counts_cell : Option ℕ → Bool
counts_cell None = false
counts_cell (Some owner) = is_counter owner

-- what a compare and exchange of a State word leaves, by what it found
abbrev pub cell_changed : Bool → ℕ → ℕ → ℕ → ℕ → View → View
cell_changed true c old new n v = changed_by (counts_cell (owner_seen c v.owners)) c old new v
cell_changed false c old new n v = with_state c n v

-- ---- shares, stops, the root

abbrev pub share_added : Bool → ℕ → ℕ
share_added true share = share + 1
share_added false share = share - 1

abbrev pub with_active : ℕ → View → View
with_active zero v = record v { inactive = true }
with_active (suc n) v = v

-- the stop code that was read, or that was found or written
abbrev pub with_stop : ℕ → View → View
with_stop zero v = v
with_stop (suc n) v = record v { stop = Some (suc n) }

abbrev pub stop_tried : ℕ → ℕ → View → View
stop_tried code zero v = with_stop code v
stop_tried code (suc n) v = with_stop (suc n) v

abbrev pub root_tried : ℕ → View → View
root_tried zero v = v
root_tried (suc n) v = record v { root = true }

-- ---- requests and mail

abbrev pub answered : Option Answering → Option Answering
answered None = None
answered (Some x) = Some (record x { told = true })

abbrev pub put_into_mail : Option Answering → Option Answering
put_into_mail None = None
put_into_mail (Some x) = Some (record x { put = true })

-- a request word is changed: the own one from a request to being answered, or from there to nothing; another's to or from its request
abbrev pub own_request : ℕ → ℕ → View → View
own_request old zero v = record v { answering = None }
own_request old (suc new) v = record v { answering = Some (record { asker = old - 1; put = false; told = false }) }

abbrev pub other_request : ℕ → ℕ → View → View
other_request at zero v = record v { asked = None }
other_request at (suc new) v = record v { asked = Some at }

abbrev pub request_by : Bool → ℕ → ℕ → ℕ → View → View
request_by true at old new v = own_request old new v
request_by false at old new v = other_request at new v

abbrev pub requested : Bool → ℕ → ℕ → ℕ → View → View
requested true at old new v = request_by (at == v.number) at old new v
requested false at old new v = v

-- an answer is read where a request stands
abbrev pub mail_when : Bool → ℕ → View → View
mail_when true n v = record v { mail = n; asked = None; given = n == given }
mail_when false n v = record v { mail = n }

abbrev pub mail_read : ℕ → View → View
mail_read n v = mail_when (is_some v.asked && ((n == given) || (n == refused))) n v

abbrev pub mail_sent : Bool → ℕ → View → View
mail_sent true n v = record v { mail = n }
mail_sent false n v = record v { answering = answered v.answering }

-- ---- slots

-- a chain that is taken comes into the turn with its frames, their words and its names
abbrev pub taken_in : Cargo → View → View
taken_in cargo v = record v {
  held = held_and cargo.words v.held;
  away = foreign v cargo.frames ++ v.away;
  chains = cargo.carried ∷ v.chains;
  names = cargo.names ++ v.names;
  share = v.share + cargo.unit;
}

abbrev pub seen_waiting : ℕ → Waiting → List Waiter → List Waiter
seen_waiting c wait hand = map (λ (x : Waiter). if x.cell == c then record x { wait = Some wait } else x) hand

abbrev pub slot_taken : Slot → Cargo → View → View
slot_taken (Cell c) cargo v = record (taken_in cargo v) {
  ready = without_number c v.ready;
  hand = seen_waiting c cargo.carried.wait v.hand;
  root = v.root && not (c == 0);
}
slot_taken (Mail at) cargo v = record (taken_in cargo v) { given = false }

abbrev pub took : Slot → Option Chain → Cargo → View → View
took slot None cargo v = v
took slot (Some chain) cargo v = slot_taken slot cargo v

abbrev pub without_chain : ℕ → List Carried → List Carried
without_chain c chains = filter (λ x. not (x.known.note.cell == c)) chains

-- a chain that is put goes out of the turn with its frames and their words
abbrev pub put_out : ℕ → Cargo → View → View
put_out c cargo v = record v {
  held = held_but cargo.words v.held;
  away = without_frames cargo.frames v.away;
  chains = without_chain c v.chains;
  share = v.share - cargo.unit;
}

-- a waiting chain's number is in the hand from then on
abbrev pub waiter_of : ℕ → Waiting → List Waiter → List Waiter
waiter_of c (waits.Touch cell) hand = if in_hand c hand then hand else record { cell = c; wait = Some (waits.Touch cell); next = None; leads = false } ∷ hand
waiter_of c (waits.Join cell least) hand = if in_hand c hand then hand else record { cell = c; wait = Some (waits.Join cell least); next = None; leads = false } ∷ hand
waiter_of c _ hand = hand

abbrev pub slot_put : Slot → Chain → Cargo → View → View
slot_put (Cell c) chain cargo v = record (put_out chain.cell cargo v) { hand = waiter_of c chain.wait v.hand }
slot_put (Mail at) chain cargo v = record (put_out chain.cell cargo v) { answering = put_into_mail v.answering }

-- ---- each step

-- the view after a step, by its answer
unfoldable pub view_after : View → Step → Answer → View
view_after v (StackStore p n) Done = record v { held = slice_set v.held p (Some n) }
view_after v (Mark p) Done = marked p v
view_after v (Look p) (Looked n cargo) = looked p n cargo v
view_after v (CellLoad c word) (Number n) = note_loaded (words.Cell c word) n (cell_seen c word n v)
view_after v (CellStore c word n) Done = cell_stored c word n v
view_after v (CellChange c old new) (Number n) = cell_changed (n == old) c old new n v
view_after v Draw (Number n) = record v { drawn = n ∷ v.drawn }
view_after v (ActiveAdd up) (Number n) = record v { share = share_added up v.share }
view_after v ActiveLoad (Number n) = note_loaded words.Active n (with_active n v)
view_after v StopLoad (Number n) = note_loaded words.Stop n (with_stop n v)
view_after v (StopSet code) (Number n) = stop_tried code n v
view_after v RootTake (Number n) = root_tried n v
view_after v (RequestChange at old new) (Number n) = requested (n == old) at old new v
view_after v MailLoad (Number n) = mail_read n v
view_after v (MailStore at n) Done = mail_sent (at == v.number) n v
view_after v (SlotTake slot) (Took chain cargo) = took slot chain cargo v
view_after v (SlotPut slot chain cargo) Done = slot_put slot chain cargo v
view_after v (OutLoad i) (Number n) = note_loaded (words.Out i) n v
view_after v _ _ = v

-- the threads and the two numbers of a view
pub record Progress : Type 0 where
  pub threads : List Known
  pub items : ℕ
  pub frame_bytes : ℕ

abbrev pub with_progress : Progress → View → View
with_progress x v = record v { threads = x.threads; items = x.items; frame_bytes = x.frame_bytes }

-- what every board asks of the view that is named: it is the view after the step, but for its threads and the two numbers
abbrev pub Does : View → Step → Answer → View → Type 0
Does v s a v' = (x : Progress) × (v' ≡ with_progress x (view_after v s a))

-- ---- what comes before a step

-- what a plain board leaves free before a step: the threads, the cell of the next child, the chains in the turn, the two numbers and the
-- exported frames
pub record Free : Type 0 where
  pub progress : Progress
  pub child : Option Child
  pub chains : List Carried
  pub exported : List Frame

abbrev pub with_free : Free → View → View
with_free x v = record (with_progress x.progress v) { child = x.child; chains = x.chains; exported = x.exported }

-- what a plain board asks of what comes before a step
abbrev pub IsFree : View → View → Type 0
IsFree v u = (x : Free) × (u ≡ with_free x v)

-- what goes with no chain
abbrev pub no_known : Known
no_known = record {
  note = record { cell = 0; forks = 0; counters = 0; bytes = 0 };
  path = [];
  thread = record { activations = []; registers = []; forks = 0; counters = 0; bytes = 0; standing = standings.Going };
  begun = false;
}

abbrev pub no_cargo : Cargo
no_cargo = record {
  carried = record { known = no_known; wait = waits.Ready; trap = None; standing = None };
  words = [];
  frames = [];
  names = [];
  unit = 0;
}
