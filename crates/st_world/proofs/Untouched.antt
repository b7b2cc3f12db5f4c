-- What a step doesn't touch of a view: after_merged. The view after a step is the one before, but for the parts that a step of its kind may change (merged). So a part that a
-- kind of step doesn't change is seen to stay by cases on the step alone.
use Rattle.std.proofs.Common.{◌≡◌, ℕ, zero, suc, Bool, true, false, Option, Some, None, refl, ◌==◌, ◌&&◌, ◌||◌, is_some}
use Rattle.st_words.specs.declared.view.CellWord.{CellWord}
use Rattle.st_words.specs.declared.view.CellWord.TheVariants.{Owner, State, Value, Next, Standing, Trap}
use Rattle.st_words.specs.declared.view.Slot.TheVariants.{Cell, Mail}
use Rattle.st_words.specs.declared.view.Cargo.{Cargo}
use Rattle.st_words.specs.declared.view.Loaded.TheVariants as loaded
use Rattle.st_words.specs.declared.view.View.{View}
use Rattle.st_words.specs.Encodings.{full_word, head_in, running, ready, given, refused}
use Rattle.st_words.specs.Steps.{Step, StackStore, Mark, Look, CellLoad, CellStore, CellChange, Draw, ActiveAdd, ActiveLoad, StopLoad, StopSet, RootTake, RequestChange, MailLoad, MailStore, SlotTake, SlotPut, OutLoad, Answer, Done, Number, Looked, Took}
use Rattle.st_words.specs.Views as views
use Rattle.st_words.specs.Views.{view_after, frame_returning, has_number, in_hand}

-- the view u with what a step of this kind may change as in x
abbrev pub merged : Step → View → View → View
merged (StackStore p n) x u = record u { held = x.held }
merged (Mark p) x u = record u { held = x.held; away = x.away }
merged (Look p) x u = record u { held = x.held; exported = x.exported }
merged (CellLoad c Owner) x u = record u { loaded = x.loaded; owners = x.owners }
merged (CellLoad c State) x u = record u { loaded = x.loaded; counts = x.counts; full = x.full }
merged (CellLoad c Value) x u = record u { loaded = x.loaded; values = x.values }
merged (CellLoad c Next) x u = record u { loaded = x.loaded; hand = x.hand }
merged (CellLoad c word) x u = record u { loaded = x.loaded }
merged (CellStore c Owner n) x u = record u { drawn = x.drawn; child = x.child; owners = x.owners; names = x.names }
merged (CellStore c Value n) x u = record u { valued = x.valued }
merged (CellStore c Next n) x u = record u { hand = x.hand }
merged (CellStore c Standing n) x u = record u { hand = x.hand; ready = x.ready; share = x.share; child = x.child; chains = x.chains }
merged (CellStore c Trap n) x u = record u { chains = x.chains }
merged (CellChange c old new) x u = record u { counts = x.counts; full = x.full; filled = x.filled; hand = x.hand }
merged Draw x u = record u { drawn = x.drawn }
merged (ActiveAdd up) x u = record u { share = x.share }
merged ActiveLoad x u = record u { loaded = x.loaded; inactive = x.inactive }
merged StopLoad x u = record u { loaded = x.loaded; stop = x.stop }
merged (StopSet code) x u = record u { stop = x.stop }
merged RootTake x u = record u { root = x.root }
merged (RequestChange at old new) x u = record u { asked = x.asked; answering = x.answering }
merged MailLoad x u = record u { mail = x.mail; asked = x.asked; given = x.given }
merged (MailStore at n) x u = record u { mail = x.mail; answering = x.answering }
merged (SlotTake (Cell c)) x u = record u { held = x.held; away = x.away; chains = x.chains; names = x.names; share = x.share; ready = x.ready; hand = x.hand; root = x.root }
merged (SlotTake (Mail at)) x u = record u { held = x.held; away = x.away; chains = x.chains; names = x.names; share = x.share; given = x.given }
merged (SlotPut (Cell c) chain cargo) x u = record u { held = x.held; away = x.away; chains = x.chains; share = x.share; hand = x.hand }
merged (SlotPut (Mail at) chain cargo) x u = record u { held = x.held; away = x.away; chains = x.chains; share = x.share; answering = x.answering }
merged (OutLoad i) x u = record u { loaded = x.loaded }
merged s x u = u

-- it does so
abbrev Is : Step → View → View → Type 0
Is s u v = v ≡ merged s v u

-- ---- by what a step tests

pub by_bool : (P : Bool → Type 0) → P true → P false → (b : Bool) → P b
by_bool P t f true = t
by_bool P t f false = f

pub by_number : (P : ℕ → Type 0) → P 0 → ((n : ℕ) → P (suc n)) → (n : ℕ) → P n
by_number P z s zero = z
by_number P z s (suc n) = s n

pub by_option : {X : Type 0} (P : Option X → Type 0) → P None → ((x : X) → P (Some x)) → (o : Option X) → P o
by_option P n s None = n
by_option P n s (Some x) = s x

-- ---- State words

abbrev Changes : View → View → Type 0
Changes u v = v ≡ record u { counts = v.counts; full = v.full; filled = v.filled; hand = v.hand }

changes_future : (c old new : ℕ) (b : Bool) (u : View) → Changes u (views.changed_future c old new b u)
changes_future c old new true u = refl
changes_future c old new false u = refl

changes_counter : (c old new : ℕ) (b : Bool) (u : View) → Changes u (views.changed_counter c old new b u)
changes_counter c old new true u = refl
changes_counter c old new false u = refl

changes_by : (counter : Bool) (c old new : ℕ) (u : View) → Changes u (views.changed_by counter c old new u)
changes_by true c old new u = changes_counter c old new (head_in new == 0) u
changes_by false c old new u = changes_future c old new (new == full_word) u

changes_state : (kind : Option Bool) (c n : ℕ) (u : View) → Changes u (views.with_state_by kind c n u)
changes_state None c n u = refl
changes_state (Some true) c n u = refl
changes_state (Some false) c n u = by_bool (λ b. Changes u (views.state_when c n false b u)) refl refl (n == full_word)

changes : (b : Bool) (c old new n : ℕ) (u : View) → Changes u (views.cell_changed b c old new n u)
changes true c old new n u = changes_by (views.counts_cell (views.owner_seen c u.owners)) c old new u
changes false c old new n u = changes_state (views.kind_seen c u) c n u

-- ---- by the kind of step

loads_state : (kind : Option Bool) (c n : ℕ) (u : View) → Is (CellLoad c State) u (views.note_loaded (loaded.Cell c State) n (views.with_state_by kind c n u))
loads_state None c n u = refl
loads_state (Some true) c n u = refl
loads_state (Some false) c n u = by_bool (λ b. Is (CellLoad c State) u (views.note_loaded (loaded.Cell c State) n (views.state_when c n false b u))) refl refl (n == full_word)

loads : (c : ℕ) (word : CellWord) (n : ℕ) (u : View) → Is (CellLoad c word) u (views.note_loaded (loaded.Cell c word) n (views.cell_seen c word n u))
loads c Owner n u = by_number (λ k. Is (CellLoad c Owner) u (views.note_loaded (loaded.Cell c Owner) n (views.with_owner c k u))) refl (λ k. refl) n
loads c State n u = loads_state (views.kind_seen c u) c n u
loads c Value n u = by_bool (λ b. Is (CellLoad c Value) u (views.note_loaded (loaded.Cell c Value) n (views.with_value c n b u))) refl refl (has_number u.full c)
loads c Next n u = refl
loads c Standing n u = refl
loads c Trap n u = refl

stands : (a b : Bool) (c n : ℕ) (u : View) → Is (CellStore c Standing n) u (views.made_ready a c (views.made_running b c (record u { chains = views.with_standing c n u.chains })))
stands true true c n u = refl
stands true false c n u = refl
stands false true c n u = refl
stands false false c n u = refl

stores : (c : ℕ) (word : CellWord) (n : ℕ) (u : View) → Is (CellStore c word n) u (views.cell_stored c word n u)
stores c Owner n u = refl
stores c State n u = refl
stores c Value n u = refl
stores c Next n u = refl
stores c Standing n u = stands ((n == ready) && in_hand c u.hand) (n == running) c n u
stores c Trap n u = refl

looks : (p n : ℕ) (cargo : Cargo) (u : View) → Is (Look p) u (views.looked p n cargo u)
looks p zero cargo u = by_option (λ o. Is (Look p) u (views.taken_back p cargo.words o u)) refl (λ f. refl) (frame_returning p u.exported)
looks p (suc n) cargo u = refl

tries : (code n : ℕ) (u : View) → Is (StopSet code) u (views.stop_tried code n u)
tries code zero u = by_number (λ k. Is (StopSet code) u (views.with_stop k u)) refl (λ k. refl) code
tries code (suc n) u = refl

requests : (a b : Bool) (at old new : ℕ) (u : View) → Is (RequestChange at old new) u (views.requested a at old new u)
requests false b at old new u = refl
requests true b at old new u = by_bool (λ k. Is (RequestChange at old new) u (views.request_by k at old new u))
    (by_number (λ k. Is (RequestChange at old k) u (views.own_request old k u)) refl (λ k. refl) new)
    (by_number (λ k. Is (RequestChange at old k) u (views.other_request at k u)) refl (λ k. refl) new) (at == u.number)

-- another answer leaves the view
itself : (s : Step) (u : View) → Is s u u
itself (CellLoad c Owner) u = refl
itself (CellStore c Owner n) u = refl
itself (SlotTake (Cell c)) u = refl
itself (SlotTake (Mail at)) u = refl
itself (SlotPut (Cell c) chain cargo) u = refl
itself (SlotPut (Mail at) chain cargo) u = refl
itself s u = refl

pub after_merged : (u : View) (s : Step) (a : Answer) → view_after u s a ≡ merged s (view_after u s a) u
unfolding view_after
after_merged u (StackStore p n) Done = refl
after_merged u (Mark p) Done = refl
after_merged u (Look p) (Looked n cargo) = looks p n cargo u
after_merged u (CellLoad c word) (Number n) = loads c word n u
after_merged u (CellStore c word n) Done = stores c word n u
after_merged u (CellChange c old new) (Number n) = changes (n == old) c old new n u
after_merged u Draw (Number n) = refl
after_merged u (ActiveAdd up) (Number n) = refl
after_merged u ActiveLoad (Number n) = by_number (λ k. Is ActiveLoad u (views.note_loaded loaded.Active n (views.with_active k u))) refl (λ k. refl) n
after_merged u StopLoad (Number n) = by_number (λ k. Is StopLoad u (views.note_loaded loaded.Stop n (views.with_stop k u))) refl (λ k. refl) n
after_merged u (StopSet code) (Number n) = tries code n u
after_merged u RootTake (Number n) = by_number (λ k. Is RootTake u (views.root_tried k u)) refl (λ k. refl) n
after_merged u (RequestChange at old new) (Number n) = requests (n == old) true at old new u
after_merged u MailLoad (Number n) = by_bool (λ b. Is MailLoad u (views.mail_when b n u)) refl refl (is_some u.asked && ((n == given) || (n == refused)))
after_merged u (MailStore at n) Done = by_bool (λ b. Is (MailStore at n) u (views.mail_sent b n u)) refl refl (at == u.number)
after_merged u (SlotTake (Cell c)) (Took chain cargo) = by_option (λ o. Is (SlotTake (Cell c)) u (views.took (Cell c) o cargo u)) refl (λ k. refl) chain
after_merged u (SlotTake (Mail at)) (Took chain cargo) = by_option (λ o. Is (SlotTake (Mail at)) u (views.took (Mail at) o cargo u)) refl (λ k. refl) chain
after_merged u (SlotPut (Cell c) chain cargo) Done = refl
after_merged u (SlotPut (Mail at) chain cargo) Done = refl
after_merged u (OutLoad i) (Number n) = refl
after_merged u s a = itself s u
