-- What each step leaves of a view. Read no_item (a step with which no item goes), numbers (what each step leaves) and untouched (a step off the stack).
use Rattle.std.proofs.Common.{◌≡◌, ℕ, zero, suc, Bool, true, false, List, [], ◌∷◌, Option, Some, None, refl, ◌==◌, ◌&&◌}
use Rattle.st_base.specs.declared.chain.Chain.{Chain}
use Rattle.st_base.specs.declared.chain.Frame.{Frame}
use Rattle.st_base.specs.declared.limits.Limits.{Limits}
use Rattle.st_base.specs.declared.thread.Held.{Held}
use Rattle.st_words.specs.declared.view.Cargo.{Cargo}
use Rattle.st_words.specs.declared.view.CellWord.{CellWord}
use Rattle.st_words.specs.declared.view.CellWord.TheVariants.{Owner, State, Value, Next, Standing, Trap}
use Rattle.st_words.specs.declared.view.Known.{Known}
use Rattle.st_words.specs.declared.view.Slot.{Slot}
use Rattle.st_words.specs.declared.view.Slot.TheVariants.{Cell, Mail}
use Rattle.st_words.specs.declared.view.View.{View}
use Rattle.st_words.specs.Encodings.{full_word, head_in, is_counter, running, ready}
use Rattle.st_words.specs.Safely.{Safe}
use Rattle.st_words.specs.Steps.{Step, StackStore, Mark, Look, CellLoad, CellStore, CellChange, Draw, ActiveAdd, ActiveLoad, StopLoad, StopSet, RootTake, RequestChange, MailLoad, MailStore, OutStore, SlotTake, SlotPut, OutLoad, Answer, Done, Number, Looked, Took}
use Rattle.st_words.specs.Views as views
use Rattle.st_words.specs.Views.{view_after, has_number, in_hand, frame_returning}
use Rattle.st_words.proofs.Lists.{contains_later}
use Rattle.st_words.proofs.Sizes.{same_after}
use Rattle.st_model.specs.declared.program.Program.{Program}
use Rattle.st_model.specs.Memory.{Data}
use Rattle.st_made.specs.Events.{NoItem, Event}
use Rattle.st_chain.specs.Laws.{HasNames}
use Rattle.st_run.specs.Meanings.{meaning}
use Rattle.st_fits.specs.Before.{after, threads_after}
use Rattle.st_fits.specs.Laws.{MayAsk}
use Rattle.st_kept.specs.Keeping.{HasNoItem, NoItemLaws, SameNumbers, IsOffStack, Untouched, LeavingLaws}

-- ---- steps off the stack, by the definition of each

-- words, frames and the two numbers are the same, and the names that were known are
abbrev Same : View → View → Type 0
Same v u = (u.held ≡ v.held) × (u.exported ≡ v.exported) × (u.away ≡ v.away) × (u.items ≡ v.items) × (u.frame_bytes ≡ v.frame_bytes) × HasNames v.names u.names

-- a change of other fields
abbrev itself : (v : View) → Same v v
itself v = (refl, refl, refl, refl, refl, λ name c in'. in')

same_owner : (c n : ℕ) (v : View) → Same v (views.with_owner c n v)
same_owner c zero v = itself v
same_owner c (suc n) v = itself v

same_when : (c n : ℕ) (counts is_full : Bool) (v : View) → Same v (views.state_when c n counts is_full v)
same_when c n true is_full v = itself v
same_when c n false true v = itself v
same_when c n false false v = itself v

same_state : (kind : Option Bool) (c n : ℕ) (v : View) → Same v (views.with_state_by kind c n v)
same_state None c n v = itself v
same_state (Some counter) c n v = same_when c n counter (n == full_word) v

same_value : (c n : ℕ) (b : Bool) (v : View) → Same v (views.with_value c n b v)
same_value c n true v = itself v
same_value c n false v = itself v

same_seen : (c : ℕ) (word : CellWord) (n : ℕ) (v : View) → Same v (views.cell_seen c word n v)
same_seen c Owner n v = same_owner c n v
same_seen c State n v = same_state (views.kind_seen c v) c n v
same_seen c Value n v = same_value c n (has_number v.full c) v
same_seen c Next n v = itself v
same_seen c Standing n v = itself v
same_seen c Trap n v = itself v

same_ready : (b : Bool) (c : ℕ) (v : View) → Same v (views.made_ready b c v)
same_ready true c v = itself v
same_ready false c v = itself v

same_running : (b : Bool) (c : ℕ) (v : View) → Same v (views.made_running b c v)
same_running true c v = itself v
same_running false c v = itself v

same_stood : (a b : Bool) (c : ℕ) (v : View) → Same v (views.made_ready a c (views.made_running b c v))
same_stood true b c v = same_running b c v
same_stood false b c v = same_running b c v

more_names : (counter : Bool) (c : ℕ) (ts : List Known) (names : List (Held × ℕ)) → HasNames names (views.with_name counter c ts names)
more_names counter c [] names name cell in' = in'
more_names counter c (t ∷ ts) names name cell in' = contains_later _ _ names in'

same_stored : (c : ℕ) (word : CellWord) (n : ℕ) (v : View) → Same v (views.cell_stored c word n v)
same_stored c Owner n v = (refl, refl, refl, refl, refl, more_names (is_counter n) c v.threads v.names)
same_stored c State n v = itself v
same_stored c Value n v = itself v
same_stored c Next n v = itself v
same_stored c Standing n v = same_stood ((n == ready) && in_hand c v.hand) (n == running) c (record v { chains = views.with_standing c n v.chains })
same_stored c Trap n v = itself v

same_future : (c old new : ℕ) (b : Bool) (v : View) → Same v (views.changed_future c old new b v)
same_future c old new true v = itself v
same_future c old new false v = itself v

same_counter : (c old new : ℕ) (b : Bool) (v : View) → Same v (views.changed_counter c old new b v)
same_counter c old new true v = itself v
same_counter c old new false v = itself v

same_by : (counts : Bool) (c old new : ℕ) (v : View) → Same v (views.changed_by counts c old new v)
same_by true c old new v = same_counter c old new (head_in new == 0) v
same_by false c old new v = same_future c old new (new == full_word) v

same_changed : (b : Bool) (c old new n : ℕ) (v : View) → Same v (views.cell_changed b c old new n v)
same_changed true c old new n v = same_by (views.counts_cell (views.owner_seen c v.owners)) c old new v
same_changed false c old new n v = same_state (views.kind_seen c v) c n v

same_active : (n : ℕ) (v : View) → Same v (views.with_active n v)
same_active zero v = itself v
same_active (suc n) v = itself v

same_stop : (n : ℕ) (v : View) → Same v (views.with_stop n v)
same_stop zero v = itself v
same_stop (suc n) v = itself v

same_tried : (code n : ℕ) (v : View) → Same v (views.stop_tried code n v)
same_tried code zero v = same_stop code v
same_tried code (suc n) v = itself v

same_root : (n : ℕ) (v : View) → Same v (views.root_tried n v)
same_root zero v = itself v
same_root (suc n) v = itself v

same_own : (old new : ℕ) (v : View) → Same v (views.own_request old new v)
same_own old zero v = itself v
same_own old (suc new) v = itself v

same_other : (at new : ℕ) (v : View) → Same v (views.other_request at new v)
same_other at zero v = itself v
same_other at (suc new) v = itself v

same_request : (b : Bool) (at old new : ℕ) (v : View) → Same v (views.request_by b at old new v)
same_request true at old new v = same_own old new v
same_request false at old new v = same_other at new v

same_requested : (b : Bool) (at old new : ℕ) (v : View) → Same v (views.requested b at old new v)
same_requested true at old new v = same_request (at == v.number) at old new v
same_requested false at old new v = itself v

same_mail : (b : Bool) (n : ℕ) (v : View) → Same v (views.mail_when b n v)
same_mail true n v = itself v
same_mail false n v = itself v

same_sent : (b : Bool) (n : ℕ) (v : View) → Same v (views.mail_sent b n v)
same_sent true n v = itself v
same_sent false n v = itself v

same_off : (v : View) (s : Step) (a : Answer) → IsOffStack s → Same v (view_after v s a)
unfolding view_after
same_off v (StackStore p n) a off = absurd off
same_off v (Mark p) a off = absurd off
same_off v (Look p) a off = absurd off
same_off v (SlotTake slot) a off = absurd off
same_off v (SlotPut slot chain cargo) a off = absurd off
same_off v (CellLoad c word) (Number n) off = same_seen c word n v
same_off v (CellStore c word n) Done off = same_stored c word n v
same_off v (CellChange c old new) (Number n) off = same_changed (n == old) c old new n v
same_off v Draw (Number n) off = itself v
same_off v (ActiveAdd up) (Number n) off = itself v
same_off v ActiveLoad (Number n) off = same_active n v
same_off v StopLoad (Number n) off = same_stop n v
same_off v (StopSet code) (Number n) off = same_tried code n v
same_off v RootTake (Number n) off = same_root n v
same_off v (RequestChange at old new) (Number n) off = same_requested (n == old) at old new v
same_off v MailLoad (Number n) off = same_mail _ n v
same_off v (MailStore at n) Done off = same_sent (at == v.number) n v
same_off v (OutLoad i) (Number n) off = itself v
same_off v _ _ off = itself v

-- ---- the two numbers

abbrev Counts : View → View → Type 0
Counts v u = (u.items ≡ v.items) × (u.frame_bytes ≡ v.frame_bytes)

counts_back : (p : ℕ) (words : List (Option ℕ)) (f : Option Frame) (v : View) → Counts v (views.taken_back p words f v)
counts_back p words None v = (refl, refl)
counts_back p words (Some f) v = (refl, refl)

counts_looked : (p n : ℕ) (cargo : Cargo) (v : View) → Counts v (views.looked p n cargo v)
counts_looked p zero cargo v = counts_back p cargo.words (frame_returning p v.exported) v
counts_looked p (suc n) cargo v = (refl, refl)

counts_taken : (slot : Slot) (cargo : Cargo) (v : View) → Counts v (views.slot_taken slot cargo v)
counts_taken (Cell c) cargo v = (refl, refl)
counts_taken (Mail at) cargo v = (refl, refl)

counts_took : (slot : Slot) (chain : Option Chain) (cargo : Cargo) (v : View) → Counts v (views.took slot chain cargo v)
counts_took slot None cargo v = (refl, refl)
counts_took slot (Some chain) cargo v = counts_taken slot cargo v

counts_put : (slot : Slot) (chain : Chain) (cargo : Cargo) (v : View) → Counts v (views.slot_put slot chain cargo v)
counts_put (Cell c) chain cargo v = (refl, refl)
counts_put (Mail at) chain cargo v = (refl, refl)

counts_after : (v : View) (s : Step) (a : Answer) → Counts v (view_after v s a)
unfolding view_after
counts_after v (StackStore p n) Done = (refl, refl)
counts_after v (StackStore p n) a = (refl, refl)
counts_after v (Mark p) Done = (refl, refl)
counts_after v (Mark p) a = (refl, refl)
counts_after v (Look p) (Looked n cargo) = counts_looked p n cargo v
counts_after v (Look p) a = (refl, refl)
counts_after v (SlotTake slot) (Took chain cargo) = counts_took slot chain cargo v
counts_after v (SlotTake slot) a = (refl, refl)
counts_after v (SlotPut slot chain cargo) Done = counts_put slot chain cargo v
counts_after v (SlotPut slot chain cargo) a = (refl, refl)
counts_after v s a = let same = same_off v s a tt in (same.3, same.4)

-- ---- with the item that goes with the step

module _ (p : Program) (d : Data) where
  pub numbers : (u : View) (s : Step) (a : Answer) → SameNumbers u (after p d u s a)
  unfolding after
  numbers u s a =
      let sizes = same_after u s a in
      let counts = counts_after u s a in
      record { number = sizes.0; workers = sizes.1; cells = sizes.2; each = sizes.3; words = sizes.4; items = counts.0; frame_bytes = counts.1 }

  pub untouched : (u : View) (s : Step) (a : Answer) → IsOffStack s → Untouched u (after p d u s a)
  unfolding after
  untouched u s a off =
      let sizes = same_after u s a in
      let same = same_off u s a off in
      record { number = sizes.0; workers = sizes.1; cells = sizes.2; each = sizes.3; held = same.0; exported = same.1; away = same.2; items = same.3; frame_bytes = same.4; names = same.5 }

  threads_stay : (u : View) (s : Step) (a : Answer) → HasNoItem s → threads_after p d u s a ≡ u.threads
  threads_stay u (CellChange c old new) a none = absurd none
  threads_stay u (OutStore i n) a none = absurd none
  threads_stay u (CellStore c Owner n) a none = absurd none
  threads_stay u _ a none = refl

  pub no_item_threads : (u : View) (s : Step) (a : Answer) → HasNoItem s → (after p d u s a).threads ≡ u.threads
  unfolding after
  no_item_threads u s a none = threads_stay u s a none

  no_item : (u : View) (s : Step) (a : Answer) → HasNoItem s → NoItem u (after p d u s a)
  no_item u s a none = let counts = numbers u s a in record { threads = no_item_threads u s a none; items = counts.items; bytes = counts.frame_bytes }

  event_by : (u v : View) (s : Step) (a : Answer) → HasNoItem s → NoItem u v → Event p d u s a v
  event_by u v (CellChange c old new) a none is = absurd none
  event_by u v (OutStore i n) a none is = absurd none
  event_by u v (CellStore c Owner n) a none is = absurd none
  event_by u v _ a none is = is

  pub no_item_asks : (limits : Limits) (u : View) (s : Step) → HasNoItem s → Safe (meaning p d limits) u s → MayAsk p d limits u s
  no_item_asks limits u s none safe = record { safe = safe; event = λ a said. event_by u (after p d u s a) s a none (no_item u s a none) }

pub no_item_laws : (p : Program) (d : Data) (limits : Limits) → NoItemLaws p d limits
no_item_laws p d limits = record { asks = λ u s none safe. no_item_asks p d limits u s none safe; threads = λ u s a none. no_item_threads p d u s a none }

pub leaving_laws : (p : Program) (d : Data) → LeavingLaws p d
leaving_laws p d = record { numbers = λ u s a. numbers p d u s a; untouched = λ u s a off. untouched p d u s a off }
