-- No step changes a size: a view's number, the board's numbers in it, and how many words it may hold. Reach for free_sizes (what comes before a
-- step), does_sizes (the step) and asked_sizes (both, from what the caller of a step owes); for a plain board sized_moved (the views after a
-- step), moved_here and moved_other (a view after a step), held_bound and out_bound (that a step's
-- place is on the board).
use Rattle.std.proofs.Common.{◌≡◌, ◌≢◌, ℕ, zero, suc, ◌+◌, ◌*◌, ◌<◌, Bool, true, false, List, [], ◌∷◌, length, Option, Some, None, refl, sym, ap, ◌∙◌, subst, arith, slice_set, length-set, get_or-set_same, get_or-set_other, ◌==◌, ◌&&◌}
use mathlib.Core.Logic.{dite}
use native.Mathlib.Decide.{ℕ_discrete}
use Rattle.st_base.specs.declared.chain.Chain.{Chain}
use Rattle.st_base.specs.declared.chain.Frame.{Frame}
use Rattle.st_words.specs.declared.view.CellWord.{CellWord}
use Rattle.st_words.specs.declared.view.CellWord.TheVariants.{Owner, State, Value, Next, Standing, Trap}
use Rattle.st_words.specs.declared.view.Slot.{Slot}
use Rattle.st_words.specs.declared.view.Slot.TheVariants.{Cell, Mail}
use Rattle.st_words.specs.declared.view.Cargo.{Cargo}
use Rattle.st_words.specs.declared.view.View.{View}
use Rattle.st_words.specs.Encodings.{out_bytes, is_counter, full_word, head_in, running, ready}
use Rattle.st_words.specs.Steps.{Step, StackStore, Mark, Look, CellLoad, CellStore, CellChange, Draw, ActiveAdd, ActiveLoad, StopLoad, StopSet, RootTake, RequestChange, MailLoad, MailStore, SlotTake, SlotPut, OutLoad, Answer, Done, Number, Looked, Took, Asks, Holds}
use Rattle.st_words.specs.Views as views
use Rattle.st_words.specs.Views.{view_after, remade, Does, IsFree, is_inside, frame_returning, has_number, in_hand}
use Rattle.st_words.specs.Plain.{view_at}
use Rattle.st_words.proofs.Lists.{kept_within}
use Rattle.st_words.specs.Sizes.{SizedView, SizedViews}

-- the two views have the same number, the same numbers of the board, and as many words
abbrev pub SameSizes : View → View → Type 0
SameSizes v u = (u.number ≡ v.number) × (u.workers ≡ v.workers) × (u.cells ≡ v.cells) × (u.each ≡ v.each) × (length u.held ≡ length v.held)

pub same_steps : (v u x : View) → SameSizes v u → SameSizes u x → SameSizes v x
same_steps v u x a b = (b.0 ∙ a.0, b.1 ∙ a.1, b.2 ∙ a.2, b.3 ∙ a.3, b.4 ∙ a.4)

-- a change of other fields
abbrev itself : (v : View) → SameSizes v v
itself v = (refl, refl, refl, refl, refl)

-- ---- held words

pub remade_length : (make : ℕ → Option ℕ → Option ℕ) (p : ℕ) (held : List (Option ℕ)) → length (remade make p held) ≡ length held
remade_length make p [] = refl
remade_length make p (h ∷ hs) = ap suc (remade_length make (p + 1) hs)

marked_length : (p : ℕ) (f : Option Frame) (held : List (Option ℕ)) → length (views.marked_held p f held) ≡ length held
marked_length p (Some f) held = remade_length _ 0 held
marked_length p None held = length-set held p (Some 0)

-- ---- each step, by its definition

same_back : (p : ℕ) (words : List (Option ℕ)) (f : Option Frame) (v : View) → SameSizes v (views.taken_back p words f v)
same_back p words None v = itself v
same_back p words (Some f) v = (refl, refl, refl, refl, remade_length _ 0 v.held)

same_looked : (p n : ℕ) (cargo : Cargo) (v : View) → SameSizes v (views.looked p n cargo v)
same_looked p zero cargo v = same_back p cargo.words (frame_returning p v.exported) v
same_looked p (suc n) cargo v = itself v

same_owner : (c n : ℕ) (v : View) → SameSizes v (views.with_owner c n v)
same_owner c zero v = itself v
same_owner c (suc n) v = itself v

same_when : (c n : ℕ) (counts is_full : Bool) (v : View) → SameSizes v (views.state_when c n counts is_full v)
same_when c n true is_full v = itself v
same_when c n false true v = itself v
same_when c n false false v = itself v

same_state : (kind : Option Bool) (c n : ℕ) (v : View) → SameSizes v (views.with_state_by kind c n v)
same_state None c n v = itself v
same_state (Some counter) c n v = same_when c n counter (n == full_word) v

same_value : (c n : ℕ) (b : Bool) (v : View) → SameSizes v (views.with_value c n b v)
same_value c n true v = itself v
same_value c n false v = itself v

same_seen : (c : ℕ) (word : CellWord) (n : ℕ) (v : View) → SameSizes v (views.cell_seen c word n v)
same_seen c Owner n v = same_owner c n v
same_seen c State n v = same_state (views.kind_seen c v) c n v
same_seen c Value n v = same_value c n (has_number v.full c) v
same_seen c Next n v = itself v
same_seen c Standing n v = itself v
same_seen c Trap n v = itself v

same_ready : (b : Bool) (c : ℕ) (v : View) → SameSizes v (views.made_ready b c v)
same_ready true c v = itself v
same_ready false c v = itself v

same_running : (b : Bool) (c : ℕ) (v : View) → SameSizes v (views.made_running b c v)
same_running true c v = itself v
same_running false c v = itself v

same_stood : (a b : Bool) (c : ℕ) (v : View) → SameSizes v (views.made_ready a c (views.made_running b c v))
same_stood true b c v = same_running b c v
same_stood false b c v = same_running b c v

same_stored : (c : ℕ) (word : CellWord) (n : ℕ) (v : View) → SameSizes v (views.cell_stored c word n v)
same_stored c Owner n v = itself v
same_stored c State n v = itself v
same_stored c Value n v = itself v
same_stored c Next n v = itself v
same_stored c Standing n v = same_stood ((n == ready) && in_hand c v.hand) (n == running) c (record v { chains = views.with_standing c n v.chains })
same_stored c Trap n v = itself v

same_future : (c old new : ℕ) (b : Bool) (v : View) → SameSizes v (views.changed_future c old new b v)
same_future c old new true v = itself v
same_future c old new false v = itself v

same_counter : (c old new : ℕ) (b : Bool) (v : View) → SameSizes v (views.changed_counter c old new b v)
same_counter c old new true v = itself v
same_counter c old new false v = itself v

same_by : (counts : Bool) (c old new : ℕ) (v : View) → SameSizes v (views.changed_by counts c old new v)
same_by true c old new v = same_counter c old new (head_in new == 0) v
same_by false c old new v = same_future c old new (new == full_word) v

same_changed : (b : Bool) (c old new n : ℕ) (v : View) → SameSizes v (views.cell_changed b c old new n v)
same_changed true c old new n v = same_by (views.counts_cell (views.owner_seen c v.owners)) c old new v
same_changed false c old new n v = same_state (views.kind_seen c v) c n v

same_active : (n : ℕ) (v : View) → SameSizes v (views.with_active n v)
same_active zero v = itself v
same_active (suc n) v = itself v

same_stop : (n : ℕ) (v : View) → SameSizes v (views.with_stop n v)
same_stop zero v = itself v
same_stop (suc n) v = itself v

same_tried : (code n : ℕ) (v : View) → SameSizes v (views.stop_tried code n v)
same_tried code zero v = same_stop code v
same_tried code (suc n) v = itself v

same_root : (n : ℕ) (v : View) → SameSizes v (views.root_tried n v)
same_root zero v = itself v
same_root (suc n) v = itself v

same_own : (old new : ℕ) (v : View) → SameSizes v (views.own_request old new v)
same_own old zero v = itself v
same_own old (suc new) v = itself v

same_other : (at new : ℕ) (v : View) → SameSizes v (views.other_request at new v)
same_other at zero v = itself v
same_other at (suc new) v = itself v

same_request : (b : Bool) (at old new : ℕ) (v : View) → SameSizes v (views.request_by b at old new v)
same_request true at old new v = same_own old new v
same_request false at old new v = same_other at new v

same_requested : (b : Bool) (at old new : ℕ) (v : View) → SameSizes v (views.requested b at old new v)
same_requested true at old new v = same_request (at == v.number) at old new v
same_requested false at old new v = itself v

same_mail : (b : Bool) (n : ℕ) (v : View) → SameSizes v (views.mail_when b n v)
same_mail true n v = itself v
same_mail false n v = itself v

same_sent : (b : Bool) (n : ℕ) (v : View) → SameSizes v (views.mail_sent b n v)
same_sent true n v = itself v
same_sent false n v = itself v

same_taken : (slot : Slot) (cargo : Cargo) (v : View) → SameSizes v (views.slot_taken slot cargo v)
same_taken (Cell c) cargo v = (refl, refl, refl, refl, remade_length _ 0 v.held)
same_taken (Mail at) cargo v = (refl, refl, refl, refl, remade_length _ 0 v.held)

same_took : (slot : Slot) (chain : Option Chain) (cargo : Cargo) (v : View) → SameSizes v (views.took slot chain cargo v)
same_took slot None cargo v = itself v
same_took slot (Some chain) cargo v = same_taken slot cargo v

same_put : (slot : Slot) (chain : Chain) (cargo : Cargo) (v : View) → SameSizes v (views.slot_put slot chain cargo v)
same_put (Cell c) chain cargo v = (refl, refl, refl, refl, remade_length _ 0 v.held)
same_put (Mail at) chain cargo v = (refl, refl, refl, refl, remade_length _ 0 v.held)

pub same_after : (v : View) (s : Step) (a : Answer) → SameSizes v (view_after v s a)
unfolding view_after
same_after v (StackStore p n) Done = (refl, refl, refl, refl, length-set v.held p (Some n))
same_after v (Mark p) Done = (refl, refl, refl, refl, marked_length p _ v.held)
same_after v (Look p) (Looked n cargo) = same_looked p n cargo v
same_after v (CellLoad c word) (Number n) = same_seen c word n v
same_after v (CellStore c word n) Done = same_stored c word n v
same_after v (CellChange c old new) (Number n) = same_changed (n == old) c old new n v
same_after v Draw (Number n) = itself v
same_after v (ActiveAdd up) (Number n) = itself v
same_after v ActiveLoad (Number n) = same_active n v
same_after v StopLoad (Number n) = same_stop n v
same_after v (StopSet code) (Number n) = same_tried code n v
same_after v RootTake (Number n) = same_root n v
same_after v (RequestChange at old new) (Number n) = same_requested (n == old) at old new v
same_after v MailLoad (Number n) = same_mail _ n v
same_after v (MailStore at n) Done = same_sent (at == v.number) n v
same_after v (SlotTake slot) (Took chain cargo) = same_took slot chain cargo v
same_after v (SlotPut slot chain cargo) Done = same_put slot chain cargo v
same_after v (OutLoad i) (Number n) = itself v
same_after v _ _ = itself v

-- ---- before a step, by a step, and both

pub free_sizes : (v u : View) → IsFree v u → SameSizes v u
free_sizes v u f = let e = f.1 in subst (λ (z : View). SameSizes v z) (sym e) (itself v)

pub does_sizes : (v : View) (s : Step) (a : Answer) (v' : View) → Does v s a v' → SameSizes v v'
does_sizes v s a v' d = let e = d.1 in subst (λ (z : View). SameSizes v z) (sym e) (same_after v s a)

pub asked_sizes : (says : Step → Answer → Type 0) (after : View → Step → Answer → View) (v : View) (s : Step) (a : Answer) → Asks says IsFree Does after v s → says s a → SameSizes v (after v s a)
asked_sizes says after v s a may said = same_steps v may.0 (after v s a) (free_sizes v may.0 may.1) (does_sizes may.0 s a (after v s a) (may.3 a said))

-- ---- the views of a plain board

pub sized_view : (crew count stack w : ℕ) (v u : View) → SizedView crew count stack w v → SameSizes v u → SizedView crew count stack w u
sized_view crew count stack w v u r same = record {
  number = same.0 ∙ r.number;
  workers = same.1 ∙ r.workers;
  cells = same.2 ∙ r.cells;
  each = ap (λ e. crew * e) same.3 ∙ r.each;
  held = same.4 ∙ r.held;
}

pub moved_here : (vs : List View) (w : ℕ) (v : View) → w < length vs → view_at (slice_set vs w v) w ≡ v
moved_here vs w v l = get_or-set_same vs w v _ l

pub moved_other : (vs : List View) (w x : ℕ) (v : View) → x ≢ w → view_at (slice_set vs w v) x ≡ view_at vs x
moved_other vs w x v n = get_or-set_other vs w x v _ n

pub sized_moved : (vs : List View) (count stack w : ℕ) (v : View) → SizedViews vs count stack → w < length vs → SameSizes (view_at vs w) v → SizedViews (slice_set vs w v) count stack
sized_moved vs count stack w v all l same x m =
    let long : length (slice_set vs w v) ≡ length vs = length-set vs w v in
    let within : x < length vs = omega arith in
    subst (λ (k : ℕ). SizedView k count stack x (view_at (slice_set vs w v) x)) (sym long) (dite (ℕ_discrete x w)
    (λ (e : x ≡ w). subst (λ (y : ℕ). SizedView (length vs) count stack y (view_at (slice_set vs w v) y)) (sym e)
    (subst (λ (z : View). SizedView (length vs) count stack w z) (sym (moved_here vs w v l)) (sized_view _ _ _ _ _ _ (all w l) same)))
    (λ (n : x ≢ w). subst (λ (z : View). SizedView (length vs) count stack x z) (sym (moved_other vs w x v n)) (all x within)))

-- ---- places

pub held_bound : (v : View) (p : ℕ) → Holds v p → p < length v.held
held_bound v p h = kept_within v.held p h.0 h.1

pub out_bound : (n i : ℕ) → n ≡ out_bytes → i < 1048576 → i < n
unfolding out_bytes
out_bound n i e l = subst (λ (k : ℕ). i < k) (sym e) l
