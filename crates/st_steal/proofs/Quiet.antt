-- Which steps leave what a view has of requests and mail: all but a change of a request word, a load of mail, a store to mail, and a chain that
-- is taken from mail or put into it. Reach for kept_or, which has one case for each of these.
use Rattle.std.proofs.Common.{◌≡◌, ℕ, zero, suc, Bool, true, false, ◌==◌, ◌&&◌, List, [], ◌∷◌, Option, Some, None, refl, ◌∙◌}
use Rattle.st_base.specs.declared.chain.Chain.{Chain}
use Rattle.st_base.specs.declared.chain.Frame.{Frame}
use Rattle.st_words.specs.declared.view.CellWord.{CellWord}
use Rattle.st_words.specs.declared.view.Cargo.{Cargo}
use Rattle.st_words.specs.declared.view.CellWord.TheVariants as words
use Rattle.st_words.specs.declared.view.Slot.TheVariants.{Cell, Mail}
use Rattle.st_words.specs.declared.view.View.{View}
use Rattle.st_words.specs.Encodings.{full_word, head_in, is_counter, ready, running}
use Rattle.st_words.specs.Steps.{Step, StackLoad, StackStore, Mark, Look, CellLoad, CellStore, CellChange, Draw, ActiveAdd, ActiveLoad, StopLoad, StopSet, RootTake, RequestLoad, RequestChange, MailLoad, MailStore, OutStore, SlotTake, SlotPut, OutLoad, Answer, Done, Number, Looked, Took}
use Rattle.st_words.specs.Views as views
use Rattle.st_words.specs.Views.{view_after}
use Rattle.st_words.specs.Views.{frame_returning, has_number, in_hand}

-- the two views have the same of requests and mail
abbrev pub SameMail : View → View → Type 0
SameMail v u = (u.answering ≡ v.answering) × (u.given ≡ v.given)

abbrev itself : (v : View) → SameMail v v
itself v = (refl, refl)

same_back : (p : ℕ) (held : List (Option ℕ)) (f : Option Frame) (v : View) → SameMail v (views.taken_back p held f v)
same_back p held None v = itself v
same_back p held (Some f) v = itself v

pub same_looked : (p n : ℕ) (cargo : Cargo) (v : View) → SameMail v (views.looked p n cargo v)
same_looked p zero cargo v = same_back p cargo.words (frame_returning p v.exported) v
same_looked p (suc n) cargo v = itself v

same_owner : (c n : ℕ) (v : View) → SameMail v (views.with_owner c n v)
same_owner c zero v = itself v
same_owner c (suc n) v = itself v

same_when : (c n : ℕ) (counts is_full : Bool) (v : View) → SameMail v (views.state_when c n counts is_full v)
same_when c n true is_full v = itself v
same_when c n false true v = itself v
same_when c n false false v = itself v

same_state : (kind : Option Bool) (c n : ℕ) (v : View) → SameMail v (views.with_state_by kind c n v)
same_state None c n v = itself v
same_state (Some counter) c n v = same_when c n counter (n == full_word) v

same_value : (c n : ℕ) (b : Bool) (v : View) → SameMail v (views.with_value c n b v)
same_value c n true v = itself v
same_value c n false v = itself v

pub same_seen : (c : ℕ) (word : CellWord) (n : ℕ) (v : View) → SameMail v (views.cell_seen c word n v)
same_seen c words.Owner n v = same_owner c n v
same_seen c words.State n v = same_state (views.kind_seen c v) c n v
same_seen c words.Value n v = same_value c n (has_number v.full c) v
same_seen c words.Next n v = itself v
same_seen c words.Standing n v = itself v
same_seen c words.Trap n v = itself v

same_stood : (a b : Bool) (c : ℕ) (v : View) → SameMail v (views.made_ready a c (views.made_running b c v))
same_stood true true c v = itself v
same_stood true false c v = itself v
same_stood false true c v = itself v
same_stood false false c v = itself v

pub same_stored : (c : ℕ) (word : CellWord) (n : ℕ) (v : View) → SameMail v (views.cell_stored c word n v)
same_stored c words.Owner n v = itself v
same_stored c words.State n v = itself v
same_stored c words.Value n v = itself v
same_stored c words.Next n v = itself v
same_stored c words.Standing n v = same_stood ((n == ready) && in_hand c v.hand) (n == running) c (record v { chains = views.with_standing c n v.chains })
same_stored c words.Trap n v = itself v

same_future : (c old new : ℕ) (b : Bool) (v : View) → SameMail v (views.changed_future c old new b v)
same_future c old new true v = itself v
same_future c old new false v = itself v

same_counter : (c old new : ℕ) (b : Bool) (v : View) → SameMail v (views.changed_counter c old new b v)
same_counter c old new true v = itself v
same_counter c old new false v = itself v

same_by : (counts : Bool) (c old new : ℕ) (v : View) → SameMail v (views.changed_by counts c old new v)
same_by true c old new v = same_counter c old new (head_in new == 0) v
same_by false c old new v = same_future c old new (new == full_word) v

pub same_changed : (found : Bool) (c old new n : ℕ) (v : View) → SameMail v (views.cell_changed found c old new n v)
same_changed true c old new n v = same_by (views.counts_cell (views.owner_seen c v.owners)) c old new v
same_changed false c old new n v = same_state (views.kind_seen c v) c n v

pub same_active : (n : ℕ) (v : View) → SameMail v (views.with_active n v)
same_active zero v = itself v
same_active (suc n) v = itself v

same_stop : (n : ℕ) (v : View) → SameMail v (views.with_stop n v)
same_stop zero v = itself v
same_stop (suc n) v = itself v

pub same_tried : (code n : ℕ) (v : View) → SameMail v (views.stop_tried code n v)
same_tried code zero v = same_stop code v
same_tried code (suc n) v = same_stop (suc n) v

pub same_root : (n : ℕ) (v : View) → SameMail v (views.root_tried n v)
same_root zero v = itself v
same_root (suc n) v = itself v

-- ---- each step

-- what holds of each view that has the same of requests and mail, and of these five steps, holds of the view after each step
pub kept_or : (v : View) (P : Step → Answer → View → Type 0)
    → ((s : Step) (a : Answer) (u : View) → SameMail v u → P s a u)
    → ((at old new n : ℕ) → P (RequestChange at old new) (Number n) (view_after v (RequestChange at old new) (Number n)))
    → ((n : ℕ) → P MailLoad (Number n) (view_after v MailLoad (Number n)))
    → ((at n : ℕ) → P (MailStore at n) Done (view_after v (MailStore at n) Done))
    → ((at : ℕ) (chain : Chain) (cargo : Cargo) → P (SlotTake (Mail at)) (Took (Some chain) cargo) (view_after v (SlotTake (Mail at)) (Took (Some chain) cargo)))
    → ((at : ℕ) (chain : Chain) (cargo : Cargo) → P (SlotPut (Mail at) chain cargo) Done (view_after v (SlotPut (Mail at) chain cargo) Done))
    → (s : Step) (a : Answer) → P s a (view_after v s a)
unfolding view_after
kept_or v P same change load store take put (StackStore p n) Done = same _ _ _ (itself v)
kept_or v P same change load store take put (Mark p) Done = same _ _ _ (itself v)
kept_or v P same change load store take put (Look p) (Looked n cargo) = same _ _ _ (same_looked p n cargo v)
kept_or v P same change load store take put (CellLoad c word) (Number n) = same _ _ _ (same_seen c word n v)
kept_or v P same change load store take put (CellStore c word n) Done = same _ _ _ (same_stored c word n v)
kept_or v P same change load store take put (CellChange c old new) (Number n) = same _ _ _ (same_changed (n == old) c old new n v)
kept_or v P same change load store take put Draw (Number n) = same _ _ _ (itself v)
kept_or v P same change load store take put (ActiveAdd up) (Number n) = same _ _ _ (itself v)
kept_or v P same change load store take put ActiveLoad (Number n) = same _ _ _ (same_active n v)
kept_or v P same change load store take put StopLoad (Number n) = same _ _ _ (same_stop n v)
kept_or v P same change load store take put (StopSet code) (Number n) = same _ _ _ (same_tried code n v)
kept_or v P same change load store take put RootTake (Number n) = same _ _ _ (same_root n v)
kept_or v P same change load store take put (RequestChange at old new) (Number n) = change at old new n
kept_or v P same change load store take put MailLoad (Number n) = load n
kept_or v P same change load store take put (MailStore at n) Done = store at n
kept_or v P same change load store take put (SlotTake slot) (Took None cargo) = same _ _ _ (itself v)
kept_or v P same change load store take put (SlotTake (Cell c)) (Took (Some chain) cargo) = same _ _ _ (itself v)
kept_or v P same change load store take put (SlotTake (Mail at)) (Took (Some chain) cargo) = take at chain cargo
kept_or v P same change load store take put (SlotPut (Cell c) chain cargo) Done = same _ _ _ (itself v)
kept_or v P same change load store take put (SlotPut (Mail at) chain cargo) Done = put at chain cargo
kept_or v P same change load store take put (OutLoad i) (Number n) = same _ _ _ (itself v)
kept_or v P same change load store take put s a = same s a v (itself v)
