-- What follows from the active count: told_laws and none_laws.
use Rattle.std.proofs.Common.{◌≡◌, ℕ, ◌+◌, ◌≤◌, ◌<◌, Bool, true, false, [], length, None, refl, sym, ◌∙◌, subst, arith, ◌==◌, ◌&&◌, Option, Some, ap}
use Rattle.st_words.specs.declared.view.CellWord.{CellWord}
use Rattle.st_words.specs.declared.view.CellWord.TheVariants.{Owner, State, Value, Next, Standing, Trap}
use Rattle.st_words.specs.declared.view.Slot.TheVariants.{Cell, Mail}
use Rattle.st_base.specs.declared.chain.Chain.{Chain}
use Rattle.st_words.specs.declared.view.Slot.{Slot}
use Rattle.st_words.specs.declared.view.Cargo.{Cargo}
use Rattle.st_words.specs.declared.view.View.{View}
use Rattle.st_words.specs.Encodings.{ready}
use Rattle.st_words.specs.Steps.{Step, StackStore, Mark, CellStore, CellChange, Draw, ActiveAdd, StopSet, RootTake, RequestChange, MailStore, OutStore, SlotTake, SlotPut, Answer, Number, Can, some_thread, Took}
use Rattle.st_words.specs.Views.{in_hand}
use Rattle.st_world.specs.World.{World, with_word, waking, woken, world_after, Finds}
use Rattle.st_world.proofs.Functions.{total_none}
use Rattle.st_counts.specs.Counting.{units, filling, Counts}
use Rattle.st_counts.specs.Laws.{ToldLaws, NoneLaws}
use Rattle.st_counts.proofs.Sums.{filling_none, none_or, some_thread_none, length_none}
use Rattle.st_counts.proofs.Changes.{active_most, share_within, one_more_is, one_less_is}

most : (x : World) → Counts x → x.active ≤ 137438953472
most x C = active_most x.workers x.cells x.active x.home x.home_cargo x.post x.post_cargo x.view C

within : (x : World) (w : ℕ) → Counts x → w < x.workers → (x.view w).share ≤ x.active
within x w C l = share_within x.workers x.cells x.active x.home x.home_cargo x.post x.post_cargo x.view C w l

light_slot : (x : World) (w : ℕ) (slot : Slot) (chain : Option Chain) (cargo : Cargo) → Counts x → Finds x w (SlotTake slot) (Took chain cargo) → cargo.unit ≤ filling chain
light_slot x w (Cell c) chain cargo C f =
    let a = C.homes c in
    let b : cargo.unit ≡ (x.home_cargo c).unit = ap (λ (k : Cargo). k.unit) f.1 in
    let e : filling chain ≡ filling (x.home c) = ap filling f.0 in
    omega (arith, a, b, e)
light_slot x w (Mail at) chain cargo C f =
    let a = C.posts at in
    let b : cargo.unit ≡ (x.post_cargo at).unit = ap (λ (k : Cargo). k.unit) f.1 in
    let e : filling chain ≡ filling (x.post at) = ap filling f.0 in
    omega (arith, a, b, e)

mailed_unit : (x : World) (w at : ℕ) (chain : Chain) (cargo : Cargo) → Counts x → Finds x w (SlotTake (Mail at)) (Took (Some chain) cargo) → cargo.unit ≡ 1
mailed_unit x w at chain cargo C f =
    let a = C.posts at in
    let b : cargo.unit ≡ (x.post_cargo at).unit = ap (λ (k : Cargo). k.unit) f.1 in
    let e : 1 ≡ filling (x.post at) = ap filling f.0 in
    omega (arith, a, b, e)

pub told_laws : ToldLaws
told_laws = record {
  adds = λ x w up n C l f. subst (λ (k : ℕ). (x.view w).share ≤ k) (sym f) (within x w C l);
  loads = λ x w n C l f. (subst (λ (k : ℕ). (x.view w).share ≤ k) (sym f) (within x w C l), λ i. f ∙ C.inactive w i);
  light = light_slot;
  mailed = mailed_unit;
  within = λ x C. let m = most x C in omega (arith, m);
  rises = λ x C. let m = most x C in one_more_is x.active (omega (arith, m));
  falls = λ x w C l one. let m = most x C in let s = within x w C l in one_less_is x.active (omega (arith, s, one)) (omega (arith, m));
  covered = λ x w C. C.covered w;
}

-- ---- nothing is active

module _ (x : World) (C : Counts x) (z : x.active ≡ 0) where
  none_share : (w : ℕ) → w < x.workers → (x.view w).share ≡ 0
  none_share w l = let s = within x w C l in omega (arith, s, z)

  none_taken : (w : ℕ) → w < x.workers → some_thread (x.view w).threads + length (x.view w).chains ≡ 0
  none_taken w l = let s = none_share w l in let c = (C.covered w).covers in omega (arith, s, c)

  none_threads : (w : ℕ) → w < x.workers → (x.view w).threads ≡ []
  none_threads w l = let s = none_taken w l in some_thread_none (x.view w).threads (omega (arith, s))

  none_chains : (w : ℕ) → w < x.workers → (x.view w).chains ≡ []
  none_chains w l = let s = none_taken w l in length_none (x.view w).chains (omega (arith, s))

  none_hand : (w : ℕ) → w < x.workers → (x.view w).hand ≡ []
  none_hand w l = none_or (x.view w).hand (λ d. let s = none_share w l in let c = (C.covered w).holds d in omega (arith, s, c))

  none_home : (c : ℕ) → c < x.cells → (x.home_cargo c).unit ≡ 0
  none_home c l = let sum = C.sum in let a : units x.home_cargo x.cells ≡ 0 = omega (arith, sum, z) in total_none (λ d. (x.home_cargo d).unit) c x.cells a l

  none_post : (v : ℕ) → v < x.workers → x.post v ≡ None
  none_post v l =
      let sum = C.sum in
      let a : units x.post_cargo x.workers ≡ 0 = omega (arith, sum, z) in
      let b : (x.post_cargo v).unit ≡ 0 = total_none (λ d. (x.post_cargo d).unit) v x.workers a l in
      filling_none (x.post v) (sym (C.posts v) ∙ b)

  woken_active : (b : Bool) (c : ℕ) (y : World) → (waking b c y).active ≡ y.active
  woken_active true c y = refl
  woken_active false c y = refl

  stored_active : (u : View) (c : ℕ) (word : CellWord) (n : ℕ) → (woken u c word n (with_word c word n x)).active ≡ 0
  stored_active u c Owner n = z
  stored_active u c State n = z
  stored_active u c Value n = z
  stored_active u c Next n = z
  stored_active u c Standing n = woken_active ((n == ready) && in_hand c u.hand) c (with_word c Standing n x) ∙ z
  stored_active u c Trap n = z

  none_added : (w : ℕ) (up : Bool) → w < x.workers → Can (x.view w) (ActiveAdd up) → ⊥
  none_added w true l can = let s = none_share w l in let one = can.0 in omega (arith, s, one)
  none_added w false l can = let s = none_share w l in omega (arith, s, can)

  none_stays : (w : ℕ) (s : Step) (a : Answer) (v : View) → w < x.workers → Can (x.view w) s → (world_after x w s a v).active ≡ 0
  none_stays w (ActiveAdd up) a v l can = absurd (none_added w up l can)
  none_stays w (StackStore p n) a v l can = z
  none_stays w (Mark p) a v l can = z
  none_stays w (CellStore c word n) a v l can = stored_active (x.view w) c word n
  none_stays w (CellChange c old new) (Number n) v l can = z
  none_stays w Draw a v l can = z
  none_stays w (StopSet code) (Number n) v l can = z
  none_stays w RootTake a v l can = z
  none_stays w (RequestChange at old new) (Number n) v l can = z
  none_stays w (MailStore at n) a v l can = z
  none_stays w (OutStore i n) a v l can = z
  none_stays w (SlotTake (Cell c)) a v l can = z
  none_stays w (SlotTake (Mail at)) a v l can = z
  none_stays w (SlotPut (Cell c) chain cargo) a v l can = z
  none_stays w (SlotPut (Mail at) chain cargo) a v l can = z
  none_stays w s a v l can = z

pub none_laws : NoneLaws
none_laws = record {
  share = λ x w C l z. none_share x C z w l;
  threads = λ x w C l z. none_threads x C z w l;
  chains = λ x w C l z. none_chains x C z w l;
  hand = λ x w C l z. none_hand x C z w l;
  home = λ x c C l z. none_home x C z c l;
  post = λ x v C l z. none_post x C z v l;
  stays = λ x w s a v C l z can. none_stays x C z w s a v l can;
}
