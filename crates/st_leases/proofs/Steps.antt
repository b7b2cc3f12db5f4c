-- Each kind of step keeps the leases: step_kept. quiet_world is for all that moves no word and no frame.
use Rattle.std.proofs.Common.{◌≡◌, ◌≢◌, ⊎_elim, ℕ, zero, suc, ◌*◌, ◌^◌, ◌<◌, Bool, true, false, length, Option, Some, None, refl, sym, ap, ◌∙◌, subst, arith, ◌==◌, ◌&&◌}
use Rattle.std.specs.List.{Contains}
use Rattle.std.proofs.lemmas.List.FromFn.{get_or-map-range_with_len}
use mathlib.Core.Logic.{dite}
use native.Mathlib.Decide.{ℕ_discrete}
use Rattle.st_base.specs.declared.chain.Chain.{Chain}
use Rattle.st_base.specs.declared.chain.Frame.{Frame}
use Rattle.st_words.specs.declared.view.CellWord.{CellWord}
use Rattle.st_words.specs.declared.view.CellWord.TheVariants.{Owner, State, Value, Next, Standing, Trap}
use Rattle.st_words.specs.declared.view.Slot.{Slot}
use Rattle.st_words.specs.declared.view.Slot.TheVariants.{Cell, Mail}
use Rattle.st_words.specs.declared.view.Cargo.{Cargo}
use Rattle.st_words.specs.declared.view.View.{View}
use Rattle.st_words.specs.Encodings.{ready}
use Rattle.st_words.specs.Steps.{Step, StackStore, Mark, Look, CellStore, CellChange, Draw, ActiveAdd, StopSet, RootTake, RequestChange, MailStore, OutStore, SlotTake, SlotPut, Answer, Done, Number, Looked, Took, Can, return_place, home_of, kept, Holds, IsLeased}
use Rattle.st_words.specs.Views.{Progress, with_progress, view_after, Does, in_hand, no_cargo}
use Rattle.st_words.specs.Plain.{readied}
use Rattle.st_words.specs.Promises.{FrameTold}
use Rattle.st_words.specs.Laws.{OneEach, taking, putting}
use Rattle.st_words.proofs.Naming.{size_laws}
use Rattle.st_words.proofs.Looks.{look_laws}
use Rattle.st_world.specs.Functions.{put}
use Rattle.st_world.specs.World.{World, slot_of, cargo_of, with_word, with_chain, seen, waking, woken, all_words, Finds, changed, world_after}
use Rattle.st_holders.specs.Leasing.{IsBare, IsSized, Leases, Leasing}
use Rattle.st_leases.specs.Laws.{Tends, IsVacant}
use Rattle.st_holders.proofs.Shifts.{one, SameView, SameCargo}
use Rattle.st_holders.proofs.Changes.{put_here, put_other, slot_case, Stores, GivesUp, TakesBack, TakesIn, PutsOut, Around, AroundSlot, is_leased, quiet, stored, given_up, taken_back}
use Rattle.st_holders.proofs.Chains.{comes_within, taken, put_out}
use Rattle.st_leases.proofs.ViewsAfter.{IsQuiet, same_after, stores_after, zeroes_after, gives_up_after, marks_case, takes_back_after, takes_in_after, puts_out_after}

-- ---- sizes

abbrev pub SameSize : View → View → Type 0
SameSize u v = (v.number ≡ u.number) × (v.each ≡ u.each) × (length v.held ≡ length u.held)

pub size_after : (pr : Progress) (u : View) (s : Step) (a : Answer) → SameSize u (with_progress pr (view_after u s a))
size_after pr u s a = (size_laws.number u s a, size_laws.each u s a, size_laws.held u s a)

still_sized : (size each w : ℕ) (u v : View) → SameSize u v → IsSized size each w u → IsSized size each w v
still_sized size each w u v s r = record { number = s.0 ∙ r.number; stack = s.1 ∙ r.stack; held = s.2 ∙ r.held }

-- ---- the slots and views of a world, where those of another are the same but for the view of w

abbrev pub SameRest : World → World → Type 0
SameRest x y = (y.view ≡ x.view) × (y.home ≡ x.home) × (y.post ≡ x.post) × ((c : ℕ) → SameCargo (x.home_cargo c) (y.home_cargo c)) × (y.post_cargo ≡ x.post_cargo)

cargo_same : (x y : World) (w : ℕ) (v : View) → SameRest x y → (z : Slot) → SameCargo (cargo_of x z) (cargo_of (seen w v y) z)
cargo_same x y w v r (Cell c) = r.3 c
cargo_same x y w v r (Mail a) = (ap (λ (f : ℕ → Cargo). (f a).words) r.4, ap (λ (f : ℕ → Cargo). (f a).frames) r.4)

chain_same : (x y : World) (w : ℕ) (v : View) → SameRest x y → (z : Slot) → slot_of (seen w v y) z ≡ None → slot_of x z ≡ None
chain_same x y w v r (Cell c) e = sym (ap (λ (f : ℕ → Option Chain). f c) r.1) ∙ e
chain_same x y w v r (Mail a) e = sym (ap (λ (f : ℕ → Option Chain). f a) r.2) ∙ e

view_sized : (x : World) (f : ℕ → View) (w : ℕ) (v : View) → Leasing x → SameSize (x.view w) v → w < x.workers → IsSized (x.workers * x.each) x.each w (put f w v w)
view_sized x f w v G s l = subst (λ (u : View). IsSized (x.workers * x.each) x.each w u) (sym (put_here f w v)) (still_sized (x.workers * x.each) x.each w (x.view w) v s (G.sized w l))

pub around : (x y : World) (w : ℕ) (v : View) (G : Leasing x) → SameRest x y → SameSize (x.view w) v → Around x.workers x.each x.stack (slot_of x) (cargo_of x) x.view G w (slot_of (seen w v y)) (cargo_of (seen w v y)) (put y.view w v)
around x y w v G r s = record {
  others = λ u n. put_other y.view w v u n ∙ ap (λ (f : ℕ → View). f u) r.0;
  sized = λ l. view_sized x y.view w v G s l;
  same = λ z. cargo_same x y w v r z;
  empty = λ z e. chain_same x y w v r z e;
}

-- ---- no word and no frame moves

abbrev pub SameWorld : World → World → Type 0
SameWorld x y = (y.workers ≡ x.workers) × (y.each ≡ x.each) × (y.stack ≡ x.stack) × SameRest x y

pub quiet_world : (x y : World) (w : ℕ) (v : View) → SameWorld x y → Leasing x → SameView (x.view w) v → SameSize (x.view w) v → Leasing (seen w v y)
quiet_world x y w v s G same size =
    subst (λ (k : ℕ). Leases k y.each y.stack (slot_of (seen w v y)) (cargo_of (seen w v y)) (put y.view w v)) (sym s.0)
    (subst (λ (e : ℕ). Leases x.workers e y.stack (slot_of (seen w v y)) (cargo_of (seen w v y)) (put y.view w v)) (sym s.1)
    (subst (λ (f : ℕ → ℕ). Leases x.workers x.each f (slot_of (seen w v y)) (cargo_of (seen w v y)) (put y.view w v)) (sym s.2)
    (quiet x.workers x.each x.stack (slot_of x) (cargo_of x) x.view G w (slot_of (seen w v y)) (cargo_of (seen w v y)) (put y.view w v) (around x y w v G s.3 size)
    (subst (λ (u : View). SameView (x.view w) u) (sym (put_here y.view w v)) same))))

abbrev pub the_same : (x : World) → SameWorld x x
the_same x = (refl, refl, refl, (refl, refl, refl, λ c. (refl, refl), refl))

same_waking : (b : Bool) (c : ℕ) (x : World) → SameWorld x (waking b c x)
same_waking true c x = (
  refl,
  refl,
  refl,
  (
    refl,
    refl,
    refl,
    λ d. dite (ℕ_discrete d c)
        (λ (e : d ≡ c). subst (λ (d : ℕ). SameCargo (x.home_cargo d) (put x.home_cargo c (readied (x.home_cargo c)) d)) (sym e) (subst (λ (k : Cargo). SameCargo (x.home_cargo c) k) (sym (put_here x.home_cargo c (readied (x.home_cargo c)))) (refl, refl)))
        (λ (n : d ≢ c). subst (λ (k : Cargo). SameCargo (x.home_cargo d) k) (sym (put_other x.home_cargo c (readied (x.home_cargo c)) d n)) (refl, refl)),
    refl,
  ),
)
same_waking false c x = the_same x

same_cell : (x : World) (u : View) (c : ℕ) (word : CellWord) (n : ℕ) → SameWorld x (woken u c word n (with_word c word n x))
same_cell x u c Owner n = the_same x
same_cell x u c State n = the_same x
same_cell x u c Value n = the_same x
same_cell x u c Next n = the_same x
same_cell x u c Standing n = same_waking ((n == ready) && in_hand c u.hand) c (with_word c Standing n x)
same_cell x u c Trap n = the_same x

same_world : (x : World) (w : ℕ) (s : Step) (a : Answer) → IsQuiet s → SameWorld x (changed x w s a)
same_world x w (StackStore p n) a q = absurd q
same_world x w (Mark p) a q = absurd q
same_world x w (Look p) a q = absurd q
same_world x w (SlotTake slot) a q = absurd q
same_world x w (SlotPut slot chain cargo) a q = absurd q
same_world x w (CellStore c word n) a q = same_cell x (x.view w) c word n
same_world x w (CellChange c old new) (Number n) q = the_same x
same_world x w Draw a q = the_same x
same_world x w (ActiveAdd up) a q = the_same x
same_world x w (StopSet code) (Number n) q = the_same x
same_world x w RootTake a q = the_same x
same_world x w (RequestChange at old new) (Number n) q = the_same x
same_world x w (MailStore at n) a q = the_same x
same_world x w (OutStore i n) a q = the_same x
same_world x w _ a q = the_same x

pub quiet_kept : (x : World) (w : ℕ) (s : Step) (a : Answer) (v' : View) → IsQuiet s → Leasing x → Does (x.view w) s a v' → Leasing (world_after x w s a v')
quiet_kept x w s a v' q G d = subst (λ (v : View). Leasing (world_after x w s a v)) (sym d.1) (quiet_world x (changed x w s a) w (with_progress d.0 (view_after (x.view w) s a)) (same_world x w s a q) G (same_after (x.view w) s a q) (size_after d.0 (x.view w) s a))

-- ---- stores, marks and looks

abbrev with_place : World → ℕ → ℕ → World
with_place x p n = record x { stack = put x.stack p n }

pub store_kept : (x : World) (w p n : ℕ) (pr : Progress) → Leasing x → Holds (x.view w) p → n < 2 ^ 64 → (n ≡ 0 → (f : Frame) → IsLeased (x.view w) f → return_place f ≢ p) → Leasing (world_after x w (StackStore p n) Done (with_progress pr (view_after (x.view w) (StackStore p n) Done)))
store_kept x w p n pr G holds few live =
    let v : View = with_progress pr (view_after (x.view w) (StackStore p n) Done) in
    let y : World = with_place x p n in
    stored x.workers x.each x.stack (slot_of x) (cargo_of x) x.view G w p n (slot_of (seen w v y)) (cargo_of (seen w v y)) (put x.view w v)
    (around x y w v G (refl, refl, refl, λ c. (refl, refl), refl) (size_after pr (x.view w) (StackStore p n) Done))
    (subst (λ (u : View). Stores p n (x.view w) u) (sym (put_here x.view w v)) (stores_after pr (x.view w) p n holds)) holds few live

-- of the leased frames of which a worker knows no two have one return word
pub one_each : (x : World) (w : ℕ) → Leasing x → OneEach (x.view w)
one_each x w G f g m k e =
    let a = is_leased x.workers x.each x.stack (slot_of x) (cargo_of x) x.view G w f m in
    let b = is_leased x.workers x.each x.stack (slot_of x) (cargo_of x) x.view G w g k in
    one (sym a.1 ∙ (ap G.keeping.frame e ∙ b.1))

zero_kept : (x : World) (w p : ℕ) (pr : Progress) → Leasing x → Holds (x.view w) p → ((f : Frame) → IsLeased (x.view w) f → return_place f ≢ p) → Leasing (world_after x w (Mark p) Done (with_progress pr (view_after (x.view w) (Mark p) Done)))
zero_kept x w p pr G holds none =
    let v : View = with_progress pr (view_after (x.view w) (Mark p) Done) in
    let y : World = with_place x p 0 in
    stored x.workers x.each x.stack (slot_of x) (cargo_of x) x.view G w p 0 (slot_of (seen w v y)) (cargo_of (seen w v y)) (put x.view w v)
    (around x y w v G (refl, refl, refl, λ c. (refl, refl), refl) (size_after pr (x.view w) (Mark p) Done))
    (subst (λ (u : View). Stores p 0 (x.view w) u) (sym (put_here x.view w v)) (zeroes_after pr (x.view w) p holds none)) holds (omega arith) (λ e. none)

frame_marked : (x : World) (w : ℕ) (f : Frame) (pr : Progress) → Leasing x → IsLeased (x.view w) f → Holds (x.view w) (return_place f) → Leasing (world_after x w (Mark (return_place f)) Done (with_progress pr (view_after (x.view w) (Mark (return_place f)) Done)))
frame_marked x w f pr G m holds =
    let v : View = with_progress pr (view_after (x.view w) (Mark (return_place f)) Done) in
    let y : World = with_place x (return_place f) 0 in
    given_up x.workers x.each x.stack (slot_of x) (cargo_of x) x.view G w f (slot_of (seen w v y)) (cargo_of (seen w v y)) (put x.view w v)
    (around x y w v G (refl, refl, refl, λ c. (refl, refl), refl) (size_after pr (x.view w) (Mark (return_place f)) Done))
    (subst (λ (u : View). GivesUp f (x.view w) u) (sym (put_here x.view w v)) (gives_up_after pr (x.view w) f (one_each x w G) m)) m holds

pub mark_kept : (x : World) (w p : ℕ) (pr : Progress) → Leasing x → Holds (x.view w) p → Leasing (world_after x w (Mark p) Done (with_progress pr (view_after (x.view w) (Mark p) Done)))
mark_kept x w p pr G holds = ⊎_elim
    (λ (h : (f : Frame) × IsLeased (x.view w) f × (return_place f ≡ p)). subst (λ (q : ℕ). Leasing (world_after x w (Mark q) Done (with_progress pr (view_after (x.view w) (Mark q) Done)))) h.2 (frame_marked x w h.0 pr G h.1 (subst (λ (q : ℕ). Holds (x.view w) q) (sym h.2) holds)))
    (λ (n : (f : Frame) → IsLeased (x.view w) f → return_place f ≢ p). zero_kept x w p pr G holds n)
    (marks_case (x.view w) p)

-- a look tells all words
pub word_told : (x : World) (p : ℕ) → p < x.workers * x.each → kept (all_words x).words p ≡ Some (x.stack p)
word_told x p l = get_or-map-range_with_len (λ (q : ℕ). Some (x.stack q)) 0 (x.workers * x.each) p p None l (omega arith)

pub frame_told : (x : World) (w p n : ℕ) → Leasing x → FrameTold (x.view w) p n (all_words x)
frame_told x w p n G z f m e q i =
    let h = (G.views w).exported f m in
    let deep = h.0 in
    let below = i.1 in
    (x.stack q, word_told x q (omega (arith, deep, below)), G.small q)

frame_back : (x : World) (w : ℕ) (f : Frame) (pr : Progress) → Leasing x → Contains (x.view w).exported f → return_place f < length (x.view w).held → x.stack (return_place f) ≡ 0 → Leasing (world_after x w (Look (return_place f)) (Looked 0 (all_words x)) (with_progress pr (view_after (x.view w) (Look (return_place f)) (Looked 0 (all_words x)))))
frame_back x w f pr G m bound z =
    let v : View = with_progress pr (view_after (x.view w) (Look (return_place f)) (Looked 0 (all_words x))) in
    let deep = ((G.views w).exported f m).0 in
    taken_back x.workers x.each x.stack (slot_of x) (cargo_of x) x.view G w f (slot_of (seen w v x)) (cargo_of (seen w v x)) (put x.view w v)
    (around x x w v G (refl, refl, refl, λ c. (refl, refl), refl) (size_after pr (x.view w) (Look (return_place f)) (Looked 0 (all_words x))))
    (subst (λ (u : View). TakesBack x.stack f (x.view w) u) (sym (put_here x.view w v)) (takes_back_after pr (x.view w) x.stack f (all_words x) (one_each x w G) m bound (frame_told x w (return_place f) 0 G)
    (λ p i. let below = i.1 in word_told x p (omega (arith, deep, below))))) m z

pub look_kept : (x : World) (w p n : ℕ) (pr : Progress) → Leasing x → Can (x.view w) (Look p) → n ≡ x.stack p → Leasing (world_after x w (Look p) (Looked n (all_words x)) (with_progress pr (view_after (x.view w) (Look p) (Looked n (all_words x)))))
look_kept x w p zero pr G can e =
    let f : Frame = can.0.0 in
    let at : return_place f ≡ p = can.0.2 in
    subst (λ (q : ℕ). Leasing (world_after x w (Look q) (Looked 0 (all_words x)) (with_progress pr (view_after (x.view w) (Look q) (Looked 0 (all_words x)))))) at
    (frame_back x w f pr G can.0.1 (subst (λ (q : ℕ). q < length (x.view w).held) (sym at) can.1) (ap x.stack at ∙ sym e))
look_kept x w p (suc n) pr G can e =
    let same : view_after (x.view w) (Look p) (Looked (suc n) (all_words x)) ≡ x.view w = look_laws.alive (x.view w) p (suc n) (all_words x) (λ z. let no : ⊥ = omega (arith, z) in no) in
    subst (λ (u : View). Leasing (seen w (with_progress pr u) x)) (sym same) (quiet_world x x w (with_progress pr (x.view w)) (the_same x) G (refl, refl, refl) (refl, refl, refl))

-- ---- slots

this_slot : (x : World) (z : Slot) (o : Option Chain) (k : Cargo) (w : ℕ) (v : View) → (slot_of (seen w v (with_chain z o k x)) z ≡ o) × (cargo_of (seen w v (with_chain z o k x)) z ≡ k)
this_slot x (Cell c) o k w v = (put_here x.home c o, put_here x.home_cargo c k)
this_slot x (Mail a) o k w v = (put_here x.post a o, put_here x.post_cargo a k)

other_slot : (x : World) (z y : Slot) (o : Option Chain) (k : Cargo) (w : ℕ) (v : View) → (y ≡ z → ⊥) → (slot_of (seen w v (with_chain z o k x)) y ≡ slot_of x y) × (cargo_of (seen w v (with_chain z o k x)) y ≡ cargo_of x y)
other_slot x (Cell c) (Cell d) o k w v n = let m : d ≢ c = λ e. n (ap Cell e) in (put_other x.home c o d m, put_other x.home_cargo c k d m)
other_slot x (Mail a) (Mail b) o k w v n = let m : b ≢ a = λ e. n (ap Mail e) in (put_other x.post a o b m, put_other x.post_cargo a k b m)
other_slot x (Cell c) (Mail b) o k w v n = (refl, refl)
other_slot x (Mail a) (Cell d) o k w v n = (refl, refl)

cargo_eq : (c d : Cargo) → d ≡ c → SameCargo c d
cargo_eq c d e = (ap (λ (k : Cargo). k.words) e, ap (λ (k : Cargo). k.frames) e)

around_chain : (x : World) (w : ℕ) (v : View) (z : Slot) (o : Option Chain) (k : Cargo) (G : Leasing x) → SameSize (x.view w) v → (o ≡ None → IsBare k) → AroundSlot x.workers x.each x.stack (slot_of x) (cargo_of x) x.view G w z (slot_of (seen w v (with_chain z o k x))) (cargo_of (seen w v (with_chain z o k x))) (put x.view w v)
around_chain x w v z o k G s b = record {
  others = λ u n. put_other x.view w v u n;
  sized = λ l. view_sized x x.view w v G s l;
  same = λ y n. cargo_eq (cargo_of x y) (cargo_of (seen w v (with_chain z o k x)) y) (other_slot x z y o k w v n).1;
  empty = λ y n e. sym (other_slot x z y o k w v n).0 ∙ e;
  here = λ e. subst IsBare (sym (this_slot x z o k w v).1) (b (sym (this_slot x z o k w v).0 ∙ e));
}

chain_world : (x : World) (w : ℕ) (v : View) (z : Slot) (o : Option Chain) (k : Cargo) → Leases x.workers x.each x.stack (slot_of (seen w v (with_chain z o k x))) (cargo_of (seen w v (with_chain z o k x))) (put x.view w v) → Leasing (seen w v (with_chain z o k x))
chain_world x w v (Cell c) o k l = l
chain_world x w v (Mail a) o k l = l

-- nothing was in the slot
none_taken : (x : World) (w : ℕ) (z : Slot) (pr : Progress) → Leasing x → slot_of x z ≡ None → Leasing (seen w (with_progress pr (x.view w)) (with_chain z None no_cargo x))
none_taken x w z pr G empty =
    let v : View = with_progress pr (x.view w) in
    let y : World = with_chain z None no_cargo x in
    let bare : IsBare (cargo_of x z) = G.bare z empty in
    chain_world x w v z None no_cargo (quiet x.workers x.each x.stack (slot_of x) (cargo_of x) x.view G w (slot_of (seen w v y)) (cargo_of (seen w v y)) (put x.view w v)
    (record {
      others = λ u n. put_other x.view w v u n;
      sized = λ l. view_sized x x.view w v G (refl, refl, refl) l;
      same = λ q. ⊎_elim
          (λ (e : q ≡ z). subst (λ (q : Slot). SameCargo (cargo_of x q) (cargo_of (seen w v y) q)) (sym e) (subst (λ (k : Cargo). SameCargo (cargo_of x z) k) (sym (this_slot x z None no_cargo w v).1) (sym bare.0, sym bare.1)))
          (λ (n : q ≡ z → ⊥). cargo_eq (cargo_of x q) (cargo_of (seen w v y) q) (other_slot x z q None no_cargo w v n).1) (slot_case q z);
      empty = λ q e. ⊎_elim
          (λ (s : q ≡ z). ap (slot_of x) s ∙ empty)
          (λ (n : q ≡ z → ⊥). sym (other_slot x z q None no_cargo w v n).0 ∙ e) (slot_case q z);
    })
    (subst (λ (u : View). SameView (x.view w) u) (sym (put_here x.view w v)) (refl, refl, refl)))

chain_taken : (x : World) (w : ℕ) (z : Slot) (chain : Chain) (pr : Progress) → Leasing x → w < x.workers → Leasing (seen w (with_progress pr (taking (x.view w) z chain (cargo_of x z))) (with_chain z None no_cargo x))
chain_taken x w z chain pr G less =
    let u : View = x.view w in
    let v : View = with_progress pr (taking u z chain (cargo_of x z)) in
    let y : World = with_chain z None no_cargo x in
    let sized = G.sized w less in
    chain_world x w v z None no_cargo (taken x.workers x.each x.stack (slot_of x) (cargo_of x) x.view G w z (slot_of (seen w v y)) (cargo_of (seen w v y)) (put x.view w v)
    (around_chain x w v z None no_cargo G (size_after pr u (SlotTake z) (Took (Some chain) (cargo_of x z))) (λ e. (refl, refl)))
    (subst (λ (q : View). TakesIn (home_of x.each) w (cargo_of x z) u q) (sym (put_here x.view w v)) (takes_in_after pr w x.each u z chain (cargo_of x z) sized.number sized.stack
    (λ p n e. subst (λ (k : ℕ). p < k) (sym sized.held) (comes_within x.workers x.each x.stack (slot_of x) (cargo_of x) x.view G z p n e))))
    (subst IsBare (sym (this_slot x z None no_cargo w v).1) (refl, refl)))

pub take_kept : (x : World) (w : ℕ) (z : Slot) (o : Option Chain) (pr : Progress) → Leasing x → w < x.workers → o ≡ slot_of x z → Leasing (world_after x w (SlotTake z) (Took o (cargo_of x z)) (with_progress pr (view_after (x.view w) (SlotTake z) (Took o (cargo_of x z)))))
unfolding view_after
take_kept x w z None pr G less e = none_taken x w z pr G (sym e)
take_kept x w z (Some chain) pr G less e = chain_taken x w z chain pr G less

pub put_kept : (x : World) (w : ℕ) (z : Slot) (chain : Chain) (cargo : Cargo) (pr : Progress) → Leasing x → Tends (x.view w) (SlotPut z chain cargo) → slot_of x z ≡ None → Leasing (world_after x w (SlotPut z chain cargo) Done (with_progress pr (putting (x.view w) z chain cargo)))
put_kept x w z chain cargo pr G may empty =
    let u : View = x.view w in
    let v : View = with_progress pr (putting u z chain cargo) in
    let y : World = with_chain z (Some chain) cargo x in
    chain_world x w v z (Some chain) cargo (put_out x.workers x.each x.stack (slot_of x) (cargo_of x) x.view G w z (slot_of (seen w v y)) (cargo_of (seen w v y)) (put x.view w v)
    (around_chain x w v z (Some chain) cargo G (size_after pr u (SlotPut z chain cargo) Done) (λ e. let no : ⊥ = cc in absurd no))
    (subst (λ (k : Cargo). PutsOut k u (put x.view w v w)) (sym (this_slot x z (Some chain) cargo w v).1) (subst (λ (q : View). PutsOut cargo u q) (sym (put_here x.view w v)) (puts_out_after pr u z chain cargo may)))
    (G.bare z empty))

-- ---- each kind of step

pub step_kept : (x : World) (w : ℕ) (s : Step) (a : Answer) (v' : View) → Leasing x → w < x.workers → Can (x.view w) s → Tends (x.view w) s → IsVacant x s → Finds x w s a → Does (x.view w) s a v' → Leasing (world_after x w s a v')
step_kept x w (StackStore p n) Done v' G l can t e f d = subst (λ (v : View). Leasing (world_after x w (StackStore p n) Done v)) (sym d.1) (store_kept x w p n d.0 G can t.0 t.1)
step_kept x w (Mark p) Done v' G l can t e f d = subst (λ (v : View). Leasing (world_after x w (Mark p) Done v)) (sym d.1) (mark_kept x w p d.0 G can)
step_kept x w (Look p) (Looked n cargo) v' G l can t e f d =
    subst (λ (v : View). Leasing (world_after x w (Look p) (Looked n cargo) v)) (sym d.1)
    (subst (λ (k : Cargo). Leasing (world_after x w (Look p) (Looked n k) (with_progress d.0 (view_after (x.view w) (Look p) (Looked n k))))) (sym f.1) (look_kept x w p n d.0 G can f.0))
step_kept x w (SlotTake z) (Took o cargo) v' G l can t e f d =
    subst (λ (v : View). Leasing (world_after x w (SlotTake z) (Took o cargo) v)) (sym d.1)
    (subst (λ (k : Cargo). Leasing (world_after x w (SlotTake z) (Took o k) (with_progress d.0 (view_after (x.view w) (SlotTake z) (Took o k))))) (sym f.1) (take_kept x w z o d.0 G l f.0))
step_kept x w (SlotPut z chain cargo) Done v' G l can t e f d = subst (λ (v : View). Leasing (world_after x w (SlotPut z chain cargo) Done v)) (sym d.1) (put_kept x w z chain cargo d.0 G t e)
step_kept x w (StackStore p n) (Number k) v' G l can t e f d = absurd f
step_kept x w (StackStore p n) (Looked k c) v' G l can t e f d = absurd f
step_kept x w (StackStore p n) (Took k c) v' G l can t e f d = absurd f
step_kept x w (Mark p) (Number k) v' G l can t e f d = absurd f
step_kept x w (Mark p) (Looked k c) v' G l can t e f d = absurd f
step_kept x w (Mark p) (Took k c) v' G l can t e f d = absurd f
step_kept x w (Look p) Done v' G l can t e f d = absurd f
step_kept x w (Look p) (Number k) v' G l can t e f d = absurd f
step_kept x w (Look p) (Took k c) v' G l can t e f d = absurd f
step_kept x w (SlotTake z) Done v' G l can t e f d = absurd f
step_kept x w (SlotTake z) (Number k) v' G l can t e f d = absurd f
step_kept x w (SlotTake z) (Looked k c) v' G l can t e f d = absurd f
step_kept x w (SlotPut z chain cargo) (Number k) v' G l can t e f d = absurd f
step_kept x w (SlotPut z chain cargo) (Looked k c) v' G l can t e f d = absurd f
step_kept x w (SlotPut z chain cargo) (Took k c) v' G l can t e f d = absurd f
step_kept x w s a v' G l can t e f d = quiet_kept x w s a v' tt G d
