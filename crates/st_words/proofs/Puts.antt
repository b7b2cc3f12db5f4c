-- What a chain that is put leaves of a view: put_laws. Reach for among_true and among_back for the frames that go with it, and for has_in_hand
-- and hand_has between the test in_hand and HasInHand.
use Rattle.std.proofs.Common.{◌≡◌, ◌≢◌, ◌⊎◌, inl, inr, ⊎_elim, ℕ, Bool, true, false, cond, not, ◌&&◌, ◌||◌, ◌==◌, List, [], ◌∷◌, is_some, Option, Some, None, refl, sym, ap, ◌∙◌, subst, eq-eqb}
use Rattle.std.specs.List.{Contains}
use Rattle.st_base.specs.declared.chain.Chain.{Chain}
use Rattle.st_base.specs.declared.chain.Frame.{Frame}
use Rattle.st_base.specs.declared.chain.Waiting.{Waiting}
use Rattle.st_base.specs.declared.chain.Waiting.TheVariants as waits
use Rattle.st_words.specs.declared.view.Slot.{Slot}
use Rattle.st_words.specs.declared.view.Slot.TheVariants.{Cell, Mail}
use Rattle.st_words.specs.declared.view.Carried.{Carried}
use Rattle.st_words.specs.declared.view.Cargo.{Cargo}
use Rattle.st_words.specs.declared.view.Waiter.{Waiter}
use Rattle.st_words.specs.declared.view.View.{View}
use Rattle.st_words.specs.Steps.{kept, IsWaiting}
use Rattle.st_words.specs.Views.{view_after, slot_put, held_but, is_among, without_frames, without_chain, in_hand, waiter_of}
use Rattle.st_words.specs.Laws.{PutLaws}
use Rattle.st_words.proofs.Lists.{all_none, all_stays, contains_here, contains_later, contains_none, contains_case, filter_in, filter_out, other_true, other_false, same_true, is_false, both_true}

-- ---- words

but_in : (words held : List (Option ℕ)) (p n : ℕ) → kept words p ≡ Some n → kept (held_but words held) p ≡ None
but_in words held p n e = all_none _ held p (ap (λ (o : Option ℕ). cond (is_some o) None (kept held p)) e)

but_out : (words held : List (Option ℕ)) (p : ℕ) → kept words p ≡ None → kept (held_but words held) p ≡ kept held p
but_out words held p e = all_stays _ held p (ap (λ (o : Option ℕ). cond (is_some o) None (kept held p)) e)

-- ---- frames

or_true : (a b : Bool) → a ≡ true → (a || b) ≡ true
or_true true b e = refl
or_true false b e = let no : ⊥ = cc in absurd no

or_later : (a b : Bool) → b ≡ true → (a || b) ≡ true
or_later true b e = refl
or_later false b e = e

or_case : (a b : Bool) → (a || b) ≡ true → (a ≡ true) ⊎ (b ≡ true)
or_case true b e = inl refl
or_case false b e = inr e

same_frame : (f g : Frame) → f ≡ g → ((f.low == g.low) && (f.base == g.base)) ≡ true
same_frame f g e = ap (λ (b : Bool). b && (f.base == g.base)) (eq-eqb f.low g.low (ap (λ h. h.low) e)) ∙ eq-eqb f.base g.base (ap (λ h. h.base) e)

frame_same : (f g : Frame) → ((f.low == g.low) && (f.base == g.base)) ≡ true → f ≡ g
frame_same f g e =
    let z = both_true (f.low == g.low) (f.base == g.base) e in
    let a : f.low ≡ g.low = same_true f.low g.low z.0 in
    let b : f.base ≡ g.base = same_true f.base g.base z.1 in
    λ i. record { low = a i; base = b i }

pub among_true : (fs : List Frame) (f : Frame) → Contains fs f → is_among fs f ≡ true
among_true [] f m = absurd (contains_none f m)
among_true (y ∷ ys) f m = ⊎_elim
    (λ (e : y ≡ f). or_true ((y.low == f.low) && (y.base == f.base)) (is_among ys f) (same_frame y f e))
    (λ (n : Contains ys f). or_later ((y.low == f.low) && (y.base == f.base)) (is_among ys f) (among_true ys f n)) (contains_case f y ys m)

pub among_back : (fs : List Frame) (f : Frame) → is_among fs f ≡ true → Contains fs f
among_back [] f e = let no : ⊥ = cc in absurd no
among_back (y ∷ ys) f e = ⊎_elim
    (λ (a : ((y.low == f.low) && (y.base == f.base)) ≡ true). subst (λ (z : Frame). Contains (z ∷ ys) f) (sym (frame_same y f a)) (contains_here f ys))
    (λ (b : is_among ys f ≡ true). contains_later f y ys (among_back ys f b)) (or_case ((y.low == f.low) && (y.base == f.base)) (is_among ys f) e)

frames_gone : (gone fs : List Frame) (f : Frame) → Contains gone f → Contains (without_frames gone fs) f → ⊥
frames_gone gone fs f m k = let t = (filter_out (λ g. not (is_among gone g)) fs f k).1 in let e = ap not (among_true gone f m) in let no : ⊥ = cc in no

frames_stay : (gone fs : List Frame) (f : Frame) → (Contains gone f → ⊥) → Contains fs f → Contains (without_frames gone fs) f
frames_stay gone fs f n m = filter_in (λ g. not (is_among gone g)) fs f m (ap not (is_false (is_among gone f) (λ e. n (among_back gone f e))))

frames_were : (gone fs : List Frame) (f : Frame) → Contains (without_frames gone fs) f → Contains fs f
frames_were gone fs f m = (filter_out (λ g. not (is_among gone g)) fs f m).0

-- ---- chains and waiters

chain_gone : (c : ℕ) (chains : List Carried) (x : Carried) → Contains (without_chain c chains) x → x.known.note.cell ≡ c → ⊥
chain_gone c chains x m e = other_false x.known.note.cell c (filter_out (λ y. not (y.known.note.cell == c)) chains x m).1 e

chain_stay : (c : ℕ) (chains : List Carried) (x : Carried) → x.known.note.cell ≢ c → Contains chains x → Contains (without_chain c chains) x
chain_stay c chains x n m = filter_in (λ y. not (y.known.note.cell == c)) chains x m (other_true x.known.note.cell c n)

abbrev pub HandHas : List Waiter → ℕ → Type 0
HandHas hand c = (x : Waiter) × Contains hand x × (x.cell ≡ c)

pub hand_has : (c : ℕ) (hand : List Waiter) → in_hand c hand ≡ true → HandHas hand c
hand_has c [] e = let no : ⊥ = cc in absurd no
hand_has c (y ∷ ys) e = ⊎_elim
    (λ (a : (y.cell == c) ≡ true). (y, contains_here y ys, same_true y.cell c a))
    (λ (b : in_hand c ys ≡ true). let r = hand_has c ys b in (r.0, contains_later r.0 y ys r.1, r.2)) (or_case (y.cell == c) (in_hand c ys) e)

pub has_in_hand : (c : ℕ) (hand : List Waiter) (x : Waiter) → Contains hand x → x.cell ≡ c → in_hand c hand ≡ true
has_in_hand c [] x m e = absurd (contains_none x m)
has_in_hand c (y ∷ ys) x m e = ⊎_elim
    (λ (s : y ≡ x). or_true (y.cell == c) (in_hand c ys) (eq-eqb y.cell c (ap (λ z. z.cell) s ∙ e)))
    (λ (n : Contains ys x). or_later (y.cell == c) (in_hand c ys) (has_in_hand c ys x n e)) (contains_case x y ys m)

-- a waiter is put into the hand where its number isn't there
abbrev joined : Bool → Waiter → List Waiter → List Waiter
joined b x hand = cond b hand (x ∷ hand)

joined_has : (b : Bool) (c : ℕ) (x : Waiter) (hand : List Waiter) → in_hand c hand ≡ b → x.cell ≡ c → HandHas (joined b x hand) c
joined_has true c x hand e at = hand_has c hand e
joined_has false c x hand e at = (x, contains_here x hand, at)

joined_stay : (b : Bool) (x y : Waiter) (hand : List Waiter) → Contains hand y → Contains (joined b x hand) y
joined_stay true x y hand m = m
joined_stay false x y hand m = contains_later y x hand m

waiter_there : (c : ℕ) (wait : Waiting) (hand : List Waiter) → IsWaiting wait → HandHas (waiter_of c wait hand) c
waiter_there c (waits.Touch cell) hand w = joined_has (in_hand c hand) c _ hand refl refl
waiter_there c (waits.Join cell least) hand w = joined_has (in_hand c hand) c _ hand refl refl
waiter_there c waits.Start hand w = absurd w
waiter_there c waits.Ready hand w = absurd w
waiter_there c waits.Trapped hand w = absurd w

-- a waiter whose number wasn't there comes with what it waits for
abbrev Waits : List Waiter → ℕ → Waiting → Type 0
Waits hand c wait = (x : Waiter) × Contains hand x × (x.cell ≡ c) × (x.wait ≡ Some wait)

joined_waits : (b : Bool) (c : ℕ) (wait : Waiting) (x : Waiter) (hand : List Waiter) → b ≡ false → x.cell ≡ c → x.wait ≡ Some wait → Waits (joined b x hand) c wait
joined_waits true c wait x hand e at w = let no : ⊥ = cc in absurd no
joined_waits false c wait x hand e at w = (x, contains_here x hand, at, w)

waiter_waits : (c : ℕ) (wait : Waiting) (hand : List Waiter) → IsWaiting wait → in_hand c hand ≡ false → Waits (waiter_of c wait hand) c wait
waiter_waits c (waits.Touch cell) hand w n = joined_waits (in_hand c hand) c (waits.Touch cell) _ hand n refl refl
waiter_waits c (waits.Join cell least) hand w n = joined_waits (in_hand c hand) c (waits.Join cell least) _ hand n refl refl
waiter_waits c waits.Start hand w n = absurd w
waiter_waits c waits.Ready hand w n = absurd w
waiter_waits c waits.Trapped hand w n = absurd w

waiters_stay : (c : ℕ) (wait : Waiting) (hand : List Waiter) (y : Waiter) → Contains hand y → Contains (waiter_of c wait hand) y
waiters_stay c (waits.Touch cell) hand y m = joined_stay (in_hand c hand) _ y hand m
waiters_stay c (waits.Join cell least) hand y m = joined_stay (in_hand c hand) _ y hand m
waiters_stay c waits.Start hand y m = m
waiters_stay c waits.Ready hand y m = m
waiters_stay c waits.Trapped hand y m = m

-- ---- each part of the view, whichever slot it is

held_put : (u : View) (slot : Slot) (chain : Chain) (cargo : Cargo) → (slot_put slot chain cargo u).held ≡ held_but cargo.words u.held
held_put u (Cell c) chain cargo = refl
held_put u (Mail at) chain cargo = refl

away_put : (u : View) (slot : Slot) (chain : Chain) (cargo : Cargo) → (slot_put slot chain cargo u).away ≡ without_frames cargo.frames u.away
away_put u (Cell c) chain cargo = refl
away_put u (Mail at) chain cargo = refl

exported_put : (u : View) (slot : Slot) (chain : Chain) (cargo : Cargo) → (slot_put slot chain cargo u).exported ≡ u.exported
exported_put u (Cell c) chain cargo = refl
exported_put u (Mail at) chain cargo = refl

chains_put : (u : View) (slot : Slot) (chain : Chain) (cargo : Cargo) → (slot_put slot chain cargo u).chains ≡ without_chain chain.cell u.chains
chains_put u (Cell c) chain cargo = refl
chains_put u (Mail at) chain cargo = refl

hands_put : (u : View) (slot : Slot) (chain : Chain) (cargo : Cargo) (x : Waiter) → Contains u.hand x → Contains (slot_put slot chain cargo u).hand x
hands_put u (Cell c) chain cargo x m = waiters_stay c chain.wait u.hand x m
hands_put u (Mail at) chain cargo x m = m

pub put_laws : PutLaws
unfolding view_after
put_laws = record {
  words = λ u slot chain cargo p n e. ap (λ (h : List (Option ℕ)). kept h p) (held_put u slot chain cargo) ∙ but_in cargo.words u.held p n e;
  others = λ u slot chain cargo p e. ap (λ (h : List (Option ℕ)). kept h p) (held_put u slot chain cargo) ∙ but_out cargo.words u.held p e;
  gone = λ u slot chain cargo f m k. frames_gone cargo.frames u.away f m (subst (λ (fs : List Frame). Contains fs f) (away_put u slot chain cargo) k);
  stay = λ u slot chain cargo f n m. subst (λ (fs : List Frame). Contains fs f) (sym (away_put u slot chain cargo)) (frames_stay cargo.frames u.away f n m);
  were = λ u slot chain cargo f k. frames_were cargo.frames u.away f (subst (λ (fs : List Frame). Contains fs f) (away_put u slot chain cargo) k);
  exported = λ u slot chain cargo. exported_put u slot chain cargo;
  chain = λ u slot chain cargo has. chain_gone chain.cell u.chains has.0 (subst (λ (xs : List Carried). Contains xs has.0) (chains_put u slot chain cargo) has.1) has.2;
  chains = λ u slot chain cargo x n m. subst (λ (xs : List Carried). Contains xs x) (sym (chains_put u slot chain cargo)) (chain_stay chain.cell u.chains x n m);
  hand = λ u c chain cargo w. waiter_there c chain.wait u.hand w;
  waits = λ u c chain cargo w n. waiter_waits c chain.wait u.hand w (is_false (in_hand c u.hand) (λ e. n (hand_has c u.hand e)));
  hands = λ u slot chain cargo x m. hands_put u slot chain cargo x m;
}
