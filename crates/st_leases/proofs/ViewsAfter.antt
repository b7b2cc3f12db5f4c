-- What each kind of step does to the frames and the held words of a view, as the changes want it: same_after (a step that moves none), and stores_after,
-- zeroes_after, gives_up_after, takes_back_after, takes_in_after and puts_out_after.
use Rattle.std.proofs.Common.{◌≡◌, ◌≢◌, ◌⊎◌, inl, inr, ⊎_elim, ℕ, ◌<◌, Bool, true, false, not, List, [], ◌∷◌, ◌++◌, length, Option, Some, refl, sym, ap, ◌∙◌, subst, ◌==◌}
use Rattle.std.specs.List.{Contains}
use Rattle.std.proofs.lemmas.List.Elements.{Contains-append_left, Contains-append_right, Contains-append_cases}
use mathlib.Core.Logic.{dite}
use native.Mathlib.Decide.{ℕ_discrete}
use Rattle.st_base.specs.declared.chain.Chain.{Chain}
use Rattle.st_base.specs.declared.chain.Frame.{Frame}
use Rattle.st_words.specs.declared.view.CellWord.TheVariants.{Owner}
use Rattle.st_words.specs.declared.view.Slot.{Slot}
use Rattle.st_words.specs.declared.view.Slot.TheVariants.{Cell, Mail}
use Rattle.st_words.specs.declared.view.Cargo.{Cargo}
use Rattle.st_words.specs.declared.view.View.{View}
use Rattle.st_words.specs.Steps.{Step, StackStore, Mark, Look, CellLoad, CellStore, SlotTake, SlotPut, Answer, Done, Looked, Inside, return_place, home_of, kept, Holds, IsLeased}
use Rattle.st_words.specs.Views.{Progress, with_progress, view_after, held_and, first_word, foreign, slot_taken, is_among}
use Rattle.st_words.specs.Promises.{Promises}
use Rattle.st_words.specs.Careful.{MayCarry}
use Rattle.st_words.specs.Laws.{OneEach, taking, putting}
use Rattle.st_words.proofs.Lists.{contains_none, contains_here, contains_later, contains_case, all_some, all_stays, filter_in, filter_out, other_true, other_false}
use Rattle.st_words.proofs.Naming.{store_laws}
use Rattle.st_words.proofs.Marks.{mark_laws}
use Rattle.st_words.proofs.Looks.{look_laws}
use Rattle.st_words.proofs.Puts.{put_laws, among_true, among_back}
use Rattle.st_world.proofs.Untouched.{merged, after_merged}
use Rattle.st_holders.proofs.Shifts.{SameView}
use Rattle.st_holders.proofs.Changes.{Stores, GivesUp, TakesBack, TakesIn, PutsOut}

-- ---- steps that move no word and no frame

abbrev pub IsQuiet : Step → Type 0
IsQuiet (StackStore p n) = ⊥
IsQuiet (Mark p) = ⊥
IsQuiet (Look p) = ⊥
IsQuiet (SlotTake slot) = ⊥
IsQuiet (SlotPut slot chain cargo) = ⊥
IsQuiet _ = Prim.Unit

-- words and slots are told apart, since merged goes by them
merged_same : (s : Step) (x u : View) → IsQuiet s → SameView u (merged s x u)
merged_same (StackStore p n) x u q = absurd q
merged_same (Mark p) x u q = absurd q
merged_same (Look p) x u q = absurd q
merged_same (SlotTake slot) x u q = absurd q
merged_same (SlotPut slot chain cargo) x u q = absurd q
merged_same (CellLoad c Owner) x u q = (refl, refl, refl)
merged_same (CellStore c Owner n) x u q = (refl, refl, refl)
merged_same s x u q = (refl, refl, refl)

pub same_after : (u : View) (s : Step) (a : Answer) → IsQuiet s → SameView u (view_after u s a)
same_after u s a q = subst (λ (v : View). SameView u v) (sym (after_merged u s a)) (merged_same s (view_after u s a) u q)

-- ---- stores and marks

pub stores_after : (pr : Progress) (u : View) (p n : ℕ) → Holds u p → Stores p n u (with_progress pr (view_after u (StackStore p n) Done))
unfolding view_after
stores_after pr u p n h = record {
  here = store_laws.reads u p n h;
  others = λ q d. store_laws.others u p q n d;
  exported = refl;
  were = λ g m. m;
  stay = λ g m. m;
}

-- the return word of no leased frame
pub zeroes_after : (pr : Progress) (u : View) (p : ℕ) → Holds u p → ((f : Frame) → IsLeased u f → return_place f ≢ p) → Stores p 0 u (with_progress pr (view_after u (Mark p) Done))
zeroes_after pr u p h none = record {
  here = mark_laws.zero_there u p h none;
  others = λ q d. mark_laws.zero_others u p q none d;
  exported = mark_laws.exported u p;
  were = λ g m. mark_laws.were u p g m;
  stay = λ g m. mark_laws.stay u p g (none g (inr m)) m;
}

pub gives_up_after : (pr : Progress) (u : View) (f : Frame) → OneEach u → IsLeased u f → GivesUp f u (with_progress pr (view_after u (Mark (return_place f)) Done))
gives_up_after pr u f one m = record {
  inside = λ p i. mark_laws.gives_up u f p one m i;
  outside = λ p o. mark_laws.others u f p one m o;
  exported = mark_laws.exported u (return_place f);
  gone = λ k. mark_laws.gone u f k;
  were = λ g k. mark_laws.were u (return_place f) g k;
  stay = λ g d k. mark_laws.stay u (return_place f) g d k;
}

-- the frame with this return word, among these
pub returning_case : (p : ℕ) (fs : List Frame) → ((f : Frame) × Contains fs f × (return_place f ≡ p)) ⊎ ((f : Frame) → Contains fs f → return_place f ≢ p)
returning_case p [] = inr (λ f m. absurd (contains_none f m))
returning_case p (f ∷ fs) = dite (ℕ_discrete (return_place f) p)
    (λ (e : return_place f ≡ p). inl (f, contains_here f fs, e))
    (λ (n : return_place f ≢ p). ⊎_elim
    (λ (h : (g : Frame) × Contains fs g × (return_place g ≡ p)). inl (h.0, contains_later h.0 f fs h.1, h.2))
    (λ (h : (g : Frame) → Contains fs g → return_place g ≢ p). inr (λ g m. ⊎_elim (λ (s : f ≡ g). subst (λ (g : Frame). return_place g ≢ p) s n) (λ k. h g k) (contains_case g f fs m)))
    (returning_case p fs))

pub marks_case : (u : View) (p : ℕ) → ((f : Frame) × IsLeased u f × (return_place f ≡ p)) ⊎ ((f : Frame) → IsLeased u f → return_place f ≢ p)
marks_case u p = ⊎_elim
    (λ (h : (f : Frame) × Contains u.exported f × (return_place f ≡ p)). inl (h.0, inl h.1, h.2))
    (λ (n : (f : Frame) → Contains u.exported f → return_place f ≢ p). ⊎_elim
    (λ (h : (f : Frame) × Contains u.away f × (return_place f ≡ p)). inl (h.0, inr h.1, h.2))
    (λ (k : (f : Frame) → Contains u.away f → return_place f ≢ p). inr (λ f m. ⊎_elim (λ x. n f x) (λ x. k f x) m))
    (returning_case p u.away))
    (returning_case p u.exported)

-- ---- looks that find 0

pub takes_back_after : (pr : Progress) (u : View) (word : ℕ → ℕ) (f : Frame) (cargo : Cargo) → OneEach u → Contains u.exported f → return_place f < length u.held → Promises u (Look (return_place f)) (Looked 0 cargo) → ((p : ℕ) → Inside f p → kept cargo.words p ≡ Some (word p)) → TakesBack word f u (with_progress pr (view_after u (Look (return_place f)) (Looked 0 cargo)))
takes_back_after pr u word f cargo one m bound told tells = record {
  inside = λ p i. let t = look_laws.takes_back u f cargo p one m bound told i in t.2 ∙ (sym t.1 ∙ tells p i);
  outside = λ p o. look_laws.others u f cargo p one m o;
  away = look_laws.away u (return_place f) 0 cargo;
  gone = λ k. look_laws.gone u f cargo m k;
  were = λ g k. look_laws.were u (return_place f) 0 cargo g k;
  stay = λ g d k. look_laws.stay u (return_place f) 0 cargo g d k;
}

-- ---- chains

held_is : (u : View) (slot : Slot) (cargo : Cargo) → (slot_taken slot cargo u).held ≡ held_and cargo.words u.held
held_is u (Cell c) cargo = refl
held_is u (Mail at) cargo = refl

away_is : (u : View) (slot : Slot) (cargo : Cargo) → (slot_taken slot cargo u).away ≡ foreign u cargo.frames ++ u.away
away_is u (Cell c) cargo = refl
away_is u (Mail at) cargo = refl

exported_is : (u : View) (slot : Slot) (cargo : Cargo) → (slot_taken slot cargo u).exported ≡ u.exported
exported_is u (Cell c) cargo = refl
exported_is u (Mail at) cargo = refl

pub takes_in_after : (pr : Progress) (w each : ℕ) (u : View) (slot : Slot) (chain : Chain) (cargo : Cargo) → u.number ≡ w → u.each ≡ each → ((p n : ℕ) → kept cargo.words p ≡ Some n → p < length u.held) → TakesIn (home_of each) w cargo u (with_progress pr (taking u slot chain cargo))
unfolding view_after
takes_in_after pr w each u slot chain cargo number stack within = record {
  exported = exported_is u slot cargo;
  inside = λ p n e. ap (λ (h : List (Option ℕ)). kept h p) (held_is u slot cargo) ∙ (all_some (λ (q : ℕ) (o : Option ℕ). first_word (kept cargo.words q) o) u.held p (within p n e) ∙ ap (λ (o : Option ℕ). first_word o (kept u.held p)) e);
  outside = λ p e. ap (λ (h : List (Option ℕ)). kept h p) (held_is u slot cargo) ∙ all_stays (λ (q : ℕ) (o : Option ℕ). first_word (kept cargo.words q) o) u.held p (ap (λ (o : Option ℕ). first_word o (kept u.held p)) e);
  away = λ g m. ⊎_elim
      (λ (h : Contains (foreign u cargo.frames) g). let r = filter_out (λ (f : Frame). not (home_of u.each (return_place f) == u.number)) cargo.frames g h in inr (r.0, λ z. other_false (home_of u.each (return_place g)) u.number r.1 (ap (λ (k : ℕ). home_of k (return_place g)) stack ∙ (z ∙ sym number))))
      (λ (h : Contains u.away g). inl h) (Contains-append_cases (foreign u cargo.frames) u.away g (subst (λ (fs : List Frame). Contains fs g) (away_is u slot cargo) m));
  stay = λ g m. subst (λ (fs : List Frame). Contains fs g) (sym (away_is u slot cargo)) (Contains-append_right (foreign u cargo.frames) u.away g m);
  come = λ g m d. subst (λ (fs : List Frame). Contains fs g) (sym (away_is u slot cargo)) (Contains-append_left (foreign u cargo.frames) u.away g (filter_in (λ (f : Frame). not (home_of u.each (return_place f) == u.number)) cargo.frames g m (other_true (home_of u.each (return_place g)) u.number (λ z. d (sym (ap (λ (k : ℕ). home_of k (return_place g)) stack) ∙ (z ∙ number))))));
}

among_by : (fs : List Frame) (g : Frame) (b : Bool) → is_among fs g ≡ b → Contains fs g ⊎ (Contains fs g → ⊥)
among_by fs g true e = inl (among_back fs g e)
among_by fs g false e = inr (λ m. let t = among_true fs g m in let no : ⊥ = cc in no)

pub puts_out_after : (pr : Progress) (u : View) (slot : Slot) (chain : Chain) (cargo : Cargo) → MayCarry u chain cargo → PutsOut cargo u (with_progress pr (putting u slot chain cargo))
puts_out_after pr u slot chain cargo k = record {
  exported = put_laws.exported u slot chain cargo;
  leased = k.leased;
  whole = k.whole;
  words = k.words;
  inside = λ p n e. put_laws.words u slot chain cargo p n e;
  outside = λ p e. put_laws.others u slot chain cargo p e;
  away = λ g m. (put_laws.were u slot chain cargo g m, λ z. put_laws.gone u slot chain cargo g z m);
  stay = λ g m. ⊎_elim (λ z. inr z) (λ z. inl (put_laws.stay u slot chain cargo g z m)) (among_by cargo.frames g (is_among cargo.frames g) refl);
}
