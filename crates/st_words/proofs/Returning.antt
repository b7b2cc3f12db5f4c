-- The frame with a return word among a list of frames, and the words of a frame. Reach for returning_some and returning_none, for found_leased
-- and found_exported (the frame is found where frames have one return word each), without_inside, without_outside, with_inside and
-- with_outside, returning_gone, returning_stay and returning_were.
use Rattle.std.proofs.Common.{◌≡◌, ◌≢◌, inl, inr, ⊎_elim, ℕ, ◌<◌, Bool, cond, not, List, [], ◌∷◌, ◌++◌, length, Option, Some, None, refl, sym, ap, ◌∙◌, subst, arith, eq-eqb, ne_eqb}
use Rattle.std.specs.List.{Contains}
use Rattle.std.proofs.lemmas.List.Elements.{Contains-append_left, Contains-append_right, Contains-append_cases}
use mathlib.Core.Logic.{dite}
use native.Mathlib.Decide.{ℕ_discrete}
use Rattle.st_base.specs.declared.chain.Frame.{Frame}
use Rattle.st_words.specs.declared.view.View.{View}
use Rattle.st_words.specs.Steps.{Inside, place_of, return_place, kept, IsLeased}
use Rattle.st_words.specs.Views.{held_without, held_with, returns_at, frame_returning, without_returning}
use Rattle.st_words.specs.Laws.{OneEach, AreApart}
use Rattle.st_words.proofs.Lists.{all_some, all_none, all_stays, inside_true, inside_false, contains_here, contains_later, contains_none, contains_case, filter_in, filter_out, other_true, other_false}

found_here : (p : ℕ) (y : Frame) (ys : List Frame) → return_place y ≡ p → frame_returning p (y ∷ ys) ≡ Some y
found_here p y ys e = ap (λ (b : Bool). cond b (Some y) (frame_returning p ys)) (eq-eqb (return_place y) p e)

found_later : (p : ℕ) (y : Frame) (ys : List Frame) → return_place y ≢ p → frame_returning p (y ∷ ys) ≡ frame_returning p ys
found_later p y ys n = ap (λ (b : Bool). cond b (Some y) (frame_returning p ys)) (ne_eqb (return_place y) p n)

pub returning_some : (p : ℕ) (fs : List Frame) (f : Frame) → Contains fs f → return_place f ≡ p → (g : Frame) × (frame_returning p fs ≡ Some g) × Contains fs g × (return_place g ≡ p)
returning_some p [] f m e = absurd (contains_none f m)
returning_some p (y ∷ ys) f m e = dite (ℕ_discrete (return_place y) p)
    (λ (s : return_place y ≡ p). (y, found_here p y ys s, contains_here y ys, s))
    (λ (n : return_place y ≢ p). ⊎_elim (λ (same : y ≡ f). absurd (n (ap return_place same ∙ e)))
    (λ (more : Contains ys f). let r = returning_some p ys f more e in (r.0, found_later p y ys n ∙ r.1, contains_later r.0 y ys r.2, r.3)) (contains_case f y ys m))

pub returning_none : (p : ℕ) (fs : List Frame) → ((f : Frame) → Contains fs f → return_place f ≢ p) → frame_returning p fs ≡ None
returning_none p [] no' = refl
returning_none p (y ∷ ys) no' = found_later p y ys (no' y (contains_here y ys)) ∙ returning_none p ys (λ f m. no' f (contains_later f y ys m))

joined : (u : View) (f : Frame) → IsLeased u f → Contains (u.exported ++ u.away) f
joined u f (inl m) = Contains-append_left u.exported u.away f m
joined u f (inr m) = Contains-append_right u.exported u.away f m

split : (u : View) (f : Frame) → Contains (u.exported ++ u.away) f → IsLeased u f
split u f m = Contains-append_cases u.exported u.away f m

pub found_leased : (u : View) (f : Frame) → OneEach u → IsLeased u f → frame_returning (return_place f) (u.exported ++ u.away) ≡ Some f
found_leased u f one l =
    let r = returning_some (return_place f) (u.exported ++ u.away) f (joined u f l) refl in
    r.1 ∙ ap Some (one r.0 f (split u r.0 r.2) l r.3)

pub found_exported : (u : View) (f : Frame) → OneEach u → Contains u.exported f → frame_returning (return_place f) u.exported ≡ Some f
found_exported u f one m =
    let r = returning_some (return_place f) u.exported f m refl in
    r.1 ∙ ap Some (one r.0 f (inl r.2) (inl m) r.3)

pub found_none : (u : View) (p : ℕ) → ((f : Frame) → IsLeased u f → return_place f ≢ p) → frame_returning p (u.exported ++ u.away) ≡ None
found_none u p n = returning_none p (u.exported ++ u.away) (λ f m. n f (split u f m))

-- a frame with a word has its return word
pub return_inside : (f : Frame) → place_of f.low < place_of f.base → Inside f (return_place f)
return_inside f l = (omega arith, omega arith)

pub apart_each : (u : View) → AreApart u → OneEach u
apart_each u r f g lf lg e = r.apart f g (return_place f) lf lg (return_inside f (r.some_word f lf)) (subst (λ (p : ℕ). Inside g p) (sym e) (return_inside g (r.some_word g lg)))

-- ---- the words of a frame

pub without_inside : (f : Frame) (held : List (Option ℕ)) (q : ℕ) → Inside f q → kept (held_without f held) q ≡ None
without_inside f held q i = all_none _ held q (ap (λ (b : Bool). cond b None (kept held q)) (inside_true f q i))

pub without_outside : (f : Frame) (held : List (Option ℕ)) (q : ℕ) → (Inside f q → ⊥) → kept (held_without f held) q ≡ kept held q
without_outside f held q i = all_stays _ held q (ap (λ (b : Bool). cond b None (kept held q)) (inside_false f q i))

pub with_inside : (f : Frame) (words held : List (Option ℕ)) (q : ℕ) → q < length held → Inside f q → kept (held_with f words held) q ≡ kept words q
with_inside f words held q l i = all_some _ held q l ∙ ap (λ (b : Bool). cond b (kept words q) (kept held q)) (inside_true f q i)

pub with_outside : (f : Frame) (words held : List (Option ℕ)) (q : ℕ) → (Inside f q → ⊥) → kept (held_with f words held) q ≡ kept held q
with_outside f words held q i = all_stays _ held q (ap (λ (b : Bool). cond b (kept words q) (kept held q)) (inside_false f q i))

-- ---- frames but those with a return word

pub returning_gone : (p : ℕ) (fs : List Frame) (f : Frame) → Contains (without_returning p fs) f → return_place f ≢ p
returning_gone p fs f m = other_false (return_place f) p (filter_out (λ g. not (returns_at p g)) fs f m).1

pub returning_stay : (p : ℕ) (fs : List Frame) (f : Frame) → return_place f ≢ p → Contains fs f → Contains (without_returning p fs) f
returning_stay p fs f n m = filter_in (λ g. not (returns_at p g)) fs f m (other_true (return_place f) p n)

pub returning_were : (p : ℕ) (fs : List Frame) (f : Frame) → Contains (without_returning p fs) f → Contains fs f
returning_were p fs f m = (filter_out (λ g. not (returns_at p g)) fs f m).0
