-- What a look leaves of a view: look_laws.
use Rattle.std.proofs.Common.{◌≡◌, ◌≢◌, ℕ, zero, suc, ◌<◌, List, length, Option, Some, None, refl, ap, ◌∙◌, arith}
use Rattle.std.specs.List.{Contains}
use Rattle.st_base.specs.declared.chain.Frame.{Frame}
use Rattle.st_words.specs.declared.view.Cargo.{Cargo}
use Rattle.st_words.specs.declared.view.View.{View}
use Rattle.st_words.specs.Steps.{return_place, Inside, Look, Looked, kept}
use Rattle.st_words.specs.Views.{view_after, taken_back, looked, frame_returning}
use Rattle.st_words.specs.Promises.{Promises}
use Rattle.st_words.specs.Laws.{LookLaws, OneEach}
use Rattle.st_words.proofs.Returning.{returning_some, found_exported, with_inside, with_outside, returning_gone, returning_stay, returning_were}

-- what is taken back, by the frame that is found
back_at : (u : View) (f : Frame) (cargo : Cargo) → OneEach u → Contains u.exported f → looked (return_place f) 0 cargo u ≡ taken_back (return_place f) cargo.words (Some f) u
back_at u f cargo one m = ap (λ (o : Option Frame). taken_back (return_place f) cargo.words o u) (found_exported u f one m)

inside_below : (f : Frame) (q n : ℕ) → Inside f q → return_place f < n → q < n
inside_below f q n i l = let a = i.1 in omega arith

takes_back : (u : View) (f : Frame) (cargo : Cargo) (q : ℕ) → OneEach u → Contains u.exported f → return_place f < length u.held → Promises u (Look (return_place f)) (Looked 0 cargo) → Inside f q → (m : ℕ) × (kept cargo.words q ≡ Some m) × (kept (looked (return_place f) 0 cargo u).held q ≡ Some m)
takes_back u f cargo q one m l told i =
    let word = told refl f m refl q i in
    (word.0, word.1, ap (λ (v : View). kept v.held q) (back_at u f cargo one m) ∙ with_inside f cargo.words u.held q (inside_below f q (length u.held) i l) i ∙ word.1)

stay_by : (u : View) (p : ℕ) (words : List (Option ℕ)) (o : Option Frame) (f : Frame) → return_place f ≢ p → Contains u.exported f → Contains (taken_back p words o u).exported f
stay_by u p words None f n m = m
stay_by u p words (Some g) f n m = returning_stay p u.exported f n m

were_by : (u : View) (p : ℕ) (words : List (Option ℕ)) (o : Option Frame) (f : Frame) → Contains (taken_back p words o u).exported f → Contains u.exported f
were_by u p words None f m = m
were_by u p words (Some g) f m = returning_were p u.exported f m

away_by : (u : View) (p : ℕ) (words : List (Option ℕ)) (o : Option Frame) → (taken_back p words o u).away ≡ u.away
away_by u p words None = refl
away_by u p words (Some g) = refl

stay : (u : View) (p n : ℕ) (cargo : Cargo) (f : Frame) → return_place f ≢ p → Contains u.exported f → Contains (looked p n cargo u).exported f
stay u p zero cargo f d m = stay_by u p cargo.words (frame_returning p u.exported) f d m
stay u p (suc n) cargo f d m = m

were : (u : View) (p n : ℕ) (cargo : Cargo) (f : Frame) → Contains (looked p n cargo u).exported f → Contains u.exported f
were u p zero cargo f m = were_by u p cargo.words (frame_returning p u.exported) f m
were u p (suc n) cargo f m = m

away : (u : View) (p n : ℕ) (cargo : Cargo) → (looked p n cargo u).away ≡ u.away
away u p zero cargo = away_by u p cargo.words (frame_returning p u.exported)
away u p (suc n) cargo = refl

alive : (u : View) (p n : ℕ) (cargo : Cargo) → n ≢ 0 → looked p n cargo u ≡ u
alive u p zero cargo n = absurd (n refl)
alive u p (suc k) cargo n = refl

-- a frame that is taken back is gone, whichever frame with its return word is found first
gone_by : (u : View) (f : Frame) (cargo : Cargo) (o : Option Frame) → frame_returning (return_place f) u.exported ≡ o → Contains u.exported f → Contains (taken_back (return_place f) cargo.words o u).exported f → ⊥
gone_by u f cargo None e m k = let r = returning_some (return_place f) u.exported f m refl in let a = r.1 in let no : ⊥ = cc in no
gone_by u f cargo (Some g) e m k = returning_gone (return_place f) u.exported f k refl

pub look_laws : LookLaws
unfolding view_after
look_laws = record {
  takes_back = takes_back;
  others = λ u f cargo q one m i. ap (λ (v : View). kept v.held q) (back_at u f cargo one m) ∙ with_outside f cargo.words u.held q i;
  gone = λ u f cargo m k. gone_by u f cargo (frame_returning (return_place f) u.exported) refl m k;
  stay = stay;
  were = were;
  away = away;
  alive = alive;
}
