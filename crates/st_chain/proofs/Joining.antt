-- Frames of a thread that is taken, as they are exported one by one: read joins_added (what an export comes to), will_export (what is to come is one frame
-- fewer) and are_exported (nothing is to come). Of frames that are apart: apart_at, all_tail, split_apart.
use Rattle.std.proofs.Common.{◌≡◌, ◌≢◌, ◌⊎◌, inl, inr, ℕ, zero, suc, Bool, true, false, List, [], ◌∷◌, ◌++◌, refl, ap, sym, ◌∙◌, subst, arith, append_assoc}
use Rattle.std.specs.List.{Contains}
use Rattle.st_base.specs.declared.chain.Frame.{Frame}
use Rattle.st_step.specs.Runs.{return_word}
use Rattle.st_stack.specs.Exported.{Exports, IsFrameOn, IsAdded, Apart}
use Rattle.st_chain.specs.Places.{Joins}
use Rattle.st_chain.specs.Seen.{AreApart}
use Rattle.st_chain.specs.Taking.{AllApart, WillExport, AreExported, IsRead, bottom_word}

-- ---- lists of frames

pub contains_here : (f : Frame) (fs : List Frame) → Contains (f ∷ fs) f
contains_here f fs = (0, omega arith, refl)

pub contains_more : (f g : Frame) (fs : List Frame) → Contains fs g → Contains (f ∷ fs) g
contains_more f g fs (k, inside, is) = (suc k, omega arith, is)

contains_split : (f g : Frame) (fs : List Frame) → Contains (f ∷ fs) g → (g ≡ f) ⊎ Contains fs g
contains_split f g fs (zero, inside, is) = inl (sym is)
contains_split f g fs (suc k, inside, is) = inr (k, omega arith, is)

pub apart_at : (f g : Frame) (gs : List Frame) → AreApart f gs → Contains gs g → Apart f g
apart_at f g [] apart (k, inside, is) = absurd (omega arith)
apart_at f g (h ∷ gs) apart (zero, inside, is) = subst (Apart f) is apart.0
apart_at f g (h ∷ gs) apart (suc k, inside, is) = apart_at f g gs apart.2 (k, omega arith, is)

pub turned : (f g : Frame) → Apart f g → Apart g f
turned f g (inl under) = inr under
turned f g (inr over) = inl over

pub split_apart : (f : Frame) (xs ys : List Frame) → AreApart f (xs ++ ys) → AreApart f xs × AreApart f ys
split_apart f [] ys apart = (tt, apart)
split_apart f (x ∷ xs) ys apart = let rest = split_apart f xs ys apart.2 in ((apart.0, apart.1, rest.0), rest.1)

pub all_tail : (xs ys : List Frame) → AllApart (xs ++ ys) → AllApart ys
all_tail [] ys all = all
all_tail (x ∷ xs) ys all = all_tail xs ys all.2

pub contains_left : (xs ys : List Frame) (g : Frame) → Contains xs g → Contains (xs ++ ys) g
contains_left [] ys g (k, inside, is) = absurd (omega arith)
contains_left (x ∷ xs) ys g there = elim (contains_split x g xs there) [ inl same ↦ subst (Contains (x ∷ (xs ++ ys))) (sym same) (contains_here x (xs ++ ys)) | inr later ↦ contains_more x g (xs ++ ys) (contains_left xs ys g later) ]

pub apart_before : (g : Frame) (xs ys : List Frame) → AllApart (xs ++ ys) → Contains ys g → AreApart g xs
apart_before g [] ys all there = tt
apart_before g (x ∷ xs) ys all there = (turned x g (apart_at x g ys (split_apart x xs ys all.1).1 there), all.0, apart_before g xs ys all.2 there)

-- ---- an export

pub joins_added : (is_taken b : Bool) (s s' : Exports) (f : Frame) → is_taken ≡ true → IsFrameOn s.lo s.hi f → IsAdded s.exported f b s'.exported → (s'.lo ≡ s.lo) × (s'.hi ≡ s.hi) → Joins is_taken s f s'
joins_added is_taken true s s' f taken on (new, more) ends = record {
  lo = ends.0;
  hi = ends.1;
  stay = λ g there. more.stay g there;
  come = λ is lies. more.here;
  were = λ g there. were g (more.were g there);
}
  where
    were : (g : Frame) → (g ≡ f) ⊎ Contains s.exported g → Contains s.exported g ⊎ ((g ≡ f) × (is_taken ≡ true) × IsFrameOn s.lo s.hi f)
    were g (inl same) = inr (same, taken, on)
    were g (inr there) = inl there
joins_added is_taken false s s' f taken on (old, same) ends = record {
  lo = ends.0;
  hi = ends.1;
  stay = λ g there. subst (λ (fs : List Frame). Contains fs g) (sym same) there;
  come = λ is lies. subst (λ (fs : List Frame). Contains fs f) (sym same) old;
  were = λ g there. inl (subst (λ (fs : List Frame). Contains fs g) same there);
}

-- ---- what is to come

on_same : (s s' : Exports) (f g : Frame) (b : Bool) → Joins b s f s' → IsFrameOn s'.lo s'.hi g → IsFrameOn s.lo s.hi g
on_same s s' f g b joins on = subst (λ (n : ℕ). IsFrameOn n s.hi g) joins.lo (subst (λ (n : ℕ). IsFrameOn s'.lo n g) joins.hi on)

on_back : (s s' : Exports) (f g : Frame) (b : Bool) → Joins b s f s' → IsFrameOn s.lo s.hi g → IsFrameOn s'.lo s'.hi g
on_back s s' f g b joins on = subst (λ (n : ℕ). IsFrameOn n s'.hi g) (sym joins.lo) (subst (λ (n : ℕ). IsFrameOn s.lo n g) (sym joins.hi) on)

module _ (s s' : Exports) (f : Frame) (fs final : List Frame) (apart : AreApart f fs) (will : WillExport s (f ∷ fs) final) (joins : Joins true s f s') where
  stays : (g : Frame) → Contains s.exported g ⊎ ((g ≡ f) × (true ≡ true) × IsFrameOn s.lo s.hi f) → Contains final g
  stays g (inl there) = will.stay g there
  stays g (inr (same, taken, on)) = subst (Contains final) (sym same) (will.come f (contains_here f fs) on)

  came : (g : Frame) → IsFrameOn s.lo s.hi g → (g ≡ f) ⊎ Contains fs g → Contains s'.exported g ⊎ (Contains fs g × IsFrameOn s'.lo s'.hi g)
  came g on (inl same) = inl (subst (Contains s'.exported) (sym same) (joins.come refl (subst (IsFrameOn s.lo s.hi) same on)))
  came g on (inr there) = inr (there, on_back s s' f g true joins on)

  were_some : (g : Frame) → Contains s.exported g ⊎ (Contains (f ∷ fs) g × IsFrameOn s.lo s.hi g) → Contains s'.exported g ⊎ (Contains fs g × IsFrameOn s'.lo s'.hi g)
  were_some g (inl there) = inl (joins.stay g there)
  were_some g (inr (there, on)) = came g on (contains_split f g fs there)

  apart_still : (g h : Frame) → Contains fs g → IsFrameOn s.lo s.hi g → h ≢ g → Contains s.exported h ⊎ ((h ≡ f) × (true ≡ true) × IsFrameOn s.lo s.hi f) → Apart g h
  apart_still g h there on other (inl old) = will.may g (contains_more f g fs there) on h old other
  apart_still g h there on other (inr (same, taken, lies)) = subst (Apart g) (sym same) (turned f g (apart_at f g fs apart there))

  pub will_export : WillExport s' fs final
  will_export = record {
    stay = λ g there. stays g (joins.were g there);
    come = λ g there on. will.come g (contains_more f g fs there) (on_same s s' f g true joins on);
    were = λ g there. were_some g (will.were g there);
    may = λ g there on h old other. apart_still g h there (on_same s s' f g true joins on) other (joins.were h old);
  }

pub are_exported : (s : Exports) (final : List Frame) → WillExport s [] final → AreExported s final
are_exported s final will = record { all = λ g there. all g (will.were g there); only = will.stay }
  where
    all : (g : Frame) → Contains s.exported g ⊎ (Contains [] g × IsFrameOn s.lo s.hi g) → Contains s.exported g
    all g (inl there) = there
    all g (inr ((k, inside, is), on)) = absurd (omega arith)

-- nothing is exported with a thread that isn't taken
pub will_same : (s s' : Exports) (f : Frame) (fs final : List Frame) → Joins false s f s' → WillExport s fs final → WillExport s' fs final
will_same s s' f fs final joins will = record {
  stay = λ g there. will.stay g (back g (joins.were g there));
  come = λ g there on. will.come g there (on_same s s' f g false joins on);
  were = λ g there. were_some g (will.were g there);
  may = λ g there on h old other. will.may g there (on_same s s' f g false joins on) h (back h (joins.were h old)) other;
}
  where
    back : (g : Frame) → Contains s.exported g ⊎ ((g ≡ f) × (false ≡ true) × IsFrameOn s.lo s.hi f) → Contains s.exported g
    back g (inl there) = there
    back g (inr (same, never, on)) = absurd (let no : ⊥ = cc in no)

    were_some : (g : Frame) → Contains s.exported g ⊎ (Contains fs g × IsFrameOn s.lo s.hi g) → Contains s'.exported g ⊎ (Contains fs g × IsFrameOn s'.lo s'.hi g)
    were_some g (inl there) = inl (joins.stay g there)
    were_some g (inr (there, on)) = inr (there, on_back s s' f g false joins on)

-- ---- what is read

bottom_last : (xs : List Frame) (f : Frame) → bottom_word (xs ++ f ∷ []) ≡ return_word f.base
bottom_last [] f = refl
bottom_last (x ∷ []) f = refl
bottom_last (x ∷ y ∷ ys) f = bottom_last (y ∷ ys) f

pub read_more : (frames : List Frame) (base fp : ℕ) (f : Frame) (fs : List Frame) → fp ≡ f.base → IsRead frames base (f ∷ fs) → IsRead frames fp fs
read_more frames base fp f fs same read = record {
  before = read.before ++ f ∷ [];
  parts = read.parts ∙ sym (append_assoc read.before (f ∷ []) fs);
  last = λ some. bottom_last read.before f ∙ ap return_word (sym same);
}

no_more : (fs : List Frame) → fs ++ [] ≡ fs
no_more [] = refl
no_more (f ∷ fs) = ap (λ (xs : List Frame). f ∷ xs) (no_more fs)

pub read_all : (frames : List Frame) (base : ℕ) → frames ≢ [] → IsRead frames base [] → bottom_word frames ≡ return_word base
read_all frames base some read =
    let whole : frames ≡ read.before = read.parts ∙ no_more read.before in
    ap bottom_word whole ∙ read.last (λ none. some (whole ∙ none))

-- the frame that is read next, and those that are left
pub rest_apart : (frames : List Frame) (base : ℕ) (fs more : List Frame) → AllApart (frames ++ more) → IsRead frames base fs → AllApart (fs ++ more)
rest_apart frames base fs more all read =
    all_tail read.before (fs ++ more) (subst AllApart (append_assoc read.before fs more) (subst (λ (xs : List Frame). AllApart (xs ++ more)) read.parts all))
