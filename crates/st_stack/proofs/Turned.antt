-- Lists of which the frames from one place on are kept the other way round: what stands where, what a push and straightening leave, and where sought
-- frames are.
use Rattle.std.proofs.Common.{◌≡◌, ◌⊎◌, inl, inr, ℕ, zero, suc, ◌+◌, ◌-◌, ◌<◌, ◌≤◌, Bool, true, false, List, [], ◌∷◌, ◌++◌, length, get_or, refl, sym, ap, ◌∙◌, subst, arith, take, drop, reverse, ltb, ltb-true, ltb-false, lt-ltb, leb, le-leb, leb-true, leb-false}
use Rattle.std.specs.List.{insert}
use Rattle.std.specs.List.Sorted.{IsPartitionedBy, IsPartitionPoint}
use Rattle.std.proofs.lemmas.Bool.{cases_lt}
use Rattle.std.proofs.lemmas.List.{get_or-take, get_or-drop, get_or_default, get_or-reverse, get_or_append_left, get_or-append_right, length-take-le, length-drop, length-append, length-reverse, take-append-drop, take-append-le, drop-append-le, reverse-append}
use Rattle.std.proofs.lemmas.List.Edits.{insert-append_right}
use Rattle.st_base.specs.declared.chain.Frame.{Frame}
use Rattle.st_stack.specs.Exported.{no_frame, frame_at, IsPlaceOf}
use Rattle.st_stack.specs.Listing.{FallsLow, turned}

-- ---- what stands where

module _ (n : ℕ) (fs : List Frame) (within : n ≤ length fs) where
  head_length : length (take n fs) ≡ n
  head_length = length-take-le n fs within

  pub length-turned : length (turned n fs) ≡ length fs
  length-turned =
      let whole = length-append (take n fs) (reverse (drop n fs)) in
      let tail = length-reverse (drop n fs) in
      let rest = length-drop n fs in
      omega (arith, whole, tail, rest, head_length)

  pub at_before : (k : ℕ) → k < n → frame_at (turned n fs) k ≡ frame_at fs k
  at_before k l = get_or_append_left (take n fs) (reverse (drop n fs)) no_frame k (omega (arith, head_length)) ∙ get_or-take n fs k no_frame l

  -- behind n from the end on
  pub at_behind : (k : ℕ) → n ≤ k → k < length fs → frame_at (turned n fs) k ≡ frame_at fs (length fs - 1 - (k - n))
  at_behind k h l =
      let rest = length-drop n fs in
      let there : n + (length (drop n fs) - 1 - (k - n)) ≡ length fs - 1 - (k - n) = omega (arith, rest) in
      get_or-append_right (take n fs) (reverse (drop n fs)) n k no_frame head_length h ∙ get_or-reverse (drop n fs) (k - n) no_frame (omega (arith, rest)) ∙ get_or-drop n fs (length (drop n fs) - 1 - (k - n)) no_frame ∙ ap (frame_at fs) there

  -- a frame that comes before those that are kept the other way round goes to the end
  pub turned-push : (f : Frame) → turned n (fs ++ f ∷ []) ≡ insert (turned n fs) n f
  turned-push f =
      let front = take-append-le n fs (f ∷ []) within in
      let back = drop-append-le n fs (f ∷ []) within in
      let round = reverse-append (drop n fs) (f ∷ []) in
      let none : n - n ≡ 0 = omega arith in
      let same : n ≤ n = omega arith in
      ap (λ xs. xs ++ reverse (drop n (fs ++ f ∷ []))) front ∙ ap (λ xs. take n fs ++ reverse xs) back ∙ ap (λ xs. take n fs ++ xs) round
      ∙ sym (insert-append_right (take n fs) (reverse (drop n fs)) n n f head_length same ∙ ap (λ k. take n fs ++ insert (reverse (drop n fs)) k f) none)

short-reverse : (xs : List Frame) → length xs ≤ 1 → reverse xs ≡ xs
short-reverse [] l = refl
short-reverse (x ∷ []) l = refl
short-reverse (x ∷ y ∷ xs) l = absurd (omega arith)

-- of one frame nothing is turned round
pub turned-last : (fs : List Frame) → turned (length fs - 1) fs ≡ fs
turned-last fs =
    let rest = length-drop (length fs - 1) fs in
    ap (λ xs. take (length fs - 1) fs ++ xs) (short-reverse (drop (length fs - 1) fs) (omega (arith, rest))) ∙ take-append-drop (length fs - 1) fs

pub turned-at : (n : ℕ) (fs : List Frame) → n ≡ length fs - 1 → turned n fs ≡ fs
turned-at n fs e = ap (λ k. turned k fs) e ∙ turned-last fs

-- the last one
pub last_of : (n : ℕ) (fs : List Frame) → n < length fs → frame_at (turned n fs) (length (turned n fs) - 1) ≡ frame_at fs n
last_of n fs l =
    let whole = length-turned n fs (omega arith) in
    let last : length (turned n fs) - 1 ≡ length fs - 1 = omega (arith, whole) in
    let here : length fs - 1 - (length fs - 1 - n) ≡ n = omega arith in
    ap (frame_at (turned n fs)) last ∙ at_behind n fs (omega arith) (length fs - 1) (omega arith) (omega arith) ∙ ap (frame_at fs) here

-- ---- where a frame stands

module _ (n : ℕ) (fs : List Frame) (f : Frame) (within : n ≤ length fs) (falls : FallsLow (turned n fs)) where
  whole : length (turned n fs) ≡ length fs
  whole = length-turned n fs within

  front_at : (k : ℕ) (d : Frame) → k < n → get_or (take n fs) k d ≡ frame_at (turned n fs) k
  front_at k d l = get_or-take n fs k d l ∙ get_or_default fs k d no_frame (omega arith) ∙ sym (at_before n fs within k l)

  back_at : (i : ℕ) (d : Frame) → i < length fs - n → get_or (drop n fs) i d ≡ frame_at (turned n fs) (length fs - 1 - i)
  back_at i d l =
      let there : length fs - 1 - (length fs - 1 - i - n) ≡ n + i = omega arith in
      get_or-drop n fs i d ∙ get_or_default fs (n + i) d no_frame (omega arith) ∙ sym (at_behind n fs within (length fs - 1 - i) (omega arith) (omega arith) ∙ ap (frame_at fs) there)

  pub front_parted : IsPartitionedBy (λ g. ltb f.low g.low) (take n fs)
  front_parted i j d l h e =
      let long = length-take-le n fs within in
      let a = ap (λ (g : Frame). g.low) (front_at j d (omega arith)) in
      let b = ap (λ (g : Frame). g.low) (front_at i d (omega arith)) in
      let less : f.low < (get_or (take n fs) j d).low = ltb-true f.low (get_or (take n fs) j d).low e in
      let order : (frame_at (turned n fs) j).low ≤ (frame_at (turned n fs) i).low = falls i j l (omega (arith, whole, long)) in
      let more : f.low < (get_or (take n fs) i d).low = omega arith in
      lt-ltb f.low (get_or (take n fs) i d).low more

  pub back_parted : IsPartitionedBy (λ g. leb g.low f.low) (drop n fs)
  back_parted i j d l h e =
      let long = length-drop n fs in
      let a = ap (λ (g : Frame). g.low) (back_at j d (omega arith)) in
      let b = ap (λ (g : Frame). g.low) (back_at i d (omega arith)) in
      let less : (get_or (drop n fs) j d).low ≤ f.low = leb-true (get_or (drop n fs) j d).low f.low e in
      let order : (frame_at (turned n fs) (length fs - 1 - i)).low ≤ (frame_at (turned n fs) (length fs - 1 - j)).low = falls (length fs - 1 - j) (length fs - 1 - i) (omega (arith, long)) (omega (arith, whole, long, h)) in
      let more : (get_or (drop n fs) i d).low ≤ f.low = omega arith in
      le-leb (get_or (drop n fs) i d).low f.low more

  module _ (above : ℕ) (few : above ≤ n) (front : IsPartitionPoint (λ g. ltb f.low g.low ≡ true) (λ g. ltb f.low g.low ≡ false) (take n fs) above) where
    higher : (k : ℕ) → k < above → f.low < (frame_at (turned n fs) k).low
    higher k l =
        let long = length-take-le n fs within in
        let a = ap (λ (g : Frame). g.low) (front_at k no_frame (omega arith)) in
        let less = ltb-true f.low (get_or (take n fs) k no_frame).low (front.0 k no_frame (omega arith) l) in
        omega arith

    lower : (k : ℕ) → above ≤ k → k < n → (frame_at (turned n fs) k).low ≤ f.low
    lower k h l =
        let long = length-take-le n fs within in
        let a = ap (λ (g : Frame). g.low) (front_at k no_frame l) in
        let less = ltb-false f.low (get_or (take n fs) k no_frame).low (front.1 k no_frame h (omega arith)) in
        omega arith

    -- among the first ones
    pub front_place : above < n → IsPlaceOf f (turned n fs) above
    front_place l = record {
      within = omega (arith, whole);
      before = λ k h. higher k h;
      after = λ k h m.
          let here : (frame_at (turned n fs) above).low ≤ f.low = lower above (omega arith) l in
          let order : (frame_at (turned n fs) k).low ≤ (frame_at (turned n fs) above).low = falls above k h m in
          omega arith;
    }

    -- behind them
    pub back_place : (below : ℕ) → n ≤ above → below ≤ length fs - n → IsPartitionPoint (λ g. leb g.low f.low ≡ true) (λ g. leb g.low f.low ≡ false) (drop n fs) below → IsPlaceOf f (turned n fs) (length fs - below)
    back_place below all some back = record {
      within = omega (arith, whole);
      before = λ k h.
          elim (cases_lt k n) [
            | inl first ↦ higher k (omega arith)
            | inr second ↦ let long = length-drop n fs in let i : ℕ = length fs - 1 - k in let q : length fs - 1 - i ≡ k = omega arith in let a = ap (λ (g : Frame). g.low) (back_at i no_frame (omega arith)) in let less = leb-false (get_or (drop n fs) i no_frame).low f.low (back.1 i no_frame (omega arith) (omega arith)) in let same = ap (λ j. (frame_at (turned n fs) j).low) q in omega arith
          ];
      after = λ k h m.
          let long = length-drop n fs in
          let i : ℕ = length fs - 1 - k in
          let q : length fs - 1 - i ≡ k = omega (arith, whole) in
          let a = ap (λ (g : Frame). g.low) (back_at i no_frame (omega (arith, whole))) in
          let less = leb-true (get_or (drop n fs) i no_frame).low f.low (back.0 i no_frame (omega (arith, whole)) (omega (arith, whole))) in
          let same = ap (λ j. (frame_at (turned n fs) j).low) q in
          omega arith;
    }
