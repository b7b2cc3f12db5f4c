-- The list of exported frames as it is kept: what stands where, what an insert and a pop leave, and that there is room.
use Rattle.std.proofs.Common.{◌≡◌, ◌≢◌, ◌⊎◌, inl, inr, ℕ, zero, suc, ◌+◌, ◌-◌, ◌*◌, ◌/◌, ◌<◌, ◌≤◌, Bool, true, false, List, [], ◌∷◌, length, get_or, Option, Some, None, refl, sym, ap, ◌∙◌, subst, arith, take, ltb, ltb-true, ltb-false, lt-ltb, eq-eqb, nat_eq, ◌&&◌}
use Rattle.std.specs.Prelude.{◌%◌, ◌^◌}
use Rattle.std.specs.List.{Contains, insert}
use Rattle.std.specs.Option.{IfSome}
use Rattle.std.specs.List.Sorted.{IsPartitionedBy, IsPartitionPoint}
use Rattle.std.proofs.Math.Nat.{mul-le-mul}
use Rattle.std.proofs.lemmas.Bool.{cases_lt}
use Rattle.std.proofs.lemmas.List.{get_or-take, get_or_default, length-take-le}
use Rattle.std.proofs.lemmas.List.Edits.{length-insert, get_or-insert_below, get_or-insert_at, get_or-insert_above}
use Rattle.st_base.specs.declared.chain.Frame.{Frame}
use Rattle.st_stack.specs.Shrinking.{IsStackOf}
use Rattle.st_stack.specs.Exported.{IsRange, IsFrameOn, MayExport, IsWith, IsWithout, IsLowest, IsLimit, Apart, no_frame, frame_at, AllOn, IsDescending, IsPlaceOf}

-- ---- members

-- a frame that is there, by its place
pub at_of : (fs : List Frame) (f : Frame) → Contains fs f → (k : ℕ) × (k < length fs) × (frame_at fs k ≡ f)
at_of fs f c = (c.0, c.1, get_or_default fs c.0 no_frame f c.1 ∙ c.2)

pub there : (fs : List Frame) (k : ℕ) (f : Frame) → k < length fs → frame_at fs k ≡ f → Contains fs f
there fs k f l e = (k, l, get_or_default fs k f no_frame l ∙ e)

pub contains_at : (fs : List Frame) (k : ℕ) → k < length fs → Contains fs (frame_at fs k)
contains_at fs k l = there fs k (frame_at fs k) l refl

pub on_of : (lo hi : ℕ) (fs : List Frame) (f : Frame) → AllOn lo hi fs → Contains fs f → IsFrameOn lo hi f
on_of lo hi fs f on c = let found = at_of fs f c in subst (IsFrameOn lo hi) found.2 (on found.0 found.1)

pub for_some : (o : Option Frame) (P : Frame → Type 0) → ((f : Frame) → o ≡ Some f → P f) → IfSome o P
for_some None P h = tt
for_some (Some f) P h = h f refl

-- ---- the order

-- where sought frames stand
pub stands_at : (lo hi : ℕ) (fs : List Frame) (f : Frame) (n : ℕ) → AllOn lo hi fs → IsDescending fs → IsPlaceOf f fs n → Contains fs f → (n < length fs) × (frame_at fs n ≡ f)
stands_at lo hi fs f n on falls place c =
    let found = at_of fs f c in
    let k : ℕ = found.0 in
    let l : k < length fs = found.1 in
    let e : frame_at fs k ≡ f = found.2 in
    let low : (frame_at fs k).low ≡ f.low = ap (λ g. g.low) e in
    elim (cases_lt k n) [
      | inl before ↦ absurd (let h : f.low < (frame_at fs k).low = place.before k before in omega (arith, low))
      | inr behind ↦ elim (cases_lt n k) [
        | inl later ↦ absurd (let h : (frame_at fs n).low ≤ f.low = place.after n (omega arith) (omega arith) in let d : (frame_at fs k).base ≤ (frame_at fs n).low = falls n k later l in let s : (frame_at fs k).low < (frame_at fs k).base = (on k l).some in omega (arith, low))
        | inr same ↦ let q : k ≡ n = omega arith in (subst (λ j. j < length fs) q l, subst (λ j. frame_at fs j ≡ f) q e)
      ]
    ]

-- the last frame is the lowest
pub last_is_lowest : (lo hi : ℕ) (fs : List Frame) (f : Frame) → AllOn lo hi fs → IsDescending fs → 0 < length fs → frame_at fs (length fs - 1) ≡ f → IsLowest fs f
last_is_lowest lo hi fs f on falls some e = record {
  there = there fs (length fs - 1) f (omega arith) e;
  least = λ g c.
      let found = at_of fs g c in
      let k : ℕ = found.0 in
      let l : k < length fs = found.1 in
      let low : (frame_at fs k).low ≡ g.low = ap (λ h. h.low) found.2 in
      let last : (frame_at fs (length fs - 1)).low ≡ f.low = ap (λ h. h.low) e in
      elim (cases_lt k (length fs - 1)) [
        | inl before ↦ let d : (frame_at fs (length fs - 1)).base ≤ (frame_at fs k).low = falls k (length fs - 1) before (omega arith) in let s : (frame_at fs (length fs - 1)).low < (frame_at fs (length fs - 1)).base = (on (length fs - 1) (omega arith)).some in omega (arith, low, last)
        | inr same ↦ let q : k ≡ length fs - 1 = omega arith in let z : (frame_at fs k).low ≡ (frame_at fs (length fs - 1)).low = ap (λ j. (frame_at fs j).low) q in omega (arith, low, last, z)
      ];
}

-- and no other is
pub lowest_is_last : (lo hi : ℕ) (fs : List Frame) (f : Frame) → AllOn lo hi fs → IsDescending fs → IsLowest fs f → (0 < length fs) × (frame_at fs (length fs - 1) ≡ f)
lowest_is_last lo hi fs f on falls lowest =
    let found = at_of fs f lowest.there in
    let k : ℕ = found.0 in
    let l : k < length fs = found.1 in
    let low : (frame_at fs k).low ≡ f.low = ap (λ h. h.low) found.2 in
    elim (cases_lt k (length fs - 1)) [
      | inl before ↦ absurd (let d : (frame_at fs (length fs - 1)).base ≤ (frame_at fs k).low = falls k (length fs - 1) before (omega arith) in let s : (frame_at fs (length fs - 1)).low < (frame_at fs (length fs - 1)).base = (on (length fs - 1) (omega arith)).some in let h : f.low ≤ (frame_at fs (length fs - 1)).low = lowest.least (frame_at fs (length fs - 1)) (contains_at fs (length fs - 1) (omega arith)) in omega (arith, low))
      | inr same ↦ let q : k ≡ length fs - 1 = omega arith in (omega arith, sym (ap (frame_at fs) q) ∙ found.2)
    ]

pub a_limit : (lo hi : ℕ) (fs : List Frame) → AllOn lo hi fs → IsDescending fs → (n : ℕ) × IsLimit hi fs n
a_limit lo hi [] on falls = (hi, inl (refl, refl))
a_limit lo hi (f ∷ fs) on falls = let last : Frame = frame_at (f ∷ fs) (length (f ∷ fs) - 1) in (last.low, inr (last, last_is_lowest lo hi (f ∷ fs) last on falls (omega arith) refl, refl))

-- ---- room

low_of : (lo hi : ℕ) (fs : List Frame) → AllOn lo hi fs → IsDescending fs → (k j : ℕ) → k + j + 1 ≡ length fs → lo + 16 * j ≤ (frame_at fs k).low
low_of lo hi fs on falls k zero e = let o = on k (omega arith) in let h : lo ≤ (frame_at fs k).low = o.from in omega arith
low_of lo hi fs on falls k (suc j) e =
    let h : lo + 16 * j ≤ (frame_at fs (suc k)).low = low_of lo hi fs on falls (suc k) j (omega (arith, e)) in
    let d : (frame_at fs (suc k)).base ≤ (frame_at fs k).low = falls k (suc k) (omega arith) (omega (arith, e)) in
    let o = on (suc k) (omega (arith, e)) in
    let some : (frame_at fs (suc k)).low < (frame_at fs (suc k)).base = o.some in
    let even : (frame_at fs (suc k)).low % 16 ≡ 0 = o.low_even in
    let base : (frame_at fs (suc k)).base % 16 ≡ 0 = o.base_even in
    omega arith

-- a stack has room for one frame in each 16 bytes
pub few : (lo hi : ℕ) (fs : List Frame) → AllOn lo hi fs → IsDescending fs → lo ≤ hi → length fs ≤ (hi - lo) / 16
few lo hi [] on falls l = omega arith
few lo hi (f ∷ fs) on falls l =
    let h : lo + 16 * length fs ≤ f.low = low_of lo hi (f ∷ fs) on falls 0 (length fs) (omega arith) in
    let o : IsFrameOn lo hi f = on 0 (omega arith) in
    let some : f.low < f.base = o.some in
    let to : f.base ≤ hi = o.to in
    let even : f.low % 16 ≡ 0 = o.low_even in
    let base : f.base % 16 ≡ 0 = o.base_even in
    let n : length (f ∷ fs) ≡ length fs + 1 = omega arith in
    omega (arith, n)

-- ---- an insert

module _ (lo hi : ℕ) (fs : List Frame) (f : Frame) (n : ℕ) (on : AllOn lo hi fs) (falls : IsDescending fs) (place : IsPlaceOf f fs n) (fits : IsFrameOn lo hi f) (new : Contains fs f → ⊥) (may : MayExport fs f) where
  within : n ≤ length fs
  within = place.within

  longer : length (insert fs n f) ≡ length fs + 1
  longer = length-insert fs n f within

  at_below : (k : ℕ) → k < n → frame_at (insert fs n f) k ≡ frame_at fs k
  at_below k l = get_or-insert_below fs n f no_frame k l within

  at_here : frame_at (insert fs n f) n ≡ f
  at_here = get_or-insert_at fs n f no_frame within

  at_above : (k : ℕ) → n ≤ k → frame_at (insert fs n f) (k + 1) ≡ frame_at fs k
  at_above k l = get_or-insert_above fs n f no_frame k l within

  differs : (k : ℕ) → k < length fs → frame_at fs k ≢ f
  differs k l e = new (there fs k f l e)

  -- those before it lie above it, those behind it below
  higher : (k : ℕ) → k < n → f.base ≤ (frame_at fs k).low
  higher k l =
      let lower : f.low < (frame_at fs k).low = place.before k l in
      let some : f.low < f.base = fits.some in
      let o = on k (omega (arith, within)) in
      let wide : (frame_at fs k).low < (frame_at fs k).base = o.some in
      elim (may (frame_at fs k) (contains_at fs k (omega (arith, within))) (differs k (omega (arith, within)))) [ inl a ↦ a | inr a ↦ absurd (omega arith) ]

  lower : (k : ℕ) → n ≤ k → k < length fs → (frame_at fs k).base ≤ f.low
  lower k h l =
      let high : (frame_at fs k).low ≤ f.low = place.after k h l in
      let some : f.low < f.base = fits.some in
      elim (may (frame_at fs k) (contains_at fs k l) (differs k l)) [ inl a ↦ absurd (omega arith) | inr a ↦ a ]

  pub inserted_on : AllOn lo hi (insert fs n f)
  inserted_on k l =
      elim (cases_lt k n) [
        | inl before ↦ subst (IsFrameOn lo hi) (sym (at_below k before)) (on k (omega (arith, within)))
        | inr behind ↦ elim (cases_lt n k) [
          | inl later ↦ let q : k - 1 + 1 ≡ k = omega arith in subst (λ j. IsFrameOn lo hi (frame_at (insert fs n f) j)) q (subst (IsFrameOn lo hi) (sym (at_above (k - 1) (omega arith))) (on (k - 1) (omega (arith, l, longer))))
          | inr same ↦ let q : n ≡ k = omega arith in subst (λ j. IsFrameOn lo hi (frame_at (insert fs n f) j)) q (subst (IsFrameOn lo hi) (sym at_here) fits)
        ]
      ]

  -- a frame behind another, by where both stand
  falls_by : (j k : ℕ) (g h : Frame) → frame_at (insert fs n f) j ≡ g → frame_at (insert fs n f) k ≡ h → h.base ≤ g.low → (frame_at (insert fs n f) k).base ≤ (frame_at (insert fs n f) j).low
  falls_by j k g h e d l = subst (λ x. (frame_at (insert fs n f) k).base ≤ x.low) (sym e) (subst (λ x. x.base ≤ g.low) (sym d) l)

  at_later : (k : ℕ) → n < k → frame_at (insert fs n f) k ≡ frame_at fs (k - 1)
  at_later k l = let q : k - 1 + 1 ≡ k = omega arith in subst (λ j. frame_at (insert fs n f) j ≡ frame_at fs (k - 1)) q (at_above (k - 1) (omega arith))

  at_same : (k : ℕ) → k ≡ n → frame_at (insert fs n f) k ≡ f
  at_same k e = subst (λ j. frame_at (insert fs n f) j ≡ f) (sym e) at_here

  pub inserted_falls : IsDescending (insert fs n f)
  inserted_falls j k l h =
      elim (cases_lt k n) [
        | inl before ↦ falls_by j k _ _ (at_below j (omega arith)) (at_below k before) (falls j k l (omega (arith, within)))
        | inr behind ↦ elim (cases_lt n k) [
          | inr here ↦ falls_by j k _ _ (at_below j (omega arith)) (at_same k (omega arith)) (higher j (omega arith))
          | inl later ↦ elim (cases_lt j n) [
            | inl first ↦ falls_by j k _ _ (at_below j first) (at_later k later) (falls j (k - 1) (omega arith) (omega (arith, h, longer)))
            | inr not_first ↦ elim (cases_lt n j) [
              | inl second ↦ falls_by j k _ _ (at_later j second) (at_later k later) (falls (j - 1) (k - 1) (omega arith) (omega (arith, h, longer)))
              | inr same ↦ falls_by j k _ _ (at_same j (omega arith)) (at_later k later) (lower (k - 1) (omega arith) (omega (arith, h, longer)))
            ]
          ]
        ]
      ]

  stays_at : (g : Frame) (k : ℕ) → k < length fs → frame_at fs k ≡ g → Contains (insert fs n f) g
  stays_at g k l e =
      elim (cases_lt k n) [
        | inl before ↦ there (insert fs n f) k g (omega (arith, l, longer)) (at_below k before ∙ e)
        | inr behind ↦ there (insert fs n f) (k + 1) g (omega (arith, l, longer)) (at_above k behind ∙ e)
      ]

  were_at : (g : Frame) (k : ℕ) → k < length (insert fs n f) → frame_at (insert fs n f) k ≡ g → (g ≡ f) ⊎ Contains fs g
  were_at g k l e =
      elim (cases_lt k n) [
        | inl before ↦ inr (there fs k g (omega (arith, within)) (sym (at_below k before) ∙ e))
        | inr behind ↦ elim (cases_lt n k) [
          | inl later ↦ inr (there fs (k - 1) g (omega (arith, l, longer)) (sym (at_later k later) ∙ e))
          | inr same ↦ inl (sym e ∙ at_same k (omega arith))
        ]
      ]

  pub inserted_with : IsWith fs f (insert fs n f)
  inserted_with = record {
    here = there (insert fs n f) n f (omega (arith, within, longer)) at_here;
    stay = λ g c. let found = at_of fs g c in stays_at g found.0 found.1 found.2;
    were = λ g c. let found = at_of (insert fs n f) g c in were_at g found.0 found.1 found.2;
  }

  -- there is room for one more
  pub one_more : lo ≤ hi → length fs + 1 ≤ (hi - lo) / 16
  one_more l = let h : length (insert fs n f) ≤ (hi - lo) / 16 = few lo hi (insert fs n f) inserted_on inserted_falls l in omega (arith, h, longer)

-- ---- a pop

module _ (lo hi : ℕ) (fs : List Frame) (f : Frame) (on : AllOn lo hi fs) (falls : IsDescending fs) (some : 0 < length fs) (last : frame_at fs (length fs - 1) ≡ f) where
  rest : List Frame
  rest = take (length fs - 1) fs

  rest_length : length rest ≡ length fs - 1
  unfolding rest
  rest_length = length-take-le (length fs - 1) fs (omega arith)

  at_rest : (k : ℕ) → k < length fs - 1 → frame_at rest k ≡ frame_at fs k
  unfolding rest
  at_rest k l = get_or-take (length fs - 1) fs k no_frame l

  pub rest_on : AllOn lo hi (take (length fs - 1) fs)
  unfolding rest
  rest_on k l = let h : k < length fs - 1 = omega (arith, rest_length) in subst (IsFrameOn lo hi) (sym (at_rest k h)) (on k (omega arith))

  pub rest_falls : IsDescending (take (length fs - 1) fs)
  unfolding rest
  rest_falls j k l h =
      let q : k < length fs - 1 = omega (arith, rest_length) in
      subst (λ x. (frame_at rest k).base ≤ x.low) (sym (at_rest j (omega arith))) (subst (λ x. x.base ≤ (frame_at fs j).low) (sym (at_rest k q)) (falls j k l (omega arith)))

  pub rest_without : IsWithout fs f (take (length fs - 1) fs)
  unfolding rest
  rest_without = record {
    gone = λ c.
        let found = at_of rest f c in
        let k : ℕ = found.0 in
        let h : k < length fs - 1 = omega (arith, rest_length, found.1) in
        let e : frame_at fs k ≡ f = sym (at_rest k h) ∙ found.2 in
        let d : (frame_at fs (length fs - 1)).base ≤ (frame_at fs k).low = falls k (length fs - 1) h (omega arith) in
        let o = on (length fs - 1) (omega arith) in
        let wide : (frame_at fs (length fs - 1)).low < (frame_at fs (length fs - 1)).base = o.some in
        let a : (frame_at fs k).low ≡ f.low = ap (λ x. x.low) e in
        let b : (frame_at fs (length fs - 1)).low ≡ f.low = ap (λ x. x.low) last in
        omega (arith, a, b);
    stay = λ g other c.
        let found = at_of fs g c in
        let k : ℕ = found.0 in
        elim (cases_lt k (length fs - 1)) [
          | inl before ↦ there rest k g (omega (arith, rest_length)) (at_rest k before ∙ found.2)
          | inr same ↦ let q : k ≡ length fs - 1 = let l : k < length fs = found.1 in omega arith in absurd (other (sym found.2 ∙ ap (frame_at fs) q ∙ last))
        ];
    were = λ g c.
        let found = at_of rest g c in
        let k : ℕ = found.0 in
        let h : k < length fs - 1 = omega (arith, rest_length, found.1) in
        there fs k g (omega arith) (sym (at_rest k h) ∙ found.2);
  }

-- ---- what is sought

pub falls_to : (lo hi : ℕ) (fs : List Frame) → AllOn lo hi fs → IsDescending fs → (i j : ℕ) → i ≤ j → j < length fs → (frame_at fs j).low ≤ (frame_at fs i).low
falls_to lo hi fs on falls i j l h =
    elim (cases_lt i j) [
      | inl less ↦ let d : (frame_at fs j).base ≤ (frame_at fs i).low = falls i j less h in let some : (frame_at fs j).low < (frame_at fs j).base = (on j h).some in omega arith
      | inr same ↦ let q : i ≡ j = omega arith in let e : (frame_at fs i).low ≡ (frame_at fs j).low = ap (λ k. (frame_at fs k).low) q in omega arith
    ]

-- frames whose low ends are above come first
pub parted : (lo hi : ℕ) (fs : List Frame) (low : ℕ) → AllOn lo hi fs → IsDescending fs → IsPartitionedBy (λ g. ltb low g.low) fs
parted lo hi fs low on falls i j d l h e =
    let a : get_or fs j d ≡ frame_at fs j = get_or_default fs j d no_frame h in
    let b : get_or fs i d ≡ frame_at fs i = get_or_default fs i d no_frame (omega arith) in
    let less : low < (get_or fs j d).low = ltb-true low (get_or fs j d).low e in
    let x : (get_or fs j d).low ≡ (frame_at fs j).low = ap (λ g. g.low) a in
    let y : (get_or fs i d).low ≡ (frame_at fs i).low = ap (λ g. g.low) b in
    let z : (frame_at fs j).low ≤ (frame_at fs i).low = falls_to lo hi fs on falls i j l h in
    let more : low < (get_or fs i d).low = omega arith in
    lt-ltb low (get_or fs i d).low more

pub place_from : (lo hi : ℕ) (fs : List Frame) (f : Frame) (n : ℕ) → n ≤ length fs → IsPartitionPoint (λ g. ltb f.low g.low ≡ true) (λ g. ltb f.low g.low ≡ false) fs n → IsPlaceOf f fs n
place_from lo hi fs f n within point = record {
  within = within;
  before = λ k l. ltb-true f.low (frame_at fs k).low (point.0 k no_frame (omega arith) l);
  after = λ k l h. ltb-false f.low (frame_at fs k).low (point.1 k no_frame l h);
}

pub place_in : (lo hi : ℕ) (xs fs : List Frame) (f : Frame) (n : ℕ) → xs ≡ fs → n ≤ length xs → IsPartitionPoint (λ g. ltb f.low g.low ≡ true) (λ g. ltb f.low g.low ≡ false) xs n → IsPlaceOf f fs n
place_in lo hi xs fs f n same within point = subst (λ ys. IsPlaceOf f ys n) same (place_from lo hi xs f n within point)

pub parted_in : (lo hi : ℕ) (xs fs : List Frame) (low : ℕ) → xs ≡ fs → AllOn lo hi fs → IsDescending fs → IsPartitionedBy (λ g. ltb low g.low) xs
parted_in lo hi xs fs low same on falls = subst (IsPartitionedBy (λ g. ltb low g.low)) (sym same) (parted lo hi fs low on falls)

both_same : (a b : ℕ) → nat_eq a a && nat_eq b b ≡ true
both_same a b = let x : nat_eq a a ≡ true = eq-eqb a a refl in let y : nat_eq b b ≡ true = eq-eqb b b refl in cc

-- what the test of a frame found other isn't there
pub not_there : (lo hi : ℕ) (fs : List Frame) (f g : Frame) (n : ℕ) → AllOn lo hi fs → IsDescending fs → IsPlaceOf f fs n → g ≡ get_or fs n g → (nat_eq g.low f.low && nat_eq g.base f.base) ≡ false → Contains fs f → ⊥
not_there lo hi fs f g n on falls place is e there =
    let at = stands_at lo hi fs f n on falls place there in
    let same : g ≡ f = is ∙ get_or_default fs n g no_frame at.0 ∙ at.1 in
    let t : nat_eq g.low f.low && nat_eq g.base f.base ≡ true = subst (λ x. nat_eq x.low f.low && nat_eq x.base f.base ≡ true) (sym same) (both_same f.low f.base) in
    let z : true ≡ false = sym t ∙ e in
    absurd (cc)

-- ---- what is always so

-- no two frames overlap
pub lie_apart : (fs : List Frame) → IsDescending fs → (f g : Frame) → Contains fs f → Contains fs g → f ≢ g → Apart f g
lie_apart fs falls f g c d other =
    let here = at_of fs f c in
    let there = at_of fs g d in
    let j : ℕ = here.0 in
    let k : ℕ = there.0 in
    let e : frame_at fs j ≡ f = here.2 in
    let h : frame_at fs k ≡ g = there.2 in
    elim (cases_lt j k) [
      | inl above ↦ inr (let a : (frame_at fs k).base ≤ (frame_at fs j).low = falls j k above there.1 in subst (λ x. g.base ≤ x.low) e (subst (λ x. x.base ≤ (frame_at fs j).low) h a))
      | inr behind ↦ elim (cases_lt k j) [
        | inl below ↦ inl (let a : (frame_at fs j).base ≤ (frame_at fs k).low = falls k j below here.1 in subst (λ x. f.base ≤ x.low) h (subst (λ x. x.base ≤ (frame_at fs k).low) e a))
        | inr same ↦ let q : j ≡ k = omega arith in absurd (other (sym e ∙ ap (frame_at fs) q ∙ h))
      ]
    ]

-- ---- addresses

-- the return word of a frame on one of the stacks is one of the first 2^21 words
pub places : (w lo hi : ℕ) → IsStackOf w lo hi → IsRange lo hi → (low base : ℕ) → lo ≤ low → low < base → low % 16 ≡ 0 → base % 16 ≡ 0 → base ≤ hi → (0x8000_0008 ≤ base) × (base ≤ 0x8000_0000 + 2 ^ 24)
places w lo hi stack range low base from some even too to =
    let bytes : ℕ = stack.low.0 in
    let worker : w < 16 = stack.worker in
    let a : lo ≡ 0x8000_0000 + w * bytes = stack.low.1 in
    let b : hi ≡ lo + bytes = stack.low.2 in
    let size : hi - lo ≤ 1048576 = range.size in
    let few : w ≤ 15 = omega arith in
    let same : bytes ≤ bytes = omega arith in
    let most : w * bytes ≤ 15 * bytes = mul-le-mul few same in
    (omega arith, omega arith)
