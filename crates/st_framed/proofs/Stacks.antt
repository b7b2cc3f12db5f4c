-- A worker's stack and the frames that rise on it: sp_below and sp_within (sp is at or below the low end of each exported frame, and the stack's high
-- end), stack_at (the stack with sp elsewhere), and rising_low, rising_lower, rising_front, rising_back, rising_moved of AreRising.
use Rattle.std.proofs.Common.{◌≡◌, inl, inr, ℕ, ◌%◌, ◌<◌, ◌≤◌, List, [], ◌∷◌, ◌++◌, refl, sym, ap, subst, arith}
use Rattle.std.specs.List.{Contains}
use Rattle.std.proofs.lemmas.Bool.{cases_lt}
use Rattle.st_base.specs.declared.chain.Frame.{Frame}
use Rattle.st_stack.specs.Exported.{Exports, IsFrameOn, IsLowest, IsLimit}
use Rattle.st_items.specs.Body.{Ends}
use Rattle.st_chain.proofs.Joining.{contains_here, contains_more}
use Rattle.st_framed.specs.Framed.{AreRising, IsStack}
use Rattle.st_framed.proofs.Lists.{in_none, first_or_later}

-- ---- limits

a_lowest : (f : Frame) (fs : List Frame) → (g : Frame) × IsLowest (f ∷ fs) g
a_lowest f [] = (
  f,
  record {
    there = contains_here f [];
    least = λ g there.
        elim (first_or_later f g [] there) [
          | inl is ↦ (let same : g.low ≡ f.low = ap (λ (h : Frame). h.low) is in omega (arith, same))
          | inr never ↦ absurd (in_none g never)
        ];
  },
)
a_lowest f (h ∷ fs) =
    let (l, lowest) = a_lowest h fs in
    elim (cases_lt l.low f.low) [
      | inl lower ↦ (
        l,
        record {
          there = contains_more f l (h ∷ fs) lowest.there;
          least = λ g there.
              elim (first_or_later f g (h ∷ fs) there) [
                | inl is ↦ (let same : g.low ≡ f.low = ap (λ (k : Frame). k.low) is in omega (arith, same))
                | inr later ↦ lowest.least g later
              ];
        },
      )
      | inr higher ↦ (
        f,
        record {
          there = contains_here f (h ∷ fs);
          least = λ g there.
              elim (first_or_later f g (h ∷ fs) there) [
                | inl is ↦ (let same : g.low ≡ f.low = ap (λ (k : Frame). k.low) is in omega (arith, same))
                | inr later ↦ (let least : l.low ≤ g.low = lowest.least g later in omega (arith, least, higher))
              ];
        },
      )
    ]

pub a_limit : (hi : ℕ) (fs : List Frame) → (n : ℕ) × IsLimit hi fs n
a_limit hi [] = (hi, inl (refl, refl))
a_limit hi (f ∷ fs) = let (l, lowest) = a_lowest f fs in (l.low, inr (l, lowest, refl))

-- a limit is at most each low end
pub limit_below : (hi n : ℕ) (fs : List Frame) → IsLimit hi fs n → (g : Frame) → Contains fs g → n ≤ g.low
limit_below hi n fs (inl (none, is)) g there = absurd (in_none g (subst (λ (xs : List Frame). Contains xs g) none there))
limit_below hi n fs (inr (f, lowest, is)) g there = let least : f.low ≤ g.low = lowest.least g there in omega (arith, least, is)

-- and it is the greatest number that is, up to the high end
pub below_limit : (hi n : ℕ) (fs : List Frame) → n ≤ hi → ((f : Frame) → Contains fs f → n ≤ f.low) → (m : ℕ) → IsLimit hi fs m → n ≤ m
below_limit hi n fs high low m (inl (none, is)) = omega (arith, high, is)
below_limit hi n fs high low m (inr (f, lowest, is)) = let under : n ≤ f.low = low f lowest.there in omega (arith, under, is)

-- ---- a worker's stack

pub limit_within : (s : Exports) (ends : Ends) (n : ℕ) → IsStack s ends → IsLimit s.hi s.exported n → n ≤ s.hi
limit_within s ends n stack (inl (none, is)) = omega (arith, is)
limit_within s ends n stack (inr (f, lowest, is)) =
    let on : IsFrameOn s.lo s.hi f = stack.on f lowest.there in
    let some : f.low < f.base = on.some in
    let to : f.base ≤ s.hi = on.to in
    omega (arith, some, to, is)

pub sp_within : (s : Exports) (ends : Ends) → IsStack s ends → ends.sp ≤ s.hi
sp_within s ends stack =
    let (n, limit) = a_limit s.hi s.exported in
    let under : ends.sp ≤ n = stack.limit n limit in
    let within : n ≤ s.hi = limit_within s ends n stack limit in
    omega (arith, under, within)

pub sp_below : (s : Exports) (ends : Ends) → IsStack s ends → (f : Frame) → Contains s.exported f → ends.sp ≤ f.low
sp_below s ends stack f there =
    let (n, limit) = a_limit s.hi s.exported in
    let under : ends.sp ≤ n = stack.limit n limit in
    let within : n ≤ f.low = limit_below s.hi n s.exported limit f there in
    omega (arith, under, within)

-- with sp elsewhere, up to the limit
pub stack_at : (s : Exports) (ends : Ends) (n : ℕ) → IsStack s ends → ends.lo ≤ n → n % 16 ≡ 0 → ((m : ℕ) → IsLimit s.hi s.exported m → n ≤ m) → IsStack s (record ends { sp = n })
stack_at s ends n stack above even limit = record {
  range = stack.range;
  lo = stack.lo;
  hi = stack.hi;
  low = stack.low;
  high = stack.high;
  above = above;
  even = even;
  limit = limit;
  on = stack.on;
  apart = stack.apart;
}

-- ---- frames that rise

pub rising_lower : (s : Exports) (n m : ℕ) (fs : List Frame) → n ≤ m → AreRising s m fs → AreRising s n fs
rising_lower s n m [] lower rising = tt
rising_lower s n m (f ∷ fs) lower (from, on, own, rest) = (omega (arith, lower, from), on, own, rest)

pub rising_low : (s : Exports) (n : ℕ) (fs : List Frame) (f : Frame) → AreRising s n fs → Contains fs f → n ≤ f.low
rising_low s n [] f rising there = absurd (in_none f there)
rising_low s n (g ∷ fs) f (from, on, own, rest) there =
    elim (first_or_later g f fs there) [
      | inl is ↦ (let same : f.low ≡ g.low = ap (λ (h : Frame). h.low) is in omega (arith, from, same))
      | inr later ↦ (let above : g.base ≤ f.low = rising_low s g.base fs f rest later in let some : g.low < g.base = on.some in omega (arith, from, above, some))
    ]

pub rising_front : (s : Exports) (n : ℕ) (xs ys : List Frame) → AreRising s n (xs ++ ys) → AreRising s n xs
rising_front s n [] ys rising = tt
rising_front s n (x ∷ xs) ys (from, on, own, rest) = (from, on, own, rising_front s x.base xs ys rest)

pub rising_back : (s : Exports) (n : ℕ) (xs ys : List Frame) → AreRising s n (xs ++ ys) → AreRising s n ys
rising_back s n [] ys rising = rising
rising_back s n (x ∷ xs) ys (from, on, own, rest) =
    let some : x.low < x.base = on.some in
    rising_lower s n x.base ys (omega (arith, from, some)) (rising_back s x.base xs ys rest)

-- a frame lies on a stack with the same ends
pub on_moved : (s s' : Exports) (f : Frame) → s'.lo ≡ s.lo → s'.hi ≡ s.hi → IsFrameOn s.lo s.hi f → IsFrameOn s'.lo s'.hi f
on_moved s s' f lo hi on = subst (λ (n : ℕ). IsFrameOn n s'.hi f) (sym lo) (subst (λ (n : ℕ). IsFrameOn s.lo n f) (sym hi) on)

-- none of them is exported anew
pub rising_moved : (s s' : Exports) (n : ℕ) (fs : List Frame) → s'.lo ≡ s.lo → s'.hi ≡ s.hi → ((f : Frame) → Contains fs f → Contains s'.exported f → Contains s.exported f) → AreRising s n fs → AreRising s' n fs
rising_moved s s' n [] lo hi were rising = tt
rising_moved s s' n (f ∷ fs) lo hi were (from, on, own, rest) =
    (from, on_moved s s' f lo hi on, (λ there. own (were f (contains_here f fs) there)), rising_moved s s' f.base fs lo hi (λ g there. were g (contains_more f g fs there)) rest)
