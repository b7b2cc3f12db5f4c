-- A step of shrinking keeps a worker's frames where they may lie (shrinking_frames): the frame that is taken back is none of them (less_exported), and sp
-- rises no further than the limit and the newest frame (raised).
use Rattle.std.proofs.Common.{◌≡◌, ◌⊎◌, inl, inr, ℕ, ◌+◌, ◌%◌, ◌^◌, ◌<◌, ◌≤◌, Bool, true, List, [], ◌∷◌, ◌++◌, Option, Some, None, sym, ap, ◌∙◌, subst, arith}
use Rattle.std.specs.List.{Contains}
use Rattle.std.proofs.lemmas.List.Elements.{Contains-append_right}
use Rattle.st_base.specs.declared.chain.Frame.{Frame}
use Rattle.st_words.specs.Steps.{return_place}
use Rattle.st_stack.specs.declared.stack.Shrunk.TheVariants as shrunks
use Rattle.st_stack.specs.Exported.{Exports, IsRange, IsFrameOn, IsWithout, IsLimit}
use Rattle.st_stack.specs.Shrinking.{lesser}
use Rattle.st_items.specs.Body.{Ends}
use Rattle.st_framed.specs.Framed.{IsElsewhere, AreRising, IsStack, Framed, AreAlive, IsNewest, ShrinkingFrames}
use Rattle.st_framed.proofs.Stacks.{limit_below, below_limit, limit_within, sp_within, sp_below, stack_at, on_moved, rising_moved}

-- ---- a frame is taken back

module _ (is_zero : ℕ → Bool) (s s' : Exports) (ends : Ends) (frames : List Frame) (f : Frame) (framed : Framed s ends frames) (alive : AreAlive is_zero frames) (lo : s'.lo ≡ s.lo) (hi : s'.hi ≡ s.hi) (zero : is_zero (return_place f) ≡ true) (less : IsWithout s.exported f s'.exported) where
  stack_less : IsStack s' ends
  stack_less =
      let stack = framed.stack in
      record {
        range = subst (λ n. IsRange n s'.hi) (sym lo) (subst (λ n. IsRange s.lo n) (sym hi) stack.range);
        lo = stack.lo ∙ sym lo;
        hi = stack.hi ∙ sym hi;
        low = (let low : 0x8000_0000 ≤ s.lo = stack.low in omega (arith, low, lo));
        high = subst (λ n. n < 0x8000_0000 + 2 ^ 32) (sym hi) stack.high;
        above = stack.above;
        even = stack.even;
        limit = below_limit s'.hi ends.sp s'.exported (let within : ends.sp ≤ s.hi = sp_within s ends stack in omega (arith, within, hi)) (λ g there. sp_below s ends stack g (less.were g there));
        on = λ g there. on_moved s s' g lo hi (stack.on g (less.were g there));
        apart = λ g h one two. stack.apart g h (less.were g one) (less.were h two);
      }

  -- another frame stays where it was
  stays : (g : Frame) → Contains frames g → Contains s.exported g ⊎ IsElsewhere s.lo s.hi g → Contains s'.exported g ⊎ IsElsewhere s'.lo s'.hi g
  stays g mine (inl there) = inl (less.stay g (λ same. alive g mine (subst (λ (h : Frame). is_zero (return_place h) ≡ true) (sym same) zero)) there)
  stays g mine (inr (inl under)) = inr (inl (omega (arith, under, lo)))
  stays g mine (inr (inr over)) = inr (inr (omega (arith, over, hi)))

  pub less_exported : Framed s' ends frames
  less_exported = record {
    stack = stack_less;
    all_apart = framed.all_apart;
    some = framed.some;
    clear = λ g h one two. framed.clear g h one (less.were h two);
    young = framed.young;
    old = framed.old;
    parts = framed.parts;
    rising = rising_moved s s' ends.sp framed.young lo hi (λ g mine there. less.were g there) framed.rising;
    others = λ g there. stays g (subst (λ (fs : List Frame). Contains fs g) (sym framed.parts) (Contains-append_right framed.young framed.old g there)) (framed.others g there);
  }

-- ---- sp rises

lesser_below : (n : ℕ) (top : Option Frame) → lesser n top ≤ n
lesser_below n None = omega arith
lesser_below n (Some f) = omega arith

module _ (s : Exports) (ends : Ends) (limit : ℕ) (stack : IsStack s ends) (is : IsLimit s.hi s.exported limit) where
  limit_even : IsLimit s.hi s.exported limit → limit % 16 ≡ 0
  limit_even (inl (none, same)) = ap (λ n. n % 16) same ∙ stack.range.high_even
  limit_even (inr (f, lowest, same)) = let on = stack.on f lowest.there in ap (λ n. n % 16) same ∙ on.low_even

  above_limit : ends.lo ≤ limit
  above_limit = let above : ends.lo ≤ ends.sp = stack.above in let under : ends.sp ≤ limit = stack.limit limit is in omega (arith, above, under)

  -- the newest frame lies on the stack
  lesser_above : (frames : List Frame) (top : Option Frame) → IsNewest s frames top → ends.lo ≤ lesser limit top
  lesser_above frames None newest = above_limit
  lesser_above [] (Some top) newest = absurd (let no : ⊥ = cc in no)
  lesser_above (f ∷ fs) (Some top) (same, on, own) =
      let from : s.lo ≤ f.low = on.from in
      let low : top.low ≡ f.low = ap (λ (g : Frame). g.low) same in
      let lo : ends.lo ≡ s.lo = stack.lo in
      let above : ends.lo ≤ limit = above_limit in
      omega (arith, from, low, lo, above)

  lesser_even : (frames : List Frame) (top : Option Frame) → IsNewest s frames top → lesser limit top % 16 ≡ 0
  lesser_even frames None newest = limit_even is
  lesser_even [] (Some top) newest = absurd (let no : ⊥ = cc in no)
  lesser_even (f ∷ fs) (Some top) (same, on, own) =
      let even : f.low % 16 ≡ 0 = on.low_even in
      let low : top.low ≡ f.low = ap (λ (g : Frame). g.low) same in
      let whole : limit % 16 ≡ 0 = limit_even is in
      omega (arith, even, low, whole)

  rising_raised : (frames young old : List Frame) (top : Option Frame) → frames ≡ young ++ old → IsNewest s frames top → AreRising s ends.sp young → AreRising s (lesser limit top) young
  rising_raised frames [] old top parts newest rising = tt
  rising_raised [] (y ∷ young) old top parts newest rising = absurd (let no : ⊥ = cc in no)
  rising_raised (f ∷ fs) (y ∷ young) old None parts newest (low, on, own, rest) =
      let same : f ≡ y = cc in
      absurd (own (subst (Contains s.exported) same (newest (subst (IsFrameOn s.lo s.hi) (sym same) on))))
  rising_raised (f ∷ fs) (y ∷ young) old (Some top) parts (is_first, lies, mine) (low, on, own, rest) =
      let same : f ≡ y = cc in
      let lows : top.low ≡ y.low = ap (λ (g : Frame). g.low) (is_first ∙ same) in
      (omega (arith, lows), on, own, rest)

  pub raised : (frames : List Frame) (top : Option Frame) → Framed s ends frames → IsNewest s frames top → Framed s (record ends { sp = lesser limit top }) frames
  raised frames top framed newest = record {
    stack = stack_at s ends (lesser limit top) stack (lesser_above frames top newest) (lesser_even frames top newest)
        (λ m other.
        let least : limit ≤ m = below_limit s.hi limit s.exported (limit_high is) (limit_below s.hi limit s.exported is) m other in
        let under : lesser limit top ≤ limit = lesser_below limit top in
        omega (arith, least, under));
    all_apart = framed.all_apart;
    some = framed.some;
    clear = framed.clear;
    young = framed.young;
    old = framed.old;
    parts = framed.parts;
    rising = rising_raised frames framed.young framed.old top framed.parts newest framed.rising;
    others = framed.others;
  }
    where
      limit_high : IsLimit s.hi s.exported limit → limit ≤ s.hi
      limit_high so = limit_within s ends limit stack so

-- ---- a step

pub shrinking_frames : ShrinkingFrames
shrinking_frames is_zero s s' ends ends' frames top shrunks.More framed alive newest lo hi (same, (f, lowest, zero, less)) =
    subst (λ (e : Ends). Framed s' e frames) (sym same) (less_exported is_zero s s' ends frames f framed alive lo hi zero less)
shrinking_frames is_zero s s' ends ends' frames top (shrunks.Done sp) framed alive newest lo hi (kept, same, (limit, is, at)) =
    let exports : s ≡ s' = λ i. record { exported = sym kept i; lo = sym lo i; hi = sym hi i } in
    subst (λ (e : Ends). Framed s' e frames) (ap (λ n. record ends { sp = n }) (sym at) ∙ sym same)
    (subst (λ (x : Exports). Framed x (record ends { sp = lesser limit top }) frames) exports (raised s ends limit framed.stack is frames top framed newest))
