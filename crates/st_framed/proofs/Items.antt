-- An item of the top thread keeps its worker's frames where they may lie (items_frame): a frame is made right below sp (made), or the newest one is freed,
-- up to which sp may rise (freed), or it is marked and left (marked).
use Rattle.std.proofs.Common.{◌≡◌, ◌⊎◌, inl, inr, ℕ, ◌-◌, ◌%◌, ◌<◌, ◌≤◌, List, [], ◌∷◌, ◌++◌, refl, sym, ap, ◌∙◌, subst, arith}
use Rattle.std.specs.List.{Contains}
use Rattle.st_base.specs.declared.chain.Frame.{Frame}
use Rattle.st_stack.specs.Exported.{Exports, IsFrameOn, IsLimit, Apart}
use Rattle.st_items.specs.Body.{Ends}
use Rattle.st_items.specs.Entered.{lowered}
use Rattle.st_chain.specs.Seen.{IsEven}
use Rattle.st_chain.proofs.Joining.{contains_here, contains_more}
use Rattle.st_framed.specs.Framed.{IsElsewhere, AreRising, IsStack, Framed, ItemsFrame}
use Rattle.st_framed.proofs.Lists.{first_or_later}
use Rattle.st_framed.proofs.Stacks.{limit_below, below_limit, limit_within, sp_within, sp_below, stack_at, rising_lower}
use Rattle.st_framed.proofs.Room.{apart_below}

-- ---- a frame is made

module _ (s : Exports) (ends : Ends) (frames : List Frame) (f : Frame) (framed : Framed s ends frames) (even : IsEven f) (base : f.base ≡ ends.sp) (less : f.low < f.base) (room : ends.lo ≤ f.low) where
  from : s.lo ≤ f.low
  from = let lo : ends.lo ≡ s.lo = framed.stack.lo in omega (arith, lo, room)

  new_on : IsFrameOn s.lo s.hi f
  new_on = record {
    from = from;
    some = less;
    to = (let within : ends.sp ≤ s.hi = sp_within s ends framed.stack in omega (arith, base, within));
    low_even = even.low;
    base_even = even.base;
  }

  above_it : (g : Frame) → Contains s.exported g → f.base ≤ g.low
  above_it g there = let above : ends.sp ≤ g.low = sp_below s ends framed.stack g there in omega (arith, base, above)

  not_exported : Contains s.exported f → ⊥
  not_exported there = let above : f.base ≤ f.low = above_it f there in omega (arith, above, less)

  made_at : (n : ℕ) → n ≡ f.low → Framed s (record ends { sp = n }) (f ∷ frames)
  made_at n is = record {
    stack = stack_at s ends n framed.stack (omega (arith, room, is)) (ap (λ (m : ℕ). m % 16) is ∙ even.low)
        (λ m limit. let under : ends.sp ≤ m = framed.stack.limit m limit in omega (arith, under, base, less, is));
    all_apart = (even, apart_below s ends frames framed f from (omega (arith, base)), framed.all_apart);
    some = λ g there.
        elim (first_or_later f g frames there) [
          | inl same ↦ subst (λ (h : Frame). h.low < h.base) (sym same) less
          | inr later ↦ framed.some g later
        ];
    clear = λ g h there exported other.
        elim (first_or_later f g frames there) [
          | inl same ↦ subst (λ (k : Frame). Apart k h) (sym same) (inl (above_it h exported))
          | inr later ↦ framed.clear g h later exported other
        ];
    young = f ∷ framed.young;
    old = framed.old;
    parts = ap (λ (fs : List Frame). f ∷ fs) framed.parts;
    rising = (omega (arith, is), new_on, not_exported, rising_lower s f.base ends.sp framed.young (omega (arith, base)) framed.rising);
    others = framed.others;
  }

  pub made : Framed s (lowered ends (f.base - f.low)) (f ∷ frames)
  made = made_at (ends.sp - (f.base - f.low)) (omega (arith, base, less))

-- ---- the newest frame is left

-- where it is on the stack and isn't exported, those that rise above it; else none
abbrev pub Rest : Exports → Ends → Frame → List Frame → Type 0
Rest s ends f fs = (young : List Frame) × (old : List Frame) × (fs ≡ young ++ old) × ((f : Frame) → Contains old f → Contains s.exported f ⊎ IsElsewhere s.lo s.hi f)
    × (((young ≡ []) × (Contains s.exported f ⊎ IsElsewhere s.lo s.hi f)) ⊎ (IsFrameOn s.lo s.hi f × (ends.sp ≤ f.low) × AreRising s f.base young))

rest_by : (s : Exports) (ends : Ends) (f : Frame) (fs young old : List Frame) → f ∷ fs ≡ young ++ old → AreRising s ends.sp young → ((f : Frame) → Contains old f → Contains s.exported f ⊎ IsElsewhere s.lo s.hi f) → Rest s ends f fs
rest_by s ends f fs [] old same rising others =
    let all : (g : Frame) → Contains (f ∷ fs) g → Contains s.exported g ⊎ IsElsewhere s.lo s.hi g = λ g there. others g (subst (λ (gs : List Frame). Contains gs g) same there) in
    ([], fs, refl, (λ g there. all g (contains_more f g fs there)), inl (refl, all f (contains_here f fs)))
rest_by s ends f fs (y ∷ young) old same (low, on, own, rising) others =
    let first : y ≡ f = cc in
    let rest : fs ≡ young ++ old = cc in
    (young, old, rest, others, inr (subst (IsFrameOn s.lo s.hi) first on, subst (λ (g : Frame). ends.sp ≤ g.low) first low, subst (λ (g : Frame). AreRising s g.base young) first rising))

module _ (s : Exports) (ends : Ends) (f : Frame) (fs : List Frame) (framed : Framed s ends (f ∷ fs)) where
  rest_of : Rest s ends f fs
  rest_of = rest_by s ends f fs framed.young framed.old framed.parts framed.rising framed.others

  left_with : (n : ℕ) → IsStack s (record ends { sp = n }) → (young old : List Frame) → fs ≡ young ++ old → ((f : Frame) → Contains old f → Contains s.exported f ⊎ IsElsewhere s.lo s.hi f) → AreRising s n young → Framed s (record ends { sp = n }) fs
  left_with n stack young old parts others rising = record {
    stack = stack;
    all_apart = framed.all_apart.2;
    some = λ g there. framed.some g (contains_more f g fs there);
    clear = λ g h there. framed.clear g h (contains_more f g fs there);
    young = young;
    old = old;
    parts = parts;
    rising = rising;
    others = others;
  }

  pub marked : Framed s ends fs
  marked =
      let (young, old, parts, others, how) = rest_of in
      left_with ends.sp framed.stack young old parts others (elim how [
        | inl (none, away) ↦ subst (AreRising s ends.sp) (sym none) tt
        | inr (on, low, rising) ↦ (let some : f.low < f.base = on.some in rising_lower s ends.sp f.base young (omega (arith, low, some)) rising)
      ])

  module _ (limit : IsLimit s.hi s.exported ends.gp) (above : ends.sp < f.base) (within : f.base ≤ ends.gp) where
    -- then it is on the stack and not exported
    stays_not : Contains s.exported f ⊎ IsElsewhere s.lo s.hi f → ⊥
    stays_not (inl there) =
        let low : ends.gp ≤ f.low = limit_below s.hi ends.gp s.exported limit f there in
        let some : f.low < f.base = framed.some f (contains_here f fs) in
        omega (arith, low, some, within)
    stays_not (inr (inl under)) =
        let lo : ends.lo ≡ s.lo = framed.stack.lo in
        let from : ends.lo ≤ ends.sp = framed.stack.above in
        omega (arith, under, lo, from, above)
    stays_not (inr (inr over)) =
        let to : ends.gp ≤ s.hi = limit_within s ends ends.gp framed.stack limit in
        let some : f.low < f.base = framed.some f (contains_here f fs) in
        omega (arith, over, to, some, within)

    higher : IsStack s (record ends { sp = f.base })
    higher =
        let from : ends.lo ≤ ends.sp = framed.stack.above in
        let to : ends.gp ≤ s.hi = limit_within s ends ends.gp framed.stack limit in
        stack_at s ends f.base framed.stack (omega (arith, from, above)) framed.all_apart.0.base
        (below_limit s.hi f.base s.exported (omega (arith, within, to)) (λ g there. let low : ends.gp ≤ g.low = limit_below s.hi ends.gp s.exported limit g there in omega (arith, low, within)))

    pub freed : Framed s (record ends { sp = f.base }) fs
    freed =
        let (young, old, parts, others, how) = rest_of in
        left_with f.base higher young old parts others (elim how [
          | inl (none, away) ↦ absurd (stays_not away)
          | inr (on, low, rising) ↦ rising
        ])

-- ---- an item

pub items_frame : ItemsFrame
items_frame p d holds s ends ends' t u fs fs' rest framed limit (inl (same, kept)) even =
    subst (λ (e : Ends). Framed s e (fs' ++ rest)) (sym same) (subst (λ (gs : List Frame). Framed s ends (gs ++ rest)) (sym kept) framed)
items_frame p d holds s ends ends' t u fs fs' rest framed limit (inr (inl makes)) even =
    let f : Frame = makes.f in
    let first : IsEven f = even f (subst (λ (gs : List Frame). Contains gs f) (sym makes.frames) (contains_here f fs)) in
    subst (λ (e : Ends). Framed s e (fs' ++ rest)) (sym makes.after)
    (subst (λ (gs : List Frame). Framed s (lowered ends (f.base - f.low)) (gs ++ rest)) (sym makes.frames) (made s ends (fs ++ rest) f framed first makes.base makes.less makes.room))
items_frame p d holds s ends ends' t u fs fs' rest framed limit (inr (inr leaves)) even =
    let f : Frame = leaves.f in
    let whole : Framed s ends (f ∷ (fs' ++ rest)) = subst (λ (gs : List Frame). Framed s ends (gs ++ rest)) leaves.frames framed in
    elim leaves.how [
      | inl how ↦ subst (λ (e : Ends). Framed s e (fs' ++ rest)) (sym how.after) (freed s ends f (fs' ++ rest) whole limit how.above how.limit)
      | inr how ↦ subst (λ (e : Ends). Framed s e (fs' ++ rest)) (sym how.after) (marked s ends f (fs' ++ rest) whole)
    ]
