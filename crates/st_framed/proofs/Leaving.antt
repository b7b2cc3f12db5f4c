-- A thread that is taken out leaves the frames of the others where they may lie (top_leaves, bottom_leaves): those of its frames that are on the stack are
-- exported, and overlap none of the others (the_others has what both cases share).
use Rattle.std.proofs.Common.{◌≡◌, ◌≢◌, ◌⊎◌, inl, inr, ◌+◌, ◌^◌, ◌<◌, ◌≤◌, List, [], ◌++◌, refl, sym, ◌∙◌, subst, arith}
use Rattle.std.specs.List.{Contains}
use Rattle.std.proofs.lemmas.List.{append-nil}
use Rattle.std.proofs.lemmas.List.Elements.{Contains-append_left, Contains-append_right}
use Rattle.st_base.specs.declared.chain.Frame.{Frame}
use Rattle.st_stack.specs.Exported.{Exports, IsRange, IsFrameOn, Apart}
use Rattle.st_items.specs.Body.{Ends}
use Rattle.st_chain.specs.Taking.{AllApart}
use Rattle.st_chain.proofs.Joining.{turned, all_tail}
use Rattle.st_framed.specs.Framed.{IsElsewhere, AreRising, IsStack, Framed, Exporting, TopLeaves, BottomLeaves}
use Rattle.st_framed.proofs.Lists.{in_none, two_parts, apart_of, apart_across, all_front, not_itself}
use Rattle.st_framed.proofs.Stacks.{below_limit, sp_within, sp_below, on_moved, rising_front, rising_back, rising_moved}
use Rattle.st_framed.proofs.Room.{lies}

-- of all frames, gone are those of the thread that leaves and left the others
module _ (s s' : Exports) (ends : Ends) (frames gone left : List Frame) (framed : Framed s ends frames) (exporting : Exporting s s' gone)
    (of_gone : (f : Frame) → Contains gone f → Contains frames f) (of_left : (f : Frame) → Contains left f → Contains frames f) (beside : (f g : Frame) → Contains left f → Contains gone g → Apart f g) where
  -- a frame of those that leave isn't below sp where it is on the stack
  above_sp : (g : Frame) → Contains gone g → IsFrameOn s.lo s.hi g → ends.sp ≤ g.low
  above_sp g there on =
      elim (lies s ends frames framed g (of_gone g there)) [
        | inl above ↦ above
        | inr below ↦ absurd (let from : s.lo ≤ g.low = on.from in let some : g.low < g.base = on.some in let no : ⊥ = omega (arith, below, from, some) in no)
      ]

  low_of : (g : Frame) → Contains s'.exported g → ends.sp ≤ g.low
  low_of g there =
      elim (exporting.were g there) [
        | inl old ↦ sp_below s ends framed.stack g old
        | inr (new, on) ↦ above_sp g new on
      ]

  on_of : (g : Frame) → Contains s'.exported g → IsFrameOn s.lo s.hi g
  on_of g there =
      elim (exporting.were g there) [
        | inl old ↦ framed.stack.on g old
        | inr (new, on) ↦ on
      ]

  apart_exported : (f g : Frame) → Contains s'.exported f → Contains s'.exported g → f ≢ g → Apart f g
  apart_exported f g one two other =
      elim (exporting.were f one) [
        | inl old ↦ elim (exporting.were g two) [
          | inl too ↦ framed.stack.apart f g old too other
          | inr (new, on) ↦ turned g f (framed.clear g f (of_gone g new) old (λ same. other (sym same)))
        ]
        | inr (new, on) ↦ elim (exporting.were g two) [
          | inl old ↦ framed.clear f g (of_gone f new) old other
          | inr (too, lies) ↦ apart_of frames f g framed.all_apart (of_gone f new) (of_gone g too) other
        ]
      ]

  stack_left : IsStack s' ends
  stack_left =
      let stack = framed.stack in
      let lo : s'.lo ≡ s.lo = exporting.lo in
      let hi : s'.hi ≡ s.hi = exporting.hi in
      record {
        range = subst (λ n. IsRange n s'.hi) (sym lo) (subst (λ n. IsRange s.lo n) (sym hi) stack.range);
        lo = stack.lo ∙ sym lo;
        hi = stack.hi ∙ sym hi;
        low = (let low : 0x8000_0000 ≤ s.lo = stack.low in omega (arith, low, lo));
        high = subst (λ n. n < 0x8000_0000 + 2 ^ 32) (sym hi) stack.high;
        above = stack.above;
        even = stack.even;
        limit = below_limit s'.hi ends.sp s'.exported (let within : ends.sp ≤ s.hi = sp_within s ends stack in omega (arith, within, hi)) low_of;
        on = λ g there. on_moved s s' g lo hi (on_of g there);
        apart = apart_exported;
      }

  -- none of the others is exported anew
  were : (f : Frame) → Contains left f → Contains s'.exported f → Contains s.exported f
  were f mine there =
      elim (exporting.were f there) [
        | inl old ↦ old
        | inr (new, on) ↦ absurd (not_itself f on.some (beside f f mine new))
      ]

  clear_left : (f g : Frame) → Contains left f → Contains s'.exported g → f ≢ g → Apart f g
  clear_left f g mine there other =
      elim (exporting.were g there) [
        | inl old ↦ framed.clear f g (of_left f mine) old other
        | inr (new, on) ↦ beside f g mine new
      ]

  stays : (f : Frame) → Contains s.exported f ⊎ IsElsewhere s.lo s.hi f → Contains s'.exported f ⊎ IsElsewhere s'.lo s'.hi f
  stays f (inl there) = inl (exporting.stay f there)
  stays f (inr (inl under)) = inr (inl (let lo : s'.lo ≡ s.lo = exporting.lo in omega (arith, under, lo)))
  stays f (inr (inr over)) = inr (inr (let hi : s'.hi ≡ s.hi = exporting.hi in omega (arith, over, hi)))

  pub the_others : AllApart left → (young old : List Frame) → left ≡ young ++ old → AreRising s ends.sp young → ((f : Frame) → Contains old f → Contains framed.old f) → Framed s' ends left
  the_others all young old parts rising olds = record {
    stack = stack_left;
    all_apart = all;
    some = λ f mine. framed.some f (of_left f mine);
    clear = clear_left;
    young = young;
    old = old;
    parts = parts;
    rising = rising_moved s s' ends.sp young exporting.lo exporting.hi (λ f there. were f (subst (λ (fs : List Frame). Contains fs f) (sym parts) (Contains-append_left young old f there))) rising;
    others = λ f there. stays f (framed.others f (olds f there));
  }

-- ---- the top thread

pub top_leaves : TopLeaves
top_leaves s s' ends fs rest framed exporting =
    elim (two_parts framed.young framed.old fs rest (sym framed.parts)) [
      | inl (mid, young, left) ↦ others mid framed.old left (rising_back s ends.sp fs mid (subst (AreRising s ends.sp) young framed.rising)) (λ f there. there)
      | inr (mid, gone, old) ↦ others [] rest refl tt (λ f there. subst (λ (gs : List Frame). Contains gs f) (sym old) (Contains-append_right mid rest f there))
    ]
  where
    others : (young old : List Frame) → rest ≡ young ++ old → AreRising s ends.sp young → ((f : Frame) → Contains old f → Contains framed.old f) → Framed s' ends rest
    others = the_others s s' ends (fs ++ rest) fs rest framed exporting (Contains-append_left fs rest) (Contains-append_right fs rest)
        (λ f g mine gone. turned g f (apart_across fs rest g f framed.all_apart gone mine)) (all_tail fs rest framed.all_apart)

-- ---- the bottom thread

pub bottom_leaves : BottomLeaves
bottom_leaves s s' ends above fs framed exporting =
    elim (two_parts framed.young framed.old above fs (sym framed.parts)) [
      | inl (mid, young, gone) ↦ others above [] (sym (append-nil above)) (rising_front s ends.sp above mid (subst (AreRising s ends.sp) young framed.rising)) (λ f never. absurd (in_none f never))
      | inr (mid, left, old) ↦ others framed.young mid left framed.rising (λ f there. subst (λ (gs : List Frame). Contains gs f) (sym old) (Contains-append_left mid fs f there))
    ]
  where
    others : (young old : List Frame) → above ≡ young ++ old → AreRising s ends.sp young → ((f : Frame) → Contains old f → Contains framed.old f) → Framed s' ends above
    others = the_others s s' ends (above ++ fs) fs above framed exporting (Contains-append_right above fs) (Contains-append_left above fs) (λ f g mine gone. apart_across above fs f g framed.all_apart mine gone)
        (all_front above fs framed.all_apart)
