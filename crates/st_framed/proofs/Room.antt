-- What it means where the frames of a worker's threads lie: none lies below sp on its stack (lies, apart_below), and the worker holds all words there
-- (room_is).
use Rattle.std.proofs.Common.{◌≡◌, ◌⊎◌, inl, inr, ℕ, ◌+◌, ◌^◌, ◌<◌, ◌≤◌, List, subst, arith}
use Rattle.std.specs.List.{Contains}
use Rattle.std.proofs.lemmas.List.Elements.{Contains-append_cases}
use Rattle.st_base.specs.declared.chain.Frame.{Frame}
use Rattle.st_words.specs.Steps.{place_of, Inside}
use Rattle.st_stack.specs.Exported.{Exports}
use Rattle.st_items.specs.Body.{Ends}
use Rattle.st_chain.specs.Seen.{AreApart}
use Rattle.st_framed.specs.Framed.{IsElsewhere, Framed, RoomIs}
use Rattle.st_framed.proofs.Lists.{are_apart}
use Rattle.st_framed.proofs.Stacks.{sp_within, sp_below, rising_low}

-- ---- none lies below sp

module _ (s : Exports) (ends : Ends) (frames : List Frame) (framed : Framed s ends frames) where
  lies_old : (f : Frame) → Contains s.exported f ⊎ IsElsewhere s.lo s.hi f → (ends.sp ≤ f.low) ⊎ (f.base ≤ s.lo)
  lies_old f (inl there) = inl (sp_below s ends framed.stack f there)
  lies_old f (inr (inl under)) = inr under
  lies_old f (inr (inr over)) = inl (let within : ends.sp ≤ s.hi = sp_within s ends framed.stack in omega (arith, over, within))

  -- at or above sp, or wholly below the stack
  pub lies : (f : Frame) → Contains frames f → (ends.sp ≤ f.low) ⊎ (f.base ≤ s.lo)
  lies f there =
      elim (Contains-append_cases framed.young framed.old f (subst (λ (fs : List Frame). Contains fs f) framed.parts there)) [
        | inl new ↦ inl (rising_low s ends.sp framed.young f framed.rising new)
        | inr before ↦ lies_old f (framed.others f before)
      ]

  pub apart_below : (f : Frame) → s.lo ≤ f.low → f.base ≤ ends.sp → AreApart f frames
  apart_below f from to = are_apart f frames framed.all_apart (λ g there.
      elim (lies g there) [
        | inl above ↦ inl (omega (arith, to, above))
        | inr below ↦ inr (omega (arith, from, below))
      ])

-- ---- the words there

-- a place below sp lies in no frame from sp on
not_inside : (sp q : ℕ) (f : Frame) → sp ≤ f.low → q < place_of sp → Inside f q → ⊥
not_inside sp q f above below (from, to) = omega (arith, above, below, from)

pub room_is : RoomIs
room_is holds s ends frames framed own =
    let stack = framed.stack in
    let lo : ends.lo ≡ s.lo = stack.lo in
    let hi : ends.hi ≡ s.hi = stack.hi in
    let low : 0x8000_0000 ≤ s.lo = stack.low in
    let high : s.hi < 0x8000_0000 + 2 ^ 32 = stack.high in
    let within : ends.sp ≤ s.hi = sp_within s ends stack in
    record {
      low = omega (arith, lo, low);
      high = omega (arith, hi, high);
      above = stack.above;
      within = omega (arith, hi, within);
      even = stack.even;
      own = λ q from to. own q (omega (arith, lo, from)) (omega (arith, within, to)) (λ f there inside. not_inside ends.sp q f (sp_below s ends stack f there) to inside);
      clear = apart_below s ends frames framed (record { low = ends.lo; base = ends.sp }) (omega (arith, lo)) (omega arith);
    }
