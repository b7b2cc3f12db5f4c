-- A prologue: the thread goes on behind it with a new frame at sp, or the stack has no room for that frame (prologue_does).
use Rattle.std.proofs.Common.{◌≡◌, inl, inr, ℕ, ◌+◌, ◌-◌, ◌<◌, ◌≤◌, nat_lt, Bool, true, false, List, [], ◌∷◌, refl, ap, sym, ◌∙◌, arith}
use Rattle.std.proofs.lemmas.Bool.{ltb-true, ltb-false}
use Rattle.st_base.specs.declared.chain.Frame.{Frame}
use Rattle.st_base.specs.declared.thread.Held.{Held}
use Rattle.st_model.specs.declared.code.Layout.TheVariants.{Postprocessed}
use Rattle.st_model.specs.declared.program.ItemKind.{ItemKind}
use Rattle.st_model.specs.declared.program.Program.{Program}
use Rattle.st_model.specs.Accepted.{HasFrame}
use Rattle.st_model.specs.Effect.{advanced, item_effect}
use Rattle.st_model.specs.Heap.{with_frames, effect_move}
use Rattle.st_model.specs.Memory.{Data}
use Rattle.st_words.specs.declared.view.Known.{Known}
use Rattle.st_stack.specs.Exported.{Apart}
use Rattle.st_step.specs.Runs.{Situation, HoldsFrame}
use Rattle.st_items.specs.Body.{Ends, IsFrameAt}
use Rattle.st_items.specs.Entered.{IsAtPrologue, lowered}
use Rattle.st_items.proofs.Entering.{enters, prologue_stops}
use Rattle.st_items.proofs.ItemCode.{formed_of}
use Rattle.st_chain.specs.Seen.{joined, IsEven, AreApart}
use Rattle.st_chain.specs.Walk.{named_by}
use Rattle.st_chain.proofs.Joining.{split_apart}
use Rattle.st_chain.proofs.Outside.{sees_outside}
use Rattle.st_standing.specs.Standing.{HasRoom}
use Rattle.st_running.specs.Running.{CanRun, ItemDoes}
use Rattle.st_running.proofs.AtItem.{Older, AtFirst, stands_behind}

-- a part of a frame lies apart from what the frame is apart from
apart_part : (lo low base : ℕ) (g : Frame) → lo ≤ low → Apart (record { low = lo; base = base }) g → Apart (record { low = low; base = base }) g
apart_part lo low base g above (inl under) = inl under
apart_part lo low base g above (inr over) = inr (omega (arith, above, over))

all_part : (lo low base : ℕ) (gs : List Frame) → lo ≤ low → AreApart (record { low = lo; base = base }) gs → AreApart (record { low = low; base = base }) gs
all_part lo low base [] above apart = tt
all_part lo low base (g ∷ gs) above (first, even, rest) = (apart_part lo low base g above first, even, all_part lo low base gs above rest)

-- the words of a frame at sp are held
holds_at : (holds : ℕ → Bool) (ends : Ends) (bytes b : ℕ) (frames : List Frame) → HasRoom holds ends frames → b ≡ ends.sp → ends.lo + bytes ≤ b → HoldsFrame holds bytes b
holds_at holds ends bytes b frames room same fits q from to = room.own q (omega (arith, from, fits)) (omega (arith, to, same))

module _ (p : Program) (d : Data) (names : List (Held × ℕ)) (holds : ℕ → Bool) (ends : Ends) (t : Situation) (k : Known) (fs : List Frame) (ks : List Known) (rest : List (List Frame)) (can : CanRun p d names holds ends t k fs ks rest) (at : AtFirst p d names holds ends t k fs ks rest) where
  -- the frame that is to be made
  abbrev new : Frame
  new = record { low = ends.sp - at.function.frame_bytes; base = ends.sp }

  frame_of : HasFrame at.function
  frame_of = (formed_of p at.top.function at.function can.accepted at.entered.has.named).frame

  makes : ends.lo + at.function.frame_bytes ≤ ends.sp → ItemDoes p d names holds ends t k fs ks rest
  makes fits =
      let function = at.function in
      let bytes = function.frame_bytes in
      let frame = frame_of in
      let least = frame.least in
      let multiple = frame.multiple in
      let low = can.room.low in
      let high = can.room.high in
      let within = can.room.within in
      let even = can.room.even in
      let apart = split_apart new fs (joined rest) (all_part ends.lo new.low ends.sp (joined (fs ∷ rest)) (omega arith) can.room.clear) in
      let is_even : IsEven new = record { low = omega arith; base = even } in
      let before : IsAtPrologue Postprocessed p holds (named_by names) (Older p names holds k.note.cell ks rest at.older fs) ends t at.top k.thread.registers function at.item = record {
        entered = at.entered;
        sees = sees_outside p (named_by names) holds can.accepted new is_even at.older fs k.note.cell ks rest apart.0 apart.1;
        low = low;
        room = fits;
        high = omega arith;
        multiple = even;
        holds = holds_at holds ends bytes ends.sp (joined (fs ∷ rest)) can.room refl fits;
      } in
      let (u, leads, words, stands) = enters Postprocessed p d holds (named_by names) (Older p names holds k.note.cell ks rest at.older fs) ends t at.top k.thread.registers function at.item before in
      let whole : new.low + bytes ≡ ends.sp = omega arith in
      let place : IsFrameAt holds new.low function = record {
        above = omega arith;
        multiple = is_even.low;
        high = omega arith;
        holds = holds_at holds ends bytes (new.low + bytes) (joined (fs ∷ rest)) can.room whole (omega arith);
      } in
      inl (record {
        next = with_frames k.thread (advanced at.top ∷ at.older) k.thread.registers;
        moves = at.moves ∙ ap (λ (kind : ItemKind). effect_move k.path k.thread at.older at.item.line (item_effect p d kind at.top k.thread.registers)) at.entered.kind;
        going = can.going;
        forks = refl;
        counters = refl;
        bytes = refl;
        u = u;
        leads = leads;
        ends' = lowered ends bytes;
        fs' = new ∷ fs;
        frames = inr (inl (record { f = new; frames = refl; base = refl; less = omega arith; room = omega arith; after = ap (lowered ends) (omega arith) }));
        stands = stands_behind p names holds (lowered ends bytes) u k ks rest (advanced at.top) at.older k.thread.registers function new fs place (sym whole) stands;
      })

  overflows : ends.sp < ends.lo + at.function.frame_bytes → ItemDoes p d names holds ends t k fs ks rest
  overflows full =
      let (i, there, stops) = prologue_stops Postprocessed p d (named_by names) (Older p names holds k.note.cell ks rest at.older fs) ends t at.top k.thread.registers at.function at.item at.entered full in
      inr (inr (inl (record {
        top = at.top;
        older = at.older;
        acts = at.acts;
        function = at.function;
        item = at.item;
        has = at.entered.has;
        prologue = at.entered.kind;
        room = full;
        ins = i;
        there = there;
        stops = stops;
      })))

  by_room : (b : Bool) → nat_lt ends.sp (ends.lo + at.function.frame_bytes) ≡ b → ItemDoes p d names holds ends t k fs ks rest
  by_room true full = overflows (ltb-true ends.sp (ends.lo + at.function.frame_bytes) full)
  by_room false fits = makes (ltb-false ends.sp (ends.lo + at.function.frame_bytes) fits)

  pub prologue_does : ItemDoes p d names holds ends t k fs ks rest
  prologue_does = by_room (nat_lt ends.sp (ends.lo + at.function.frame_bytes)) refl
