-- How the newest activation of a worker's top thread leaves: where its call comes back to is a return address (comes_back), so that its epilogue
-- leaves (item_leaves), with its frame freed or marked (leaves_frame); where it is marked the way is split at the mark.
use Rattle.std.proofs.Common.{◌≡◌, inl, inr, ℕ, ◌+◌, ◌%◌, ◌^◌, ◌<◌, ◌≤◌, Bool, List, [], ◌∷◌, ap, sym, ◌∙◌, subst, arith}
use Rattle.st_base.specs.declared.chain.Frame.{Frame}
use Rattle.st_base.specs.declared.reg.Reg.TheVariants as registers
use Rattle.st_base.specs.declared.thread.Activation.{Activation}
use Rattle.st_base.specs.declared.thread.ActivationKind.{ActivationKind}
use Rattle.st_base.specs.declared.thread.Held.{Held}
use Rattle.st_model.specs.declared.code.Layout.TheVariants.{Postprocessed}
use Rattle.st_model.specs.declared.program.ItemKind.TheVariants as items
use Rattle.st_model.specs.declared.program.Program.{Program}
use Rattle.st_model.specs.Effect.{File}
use Rattle.st_model.specs.Layout.{saved_of}
use Rattle.st_model.specs.Memory.{Data}
use Rattle.st_words.specs.declared.view.Known.{Known}
use Rattle.st_step.specs.Frames.{Naming, value_in, with_saved_values}
use Rattle.st_step.specs.Moves.{register}
use Rattle.st_step.specs.Runs.{Situation, IsReturn, return_word, caller_word, stored}
use Rattle.st_items.specs.Body.{Ends, Context}
use Rattle.st_items.specs.Code.{IsSized}
use Rattle.st_items.specs.Left.{HowLeft}
use Rattle.st_items.proofs.Addresses.{address_multiple, place_bounds}
use Rattle.st_items.specs.Marked.{IsAway, NeedsNoWords, MarksAt, Marked, behind_mark}
use Rattle.st_items.proofs.Marking.{LeavesSplit, back_way, leaves_split}
use Rattle.st_chain.specs.Threads.{Lower}
use Rattle.st_chain.specs.Walk.{named_by, Below, FromNewest}
use Rattle.st_chain.proofs.Copying.{below_newest}
use Rattle.st_running.specs.Running.{CanRun, LeavesFrame}
use Rattle.st_running.proofs.AtItem.{Older, AtItem}

-- ---- where its call comes back to

module _ (p : Program) (names : Naming) (holds : ℕ → Bool) (size : IsSized Postprocessed p) where
  -- a thread stands at a word of code
  newest_code : (end : Context) (ahead pc fp : ℕ) (word value : ℕ → ℕ) (acts : List Activation) (fs : List Frame) → ahead ≤ 1 → FromNewest p names holds end ahead pc fp word value acts fs → (pc % 4 ≡ 0) × ((4 ≤ pc) × (pc < 2 ^ 32))
  newest_code end ahead pc fp word value (a ∷ older) (f ∷ fs) few (function, is) =
      let at = is.at in
      let bounds = place_bounds Postprocessed p a.function function a.next size is.here in
      let low = bounds.0 in
      let high = bounds.1 in
      let even = address_multiple Postprocessed p a.function function a.next in
      (omega (arith, even, at), (omega arith, omega arith))
  newest_code end ahead pc fp word value [] fs few newest = absurd newest
  newest_code end ahead pc fp word value (a ∷ older) [] few newest = absurd newest

  lower_back : (cell : ℕ) (ts : List Known) (frames : List (List Frame)) (kind : ActivationKind) (kept : File) (word value : ℕ → ℕ) (fp ret : ℕ) → Lower p names holds cell ts frames kind kept word value fp ret → IsReturn ret
  lower_back cell [] [] kind kept word value fp ret (first, at) = record { multiple = ap (λ (n : ℕ). n % 4) at; below = omega arith }
  lower_back cell (t ∷ ts) (fs ∷ rest) kind kept word value fp ret (handle, forked, behind, over, newest) =
      let (even, (low, high)) = newest_code (Lower p names holds t.note.cell ts rest) 0 (ret + 4) fp word _ t.thread.activations fs (omega arith) newest in
      record { multiple = omega (arith, even); below = omega (arith, high) }
  lower_back cell [] (fs ∷ rest) kind kept word value fp ret lower = absurd lower
  lower_back cell (t ∷ ts) [] kind kept word value fp ret lower = absurd lower

  pub comes_back : (cell : ℕ) (ts : List Known) (frames : List (List Frame)) (older : List Activation) (fs : List Frame) (kind : ActivationKind) (kept : File) (word value : ℕ → ℕ) (fp ret : ℕ) → Below p names holds (Lower p names holds cell ts frames) older fs kind kept word value fp ret → IsReturn ret
  comes_back cell ts frames [] [] kind kept word value fp ret below = lower_back cell ts frames kind kept word value fp ret below
  comes_back cell ts frames (a ∷ older) (f ∷ fs) kind kept word value fp ret below =
      let newest = below_newest p names holds (Lower p names holds cell ts frames) a older f fs kind kept word value fp ret below in
      let (even, (low, high)) = newest_code (Lower p names holds cell ts frames) 0 ret fp word value (a ∷ older) (f ∷ fs) (omega arith) newest in
      record { multiple = even; below = high }
  comes_back cell ts frames [] (f ∷ fs) kind kept word value fp ret below = absurd below
  comes_back cell ts frames (a ∷ older) [] kind kept word value fp ret below = absurd below

-- ---- its frame

pub leaves_frame : (p : Program) (d : Data) (holds : ℕ → Bool) (ends : Ends) (t u v : Situation) (f : Frame) (fs gs : List Frame) (n : ℕ) → fs ≡ f ∷ gs → f.base ≡ register t.state registers.S0 → HowLeft Postprocessed ends (register t.state registers.S0) t u → (IsAway ends (register t.state registers.S0) → Marked p d holds (register t.state registers.S0) t u) → v.word ≡ u.word → n ≤ 1 → NeedsNoWords Postprocessed p d n u.state v.state
    → LeavesFrame p d holds ends t fs (record ends { sp = register u.state registers.Sp }) v gs
leaves_frame p d holds ends t u v f fs gs n frames base (inl (above, limit, (words, sp))) splits same few rest = record {
  f = f;
  frames = frames;
  how = inl (record { above = omega arith; limit = omega arith; words = same ∙ words; after = ap (λ (m : ℕ). record ends { sp = m }) (sp ∙ sym base) });
}
leaves_frame p d holds ends t u v f fs gs n frames base (inr (away, (words, sp))) splits same few rest =
    let marked = splits away in
    let s = marked.s in
    let marks = subst (λ (m : ℕ). MarksAt p d holds m t s) (sym base) marked.marks in
    let comes = marked.comes ∙ ap (λ (m : ℕ). behind_mark m s) (sym base) in
    record {
      f = f;
      frames = frames;
      how = inr (record {
        away = subst (IsAway ends) (sym base) away;
        words = same ∙ words ∙ ap (λ (m : ℕ). stored (return_word m) 0 t.word) (sym base);
        after = ap (λ (m : ℕ). record ends { sp = m }) sp;
        s = s;
        marks = marks;
        further = n;
        few = few;
        way = back_way p d holds f.base n t s v marks (subst (λ (x : Situation). NeedsNoWords Postprocessed p d n x.state v.state) comes rest);
      });
    }

-- ---- the epilogue

pub item_leaves : (p : Program) (d : Data) (names : List (Held × ℕ)) (holds : ℕ → Bool) (ends : Ends) (t : Situation) (k : Known) (fs : List Frame) (ks : List Known) (rest : List (List Frame)) → CanRun p d names holds ends t k fs ks rest → (at : AtItem p d names holds ends t k fs ks rest) → at.item.kind ≡ items.Epilogue
    → LeavesSplit p d holds (Older p names holds k.note.cell ks rest at.older at.gs) ends t at.top
item_leaves p d names holds ends t k fs ks rest can at kind =
    let b = register t.state registers.S0 in
    let back = comes_back p (named_by names) holds can.size k.note.cell ks rest at.older at.gs at.top.kind at.top.kept t.word (with_saved_values t.word b 0 (saved_of at.function) (value_in t.state)) (t.word (caller_word b)) (t.word (return_word b)) at.line.body.framed.below in
    leaves_split p d holds (named_by names) (Older p names holds k.note.cell ks rest at.older at.gs) ends at.f.low t at.top k.thread.registers at.function at.item (record { line = at.line; kind = kind; back = back; low = tt })
