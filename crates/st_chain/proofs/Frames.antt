-- The frame lemma: threads in memory are read the same by words that agree in their frames, by more held words, by more names, and by registers of which
-- those agree that a call keeps. Read Passes (from one context to another), below_same, newest_same and lower_same. For a frame apart
-- from theirs: apart_same.
use Rattle.std.proofs.Common.{◌≡◌, ◌⊎◌, inl, inr, ℕ, ◌+◌, ◌<◌, ◌≤◌, ◌==◌, ◌++◌, Bool, true, List, [], ◌∷◌, ap, subst, arith, if◌then◌else◌}
use Rattle.st_base.specs.declared.chain.Frame.{Frame}
use Rattle.st_base.specs.Reg.{reg_number}
use Rattle.st_base.specs.declared.thread.Activation.{Activation}
use Rattle.st_base.specs.declared.thread.ActivationKind.{ActivationKind}
use Rattle.st_model.specs.declared.code.Layout.TheVariants.{Postprocessed}
use Rattle.st_model.specs.declared.program.Program.{Program}
use Rattle.st_model.specs.declared.program.ProgramFunction.{ProgramFunction}
use Rattle.st_model.specs.Accepted.{IsAccepted, HasFrame}
use Rattle.st_model.specs.Effect.{File}
use Rattle.st_model.specs.Layout.{saved_of}
use Rattle.st_words.specs.declared.view.Known.{Known}
use Rattle.st_words.specs.Steps.{place_of, Inside}
use Rattle.st_step.specs.Runs.{return_word, caller_word}
use Rattle.st_step.specs.Frames.{Naming, IsHeldAs, HasFile, HasSlots, HoldsKept, IsCaller, with_saved_values}
use Rattle.st_step.proofs.SavedList.{saved_fit}
use Rattle.st_items.specs.Body.{Context, Grows}
use Rattle.st_items.proofs.FrameWords.{saved_agrees, slots_agree}
use Rattle.st_items.proofs.Growing.{held_grows, slots_grow}
use Rattle.st_items.proofs.ItemCode.{formed_of}
use Rattle.st_chain.specs.Walk.{LiesAt, IsActivation, Below, FromNewest}
use Rattle.st_chain.specs.Threads.{AtEnd, Lower, put_value}
use Rattle.st_chain.specs.Seen.{SameIn, AllSame, SameKept, joined, IsEven, AreApart}

module _ (p : Program) (names names' : Naming) (grows : Grows names names') (holds holds' : ℕ → Bool) (word word' : ℕ → ℕ) (accepted : IsAccepted p) where
  -- what is older by one context, over the words as they were, is so by another over the words as they are
  abbrev pub Passes : Context → Context → Type 0
  Passes older older' = (kind : ActivationKind) (kept : File) (value value' : ℕ → ℕ) (fp ret : ℕ) → SameKept value value' → older kind kept word value fp ret → older' kind kept word' value' fp ret

  abbrev Same : Frame → Type 0
  Same f = SameIn holds holds' word word' f

  abbrev Sames : List Frame → Type 0
  Sames fs = AllSame holds holds' word word' fs

  -- ---- one frame

  file_same : (file : File) (value value' : ℕ → ℕ) → HoldsKept file → SameKept value value' → HasFile names file value → HasFile names' file value'
  file_same file value value' kept same has x held there = held_grows names names' grows held (value' x) (subst (λ (n : ℕ). IsHeldAs names held n) (same x (kept x held there)) (has x held there))

  lies_same : (function : ProgramFunction) (fp : ℕ) (f : Frame) → Same f → fp ≡ f.low + function.frame_bytes → LiesAt holds function fp f → LiesAt holds' function fp f
  lies_same function fp f same whole lies =
      let base = lies.base in
      record {
        base = lies.base;
        place = record {
          above = lies.place.above;
          multiple = lies.place.multiple;
          high = lies.place.high;
          holds = λ q from to. same.held q (omega (arith, from), omega (arith, to)) (lies.place.holds q from to);
        };
      }

  module _ (older older' : Context) (passes : Passes older older') (value value' : ℕ → ℕ) (kept_same : SameKept value value') where
    slots_same : (function : ProgramFunction) (fp : ℕ) (a : Activation) (f : Frame) → HasFrame function → Same f → LiesAt holds function fp f → fp ≡ f.low + function.frame_bytes → HasSlots names function a word f.low → HasSlots names' function a word' f.low
    slots_same function fp a f frame same lies whole slots =
        let base = lies.base in
        slots_grow names names' grows function a word' f.low (slots_agree names function a word word' f.low frame lies.place.above (λ q from to. same.words q (from, omega (arith, to))) slots)

    below_frame : (function : ProgramFunction) (fp : ℕ) (a : Activation) (f : Frame) → HasFrame function → Same f → LiesAt holds function fp f → fp ≡ f.low + function.frame_bytes
        → older a.kind a.kept word (with_saved_values word fp 0 (saved_of function) value) (word (caller_word fp)) (word (return_word fp)) → older' a.kind a.kept word' (with_saved_values word' fp 0 (saved_of function) value') (word' (caller_word fp)) (word' (return_word fp))
    below_frame function fp a f frame same lies whole below =
        let fit = saved_fit function frame in
        let least = frame.least in
        let above = lies.place.above in
        let base = lies.base in
        let saved = saved_of function in
        let in_frame : (q : ℕ) → place_of f.low ≤ q → q < place_of fp → word q ≡ word' q = λ q from to. same.words q (from, omega (arith, to)) in
        let at_caller : word (caller_word fp) ≡ word' (caller_word fp) = in_frame (caller_word fp) (omega arith) (omega arith) in
        let at_return : word (return_word fp) ≡ word' (return_word fp) = in_frame (return_word fp) (omega arith) (omega arith) in
        let passed = passes a.kind a.kept (with_saved_values word fp 0 saved value) (with_saved_values word' fp 0 saved value') (word (caller_word fp)) (word (return_word fp))
        (λ x is. saved_agrees word word' f.low fp 0 saved value value' x in_frame above (omega arith) (kept_same x is)) below in
        subst (λ (n : ℕ). older' a.kind a.kept word' (with_saved_values word' fp 0 saved value') (word' (caller_word fp)) n) at_return
        (subst (λ (n : ℕ). older' a.kind a.kept word' (with_saved_values word' fp 0 saved value') n (word (return_word fp))) at_caller passed)

    activation_same : (ahead pc fp : ℕ) (a : Activation) (function : ProgramFunction) (f : Frame) → Same f → IsActivation p names holds older word value ahead pc fp a function f → IsActivation p names' holds' older' word' value' ahead pc fp a function f
    activation_same ahead pc fp a function f same is =
        let frame : HasFrame function = (formed_of p a.function function accepted is.here).frame in
        let whole = is.framed.base in
        record {
          here = is.here;
          begun = is.begun;
          at = is.at;
          lies = lies_same function fp f same whole is.lies;
          framed = record { base = whole; slots = slots_same function fp a f frame same is.lies whole is.framed.slots; below = below_frame function fp a f frame same is.lies whole is.framed.below };
        }

    caller_same : (low fp ret : ℕ) (kind : ActivationKind) (kept : File) (a : Activation) (function : ProgramFunction) → HasSlots names' function a word' low → IsCaller Postprocessed p names word value low fp ret kind kept a function → IsCaller Postprocessed p names' word' value' low fp ret kind kept a function
    caller_same low fp ret kind kept a function slots caller = record {
      here = caller.here;
      begun = caller.begun;
      base = caller.base;
      back = caller.back;
      file = file_same kept value value' caller.holds kept_same caller.file;
      long = caller.long;
      holds = caller.holds;
      slots = slots;
    }

  -- ---- a thread

  pub below_same : (end end' : Context) → Passes end end' → (older : List Activation) (fs : List Frame) → Sames fs → Passes (Below p names holds end older fs) (Below p names' holds' end' older fs)
  below_same end end' passes [] [] all kind kept value value' fp ret same below = passes kind kept value value' fp ret same below
  below_same end end' passes (a ∷ older) (f ∷ fs) all kind kept value value' fp ret same (function, called, lies, (caller, below)) =
      let frame : HasFrame function = (formed_of p a.function function accepted caller.here).frame in
      let rest = below_same end end' passes older fs all.1 in
      let under = Below p names holds end older fs in
      let under' = Below p names' holds' end' older fs in
      let slots = slots_same under under' rest value value' same function fp a f frame all.0 lies caller.base caller.slots in (
        function,
        called,
        lies_same function fp f all.0 caller.base lies,
        (caller_same under under' rest value value' same f.low fp ret kind kept a function slots caller, below_frame under under' rest value value' same function fp a f frame all.0 lies caller.base below),
      )
  below_same end end' passes [] (f ∷ fs) all kind kept value value' fp ret same below = absurd below
  below_same end end' passes (a ∷ older) [] all kind kept value value' fp ret same below = absurd below

  pub newest_same : (end end' : Context) → Passes end end' → (acts : List Activation) (fs : List Frame) (ahead pc fp : ℕ) (value value' : ℕ → ℕ) → Sames fs → SameKept value value' → FromNewest p names holds end ahead pc fp word value acts fs → FromNewest p names' holds' end' ahead pc fp word' value' acts fs
  newest_same end end' passes (a ∷ older) (f ∷ fs) ahead pc fp value value' all same (function, is) =
      (function, activation_same (Below p names holds end older fs) (Below p names' holds' end' older fs) (below_same end end' passes older fs all.1) value value' same ahead pc fp a function f all.0 is)
  newest_same end end' passes [] fs ahead pc fp value value' all same newest = absurd newest
  newest_same end end' passes (a ∷ older) [] ahead pc fp value value' all same newest = absurd newest

  -- ---- what lies below it

  pub end_same : Passes AtEnd AtEnd
  end_same kind kept value value' fp ret same end = end

  split_same : (fs gs : List Frame) → Sames (fs ++ gs) → Sames fs × Sames gs
  split_same [] gs all = (tt, all)
  split_same (f ∷ fs) gs all = let rest = split_same fs gs all.1 in ((all.0, rest.0), rest.1)

  put_same : (r n : ℕ) (value value' : ℕ → ℕ) → SameKept value value' → SameKept (put_value r n value) (put_value r n value')
  put_same r n value value' same x kept = ap (λ (m : ℕ). if r == x then n else m) (same x kept)

  pub lower_same : (ts : List Known) (frames : List (List Frame)) (cell : ℕ) → Sames (joined frames) → Passes (Lower p names holds cell ts frames) (Lower p names' holds' cell ts frames)
  lower_same [] [] cell all kind kept value value' fp ret same lower = lower
  lower_same (t ∷ ts) (fs ∷ rest) cell all kind kept value value' fp ret same (handle, forked, behind, over, newest) =
      let parts = split_same fs (joined rest) all in
      let value_put = put_value (reg_number handle) cell value in
      let value_put' = put_value (reg_number handle) cell value' in
      let same_put = put_same (reg_number handle) cell value value' same in (
        handle,
        forked,
        behind,
        record { file = file_same t.thread.registers value_put value_put' over.holds same_put over.file; long = over.long; holds = over.holds },
        newest_same (Lower p names holds t.note.cell ts rest) (Lower p names' holds' t.note.cell ts rest) (lower_same ts rest t.note.cell parts.1) t.thread.activations fs 0 (ret + 4) fp value_put value_put' parts.0 same_put newest,
      )
  lower_same [] (fs ∷ rest) cell all kind kept value value' fp ret same lower = absurd lower
  lower_same (t ∷ ts) [] cell all kind kept value value' fp ret same lower = absurd lower

-- ---- apart from one frame

-- words that agree outside of a frame are the same in frames that don't overlap it
pub apart_same : (holds holds' : ℕ → Bool) (word word' : ℕ → ℕ) (f : Frame) (gs : List Frame) → IsEven f → ((q : ℕ) → (q < place_of f.low) ⊎ (place_of f.base ≤ q) → word q ≡ word' q) → ((q : ℕ) → holds q ≡ true → holds' q ≡ true) → AreApart f gs → AllSame holds holds' word word' gs
apart_same holds holds' word word' f [] even agree more apart = tt
apart_same holds holds' word word' f (g ∷ gs) even agree more (first, even_g, rest) = (
  record { held = λ q inside. more q; words = λ q inside. agree q (elim first [ inl above ↦ inr (lies_above q inside above) | inr under ↦ inl (lies_under q inside under) ]) },
  apart_same holds holds' word word' f gs even agree more rest,
)
  where
    lies_above : (q : ℕ) → Inside g q → f.base ≤ g.low → place_of f.base ≤ q
    lies_above q (from, to) above = omega (arith, from, above)

    lies_under : (q : ℕ) → Inside g q → g.base ≤ f.low → q < place_of f.low
    lies_under q (from, to) under = let low = even.low in let base = even_g.base in omega (arith, to, under, low, base)
