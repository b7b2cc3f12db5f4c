-- A thread is cut from what lies below it: the return word of its oldest frame gets the entry st_end, and no other word changes. It is read as before,
-- and nothing lies below it (newest_cut). That its first activation is one, is shown by what lay below (ShowsFirst, lower_first).
use Rattle.std.proofs.Common.{◌≡◌, ◌≢◌, ◌⊎◌, inl, inr, ℕ, ◌+◌, ◌*◌, ◌/◌, ◌%◌, ◌^◌, ◌≤◌, ◌<◌, ◌==◌, Bool, List, [], ◌∷◌, length, refl, ap, sym, ◌∙◌, subst, arith, if◌then◌else◌}
use Rattle.st_base.specs.declared.chain.Frame.{Frame}
use Rattle.st_base.specs.declared.reg.Reg.{Reg}
use Rattle.st_base.specs.Reg.{reg_number}
use Rattle.st_base.specs.declared.thread.Activation.{Activation}
use Rattle.st_base.specs.declared.thread.ActivationKind.{ActivationKind}
use Rattle.st_model.specs.declared.code.Layout.TheVariants.{Postprocessed}
use Rattle.st_model.specs.declared.program.Program.{Program}
use Rattle.st_model.specs.declared.program.ProgramFunction.{ProgramFunction}
use Rattle.st_model.specs.Accepted.{IsAccepted, HasFrame}
use Rattle.st_model.specs.Effect.{File, IsFirst}
use Rattle.st_model.specs.Layout.{saved_of}
use Rattle.st_words.specs.declared.view.Known.{Known}
use Rattle.st_words.specs.Steps.{place_of}
use Rattle.st_step.specs.Runs.{return_word, caller_word, saved_word}
use Rattle.st_step.specs.Frames.{Naming, IsHeldAs, HasSlots, IsCaller, ComesBack, with_saved_values}
use Rattle.st_step.proofs.SavedList.{saved_fit}
use Rattle.st_items.specs.Body.{Context}
use Rattle.st_items.proofs.ItemCode.{formed_of}
use Rattle.st_stack.specs.Exported.{Apart}
use Rattle.st_chain.specs.Walk.{LiesAt, Below, FromNewest}
use Rattle.st_chain.specs.Threads.{AtEnd, Lower}
use Rattle.st_chain.specs.Seen.{SameKept, IsWhole, IsOldest, IsCut}

-- what lies below shows that the thread's first activation is its first
abbrev pub ShowsFirst : Context → Type 0
ShowsFirst end = (kind : ActivationKind) (kept : File) (word value : ℕ → ℕ) (fp ret : ℕ) → end kind kept word value fp ret → IsFirst kind

pub lower_first : (p : Program) (names : Naming) (holds : ℕ → Bool) (cell : ℕ) (ts : List Known) (frames : List (List Frame)) → ShowsFirst (Lower p names holds cell ts frames)
lower_first p names holds cell [] [] kind kept word value fp ret lower = lower.0
lower_first p names holds cell (t ∷ ts) (fs ∷ rest) kind kept word value fp ret (handle, forked, behind, over, newest) = subst IsFirst (sym forked) tt
lower_first p names holds cell [] (fs ∷ rest) kind kept word value fp ret lower = absurd lower
lower_first p names holds cell (t ∷ ts) [] kind kept word value fp ret lower = absurd lower

module _ (p : Program) (names : Naming) (holds : ℕ → Bool) (word word' : ℕ → ℕ) (g : Frame) (accepted : IsAccepted p) (whole : IsWhole g) (is_cut : IsCut word word' g) where
  -- ---- one frame, which is that one or apart from it

  abbrev IsNear : Frame → Type 0
  IsNear f = (f ≡ g) ⊎ Apart g f

  near_of : (f : Frame) (fs : List Frame) → IsOldest g f fs → IsNear f
  near_of f [] last = inl last
  near_of f (h ∷ hs) last = inr last.0

  -- but for its return word a frame is as before
  others : (f : Frame) (q : ℕ) → IsWhole f → IsNear f → place_of f.low ≤ q → q < place_of f.base → q ≢ return_word f.base → word q ≡ word' q
  others f q is near from to other = is_cut.others q (differs near other)
    where
      differs : IsNear f → q ≢ return_word f.base → q ≢ return_word g.base
      differs (inl same) not = λ e. not (e ∙ ap (λ (h : Frame). return_word h.base) (sym same))
      differs (inr (inl under)) not = λ e. let a = whole.above in let b = whole.some in let c = is.even.low in let k = whole.even.base in absurd (omega arith)
      differs (inr (inr over)) not = λ e. let a = whole.above in let b = whole.some in let c = is.even.base in let k = whole.even.low in let l = is.above in absurd (omega arith)

  -- the return words of frames that are apart are apart
  other_return : (f : Frame) → IsWhole f → Apart g f → word (return_word f.base) ≡ word' (return_word f.base)
  other_return f is apart = is_cut.others (return_word f.base) (differs apart)
    where
      differs : Apart g f → return_word f.base ≢ return_word g.base
      differs (inl under) = λ e. let a = whole.above in let b = whole.some in let c = is.even.low in let k = is.some in let l = is.even.base in let n = whole.even.base in absurd (omega arith)
      differs (inr over) = λ e. let a = whole.above in let b = whole.some in let c = is.even.base in let k = whole.even.low in let l = is.above in let n = whole.even.base in absurd (omega arith)

  saved_cut : (f : Frame) (b k : ℕ) (rs : List Reg) (value value' : ℕ → ℕ) (x : ℕ) → IsWhole f → IsNear f → b ≡ f.base → f.low + 16 + 8 * (k + length rs) ≤ f.base → value x ≡ value' x → with_saved_values word b k rs value x ≡ with_saved_values word' b k rs value' x
  saved_cut f b k [] value value' x is near base room same = same
  saved_cut f b k (r ∷ rs) value value' x is near base room same =
      let above = is.above in
      let from : place_of f.low ≤ saved_word b k = omega arith in
      let to : saved_word b k < place_of f.base = omega arith in
      let other : saved_word b k ≢ return_word f.base = omega arith in
      ap (λ (n : ℕ). if reg_number r == x then n else with_saved_values word b (k + 1) rs value x) (others f (saved_word b k) is near from to other)
      ∙ ap (λ (n : ℕ). if reg_number r == x then word' (saved_word b k) else n) (saved_cut f b (k + 1) rs value value' x is near base (omega arith) same)

  whole_of : (function : ProgramFunction) (fp : ℕ) (f : Frame) → HasFrame function → LiesAt holds function fp f → fp ≡ f.low + function.frame_bytes → IsWhole f
  whole_of function fp f frame lies size =
      let base = lies.base in
      let least = frame.least in
      let multiple = frame.multiple in
      let even = lies.place.multiple in
      record { above = lies.place.above; even = record { low = even; base = omega arith }; some = omega arith }

  slots_cut : (function : ProgramFunction) (a : Activation) (f : Frame) → HasFrame function → f.base ≡ f.low + function.frame_bytes → IsWhole f → IsNear f → HasSlots names function a word f.low → HasSlots names function a word' f.low
  slots_cut function a f frame size is near slots =
      let room = frame.room in
      let above = is.above in
      let even = is.even.low in
      record {
        bytes_long = slots.bytes_long;
        handles_long = slots.handles_long;
        bytes = λ k v least most there.
            let from : place_of f.low ≤ place_of (f.low + k) = omega arith in
            let to : place_of (f.low + k) < place_of f.base = omega arith in
            let other : place_of (f.low + k) ≢ return_word f.base = omega arith in
            ap (λ (n : ℕ). n / 2 ^ (8 * ((f.low + k) % 8)) % 256) (sym (others f (place_of (f.low + k)) is near from to other)) ∙ slots.bytes k v least most there;
        handles = λ k held most there.
            let from : place_of f.low ≤ place_of f.low + k = omega arith in
            let to : place_of f.low + k < place_of f.base = omega arith in
            let other : place_of f.low + k ≢ return_word f.base = omega arith in
            subst (λ (n : ℕ). IsHeldAs names held n) (others f (place_of f.low + k) is near from to other) (slots.handles k held most there);
      }

  -- what is read of a frame beside its return word
  record IsReadSame (function : ProgramFunction) (a : Activation) (value value' : ℕ → ℕ) (fp : ℕ) (f : Frame) : Type 0 where
    pub is_whole : IsWhole f
    pub slots : HasSlots names function a word' f.low
    pub caller : word (caller_word fp) ≡ word' (caller_word fp)
    pub saved : SameKept (with_saved_values word fp 0 (saved_of function) value) (with_saved_values word' fp 0 (saved_of function) value')

  read_same : (function : ProgramFunction) (a : Activation) (value value' : ℕ → ℕ) (fp : ℕ) (f : Frame) → HasFrame function → LiesAt holds function fp f → fp ≡ f.low + function.frame_bytes → IsNear f → SameKept value value' → HasSlots names function a word f.low → IsReadSame function a value value' fp f
  read_same function a value value' fp f frame lies size near same slots =
      let is = whole_of function fp f frame lies size in
      let base = lies.base in
      let fit = saved_fit function frame in
      let above = is.above in
      let some = is.some in
      let even = is.even.base in
      record {
        is_whole = is;
        slots = slots_cut function a f frame (omega arith) is near slots;
        caller = others f (caller_word fp) is near (omega arith) (omega arith) (omega arith);
        saved = λ x kept. saved_cut f fp 0 (saved_of function) value value' x is near base (omega arith) (same x kept);
      }

  -- ---- all of them

  module _ (end : Context) (first : ShowsFirst end) where
    -- behind the frame f with base b, whose return word leads to what is below it
    below_cut : (older : List Activation) (fs : List Frame) (f : Frame) (b : ℕ) (kind : ActivationKind) (kept : File) (value value' : ℕ → ℕ) (fp : ℕ) → IsWhole f → b ≡ f.base → IsOldest g f fs → SameKept value value' → Below p names holds end older fs kind kept word value fp (word (return_word b)) → Below p names holds AtEnd older fs kind kept word' value' fp (word' (return_word b))
    below_cut [] [] f b kind kept value value' fp is base last same below =
        (first kind kept word value fp (word (return_word b)) below, ap (λ (n : ℕ). word' (return_word n)) (base ∙ ap (λ (h : Frame). h.base) last) ∙ is_cut.cut)
    below_cut (a ∷ older) (h ∷ hs) f b kind kept value value' fp is base last same (function, called, lies, (caller, below)) =
        let frame : HasFrame function = (formed_of p a.function function accepted caller.here).frame in
        let read = read_same function a value value' fp h frame lies caller.base (near_of h hs last.1) same caller.slots in
        let ret_same : word (return_word b) ≡ word' (return_word b) = subst (λ (n : ℕ). word (return_word n) ≡ word' (return_word n)) (sym base) (other_return f is last.0) in
        let caller' : IsCaller Postprocessed p names word' value' h.low fp (word' (return_word b)) kind kept a function = record {
          here = caller.here;
          begun = caller.begun;
          base = caller.base;
          back = subst (λ (n : ℕ). ComesBack Postprocessed p kind a function n) ret_same caller.back;
          file = λ x held there. subst (λ (n : ℕ). IsHeldAs names held n) (same x (caller.holds x held there)) (caller.file x held there);
          long = caller.long;
          holds = caller.holds;
          slots = read.slots;
        } in (
          function,
          called,
          lies,
          (
            caller',
            subst (λ (n : ℕ). Below p names holds AtEnd older hs a.kind a.kept word' (with_saved_values word' fp 0 (saved_of function) value') n (word' (return_word fp))) read.caller
                (below_cut older hs h fp a.kind a.kept (with_saved_values word fp 0 (saved_of function) value) (with_saved_values word' fp 0 (saved_of function) value') (word (caller_word fp)) read.is_whole lies.base last.1 read.saved below),
          ),
        )
    below_cut [] (h ∷ hs) f b kind kept value value' fp is base last same below = absurd below
    below_cut (a ∷ older) [] f b kind kept value value' fp is base last same below = absurd below

    -- the thread is read as before, and nothing lies below it
    pub newest_cut : (ahead pc fp : ℕ) (value : ℕ → ℕ) (acts : List Activation) (f : Frame) (fs : List Frame) → IsOldest g f fs → FromNewest p names holds end ahead pc fp word value acts (f ∷ fs) → FromNewest p names holds AtEnd ahead pc fp word' value acts (f ∷ fs)
    newest_cut ahead pc fp value (a ∷ older) f fs last (function, is) =
        let frame : HasFrame function = (formed_of p a.function function accepted is.here).frame in
        let read = read_same function a value value fp f frame is.lies is.framed.base (near_of f fs last) (λ x kept. refl) is.framed.slots in (
          function,
          record {
            here = is.here;
            begun = is.begun;
            at = is.at;
            lies = is.lies;
            framed = record {
              base = is.framed.base;
              slots = read.slots;
              below = subst (λ (n : ℕ). Below p names holds AtEnd older fs a.kind a.kept word' (with_saved_values word' fp 0 (saved_of function) value) n (word' (return_word fp))) read.caller
                  (below_cut older fs f fp a.kind a.kept (with_saved_values word fp 0 (saved_of function) value) (with_saved_values word' fp 0 (saved_of function) value) (word (caller_word fp)) read.is_whole is.lies.base last read.saved is.framed.below);
            };
          },
        )
    newest_cut ahead pc fp value [] f fs last newest = absurd newest
