-- The frames that are found are those of the walk. Read newest_frames (frames_from gives the frames of FromNewest) and newest_held (all their words are held).
use Rattle.std.proofs.Common.{◌≡◌, ⊎_elim, ℕ, ◌+◌, ◌-◌, Bool, true, List, [], ◌∷◌, Option, Some, refl, sym, ap, ◌∙◌, subst, arith, slice_get}
use Rattle.std.specs.List.{Contains}
use Rattle.st_base.specs.declared.chain.Frame.{Frame}
use Rattle.st_base.specs.declared.thread.Activation.{Activation}
use Rattle.st_base.specs.declared.thread.ActivationKind.{ActivationKind}
use Rattle.st_model.specs.declared.program.Program.{Program}
use Rattle.st_model.specs.declared.program.ProgramFunction.{ProgramFunction}
use Rattle.st_model.specs.Effect.{File}
use Rattle.st_words.specs.Steps.{Inside}
use Rattle.st_words.proofs.Lists.{contains_none, contains_case}
use Rattle.st_step.specs.Frames.{Naming}
use Rattle.st_step.specs.Runs.{caller_word}
use Rattle.st_items.specs.Body.{Context}
use Rattle.st_chain.specs.Walk.{LiesAt, Below, FromNewest}
use Rattle.st_cargo.specs.Cargo.{frame_below, frames_from}

-- ---- one frame

frame_is : (here : Option ProgramFunction) (function : ProgramFunction) (fp : ℕ) (f : Frame) → here ≡ Some function → fp ≡ f.base → fp ≡ f.low + function.frame_bytes → frame_below here fp ≡ f
frame_is here function fp f is base whole =
    let low : fp - function.frame_bytes ≡ f.low = omega (arith, whole) in
    ap (λ (o : Option ProgramFunction). frame_below o fp) is ∙ (λ i. record { low = low i; base = base i })

frame_held : (holds : ℕ → Bool) (function : ProgramFunction) (fp : ℕ) (f : Frame) (q : ℕ) → LiesAt holds function fp f → fp ≡ f.low + function.frame_bytes → Inside f q → holds q ≡ true
frame_held holds function fp f q lies whole (from, to) =
    let base = lies.base in
    let end : f.base ≡ f.low + function.frame_bytes = omega (arith, base, whole) in
    lies.place.holds q (omega (arith, from)) (omega (arith, to, end))

-- ---- a thread

module _ (p : Program) (names : Naming) (holds : ℕ → Bool) (end : Context) (word : ℕ → ℕ) where
  below_frames : (older : List Activation) (fs : List Frame) (kind : ActivationKind) (kept : File) (value : ℕ → ℕ) (fp ret : ℕ) → Below p names holds end older fs kind kept word value fp ret → frames_from p word fp older ≡ fs
  below_frames [] [] kind kept value fp ret below = refl
  below_frames (a ∷ older) (f ∷ fs) kind kept value fp ret (function, called, lies, (caller, below)) =
      ap (λ (g : Frame). g ∷ frames_from p word (word (caller_word fp)) older) (frame_is (slice_get p.functions a.function) function fp f caller.here lies.base caller.base) ∙ ap (λ (gs : List Frame). f ∷ gs) (below_frames older fs _ _ _ _ _ below)
  below_frames [] (f ∷ fs) kind kept value fp ret below = absurd below
  below_frames (a ∷ older) [] kind kept value fp ret below = absurd below

  below_held : (older : List Activation) (fs : List Frame) (kind : ActivationKind) (kept : File) (value : ℕ → ℕ) (fp ret : ℕ) (g : Frame) (q : ℕ) → Below p names holds end older fs kind kept word value fp ret → Contains fs g → Inside g q → holds q ≡ true
  below_held [] [] kind kept value fp ret g q below in' inside = absurd (contains_none g in')
  below_held (a ∷ older) (f ∷ fs) kind kept value fp ret g q (function, called, lies, (caller, below)) in' inside = ⊎_elim
      (λ (e : f ≡ g). frame_held holds function fp f q lies caller.base (subst (λ (h : Frame). Inside h q) (sym e) inside))
      (λ (later : Contains fs g). below_held older fs _ _ _ _ _ g q below later inside) (contains_case g f fs in')
  below_held [] (f ∷ fs) kind kept value fp ret g q below in' inside = absurd below
  below_held (a ∷ older) [] kind kept value fp ret g q below in' inside = absurd below

  pub newest_frames : (acts : List Activation) (fs : List Frame) (ahead pc fp : ℕ) (value : ℕ → ℕ) → FromNewest p names holds end ahead pc fp word value acts fs → frames_from p word fp acts ≡ fs
  newest_frames (a ∷ older) (f ∷ fs) ahead pc fp value (function, is) =
      ap (λ (g : Frame). g ∷ frames_from p word (word (caller_word fp)) older) (frame_is (slice_get p.functions a.function) function fp f is.here is.lies.base is.framed.base) ∙ ap (λ (gs : List Frame). f ∷ gs) (below_frames older fs _ _ _ _ _ is.framed.below)
  newest_frames [] fs ahead pc fp value newest = absurd newest
  newest_frames (a ∷ older) [] ahead pc fp value newest = absurd newest

  pub newest_held : (acts : List Activation) (fs : List Frame) (ahead pc fp : ℕ) (value : ℕ → ℕ) (g : Frame) (q : ℕ) → FromNewest p names holds end ahead pc fp word value acts fs → Contains fs g → Inside g q → holds q ≡ true
  newest_held (a ∷ older) (f ∷ fs) ahead pc fp value g q (function, is) in' inside = ⊎_elim
      (λ (e : f ≡ g). frame_held holds function fp f q is.lies is.framed.base (subst (λ (h : Frame). Inside h q) (sym e) inside))
      (λ (later : Contains fs g). below_held older fs _ _ _ _ _ g q is.framed.below later inside) (contains_case g f fs in')
  newest_held [] fs ahead pc fp value g q newest in' inside = absurd newest
  newest_held (a ∷ older) [] ahead pc fp value g q newest in' inside = absurd newest
