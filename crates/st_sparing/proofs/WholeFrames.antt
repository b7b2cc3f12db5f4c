-- The frames of a worker's threads are frames of functions, so each has some words on a stack (frames_whole).
use Rattle.std.proofs.Common.{◌≡◌, ◌⊎◌, inl, inr, ℕ, zero, suc, ◌+◌, Bool, List, [], ◌∷◌, ◌++◌, sym, subst, arith}
use Rattle.std.specs.List.{Contains}
use Rattle.st_base.specs.declared.chain.Frame.{Frame}
use Rattle.st_base.specs.declared.reg.Reg.TheVariants as registers
use Rattle.st_base.specs.declared.thread.Activation.{Activation}
use Rattle.st_base.specs.declared.thread.ActivationKind.{ActivationKind}
use Rattle.st_base.specs.declared.thread.Held.{Held}
use Rattle.st_model.specs.declared.program.Program.{Program}
use Rattle.st_model.specs.declared.program.ProgramFunction.{ProgramFunction}
use Rattle.st_model.specs.Accepted.{IsAccepted, HasFrame}
use Rattle.st_model.specs.Effect.{File}
use Rattle.st_words.specs.declared.view.Known.{Known}
use Rattle.st_step.specs.Frames.{Naming, value_in}
use Rattle.st_step.specs.Moves.{register}
use Rattle.st_step.specs.Runs.{Situation}
use Rattle.st_items.specs.Body.{Context, Ends}
use Rattle.st_items.proofs.ItemCode.{formed_of}
use Rattle.st_chain.specs.Seen.{IsWhole, joined}
use Rattle.st_chain.specs.Threads.{Lower}
use Rattle.st_chain.specs.Walk.{LiesAt, Below, FromNewest, named_by}
use Rattle.st_standing.specs.Standing.{under, Before, Behind, StandsOn}

abbrev AllWhole : List Frame → Type 0
AllWhole [] = Prim.Unit
AllWhole (f ∷ fs) = IsWhole f × AllWhole fs

join_whole : (xs ys : List Frame) → AllWhole xs → AllWhole ys → AllWhole (xs ++ ys)
join_whole [] ys one other = other
join_whole (x ∷ xs) ys (first, one) other = (first, join_whole xs ys one other)

-- the first frame or one of the others
pub first_or_later : (f g : Frame) (fs : List Frame) → Contains (f ∷ fs) g → (g ≡ f) ⊎ Contains fs g
first_or_later f g fs (zero, inside, is) = inl (sym is)
first_or_later f g fs (suc k, inside, is) = inr (k, omega arith, is)

whole_at : (fs : List Frame) (f : Frame) → AllWhole fs → Contains fs f → IsWhole f
whole_at [] f all (k, inside, is) = absurd (omega arith)
whole_at (g ∷ gs) f (first, all) there = elim (first_or_later g f gs there) [ inl same ↦ subst IsWhole (sym same) first | inr later ↦ whole_at gs f all later ]

-- a frame of a function
lies_whole : (holds : ℕ → Bool) (function : ProgramFunction) (fp : ℕ) (f : Frame) → HasFrame function → LiesAt holds function fp f → fp ≡ f.low + function.frame_bytes → IsWhole f
lies_whole holds function fp f frame lies size =
    let base = lies.base in
    let least = frame.least in
    let multiple = frame.multiple in
    let even = lies.place.multiple in
    record { above = lies.place.above; even = record { low = even; base = omega arith }; some = omega arith }

-- it is said somewhere
abbrev Somewhere : Context → Type 0
Somewhere end = (kind : ActivationKind) × (kept : File) × (word : ℕ → ℕ) × (value : ℕ → ℕ) × (fp : ℕ) × (ret : ℕ) × end kind kept word value fp ret

module _ (p : Program) (names : Naming) (holds : ℕ → Bool) (accepted : IsAccepted p) where
  below_whole : (end : Context) (older : List Activation) (fs : List Frame) (kind : ActivationKind) (kept : File) (word value : ℕ → ℕ) (fp ret : ℕ) → Below p names holds end older fs kind kept word value fp ret → AllWhole fs × Somewhere end
  below_whole end [] [] kind kept word value fp ret below = (tt, (kind, kept, word, value, fp, ret, below))
  below_whole end (a ∷ older) (f ∷ fs) kind kept word value fp ret (function, called, lies, (caller, below)) =
      let (all, last) = below_whole end older fs a.kind a.kept word _ _ _ below in
      ((lies_whole holds function fp f (formed_of p a.function function accepted caller.here).frame lies caller.base, all), last)
  below_whole end [] (f ∷ fs) kind kept word value fp ret below = absurd below
  below_whole end (a ∷ older) [] kind kept word value fp ret below = absurd below

  newest_whole : (end : Context) (ahead pc fp : ℕ) (word value : ℕ → ℕ) (acts : List Activation) (fs : List Frame) → FromNewest p names holds end ahead pc fp word value acts fs → AllWhole fs × Somewhere end
  newest_whole end ahead pc fp word value (a ∷ older) (f ∷ fs) (function, is) =
      let (all, last) = below_whole end older fs a.kind a.kept word _ _ _ is.framed.below in
      ((lies_whole holds function fp f (formed_of p a.function function accepted is.here).frame is.lies is.framed.base, all), last)
  newest_whole end ahead pc fp word value [] fs newest = absurd newest
  newest_whole end ahead pc fp word value (a ∷ older) [] newest = absurd newest

  lower_whole : (cell : ℕ) (ts : List Known) (frames : List (List Frame)) (kind : ActivationKind) (kept : File) (word value : ℕ → ℕ) (fp ret : ℕ) → Lower p names holds cell ts frames kind kept word value fp ret → AllWhole (joined frames)
  lower_whole cell [] [] kind kept word value fp ret lower = tt
  lower_whole cell (t ∷ ts) (fs ∷ rest) kind kept word value fp ret (handle, forked, behind, over, newest) =
      let (all, (kind', kept', word', value', fp', ret', lower)) = newest_whole (Lower p names holds t.note.cell ts rest) 0 (ret + 4) fp word _ t.thread.activations fs newest in
      join_whole fs (joined rest) all (lower_whole t.note.cell ts rest kind' kept' word' value' fp' ret' lower)
  lower_whole cell [] (fs ∷ rest) kind kept word value fp ret lower = absurd lower
  lower_whole cell (t ∷ ts) [] kind kept word value fp ret lower = absurd lower

module _ (p : Program) (names : List (Held × ℕ)) (holds : ℕ → Bool) (accepted : IsAccepted p) (ends : Ends) (t : Situation) (k : Known) (fs : List Frame) (ks : List Known) (rest : List (List Frame)) where
  before_whole : (acts : List Activation) → Before p names holds (under p names holds k.note.cell ks rest) t acts fs → AllWhole fs × Somewhere (under p names holds k.note.cell ks rest)
  before_whole [] before = absurd before
  before_whole (a ∷ older) (function, before) = below_whole p (named_by names) holds accepted (under p names holds k.note.cell ks rest) older fs a.kind a.kept t.word _ _ _ before.below

  stands_whole : Before p names holds (under p names holds k.note.cell ks rest) t k.thread.activations fs ⊎ Behind p names holds (under p names holds k.note.cell ks rest) 0 t k.thread.activations fs → AllWhole fs × Somewhere (under p names holds k.note.cell ks rest)
  stands_whole (inl before) = before_whole k.thread.activations before
  stands_whole (inr behind) = newest_whole p (named_by names) holds accepted (under p names holds k.note.cell ks rest) 0 t.state.pc (register t.state registers.S0) t.word (value_in t.state) k.thread.activations fs behind

  pub frames_whole : StandsOn p names holds ends t k fs ks rest → (f : Frame) → Contains (joined (fs ∷ rest)) f → IsWhole f
  frames_whole on f there =
      let (all, (kind, kept, word, value, fp, ret, lower)) = stands_whole on.stands in
      whole_at (joined (fs ∷ rest)) f (join_whole fs (joined rest) all (lower_whole p (named_by names) holds accepted k.note.cell ks rest kind kept word value fp ret lower)) there
