-- Where the frames of a thread lie, and that all their words are held: newest_laid (of one thread), poll_laid (of all threads of a worker that polls) and cargo_laid (of a chain). Two frames of which
-- all words are held by different ones are apart: apart_laid.
use Rattle.std.proofs.Common.{◌≡◌, inl, inr, ⊎_elim, ℕ, ◌+◌, Bool, true, List, [], ◌∷◌, Option, Some, subst, arith, slice_get}
use Rattle.std.specs.List.{Contains}
use Rattle.std.proofs.lemmas.Bool.{cases_lt}
use Rattle.std.proofs.lemmas.List.Elements.{Contains-append_cases}
use Rattle.st_base.specs.declared.chain.Chain.{Chain}
use Rattle.st_base.specs.declared.chain.Frame.{Frame}
use Rattle.st_base.specs.declared.thread.Activation.{Activation}
use Rattle.st_base.specs.declared.thread.ActivationKind.{ActivationKind}
use Rattle.st_base.specs.declared.thread.Held.{Held}
use Rattle.st_model.specs.declared.program.Program.{Program}
use Rattle.st_model.specs.declared.program.ProgramFunction.{ProgramFunction}
use Rattle.st_model.specs.Accepted.{IsAccepted, HasFrame}
use Rattle.st_model.specs.Effect.{File}
use Rattle.st_model.specs.Memory.{Data}
use Rattle.st_words.specs.declared.view.Cargo.{Cargo}
use Rattle.st_words.specs.declared.view.Known.{Known}
use Rattle.st_words.specs.Steps.{Inside, place_of, return_place}
use Rattle.st_words.proofs.Lists.{contains_none, contains_case}
use Rattle.st_step.specs.declared.state.State.{State}
use Rattle.st_step.specs.Frames.{Naming, value_in}
use Rattle.st_step.specs.Moves.{register}
use Rattle.st_base.specs.declared.reg.Reg.TheVariants as registers
use Rattle.st_stack.specs.Exported.{Apart}
use Rattle.st_items.specs.Body.{Context, Ends}
use Rattle.st_items.proofs.ItemCode.{formed_of}
use Rattle.st_chain.specs.Walk.{LiesAt, Below, FromNewest, named_by, is_held, word_in}
use Rattle.st_chain.specs.Threads.{AtEnd, Lower}
use Rattle.st_chain.specs.Chains.{Walks}
use Rattle.st_chain.specs.Copying.{over}
use Rattle.st_chain.specs.Seen.{IsWhole, joined}
use Rattle.st_standing.specs.Standing.{under}
use Rattle.st_moving.specs.Moving.{AtPoll}

-- a frame of some words, which are all held
pub record IsLaid (holds : ℕ → Bool) (f : Frame) : Type 0 where
  pub whole : IsWhole f
  pub held : (q : ℕ) → Inside f q → holds q ≡ true

-- ---- one frame

frame_laid : (holds : ℕ → Bool) (function : ProgramFunction) (fp : ℕ) (f : Frame) → HasFrame function → LiesAt holds function fp f → fp ≡ f.low + function.frame_bytes → IsLaid holds f
frame_laid holds function fp f frame lies size =
    let base = lies.base in
    let least = frame.least in
    let multiple = frame.multiple in
    let even = lies.place.multiple in
    let above = lies.place.above in
    let end : f.base ≡ f.low + function.frame_bytes = omega (arith, base, size) in
    record {
      whole = record { above = above; even = record { low = even; base = omega (arith, end, even, multiple) }; some = omega (arith, end, least) };
      held = λ q (from, to). lies.place.holds q (omega (arith, from)) (omega (arith, to, end));
    }

-- its return word is one of its words
pub return_inside : (f : Frame) → IsWhole f → Inside f (return_place f)
return_inside f whole = let above = whole.above in let some = whole.some in (omega (arith, above, some), omega (arith, above, some))

-- two that share no word
pub apart_laid : (f g : Frame) → IsWhole f → IsWhole g → ((q : ℕ) → Inside f q → Inside g q → ⊥) → Apart f g
apart_laid f g a b none =
    let above = a.above in
    let some = a.some in
    let low = a.even.low in
    let base = a.even.base in
    let above' = b.above in
    let some' = b.some in
    let low' = b.even.low in
    let base' = b.even.base in
    elim (cases_lt g.low f.base) [
      | inr under ↦ inl under
      | inl less ↦ elim (cases_lt f.low g.base) [
        | inr under ↦ inr under
        | inl more ↦ elim (cases_lt f.low g.low) [
          | inl first ↦ absurd (none (place_of g.low) (omega (arith, first), omega (arith, less, above', low', base)) (omega arith, omega (arith, above', some')))
          | inr second ↦ absurd (none (place_of f.low) (omega arith, omega (arith, above, some)) (omega (arith, second), omega (arith, more, above, low, base')))
        ]
      ]
    ]

-- ---- a thread

module _ (p : Program) (names : Naming) (holds : ℕ → Bool) (word : ℕ → ℕ) (accepted : IsAccepted p) where
  function_frame : (f : ℕ) (function : ProgramFunction) → slice_get p.functions f ≡ Some function → HasFrame function
  function_frame f function here = (formed_of p f function accepted here).frame

  -- what stands behind its first activation
  record EndStands (end : Context) : Type 0 where
    kind : ActivationKind
    kept : File
    value : ℕ → ℕ
    fp : ℕ
    ret : ℕ
    stands : end kind kept word value fp ret

  module _ (end : Context) where
    below_end : (older : List Activation) (fs : List Frame) (kind : ActivationKind) (kept : File) (value : ℕ → ℕ) (fp ret : ℕ) → Below p names holds end older fs kind kept word value fp ret → EndStands end
    below_end [] [] kind kept value fp ret below = record { kind = kind; kept = kept; value = value; fp = fp; ret = ret; stands = below }
    below_end (a ∷ older) (f ∷ fs) kind kept value fp ret (function, called, lies, (caller, below)) = below_end older fs _ _ _ _ _ below
    below_end [] (f ∷ fs) kind kept value fp ret below = absurd below
    below_end (a ∷ older) [] kind kept value fp ret below = absurd below

    newest_end : (acts : List Activation) (fs : List Frame) (ahead pc fp : ℕ) (value : ℕ → ℕ) → FromNewest p names holds end ahead pc fp word value acts fs → EndStands end
    newest_end (a ∷ older) (f ∷ fs) ahead pc fp value (function, is) = below_end older fs _ _ _ _ _ is.framed.below
    newest_end [] fs ahead pc fp value newest = absurd newest
    newest_end (a ∷ older) [] ahead pc fp value newest = absurd newest

    below_laid : (older : List Activation) (fs : List Frame) (kind : ActivationKind) (kept : File) (value : ℕ → ℕ) (fp ret : ℕ) (g : Frame) → Below p names holds end older fs kind kept word value fp ret → Contains fs g → IsLaid holds g
    below_laid [] [] kind kept value fp ret g below in' = absurd (contains_none g in')
    below_laid (a ∷ older) (f ∷ fs) kind kept value fp ret g (function, called, lies, (caller, below)) in' =
        ⊎_elim (λ (e : f ≡ g). subst (IsLaid holds) e (frame_laid holds function fp f (function_frame a.function function caller.here) lies caller.base)) (λ (later : Contains fs g). below_laid older fs _ _ _ _ _ g below later) (contains_case g f fs in')
    below_laid [] (f ∷ fs) kind kept value fp ret g below in' = absurd below
    below_laid (a ∷ older) [] kind kept value fp ret g below in' = absurd below

    pub newest_laid : (acts : List Activation) (fs : List Frame) (ahead pc fp : ℕ) (value : ℕ → ℕ) (g : Frame) → FromNewest p names holds end ahead pc fp word value acts fs → Contains fs g → IsLaid holds g
    newest_laid (a ∷ older) (f ∷ fs) ahead pc fp value g (function, is) in' =
        ⊎_elim (λ (e : f ≡ g). subst (IsLaid holds) e (frame_laid holds function fp f (function_frame a.function function is.here) is.lies is.framed.base)) (λ (later : Contains fs g). below_laid older fs _ _ _ _ _ g is.framed.below later) (contains_case g f fs in')
    newest_laid [] fs ahead pc fp value g newest in' = absurd newest
    newest_laid (a ∷ older) [] ahead pc fp value g newest in' = absurd newest

  -- ---- the threads below one another

  pub lower_laid : (cell : ℕ) (ts : List Known) (rest : List (List Frame)) (kind : ActivationKind) (kept : File) (value : ℕ → ℕ) (fp ret : ℕ) (g : Frame) → Lower p names holds cell ts rest kind kept word value fp ret → Contains (joined rest) g → IsLaid holds g
  lower_laid cell [] [] kind kept value fp ret g lower in' = absurd (contains_none g in')
  lower_laid cell (t ∷ ts) (fs ∷ rest) kind kept value fp ret g (handle, forked, behind, over, newest) in' =
      ⊎_elim (λ (here : Contains fs g). newest_laid (Lower p names holds t.note.cell ts rest) t.thread.activations fs _ _ _ _ g newest here)
      (λ (later : Contains (joined rest) g). let end = newest_end (Lower p names holds t.note.cell ts rest) t.thread.activations fs _ _ _ _ newest in lower_laid t.note.cell ts rest end.kind end.kept end.value end.fp end.ret g end.stands later) (Contains-append_cases fs (joined rest) g in')
  lower_laid cell [] (fs ∷ rest) kind kept value fp ret g lower in' = absurd lower
  lower_laid cell (t ∷ ts) [] kind kept value fp ret g lower in' = absurd lower

-- ---- a worker that polls

pub poll_laid : (p : Program) (accepted : IsAccepted p) (names : List (Held × ℕ)) (held : List (Option ℕ)) (ends : Ends) (m : State) (t : Known) (fs : List Frame) (ts : List Known) (rest : List (List Frame)) → AtPoll p names (is_held held) ends (over held m) t fs ts rest → (g : Frame) → Contains (joined (fs ∷ rest)) g → IsLaid (is_held held) g
poll_laid p accepted names held ends m t fs ts rest (inl (on, behind)) g in' =
    let under_it = under p names (is_held held) t.note.cell ts rest in
    ⊎_elim (λ (here : Contains fs g). newest_laid p (named_by names) (is_held held) (word_in held) accepted under_it t.thread.activations fs 0 m.pc (register m registers.S0) (value_in m) g behind here)
    (λ (later : Contains (joined rest) g).
    let end = newest_end p (named_by names) (is_held held) (word_in held) accepted under_it t.thread.activations fs 0 m.pc (register m registers.S0) (value_in m) behind in
    lower_laid p (named_by names) (is_held held) (word_in held) accepted t.note.cell ts rest end.kind end.kept end.value end.fp end.ret g end.stands later) (Contains-append_cases fs (joined rest) g in')
poll_laid p accepted names held ends m t fs ts rest (inr (none, forked)) g in' =
    ⊎_elim (λ (here : Contains fs g). absurd (contains_none g (subst (λ (gs : List Frame). Contains gs g) none here)))
    (λ (later : Contains (joined rest) g). lower_laid p (named_by names) (is_held held) (word_in held) accepted t.note.cell ts rest _ _ _ _ _ g forked.below later) (Contains-append_cases fs (joined rest) g in')

-- ---- a chain

pub cargo_laid : (p : Program) (d : Data) (accepted : IsAccepted p) (chain : Chain) (cargo : Cargo) → Walks p d chain cargo → (g : Frame) → Contains cargo.frames g → IsLaid (is_held cargo.words) g
cargo_laid p d accepted chain cargo (inl unbegun, begun) g in' = absurd (contains_none g (subst (λ (gs : List Frame). Contains gs g) unbegun.none in'))
cargo_laid p d accepted chain cargo (inr ((ahead, words, waiting, keeps, newest), can), begun) g in' =
    newest_laid p (named_by cargo.names) (is_held cargo.words) (word_in cargo.words) accepted AtEnd cargo.carried.known.thread.activations cargo.frames ahead chain.pc chain.fp _ g newest in'
