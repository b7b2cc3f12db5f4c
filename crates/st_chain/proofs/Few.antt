-- How many steps taking a thread off its worker takes: at most 16 a frame, and one more for what lies below each thread (takes_few).
use Rattle.std.proofs.Common.{◌≡◌, inl, inr, ℕ, ◌+◌, ◌*◌, ◌≤◌, ◌==◌, Bool, true, false, List, [], ◌∷◌, length, Option, Some, None, slice_get, ap, arith, if◌then◌else◌}
use Rattle.std.specs.Int.{bit_at}
use Rattle.std.proofs.lemmas.List.{length-append}
use Rattle.st_base.specs.declared.chain.Frame.{Frame}
use Rattle.st_base.specs.declared.reg.Reg.{Reg}
use Rattle.st_base.specs.declared.thread.Activation.{Activation}
use Rattle.st_base.specs.declared.thread.ActivationKind.{ActivationKind}
use Rattle.st_base.specs.declared.thread.Held.{Held}
use Rattle.st_model.specs.declared.program.Program.{Program}
use Rattle.st_model.specs.declared.program.ProgramFunction.{ProgramFunction}
use Rattle.st_model.specs.Effect.{File}
use Rattle.st_model.specs.Layout.{saved_of, saved_among, saveable}
use Rattle.st_words.specs.declared.view.Known.{Known}
use Rattle.st_step.specs.declared.state.State.{State}
use Rattle.st_step.specs.Frames.{Naming}
use Rattle.st_items.specs.Body.{Context}
use Rattle.st_chain.specs.Walk.{word_in, is_held, named_by, Below, FromNewest}
use Rattle.st_chain.specs.Threads.{Lower}
use Rattle.st_chain.specs.Seen.{joined}
use Rattle.st_chain.specs.Walking.{copy_steps, steps_of}
use Rattle.st_chain.specs.Taking.{TopStands, threads_steps, all_steps, threads_of, frames_of, TakesFew}

-- ---- a copy

among_few : (bits k : ℕ) (rs : List Reg) → length (saved_among bits k rs) ≤ length rs
among_few bits k [] = omega arith
among_few bits k (r ∷ rs) =
    let rest = among_few bits (k + 1) rs in
    (elim (bit_at bits k == 1) as (λ b. length (if b then r ∷ saved_among bits (k + 1) rs else saved_among bits (k + 1) rs) ≤ length (r ∷ rs)) [
      | true ↦ omega (arith, rest)
      | false ↦ omega (arith, rest)
    ])

copy_few : (o : Option ProgramFunction) → copy_steps o ≤ 16
copy_few None = omega arith
copy_few (Some function) =
    let few : length (saved_of function) ≤ 11 = among_few function.saved 0 saveable in
    omega (arith, few)

-- ---- threads

-- what lies below a thread stands somewhere, and so many steps are in it
record Under (end : Context) (word : ℕ → ℕ) (steps frames : ℕ) : Type 0 where
  pub kind : ActivationKind
  pub kept : File
  pub value : ℕ → ℕ
  pub fp : ℕ
  pub ret : ℕ
  pub stands : end kind kept word value fp ret
  pub few : steps ≤ 16 * frames + 1

module _ (p : Program) (names : Naming) (holds : ℕ → Bool) (word : ℕ → ℕ) where
  below_few : (end : Context) (older : List Activation) (fs : List Frame) (kind : ActivationKind) (kept : File) (value : ℕ → ℕ) (fp ret : ℕ) → Below p names holds end older fs kind kept word value fp ret → Under end word (steps_of p older) (length fs)
  below_few end [] [] kind kept value fp ret stands = record { kind = kind; kept = kept; value = value; fp = fp; ret = ret; stands = stands; few = omega arith }
  below_few end (a ∷ older) (f ∷ fs) kind kept value fp ret (function, called, lies, calling) =
      let rest = below_few end older fs _ _ _ _ _ calling.1 in
      let one = copy_few (slice_get p.functions a.function) in
      let few = rest.few in
      record { kind = rest.kind; kept = rest.kept; value = rest.value; fp = rest.fp; ret = rest.ret; stands = rest.stands; few = omega (arith, one, few) }
  below_few end [] (f ∷ fs) kind kept value fp ret gone = absurd gone
  below_few end (a ∷ older) [] kind kept value fp ret gone = absurd gone

  newest_few : (end : Context) (ahead pc fp : ℕ) (value : ℕ → ℕ) (acts : List Activation) (fs : List Frame) → FromNewest p names holds end ahead pc fp word value acts fs → Under end word (steps_of p acts) (length fs)
  newest_few end ahead pc fp value (a ∷ older) (f ∷ fs) (function, act) =
      let rest = below_few end older fs _ _ _ _ _ act.framed.below in
      let one = copy_few (slice_get p.functions a.function) in
      let few = rest.few in
      record { kind = rest.kind; kept = rest.kept; value = rest.value; fp = rest.fp; ret = rest.ret; stands = rest.stands; few = omega (arith, one, few) }
  newest_few end ahead pc fp value [] fs gone = absurd gone
  newest_few end ahead pc fp value (a ∷ older) [] gone = absurd gone

  some_frame : (end : Context) (ahead pc fp : ℕ) (value : ℕ → ℕ) (acts : List Activation) (fs : List Frame) → FromNewest p names holds end ahead pc fp word value acts fs → 1 ≤ length fs
  some_frame end ahead pc fp value (a ∷ older) (f ∷ fs) stands = omega arith
  some_frame end ahead pc fp value [] fs gone = absurd gone
  some_frame end ahead pc fp value (a ∷ older) [] gone = absurd gone

  lower_few : (cell : ℕ) (us : List Known) (rest : List (List Frame)) (kind : ActivationKind) (kept : File) (value : ℕ → ℕ) (fp ret : ℕ) → Lower p names holds cell us rest kind kept word value fp ret → threads_steps p us ≤ 17 * length (joined rest)
  lower_few cell [] [] kind kept value fp ret stands = omega arith
  lower_few cell (u ∷ us) (fs ∷ rest) kind kept value fp ret (handle, forked, has, holds_over, newest) =
      let under = newest_few (Lower p names holds u.note.cell us rest) _ _ _ _ u.thread.activations fs newest in
      let some = some_frame (Lower p names holds u.note.cell us rest) _ _ _ _ u.thread.activations fs newest in
      let few = under.few in
      let others = lower_few u.note.cell us rest under.kind under.kept under.value under.fp under.ret under.stands in
      let long = length-append fs (joined rest) in
      omega (arith, some, few, others, long)
  lower_few cell [] (fs ∷ rest) kind kept value fp ret gone = absurd gone
  lower_few cell (u ∷ us) [] kind kept value fp ret gone = absurd gone

top_few : (p : Program) (names : List (Held × ℕ)) (held : List (Option ℕ)) (m : State) (us : List Known) (rest : List (List Frame)) → TopStands p names held m us rest → all_steps p us rest ≤ 17 * length (joined rest) + 1
top_few p names held m [] rest gone = absurd gone
top_few p names held m (u ∷ us) [] gone = absurd gone
top_few p names held m (u ∷ us) ([] ∷ rest) (inl newest) = let some = some_frame p (named_by names) (is_held held) (word_in held) (Lower p (named_by names) (is_held held) u.note.cell us rest) _ _ _ _ u.thread.activations [] newest in omega (arith, some)
top_few p names held m (u ∷ us) ([] ∷ rest) (inr (none, (kept, lower))) = let others = lower_few p (named_by names) (is_held held) (word_in held) u.note.cell us rest _ _ _ _ _ lower in omega (arith, others)
top_few p names held m (u ∷ us) ((f ∷ fs) ∷ rest) (inl newest) =
    let under = newest_few p (named_by names) (is_held held) (word_in held) (Lower p (named_by names) (is_held held) u.note.cell us rest) _ _ _ _ u.thread.activations (f ∷ fs) newest in
    let few = under.few in
    let others = lower_few p (named_by names) (is_held held) (word_in held) u.note.cell us rest under.kind under.kept under.value under.fp under.ret under.stands in
    let long = length-append fs (joined rest) in
    omega (arith, few, others, long)
top_few p names held m (u ∷ us) ((f ∷ fs) ∷ rest) (inr (none, (kept, lower))) = let long : length (f ∷ fs) ≡ 0 = ap length none in omega (arith, long)

-- ---- takings

pub takes_few : TakesFew
takes_few = (
  (λ t notes m s wait n can.
      let stands = can.stands in
      let under = newest_few t.p (named_by t.names) (is_held t.held) (word_in t.held) _ _ _ _ _ t.taken.thread.activations t.frames stands.4 in
      let few = under.few in
      let steps = can.steps in
      omega (arith, few, steps)),
  (λ t notes m s n can.
      let few = top_few t.p t.names t.held m (threads_of t) (frames_of t) can.stands in
      let steps = can.steps in
      omega (arith, few, steps)),
)
