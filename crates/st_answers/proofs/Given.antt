-- The thread that is given away, while its frames are walked. Read some_left (a step is left) and given_laid (all words of its frames are held, and no return word of them is 0).
use Rattle.std.proofs.Common.{◌≢◌, inl, inr, ℕ, ◌≤◌, List, [], ◌∷◌, ◌++◌, Option, Some, None, arith}
use Rattle.std.specs.List.{Contains}
use Rattle.st_base.specs.declared.chain.Frame.{Frame}
use Rattle.st_base.specs.declared.chain.Note.{Note}
use Rattle.st_base.specs.declared.thread.Activation.{Activation}
use Rattle.st_words.specs.declared.view.Known.{Known}
use Rattle.st_words.specs.Steps.{return_place}
use Rattle.st_model.specs.declared.code.Layout.TheVariants.{Postprocessed}
use Rattle.st_model.specs.declared.program.Program.{Program}
use Rattle.st_model.specs.Accepted.{IsAccepted}
use Rattle.st_step.specs.declared.state.State.{State}
use Rattle.st_stack.specs.Exported.{Exports}
use Rattle.st_items.specs.Body.{Context}
use Rattle.st_items.specs.Code.{IsSized}
use Rattle.st_chain.specs.declared.walk.Stage.{Stage}
use Rattle.st_chain.specs.declared.walk.Stage.TheVariants as stages
use Rattle.st_chain.specs.declared.walk.Walk.{Walk}
use Rattle.st_chain.specs.Chains.{saved_value}
use Rattle.st_chain.specs.Seen.{joined}
use Rattle.st_chain.specs.Taking.{Taking, TopStands, Gives, threads_of, frames_of, beneath}
use Rattle.st_chain.specs.Threads.{AtEnd}
use Rattle.st_chain.specs.Walk.{is_held, named_by, word_in}
use Rattle.st_chain.specs.Walking.{IsAt, steps_of}
use Rattle.st_kept.proofs.Laid.{IsLaid, newest_laid}
use Rattle.st_answers.proofs.Alive.{top_laid, alone_returns}
use Rattle.st_answers.proofs.Going.{joined_middle}

-- ---- a step is left

some_steps : (p : Program) (acts : List Activation) → 1 ≤ steps_of p acts
some_steps p [] = omega arith
some_steps p (a ∷ older) = let more = some_steps p older in omega (arith, more)

module _ (t : Taking) (walk : Walk) (end : Context) (acts : List Activation) (fs : List Frame) (n : ℕ) where
  some_at : (stage : Stage) → IsAt t.p t.d t.names t.held end stage walk.machine acts fs n → 1 ≤ n
  some_at stages.Frame at = let some = some_steps t.p acts in let total = at.3 in omega (arith, some, total)
  some_at (stages.Copy left) at = let some = some_steps t.p acts in let total = at.1.1.4 in omega (arith, some, total)

pub some_left : (t : Taking) (notes : List Note) (walk : Walk) (m : State) (s : Exports) (n : ℕ) → Gives t notes (Some walk) m s n → 1 ≤ n
some_left t notes walk m s n (inl above) =
    let some = some_at t walk (beneath t above.u.note.cell (above.between ++ t.taken ∷ []) (above.between_frames ++ t.frames ∷ [])) above.acts above.fs above.steps walk.stage above.at in
    let total = above.total in
    omega (arith, some, total)
some_left t notes walk m s n (inr bottom) = some_at t walk AtEnd bottom.acts bottom.fs n walk.stage bottom.at

-- ---- its frames

all_laid : (p : Program) (accepted : IsAccepted p) (size : IsSized Postprocessed p) (t : Taking) (m : State) (us : List Known) (fss : List (List Frame)) → TopStands p t.names t.held m us fss → (g : Frame) → Contains (joined fss) g → IsLaid (is_held t.held) g × (word_in t.held (return_place g) ≢ 0)
all_laid p accepted size t m [] fss stands g there = absurd stands
all_laid p accepted size t m (u ∷ us) [] stands g there = absurd stands
all_laid p accepted size t m (u ∷ us) (fs ∷ rest) stands g there = top_laid p accepted t.names t.held m u fs us rest size stands g there

pub given_laid : (t : Taking) (accepted : IsAccepted t.p) (size : IsSized Postprocessed t.p) (notes : List Note) (o : Option Walk) (m : State) (s : Exports) (n : ℕ) → Gives t notes o m s n → (g : Frame) → Contains t.frames g → IsLaid (is_held t.held) g × (word_in t.held (return_place g) ≢ 0)
given_laid t accepted size notes None m s n can g there = all_laid t.p accepted size t m (threads_of t) (frames_of t) can.stands g (joined_middle t.above_frames t.below_frames t.frames g there)
given_laid t accepted size notes (Some walk) m s n (inl above) g there = all_laid t.p accepted size t m (threads_of t) (frames_of t) above.stands g (joined_middle t.above_frames t.below_frames t.frames g there)
given_laid t accepted size notes (Some walk) m s n (inr bottom) g there =
    let (ahead, words, waiting, keeps, newest) = bottom.chain_stands in (
      newest_laid t.p (named_by t.names) (is_held t.held) (word_in t.held) accepted AtEnd t.taken.thread.activations t.frames ahead bottom.chain.pc bottom.chain.fp (saved_value bottom.chain.saved) g newest there,
      alone_returns t.p (named_by t.names) (is_held t.held) (word_in t.held) size t.taken.thread.activations t.frames ahead bottom.chain.pc bottom.chain.fp (saved_value bottom.chain.saved) g newest there,
    )
