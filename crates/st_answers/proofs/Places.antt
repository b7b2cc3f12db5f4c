-- Where a worker that polls is: its pc is within the code (poll_place).
use Rattle.std.proofs.Common.{inl, inr, ℕ, ◌+◌, ◌^◌, ◌<◌, Bool, List, [], ◌∷◌, Option, arith}
use Rattle.st_base.specs.declared.chain.Frame.{Frame}
use Rattle.st_base.specs.declared.thread.Activation.{Activation}
use Rattle.st_base.specs.declared.thread.Held.{Held}
use Rattle.st_words.specs.declared.view.Known.{Known}
use Rattle.st_words.specs.declared.view.View.{View}
use Rattle.st_model.specs.declared.code.Layout.TheVariants.{Postprocessed}
use Rattle.st_model.specs.declared.program.Program.{Program}
use Rattle.st_model.specs.Memory.{Data}
use Rattle.st_step.specs.declared.state.State.{State}
use Rattle.st_step.specs.Frames.{Naming}
use Rattle.st_items.specs.Body.{Context, Ends}
use Rattle.st_items.specs.Code.{IsSized}
use Rattle.st_items.proofs.Addresses.{place_bounds, next_address}
use Rattle.st_chain.specs.Walk.{FromNewest, is_held}
use Rattle.st_chain.specs.Copying.{over}
use Rattle.st_moving.specs.Moving.{AtPoll}
use Rattle.st_phases.specs.declared.automaton.Automaton.{Automaton}
use Rattle.st_fits.specs.Threads.{Rests}

newest_place : (p : Program) (names : Naming) (holds : ℕ → Bool) (end : Context) (pc fp : ℕ) (word value : ℕ → ℕ) (acts : List Activation) (fs : List Frame) → IsSized Postprocessed p → FromNewest p names holds end 0 pc fp word value acts fs → pc + 4 < 2 ^ 32
newest_place p names holds end pc fp word value (a ∷ older) (f ∷ fs) size (function, is) =
    let bounds = place_bounds Postprocessed p a.function function a.next size is.here in
    let at = is.at in
    let high = bounds.1 in
    omega (arith, at, high)
newest_place p names holds end pc fp word value [] fs size newest = absurd newest
newest_place p names holds end pc fp word value (a ∷ older) [] size newest = absurd newest

pub poll_place : (p : Program) (names : List (Held × ℕ)) (held : List (Option ℕ)) (ends : Ends) (m : State) (k : Known) (fs : List Frame) (ks : List Known) (rest : List (List Frame)) → IsSized Postprocessed p → AtPoll p names (is_held held) ends (over held m) k fs ks rest → m.pc + 4 < 2 ^ 32
poll_place p names held ends m k fs ks rest size (inl (on, newest)) = newest_place p _ _ _ m.pc _ _ _ k.thread.activations fs size newest
poll_place p names held ends m k fs ks rest size (inr (none, forked)) =
    let b = forked.behind in
    let next = next_address Postprocessed p b.f b.function b.i b.item b.has in
    let bounds = place_bounds Postprocessed p b.f b.function (b.i + 1) size b.has.named in
    let high = bounds.1 in
    let at = b.at in
    let few = b.few in
    omega (arith, next, high, at, few)

pub rest_place : (p : Program) (d : Data) (x : Automaton) (u : View) (others : List Frame) → IsSized Postprocessed p → Rests p d x u others → x.machine.pc + 4 < 2 ^ 32
rest_place p d x u others size (inl none) = none.place
rest_place p d x u others size (inr polls) = poll_place p u.names u.held _ x.machine polls.top polls.frames polls.below polls.lower size polls.at.1
