-- A worker that runs is at the entry that polls: the own request word is read, and its thread goes on behind it. polls_there.
use Rattle.st_base.specs.Entry.{entry_at}
use Rattle.st_base.specs.declared.chain.Frame.{Frame}
use Rattle.st_base.specs.declared.entry.Entry.{Entry}
use Rattle.st_base.specs.declared.image.Image.{Image}
use Rattle.st_base.specs.declared.limits.Limits.{Limits}
use Rattle.st_base.specs.declared.reg.Reg.TheVariants as registers
use Rattle.st_base.specs.declared.thread.Activation.{Activation}
use Rattle.st_calls.proofs.Back.{at_back}
use Rattle.st_calls.proofs.Phase.{calm_in}
use Rattle.st_calls.proofs.Turning.{IsCalm, fits_as, fits_to, goes_to, leaves_self}
use Rattle.st_calls.specs.Calling.{RunningAt}
use Rattle.st_chain.specs.Copying.{over}
use Rattle.st_chain.specs.Walk.{FromNewest, is_held, named_by, word_in}
use Rattle.st_fits.specs.Bags.{HasBag, units}
use Rattle.st_fits.specs.Before.{before, after}
use Rattle.st_fits.specs.Fits.{Fits, FitsIn, IsAsked, IsAsking}
use Rattle.st_fits.specs.Laws.{Does, IsReady, MayAsk, Told}
use Rattle.st_fits.specs.Threads.{IsPolling, Polls, ends_of}
use Rattle.st_items.proofs.Addresses.{address_bounds, place_bounds}
use Rattle.st_items.specs.Body.{Context}
use Rattle.st_kept.proofs.Stepping.{no_item_asks}
use Rattle.st_model.specs.Memory.{Data, data_of}
use Rattle.st_model.specs.declared.code.Layout.TheVariants.{Postprocessed}
use Rattle.st_model.specs.declared.program.Program.{Program}
use Rattle.st_moving.specs.Moving.{AtPoll}
use Rattle.st_phases.specs.Automaton.{back, goes_back}
use Rattle.st_phases.specs.Calls as calls
use Rattle.st_phases.specs.Calls.{MayGoOn}
use Rattle.st_phases.specs.declared.automaton.Automaton.{Automaton}
use Rattle.st_phases.specs.declared.phase.Phase.TheVariants as phases
use Rattle.st_phases.specs.declared.phase.Phase.{Phase}
use Rattle.st_phases.specs.declared.turn.Turn.{Turn}
use Rattle.st_run.specs.Meanings.{meaning}
use Rattle.st_serving.specs.Serving as serves
use Rattle.st_settled.proofs.Late.{fits_here}
use Rattle.st_standing.specs.Standing.{under}
use Rattle.st_steal.specs.Words.{IsAsker}
use Rattle.st_step.specs.Frames.{Naming, address_in, value_in}
use Rattle.st_step.specs.Moves.{at_place, register}
use Rattle.st_step.specs.declared.state.State.{State}
use Rattle.st_words.proofs.Asking.{asked_by}
use Rattle.st_words.proofs.Safe.{request_load}
use Rattle.st_words.specs.Encodings.{asking}
use Rattle.st_words.specs.Promises.{Promises}
use Rattle.st_words.specs.Steps.{Number, RequestLoad, Step}
use Rattle.st_words.specs.Views.{view_after}
use Rattle.st_words.specs.declared.view.View.{View}
use Rattle.std.proofs.Common.{◌≡◌, ◌≢◌, inl, inr, ℕ, ◌+◌, Bool, List, [], ◌∷◌, Option, Some, None, refl, sym, ap, ◌∙◌, subst, arith, ◌⊎◌, ◌*◌, ◌^◌, ◌<◌, ◌≤◌}

module _ (p : Program) (d : Data) (limits : Limits) (image : Image) (input : List ℕ) where
  module _ (x : Automaton) (u : View) (ready : IsReady p d limits image input x u) (polling : IsPolling p d x u) (bag : HasBag (units 1) u) where
    abbrev step : Step
    step = RequestLoad x.number

    own_number : x.number < u.workers
    own_number = subst (λ (n : ℕ). n < u.workers) (sym ready.fits.holds.number) ready.fits.holds.below

    may_serve : MayGoOn (λ t. MayAsk p d limits u t) (data_of image.rodata input) x (entry_at x.machine.pc)
    may_serve =
        subst (λ (o : Option Entry). MayGoOn (λ t. MayAsk p d limits u t) (data_of image.rodata input) x o) (sym (ap entry_at polling.at))
        (no_item_asks p d limits u step tt (request_load (meaning p d limits) u x.number own_number))

    -- ---- the place behind the call

    abbrev ra : ℕ
    ra = register x.machine registers.Ra

    place_of_newest : (names : Naming) (holds : ℕ → Bool) (end : Context) (fp : ℕ) (word value : ℕ → ℕ) (acts : List Activation) (fs : List Frame) → FromNewest p names holds end 0 ra fp word value acts fs → ra < 2 ^ 32
    place_of_newest names holds end fp word value [] fs is = absurd is
    place_of_newest names holds end fp word value (a ∷ older) [] is = absurd is
    place_of_newest names holds end fp word value (a ∷ older) (f ∷ fs) (function, is) =
        let bounds = (place_bounds Postprocessed p a.function function a.next ready.fits.is_for.size is.here).1 in
        let at = is.at in
        omega (arith, bounds, at)

    abbrev s : Polls p d (record x { machine = serves.back x.machine }) u []
    s = polling.goes

    place_by : AtPoll p u.names (is_held u.held) (ends_of (serves.back x.machine)) (over u.held (serves.back x.machine)) s.top s.frames s.below s.lower → ra < 2 ^ 32
    place_by (inl (stands, behind)) = place_of_newest (named_by u.names) (is_held u.held) (under p u.names (is_held u.held) s.top.note.cell s.below s.lower) (register x.machine registers.S0) (word_in u.held) (value_in x.machine) s.top.thread.activations s.frames behind
    place_by (inr (none, forked)) =
        let behind = forked.behind in
        let bounds = (address_bounds Postprocessed p behind.f behind.function behind.i behind.item ready.fits.is_for.size behind.has).1 in
        let few = behind.few in
        let at : ra ≡ address_in Postprocessed p behind.f behind.function behind.i + 4 * behind.k = behind.at in
        omega (arith, bounds, few, at)

    back_is : back x.machine ≡ ra
    back_is = let few = place_by s.at.1 in omega (arith, few)

    abbrev m : State
    m = at_place (back x.machine) x.machine

    state_is : m ≡ serves.back x.machine
    state_is = ap (λ (pc : ℕ). at_place pc x.machine) back_is

    polls_back : (φ : Phase) → Polls p d (goes_to m x.threads.notes φ x) u []
    polls_back φ = subst (λ (n : State). Polls p d (goes_to n x.threads.notes φ x) u []) (sym state_is) (record { top = s.top; below = s.below; is = s.is; frames = s.frames; lower = s.lower; at = s.at; plain = s.plain; lies = record { framed = s.lies.framed; used = s.lies.used; away = s.lies.away }; leases = s.leases; apart = s.apart })

    -- ---- who asks

    asker_is : (n asker : ℕ) → IsAsker n (Some asker) → (n ≡ 0) ⊎ ((k : ℕ) × (k < u.workers) × (k ≢ u.number) × (n ≡ asking k)) → IsAsking p d limits asker u
    asker_is n asker (some, is) (inl none) = absurd (some none)
    asker_is n asker (some, is) (inr (k, few, other, found)) =
        let least : u.workers ≤ 16 = ready.fits.holds.few_workers in
        let same : n ≡ asking asker = is (omega (arith, few, found, least)) in
        let one : k ≡ asker = omega (arith, same, found) in
        (subst (λ n. n < u.workers) one few, subst (λ n. n ≢ u.number) one other)

    asked_is : (n : ℕ) (asker : Option ℕ) → IsAsker n asker → (n ≡ 0) ⊎ ((k : ℕ) × (k < u.workers) × (k ≢ u.number) × (n ≡ asking k)) → IsAsked p d limits asker u
    asked_is n None is found = tt
    asked_is n (Some asker) is found = asker_is n asker is found

    heeds : (asker : Option ℕ) (n : ℕ) → IsCalm x.phase → IsAsker n asker → Promises u step (Number n) → FitsIn p d limits image input (goes_to m x.threads.notes (phases.Heeding asker) x) u
    heeds asker n calm is told =
        fits_to p d limits image input x m x.threads.notes (phases.Heeding asker) u u (at_back x.machine (back x.machine) ready.fits.holds.registers ready.fits.holds.values) calm (record { none = refl; most = λ n. refl; taking = refl }) ready.fits.holds.notes (leaves_self u) ready.fits
        ((polls_back (phases.Heeding asker), bag), asked_is n asker is (asked_by u n (subst (λ at. Promises u (RequestLoad at) (Number n)) ready.fits.holds.number told) bag.answering))

    nothing : (n : ℕ) → after p d u step (Number n) ≡ u
    unfolding after view_after
    nothing n = refl

    serves_did : (y : Automaton) (old v : View) (turn : Turn) → Does p d limits image input u old x turn y v phases.Running → calls.Polls (λ s a b. Told p d limits u s a b) old (goes_back x) turn y v
    serves_did y old v turn does = subst (λ (o : Option Entry). calls.Goes (λ s a b. Told p d limits u s a b) old (data_of image.rodata input) x o turn y v) (ap entry_at polling.at) does

    did : (y : Automaton) (old v : View) (turn : Turn) → IsCalm x.phase → calls.Polls (λ s a b. Told p d limits u s a b) old (goes_back x) turn y v → Fits p d limits image input y v
    did y old v turn calm (found, asker, told, asks, is, ran) = fits_here p d limits image input y v (fits_as p d limits image input y (goes_to m x.threads.notes (phases.Heeding asker) x) v u is (told.is ∙ nothing found) (heeds asker found calm asks told.promised))

  pub polls_there : RunningAt p d limits image input (λ x u. IsPolling p d x u)
  polls_there = record {
    may = λ x u phase ready polling bag. may_serve x u ready polling bag;
    keeps = λ x y old v turn phase ready polling bag made does.
        let u = before p d x old in
        did x u ready polling bag y old v turn (calm_in p d limits image input x u ready phases.Running phase (record { none = refl; most = λ n. refl; taking = refl })) (serves_did x u ready polling bag y old v turn does);
  }
