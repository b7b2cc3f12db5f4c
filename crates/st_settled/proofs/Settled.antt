-- A view that a worker fits is brought forward by nothing: settled. Read StaysSo (what has to be so of its phase) and by_phase; stands_still and rests_still are of threads alone.
use Rattle.std.proofs.Common.{List, None, Option, Some, [], ap, false, if◌then◌else◌, inl, inr, not, refl, subst, suc, sym, true, ℕ, ⊎_elim, ◌++◌, ◌-◌, ◌∙◌, ◌∷◌, ◌≡◌, ◌⊎◌}
use Rattle.std.proofs.lemmas.Bool.{cond-false}
use Rattle.st_base.specs.declared.chain.Frame.{Frame}
use Rattle.st_base.specs.declared.chain.Note.{Note}
use Rattle.st_base.specs.declared.chain.Waiting.TheVariants as waits
use Rattle.st_base.specs.declared.chain.Waiting.{Waiting}
use Rattle.st_base.specs.declared.image.Image.{Image}
use Rattle.st_base.specs.declared.limits.LimitKind.TheVariants as kinds
use Rattle.st_base.specs.declared.limits.LimitKind.{LimitKind}
use Rattle.st_base.specs.declared.limits.Limits.{Limits}
use Rattle.st_words.specs.Steps.{Done, Mark, return_place}
use Rattle.st_words.specs.declared.view.Carried.{Carried}
use Rattle.st_words.specs.declared.view.Known.{Known}
use Rattle.st_words.specs.declared.view.View.{View}
use Rattle.st_model.specs.Memory.{Data}
use Rattle.st_model.specs.Quiet.{IsEvent}
use Rattle.st_model.specs.declared.program.Program.{Program}
use Rattle.st_made.specs.Items.{WaitsAt}
use Rattle.st_ahead.specs.Naming.{exported, resumed}
use Rattle.st_step.specs.Runs.{Situation}
use Rattle.st_step.specs.declared.state.State.{State}
use Rattle.st_items.specs.Body.{Ends}
use Rattle.st_stack.specs.Exported.{Exports}
use Rattle.st_chain.specs.Copying.{over}
use Rattle.st_chain.specs.Taking.{Suspends, Taking, threads_of}
use Rattle.st_chain.specs.declared.walk.Walk.{Walk}
use Rattle.st_serving.specs.Serving.{back}
use Rattle.st_phases.specs.declared.automaton.Automaton.{Automaton}
use Rattle.st_phases.specs.declared.phase.Leaving.{Leaving}
use Rattle.st_phases.specs.declared.phase.Phase.TheVariants as phases
use Rattle.st_phases.specs.declared.phase.Phase.{Phase}
use Rattle.st_fits.specs.Before.{after, ahead, before, given_where_none, has_come, is_at_entry, is_held_up, is_running, is_trap, left_where_none, taken_out, with_child, with_items, come}
use Rattle.st_fits.specs.Fits.{ByPhase, FitsIn, Meets, leaving_units}
use Rattle.st_fits.specs.Threads.{Arrives, AtRest, IsAtEnd, IsAtItem, Leaves, Polls, Rests, Runs, ends_of, Stands}
use Rattle.st_settled.proofs.Forward.{AreStill, IsStill, exported_none, pushed_none, still_items}

module _ (p : Program) (d : Data) where
  -- ---- threads that stand

  pub stands_still : (At : Known → List Frame → List Known → List (List Frame) → Type 0) (x : Automaton) (u : View) (ends : Ends) (others : List Frame) → ((t : Known) (fs : List Frame) (ks : List Known) (rest : List (List Frame)) → At t fs ks rest → IsStill p d t) → Stands At x u ends others → AreStill p d u.threads
  stands_still At x u ends others still stands = subst (λ (ts : List Known). AreStill p d ts) (sym stands.is) (still stands.top stands.frames stands.below stands.lower stands.at)

  polls_still : (x : Automaton) (u : View) (others : List Frame) → Polls p d x u others → AreStill p d u.threads
  polls_still x u others polls = stands_still (AtRest p d x u) x u (ends_of x.machine) others (λ t fs ks rest at. inl at.0.not_yet) polls

  pub rests_still : (x : Automaton) (u : View) (others : List Frame) → Rests p d x u others → AreStill p d u.threads
  rests_still x u others (inl none) = subst (λ (ts : List Known). AreStill p d ts) (sym none.is) tt
  rests_still x u others (inr polls) = polls_still x u others polls

  arrives_still : (x : Automaton) (u : View) (ends : Ends) (s : Situation) → Arrives p d x u ends s → AreStill p d u.threads
  arrives_still x u ends s (inl comes) = stands_still (IsAtItem p d u ends s) x u ends [] (λ t fs ks rest at. inl at.0.not_yet) comes.0
  arrives_still x u ends s (inr (value, lasts)) = stands_still (IsAtEnd p d u ends s value) x u ends [] (λ t fs ks rest at. inr (inl (value, at.2))) lasts

  mark_threads : (u : View) (q : ℕ) → (after p d u (Mark q) Done).threads ≡ u.threads
  unfolding after
  mark_threads u q = refl

  -- a thread on its way through an item has none that is its own and begun, but at an entry
  runs_still : (x : Automaton) (u : View) → Runs p d x u → AreStill p d u.threads ⊎ (is_at_entry x.machine.pc ≡ true)
  runs_still x u (inl on_its_way) = inl (arrives_still x u on_its_way.ends on_its_way.last on_its_way.arrives)
  runs_still x u (inr (inl to_mark)) =
      let q = return_place to_mark.frame in
      let v = after p d u (Mark q) Done in
      inl (subst (λ (ts : List Known). AreStill p d ts) (mark_threads u q) (arrives_still x v to_mark.ends (over v.held to_mark.last) to_mark.arrives))
  runs_still x u (inr (inr (inl polling))) = inl (polls_still (record x { machine = back x.machine }) u [] polling.goes)
  runs_still x u (inr (inr (inr calling))) = inr (ap (λ (pc : ℕ). is_at_entry pc) calling.called.at.1.call.at ∙ calling.other)

  -- ---- a thread that is taken out

  alone : (t : Taking) (wait : Waiting) (notes : List Note) (walk : Option Walk) (m : State) (s : Exports) (n : ℕ) → Suspends t wait notes walk m s n → t.above ≡ []
  alone t wait notes None m s n suspends = suspends.top.alone
  alone t wait notes (Some walk) m s n suspends = suspends.top.alone

  waits_still : (u : View) (t : Known) (wait : Waiting) → WaitsAt p d u t wait → IsEvent t.thread.standing ⊎ (not (is_trap wait) ≡ true)
  waits_still u t waits.Start at = inr refl
  waits_still u t waits.Ready at = inr refl
  waits_still u t (waits.Touch cell) at = inr refl
  waits_still u t (waits.Join cell least) at = inr refl
  waits_still u t waits.Trapped at = inl at

  leaves_still : (leaving : Leaving) (x : Automaton) (u : View) → Leaves p d leaving x u → AreStill p d u.threads ⊎ (not (is_trap leaving.wait) ≡ true)
  leaves_still leaving x u leaves =
      let t = leaves.t in
      let top : threads_of t ≡ t.taken ∷ t.below = ap (λ (us : List Known). us ++ t.taken ∷ t.below) (alone t leaving.wait x.threads.notes x.threads.open x.machine x.stack (suc leaves.n) leaves.suspends) in
      ⊎_elim (λ (event : IsEvent t.taken.thread.standing). inl (subst (λ (ts : List Known). AreStill p d ts) (sym top ∙ leaves.of.threads) (inr (inr event)))) (λ (held : not (is_trap leaving.wait) ≡ true). inr held) (waits_still u t.taken leaving.wait leaves.waits)

  -- ---- by the phase

  -- the phase brings the view forward by nothing
  pub record StaysSo (phase : Phase) (x : Automaton) (u : View) : Type 0 where
    pub come : come phase u ≡ u
    pub child : with_child p d phase u ≡ u
    pub items : with_items p d (is_held_up x phase) (x.items - u.items) u ≡ u
    pub taken : taken_out phase u ≡ u

  -- chains of which none goes on
  none_comes : (u : View) (xs : List Carried) → u.chains ≡ xs → has_come xs ≡ false → (if has_come u.chains then resumed u else u) ≡ u
  none_comes u xs are none = cond-false (has_come u.chains) (resumed u) u (ap (λ (ys : List Carried). has_come ys) are ∙ none)

  by_parts : (x : Automaton) (u : View) → StaysSo x.phase x u → exported x.stack.exported u ≡ u → before p d x u ≡ u
  unfolding before
  by_parts x u so frames =
      ap (λ (v : View). exported x.stack.exported (taken_out x.phase (ahead p d x (with_child p d x.phase v)))) so.come
      ∙ (ap (λ (v : View). exported x.stack.exported (taken_out x.phase (ahead p d x v))) so.child ∙ (ap (λ (v : View). exported x.stack.exported (taken_out x.phase v)) so.items ∙ (ap (λ (v : View). exported x.stack.exported v) so.taken ∙ frames)))

  module _ (limits : Limits) where
    meets_none : (kind : LimitKind) (x : Automaton) (u : View) → Meets p d limits kind x u → u.chains ≡ []
    meets_none (kinds.Stack worker frame) x u meets = meets.2.chains
    meets_none (kinds.Step worker) x u meets = meets.2.chains
    meets_none (kinds.Cell cells) x u meets = meets.1.2.chains
    meets_none kind x u meets = absurd meets

    leaving_none : (ts : List Known) → (leaving_units p d limits ts).chains ≡ []
    leaving_none [] = refl
    leaving_none (t ∷ ts) = refl

    by_phase : (phase : Phase) (x : Automaton) (u : View) → x.items ≡ u.items → ByPhase p d limits phase x u → StaysSo phase x u
    by_phase phases.Running x u same (runs, bag) = record { come = none_comes u [] bag.chains refl; child = refl; items = still_items p d (is_at_entry x.machine.pc) x.items u same (runs_still x u runs); taken = refl }
    by_phase (phases.Stopping kind) x u same (some, meets) = record { come = none_comes u [] (meets_none kind x u meets) refl; child = refl; items = still_items p d true x.items u same (inr refl); taken = refl }
    by_phase (phases.Parting leaving) x u same (leaves, of_wait, bag, more) = record { come = none_comes u [] bag.chains refl; child = refl; items = still_items p d (not (is_trap leaving.wait)) x.items u same (leaves_still leaving x u leaves); taken = refl }
    by_phase (phases.Suspending leaving) x u same (leaves, of_wait, bag) = record { come = none_comes u [] (bag.chains ∙ leaving_none u.threads) refl; child = refl; items = still_items p d (not (is_trap leaving.wait)) x.items u same (leaves_still leaving x u leaves); taken = refl }
    by_phase (phases.Marking chain leaving) x u same left = record {
      come = none_comes u (left.carried ∷ []) left.bag.chains (ap (λ (n : Option ℕ). is_running n) left.carries.stands);
      child = refl;
      items = still_items p d (not (is_trap leaving.wait)) x.items u same (inl (rests_still x u left.frames left.rests));
      taken = ap (λ (xs : List Carried). left_where_none leaving.wait xs u) left.bag.chains;
    }
    by_phase phases.Polling x u same (polls, bag) = record { come = refl; child = pushed_none p d u bag.child; items = still_items p d false x.items u same (inl (polls_still x u [] polls)); taken = refl }
    by_phase (phases.Mailing asker chain) x u same to_go = record { come = refl; child = refl; items = still_items p d true x.items u same (inr refl); taken = ap (λ (xs : List Carried). given_where_none xs u) to_go.bag.chains }
    by_phase _ x u same by = record { come = refl; child = refl; items = still_items p d true x.items u same (inr refl); taken = refl }

pub settled : (p : Program) (d : Data) (limits : Limits) (image : Image) (input : List ℕ) (x : Automaton) (u : View) → FitsIn p d limits image input x u → before p d x u ≡ u
settled p d limits image input x u fits = by_parts p d x u (by_phase p d limits x.phase x u fits.holds.items fits.by) (exported_none x.stack.exported u fits.holds.exported)
