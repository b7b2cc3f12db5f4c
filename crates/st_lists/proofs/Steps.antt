-- Each kind of step keeps the lists, and the numbers go as Goes says: step_kept.
use Rattle.std.proofs.Common.{ℕ, ◌<◌, Bool, true, false, Option, refl, sym, ap, ◌∙◌, subst, ◌==◌, ◌&&◌}
use Rattle.st_base.specs.declared.chain.Chain.{Chain}
use Rattle.st_base.specs.declared.chain.Waiting.{Waiting}
use Rattle.st_words.specs.declared.view.CellWord.{CellWord}
use Rattle.st_words.specs.declared.view.CellWord.TheVariants.{Owner, State, Value, Next, Standing, Trap}
use Rattle.st_words.specs.declared.view.Slot.TheVariants.{Cell}
use Rattle.st_words.specs.declared.view.Cargo.{Cargo}
use Rattle.st_words.specs.declared.view.View.{View}
use Rattle.st_words.specs.Encodings.{ready, running}
use Rattle.st_words.specs.Steps.{Step, CellLoad, CellStore, CellChange, StopSet, RootTake, RequestChange, SlotTake, SlotPut, Answer, Done, Number, Took, Can}
use Rattle.st_words.specs.Views.{Progress, with_progress, view_after, in_hand}
use Rattle.st_words.proofs.Lists.{both_true, same_true}
use Rattle.st_world.specs.World.{World, seen, with_word, waking, woken, Finds, world_after}
use Rattle.st_spots.specs.Listing.{Spot, Lists}
use Rattle.st_lists.specs.Going.{Goes}
use Rattle.st_lists.specs.Laws.{Tends, IsKnown, Having, Staying, Kept}
use Rattle.st_lists.proofs.Slots as slots
use Rattle.st_lists.proofs.States as states
use Rattle.st_lists.proofs.ViewsAfter.{IsQuiet, same_after}
use Rattle.st_lists.proofs.Wholes.{quiet_view}
use Rattle.st_lists.proofs.Words as words

abbrev After : (x : World) → Lists x → ℕ → Step → Answer → View → Type 0
After x l w s a v = Having (world_after x w s a v) (λ spot wait. Goes l.spot l.wait spot wait w (x.view w) s a)

-- ---- steps that change nothing that is read

quiet_stored : (x : World) (l : Lists x) (w : ℕ) (v u : View) (c : ℕ) (word : CellWord) (n : ℕ) → IsQuiet (CellStore c word n) → Staying x l (seen w v x) → Staying x l (seen w v (woken u c word n (with_word c word n x)))
quiet_stored x l w v u c Owner n q s = absurd q
quiet_stored x l w v u c State n q s = absurd q
quiet_stored x l w v u c Value n q s = s
quiet_stored x l w v u c Next n q s = absurd q
quiet_stored x l w v u c Standing n q s = absurd q
quiet_stored x l w v u c Trap n q s = s

quiet_world : (x : World) (l : Lists x) (w : ℕ) (v : View) (s : Step) (a : Answer) → IsQuiet s → Staying x l (seen w v x) → After x l w s a v
quiet_world x l w v (CellLoad c Next) a q s = absurd q
quiet_world x l w v (CellStore c Owner n) a q s = absurd q
quiet_world x l w v (CellStore c State n) a q s = absurd q
quiet_world x l w v (CellStore c Next n) a q s = absurd q
quiet_world x l w v (CellStore c Standing n) a q s = absurd q
quiet_world x l w v (CellChange c old new) a q s = absurd q
quiet_world x l w v RootTake a q s = absurd q
quiet_world x l w v (SlotTake (Cell c)) a q s = absurd q
quiet_world x l w v (SlotPut (Cell c) chain cargo) a q s = absurd q
quiet_world x l w v (StopSet code) (Number n) q s = s
quiet_world x l w v (RequestChange at old new) (Number n) q s = s
quiet_world x l w v t a q s = s

quiet_kept : (x : World) (l : Lists x) (w : ℕ) (s : Step) (a : Answer) (pr : Progress) → IsQuiet s → After x l w s a (with_progress pr (view_after (x.view w) s a))
quiet_kept x l w s a pr q =
    let v : View = with_progress pr (view_after (x.view w) s a) in
    quiet_world x l w v s a q (quiet_view x l w v (same_after (x.view w) s a q))

-- ---- the others, with the view after them

module _ (x : World) (l : Lists x) (w : ℕ) (less : w < x.workers) (pr : Progress) where
  abbrev Leaves : Step → Answer → Type 0
  Leaves s a = After x l w s a (with_progress pr (view_after (x.view w) s a))

  next_loaded : (c n : ℕ) → Finds x w (CellLoad c Next) (Number n) → Leaves (CellLoad c Next) (Number n)
  unfolding view_after
  next_loaded c n found = words.next_read x l w less pr c n found

  next_stored : (c n : ℕ) → Tends (x.view w) (CellStore c Next n) → Leaves (CellStore c Next n) Done
  unfolding view_after
  next_stored c n tends = words.next_stored x l w less pr c n tends

  owner_stored : (c n : ℕ) → IsKnown x l w (CellStore c Owner n) → Leaves (CellStore c Owner n) Done
  unfolding view_after
  owner_stored c n known = words.named x l w less pr c n known

  -- what goes with a chain isn't read
  woken_so : (P : (ℕ → Spot) → (ℕ → Waiting) → Type 0) (b : Bool) (c n : ℕ) (v : View) → Having (seen w v x) P → Having (seen w v (waking b c (with_word c Standing n x))) P
  woken_so P true c n v h = h
  woken_so P false c n v h = h

  standing_stored : (c n : ℕ) → Tends (x.view w) (CellStore c Standing n) → Leaves (CellStore c Standing n) Done
  unfolding view_after
  standing_stored c n tends =
      let b : Bool = (n == ready) && in_hand c (x.view w).hand in
      woken_so (λ spot wait. Goes l.spot l.wait spot wait w (x.view w) (CellStore c Standing n) Done) b c n (with_progress pr (view_after (x.view w) (CellStore c Standing n) Done))
      (slots.stood_so x l w less pr c n b (n == running) (λ e. tends (same_true n ready (both_true (n == ready) (in_hand c (x.view w).hand) e).0)))

  state_changed : (c old new n : ℕ) → Can (x.view w) (CellChange c old new) → Tends (x.view w) (CellChange c old new) → IsKnown x l w (CellChange c old new) → Finds x w (CellChange c old new) (Number n) → Leaves (CellChange c old new) (Number n)
  unfolding view_after
  state_changed c old new n can tends known found = states.exchanged x l w less pr c old new n found can.1 known tends

  root_taken : (n : ℕ) → Finds x w RootTake (Number n) → Leaves RootTake (Number n)
  unfolding view_after
  root_taken n found = words.root_taken x l w less pr n found

  chain_taken : (c : ℕ) (chain : Option Chain) (cargo : Cargo) → Can (x.view w) (SlotTake (Cell c)) → IsKnown x l w (SlotTake (Cell c)) → Finds x w (SlotTake (Cell c)) (Took chain cargo) → Leaves (SlotTake (Cell c)) (Took chain cargo)
  unfolding view_after
  chain_taken c chain cargo can known found = slots.taken x l w less pr c chain cargo can.1 (λ e. ap (λ (k : Cargo). k.carried.wait) found.1 ∙ known e)

  chain_put : (c : ℕ) (chain : Chain) (cargo : Cargo) → Can (x.view w) (SlotPut (Cell c) chain cargo) → IsKnown x l w (SlotPut (Cell c) chain cargo) → Leaves (SlotPut (Cell c) chain cargo) Done
  unfolding view_after
  chain_put c chain cargo can known = slots.put_so x l w less pr (view_after (x.view w) (SlotPut (Cell c) chain cargo) Done) c chain.wait (subst (λ (k : ℕ). c < k) (l.sized w less) can.0) known refl refl refl refl

-- ---- each kind of step

answered : (x : World) (l : Lists x) (w : ℕ) (s : Step) (a : Answer) (pr : Progress) → w < x.workers → Can (x.view w) s → Tends (x.view w) s → IsKnown x l w s → Finds x w s a → After x l w s a (with_progress pr (view_after (x.view w) s a))
answered x l w (CellLoad c Next) (Number n) pr less can tends known found = next_loaded x l w less pr c n found
answered x l w (CellLoad c Next) a pr less can tends known found = absurd found
answered x l w (CellStore c Owner n) Done pr less can tends known found = owner_stored x l w less pr c n known
answered x l w (CellStore c Owner n) a pr less can tends known found = absurd found
answered x l w (CellStore c State n) a pr less can tends known found = absurd can.1
answered x l w (CellStore c Next n) Done pr less can tends known found = next_stored x l w less pr c n tends
answered x l w (CellStore c Next n) a pr less can tends known found = absurd found
answered x l w (CellStore c Standing n) Done pr less can tends known found = standing_stored x l w less pr c n tends
answered x l w (CellStore c Standing n) a pr less can tends known found = absurd found
answered x l w (CellChange c old new) (Number n) pr less can tends known found = state_changed x l w less pr c old new n can tends known found
answered x l w (CellChange c old new) a pr less can tends known found = absurd found
answered x l w RootTake (Number n) pr less can tends known found = root_taken x l w less pr n found
answered x l w RootTake a pr less can tends known found = absurd found
answered x l w (SlotTake (Cell c)) (Took chain cargo) pr less can tends known found = chain_taken x l w less pr c chain cargo can known found
answered x l w (SlotTake (Cell c)) a pr less can tends known found = absurd found
answered x l w (SlotPut (Cell c) chain cargo) Done pr less can tends known found = chain_put x l w less pr c chain cargo can known
answered x l w (SlotPut (Cell c) chain cargo) a pr less can tends known found = absurd found
answered x l w s a pr less can tends known found = quiet_kept x l w s a pr tt

pub step_kept : Kept
step_kept x l w s a v less can tends known found does = subst (λ (v : View). After x l w s a v) (sym does.1) (answered x l w s a does.0 less can tends known found)
