-- Each careful step keeps the places: kept.
use Rattle.std.proofs.Common.{ℕ, ◌<◌, Bool, true, false, sym, subst}
use Rattle.st_base.specs.declared.chain.Waiting.{Waiting}
use Rattle.st_words.specs.declared.view.CellWord.TheVariants.{Owner, State, Standing, Trap}
use Rattle.st_words.specs.declared.view.Slot.TheVariants.{Cell, Mail}
use Rattle.st_words.specs.declared.view.Cargo.{Cargo}
use Rattle.st_words.specs.declared.view.View.{View}
use Rattle.st_words.specs.Steps.{Step, CellStore, CellChange, SlotTake, SlotPut, Answer, Done, Number, Looked, Took, Can}
use Rattle.st_words.specs.Careful.{Meaning, Careful}
use Rattle.st_words.specs.Views.{Progress, with_progress, view_after}
use Rattle.st_world.specs.World.{World, Finds, world_after}
use Rattle.st_spots.specs.Listing.{Spot, Lists}
use Rattle.st_lists.specs.Going.{Goes}
use Rattle.st_seats.specs.Placing.{Places}
use Rattle.st_places.specs.Steps.{IsKnown, GoesOut, ThreadsGo}
use Rattle.st_places.specs.Laws.{Kept}
use Rattle.st_seats.proofs.Seats.{Placed}
use Rattle.st_places.proofs.ChangedCalm.{calm_kept}
use Rattle.st_places.proofs.ChangedStates.{exchanged}
use Rattle.st_places.proofs.ChangedWords.{trap_kept}
use Rattle.st_places.proofs.ChangedStands.{stand_kept}
use Rattle.st_places.proofs.ChangedOwners.{owner_kept}
use Rattle.st_places.proofs.ChangedTakes.{home_taken, post_taken}
use Rattle.st_places.proofs.ChangedPuts.{home_put, post_put}

-- by the threads that go on alone
going : (b : Bool) (u : View) (c : ℕ) (v : View) (pr : Progress) → GoesOut b u c (with_progress pr v) → GoesOut b u c (with_progress pr u)
going true u c v pr h = h
going false u c v pr h = h

-- by the answer that is found, and by the view after it that is named
answered : (m : Meaning) (x : World) (l : Lists x) (P : Places x l) (w : ℕ) (less : w < x.workers) (s : Step) (a : Answer) (pr : Progress) (spot' : ℕ → Spot) (wait' : ℕ → Waiting) → Can (x.view w) s → Careful m (x.view w) s → IsKnown x (x.view w) s → Finds x w s a → ThreadsGo (x.view w) s a (with_progress pr (view_after (x.view w) s a)) → Goes l.spot l.wait spot' wait' w (x.view w) s a → Placed (world_after x w s a (with_progress pr (view_after (x.view w) s a))) spot' wait'
unfolding view_after
answered m x l P w less (CellStore c Owner n) Done pr spot' wait' can careful known f t g = owner_kept x l P w less pr spot' wait' g t c n (subst (λ (k : ℕ). c < k) (l.sized w less) can.0) known.0 known.1 m careful.stores
answered m x l P w less (CellStore c State n) Done pr spot' wait' can careful known f t g = absurd can.1
answered m x l P w less (CellStore c Standing n) Done pr spot' wait' can careful known f t g = stand_kept x l P w pr spot' wait' c n t m careful.stores known g
answered m x l P w less (CellStore c Trap n) Done pr spot' wait' can careful known f t g = let h = careful.stores in trap_kept x l P w pr spot' wait' c n (h.0, h.1, h.2) t g
answered m x l P w less (CellChange c old new) (Number n) pr spot' wait' can careful known f t g = exchanged x l P w pr spot' wait' g m c old new n f can.1 known careful.changes (going _ (x.view w) c (view_after (x.view w) (CellChange c old new) (Number n)) pr t)
answered m x l P w less (SlotTake (Cell c)) (Took o cargo) pr spot' wait' can careful known f t g =
    subst (λ (k : Cargo). Placed (world_after x w (SlotTake (Cell c)) (Took o k) (with_progress pr (view_after (x.view w) (SlotTake (Cell c)) (Took o k)))) spot' wait') (sym f.1) (home_taken x l P w less pr spot' wait' t c o f.0 g)
answered m x l P w less (SlotTake (Mail at)) (Took o cargo) pr spot' wait' can careful known f t g =
    subst (λ (k : Cargo). Placed (world_after x w (SlotTake (Mail at)) (Took o k) (with_progress pr (view_after (x.view w) (SlotTake (Mail at)) (Took o k)))) spot' wait') (sym f.1) (post_taken x l P w less pr spot' wait' t at o f.0 g)
answered m x l P w less (SlotPut (Cell c) chain cargo) Done pr spot' wait' can careful known f t g = home_put x l P w pr spot' wait' t m c chain cargo can.1.0 careful.puts g
answered m x l P w less (SlotPut (Mail at) chain cargo) Done pr spot' wait' can careful known f t g = post_put x l P w pr spot' wait' t m at chain cargo careful.puts known g
answered m x l P w less (CellChange c old new) a pr spot' wait' can careful known f t g = absurd f
answered m x l P w less (SlotTake slot) a pr spot' wait' can careful known f t g = absurd f
answered m x l P w less (SlotPut slot chain cargo) a pr spot' wait' can careful known f t g = absurd f
answered m x l P w less (CellStore c word n) (Number k) pr spot' wait' can careful known f t g = absurd f
answered m x l P w less (CellStore c word n) (Looked k d) pr spot' wait' can careful known f t g = absurd f
answered m x l P w less (CellStore c word n) (Took k d) pr spot' wait' can careful known f t g = absurd f
answered m x l P w less s a pr spot' wait' can careful known f t g = calm_kept x l P w s a pr spot' wait' tt f t g

pub kept : (m : Meaning) → Kept m
kept m x l w s a v l' P less can careful known f does t g = subst (λ (k : View). Placed (world_after x w s a k) l'.spot l'.wait) (sym does.1)
    (answered m x l P w less s a does.0 l'.spot l'.wait can careful known f (subst (ThreadsGo (x.view w) s a) does.1 t) g)
