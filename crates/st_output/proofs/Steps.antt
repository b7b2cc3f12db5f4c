-- Steps and moves keep what the output shows: step_kept, move_kept. Each item but st_putc prints nothing.
use Rattle.std.proofs.Common.{◌≡◌, ◌≢◌, inl, inr, ℕ, Bool, true, false, ◌==◌, ◌&&◌, List, ◌∷◌, ◌++◌, None, refl, sym, ap, ◌∙◌, subst, arith}
use Rattle.std.specs.List.{Contains}
use Rattle.st_words.specs.declared.view.CellWord.TheVariants.{Owner, Standing}
use Rattle.st_words.specs.declared.view.Slot.TheVariants.{Cell, Mail}
use Rattle.st_words.specs.declared.view.Known.{Known}
use Rattle.st_words.specs.declared.view.View.{View}
use Rattle.st_words.specs.Encodings.{full_word, head_in, is_counter, ready}
use Rattle.st_words.specs.Steps.{Step, CellStore, CellChange, StopSet, RequestChange, OutStore, SlotTake, SlotPut, Answer, Number}
use Rattle.st_words.specs.Views.{owner_seen, counts_cell, in_hand}
use Rattle.st_words.proofs.Lists.{contains_here}
use Rattle.st_model.specs.declared.program.Program.{Program}
use Rattle.st_model.specs.Memory.{Data}
use Rattle.st_model.specs.Heap.{Heap, Change, Moves, Enabled}
use Rattle.st_model.specs.Limits.{cells_drawn}
use Rattle.st_laws.specs.Changes.{one_if, ItemChange}
use Rattle.st_laws.proofs.ItemChanges.{item_changes, one_is_drawn}
use Rattle.st_world.specs.World.{World, waking, with_word, changed}
use Rattle.st_made.specs.Items.{next_move, ending}
use Rattle.st_made.specs.Events.{AddsTo, MakesCounter}
use Rattle.st_made.specs.Runs.{known_of}
use Rattle.st_made.proofs.MadeRuns.{at_once}
use Rattle.st_threads.specs.Behind.{heap_on, Rests, Ends, Goes, future_behind, counter_behind, state_behind, change_behind, owner_behind, StepBehind, MoveBehind}
use Rattle.st_threads.specs.Holding.{IsOf, Threads}
use Rattle.st_output.specs.Showing.{Showing, Output}
use Rattle.st_output.specs.Laws.{Kept, MovesKept}
use Rattle.st_output.proofs.Items.{silent_shows, print_shows}

module _ (program : Program) (source : Data) (h h' : Heap) (x : World) (w : ℕ) (T : Threads h x) (O : Output h x) where
  abbrev u : View
  u = x.view w

  top_is : (top : Known) (below : List Known) → u.threads ≡ top ∷ below → IsOf h top
  top_is top below e = (T.views w).each top (subst (λ (ts : List Known). Contains (ts ++ known_of u.chains) top) (sym e) (contains_here top (below ++ known_of u.chains)))

  same_heap : h' ≡ h → Showing h' x.out
  same_heap e = subst (λ (k : Heap). Showing k x.out) (sym e) O

  silent : (top : Known) (below : List Known) (c : Change) → u.threads ≡ top ∷ below → c.printed ≡ None → c.own.bytes ≡ top.thread.bytes → h' ≡ heap_on h top c → Showing h' x.out
  silent top below c is none bytes e = subst (λ (k : Heap). Showing k x.out) (sym e) (silent_shows h x.out top.path top.thread c (top_is top below is).there none bytes O)

  -- ---- steps

  rests : (v : View) → Rests program source h u v h' → Showing h' x.out
  rests v b = same_heap b.heap

  ends : (c : ℕ) (v : View) → Ends program source h c u v h' → Showing h' x.out
  ends c v b = silent b.of.top b.of.below (ending b.of.top.thread b.of.value) b.of.is refl refl b.heap

  adds : (c : ℕ) (v : View) → Goes program source h u v (AddsTo u c) h' → Showing h' x.out
  adds c v b = silent b.of.top b.of.below b.of.change b.of.is b.of.sort.printed b.of.sort.bytes b.heap

  counts : (n : ℕ) (v : View) → Goes program source h u v (MakesCounter n) h' → Showing h' x.out
  counts n v b = silent b.of.top b.of.below b.of.change b.of.is b.of.sort.printed b.of.sort.bytes b.heap

  by_future : (b : Bool) (c : ℕ) (v : View) → future_behind program source h b c u v h' → Showing h' x.out
  by_future true c v b = ends c v b
  by_future false c v b = rests v b

  by_counter : (b : Bool) (c : ℕ) (v : View) → counter_behind program source h b c u v h' → Showing h' x.out
  by_counter true c v b = adds c v b
  by_counter false c v b = rests v b

  by_state : (b : Bool) (c new : ℕ) (v : View) → state_behind program source h b c new u v h' → Showing h' x.out
  by_state true c new v b = by_counter (head_in new == 0) c v b
  by_state false c new v b = by_future (new == full_word) c v b

  by_change : (b : Bool) (c new : ℕ) (v : View) → change_behind program source h b c new u v h' → Showing h' x.out
  by_change true c new v b = by_state (counts_cell (owner_seen c u.owners)) c new v b
  by_change false c new v b = rests v b

  by_owner : (b : Bool) (n : ℕ) (v : View) → owner_behind program source h b n u v h' → Showing h' x.out
  by_owner true n v b = counts n v b
  by_owner false n v b = rests v b

  woken_out : (b : Bool) (c : ℕ) (y : World) → y.out ≡ (waking b c y).out
  woken_out true c y = refl
  woken_out false c y = refl

  shows : (s : Step) (a : Answer) (v : View) → StepBehind program source h u s a v h' → Showing h' (changed x w s a).out
  shows (CellChange c old new) (Number n) v b = by_change (n == old) c new v b
  shows (CellStore c Owner n) a v b = by_owner (is_counter n) n v b
  shows (CellStore c Standing n) a v b = subst (Showing h') (woken_out ((n == ready) && in_hand c u.hand) c (with_word c Standing n x)) (rests v b)
  shows (OutStore i n) a v b =
      let of = top_is b.of.top b.of.below b.of.is in
      let s = b.of.sort in
      subst (λ (k : Heap). Showing k (changed x w (OutStore i n) a).out) (sym b.heap)
      (print_shows h x.out b.of.top.path b.of.top.thread b.of.change i n s.byte of.there s.root (s.place ∙ of.bytes) s.printed s.word s.bytes O)
  shows (StopSet code) (Number n) v b = rests v b
  shows (RequestChange at old new) (Number n) v b = rests v b
  shows (SlotTake (Cell c)) a v b = rests v b
  shows (SlotTake (Mail at)) a v b = rests v b
  shows (SlotPut (Cell c) chain cargo) a v b = rests v b
  shows (SlotPut (Mail at) chain cargo) a v b = rests v b
  shows s a v b = rests v b

  -- ---- moves

  fork_silent : (p : Known) (c : Change) → next_move program source p ≡ Moves c → c.child ≢ None → (c.printed ≡ None) × (c.own.bytes ≡ p.thread.bytes)
  fork_silent p c can some =
      let enabled : Enabled h (next_move program source p) c = at_once program source h p c can in
      let z : ItemChange p.path (cells_drawn program p.path p.thread) p.thread c = item_changes program source h p.path p.thread c enabled in
      let one : cells_drawn program p.path p.thread ≡ 1 = (one_is_drawn program source h p.path p.thread c enabled).0 (inl some) in
      let none : c.printed ≡ None = (z.draws (λ (no : cells_drawn program p.path p.thread ≡ 0). omega (arith, one, no))).3 in
      let bytes = z.bytes in
      let zero_bytes : one_if c.printed ≡ 0 = ap one_if none in
      (none, omega (arith, bytes, zero_bytes))

  moves : (v : View) → MoveBehind program source h u v h' → Showing h' x.out
  moves v (inl b) = same_heap b.1
  moves v (inr (inl b)) = silent b.of.top b.of.rest b.of.change b.of.is b.of.private.printed b.of.private.bytes b.heap
  moves v (inr (inr b)) =
      let some : b.of.change.child ≢ None = λ e. let made = b.of.made in let no : ⊥ = cc in no in
      let z = fork_silent b.of.top b.of.change b.of.can some in
      silent b.of.top b.of.rest b.of.change b.of.is z.0 z.1 b.heap

pub step_kept : Kept
step_kept program source h h' x w s a v T O b = shows program source h h' x w T O s a v b

pub move_kept : MovesKept
move_kept program source h h' x w u T seen O b = moves program source h h' x w T O u b
