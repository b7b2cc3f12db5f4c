-- Each careful step keeps who holds each thread, with the heap after its item (step_kept; of what Careful says it reads what goes with a chain that is put), and that heap is the one before
-- or one step from there (steps_go).
use Rattle.std.proofs.Common.{◌≡◌, ◌≢◌, ◌⊎◌, inl, inr, ℕ, Bool, true, false, List, ◌∷◌, ◌++◌, Option, Some, None, refl, sym, ap, ◌∙◌, subst, ◌==◌, ◌&&◌}
use Rattle.st_base.specs.declared.chain.Chain.{Chain}
use Rattle.st_base.specs.declared.chain.Note.{Note}
use Rattle.st_words.specs.declared.view.CellWord.{CellWord}
use Rattle.st_words.specs.declared.view.CellWord.TheVariants.{Owner, State, Value, Next, Standing, Trap}
use Rattle.st_words.specs.declared.view.Slot.{Slot}
use Rattle.st_words.specs.declared.view.Slot.TheVariants.{Cell, Mail}
use Rattle.st_words.specs.declared.view.Known.{Known}
use Rattle.st_words.specs.declared.view.Cargo.{Cargo}
use Rattle.st_words.specs.declared.view.View.{View}
use Rattle.st_words.specs.Encodings.{full_word, head_in, is_counter, ready}
use Rattle.st_words.specs.Steps.{Step, CellStore, CellChange, StopSet, RequestChange, OutStore, SlotTake, SlotPut, Answer, Done, Number, Took}
use Rattle.st_words.specs.Views.{view_after, Does, owner_seen, counts_cell, no_cargo, in_hand, without_chain}
use Rattle.st_words.specs.Plain.{readied}
use Rattle.st_words.specs.Careful.{Meaning, MayCarry}
use Rattle.st_model.specs.declared.program.Program.{Program}
use Rattle.st_model.specs.Memory.{Data}
use Rattle.st_model.specs.Heap.{Path, Heap, Change, Moves, HStep}
use Rattle.st_made.specs.Items.{IsLive, next_move, ending}
use Rattle.st_made.specs.Events.{NoItem, EndsItem, GoesOn, AddsTo, MakesCounter, PrintsWord, future_event, counter_event, state_event, change_event, owner_event, Event}
use Rattle.st_made.specs.Runs.{known_of}
use Rattle.st_made.proofs.MadeRuns.{at_once}
use Rattle.st_world.specs.Functions.{put}
use Rattle.st_world.specs.World.{World, slot_of, cargo_of, with_word, with_chain, seen, waking, woken, changed, world_after}
use Rattle.st_world.proofs.Functions.{put_here, put_other, put_same}
use Rattle.st_threads.specs.Behind.{heap_on, Rests, Ends, Goes, future_behind, counter_behind, state_behind, change_behind, owner_behind, StepBehind}
use Rattle.st_threads.specs.Holding.{SlotHas, Holding, Threads}
use Rattle.st_threads.specs.Laws.{AreSingle, Kept, StepGoes}
use Rattle.st_threads.proofs.Keepers.{slot_known}
use Rattle.st_threads.proofs.Holdings.{all_stay}
use Rattle.st_threads.proofs.Items.{makes_step, goes_on, goes_out}
use Rattle.st_threads.proofs.Slots.{none_taken, taken, given_out}
use Rattle.st_threads.proofs.ViewsAfter.{IsOfNoSlot, same_after, took_chains, put_chains}

-- ---- words and slots

-- a waiter that is made ready has its thread still
pub woken_known : (x : World) (c : ℕ) (z : Slot) → (cargo_of x z).carried.known ≡ (cargo_of (waking true c x) z).carried.known
woken_known x c (Cell d) = put_same (λ (k : Cargo). k.carried.known) x.home_cargo c (readied (x.home_cargo c)) refl d
woken_known x c (Mail a) = refl

awake : (h : Heap) (w : ℕ) (v : View) (b : Bool) (c : ℕ) (x : World) → Threads h (seen w v x) → Threads h (seen w v (waking b c x))
awake h w v true c x r =
    let slots : (z : Slot) → SlotHas h r.keeper z (slot_of x z) (cargo_of (waking true c x) z) = λ z. slot_known h r.keeper z (slot_of x z) (cargo_of x z) (cargo_of (waking true c x) z) (woken_known x c z) (r.slots z) in
    record { keeper = r.keeper; views = r.views; slots = slots; held = r.held; numbered = r.numbered }
awake h w v false c x r = r

stored_world : (h : Heap) (x : World) (w : ℕ) (v u : View) (c : ℕ) (word : CellWord) (n : ℕ) → Threads h (seen w v x) → Threads h (seen w v (woken u c word n (with_word c word n x)))
stored_world h x w v u c Owner n r = r
stored_world h x w v u c State n r = r
stored_world h x w v u c Value n r = r
stored_world h x w v u c Next n r = r
stored_world h x w v u c Standing n r = awake h w v ((n == ready) && in_hand c u.hand) c (with_word c Standing n x) r
stored_world h x w v u c Trap n r = r

-- a step that is of no slot leaves the slots, and who they have
changed_world : (h : Heap) (x : World) (w : ℕ) (v : View) (s : Step) (a : Answer) → IsOfNoSlot s → Threads h (seen w v x) → Threads h (seen w v (changed x w s a))
changed_world h x w v (SlotTake slot) a other r = absurd other
changed_world h x w v (SlotPut slot chain cargo) a other r = absurd other
changed_world h x w v (CellStore c word n) a other r = stored_world h x w v (x.view w) c word n r
changed_world h x w v (CellChange c old new) (Number n) other r = r
changed_world h x w v (StopSet code) (Number n) other r = r
changed_world h x w v (RequestChange at old new) (Number n) other r = r
changed_world h x w v s a other r = r

pub chain_here : (y : Slot) (o : Option Chain) (c : Cargo) (x : World) → (slot_of (with_chain y o c x) y ≡ o) × (cargo_of (with_chain y o c x) y ≡ c)
chain_here (Cell d) o c x = (put_here x.home d o, put_here x.home_cargo d c)
chain_here (Mail a) o c x = (put_here x.post a o, put_here x.post_cargo a c)

pub chain_there : (y : Slot) (o : Option Chain) (c : Cargo) (x : World) (z : Slot) → z ≢ y → (slot_of (with_chain y o c x) z ≡ slot_of x z) × (cargo_of (with_chain y o c x) z ≡ cargo_of x z)
chain_there (Cell d) o c x (Cell e) n = (put_other x.home d o e (λ s. n (ap Cell s)), put_other x.home_cargo d c e (λ s. n (ap Cell s)))
chain_there (Cell d) o c x (Mail e) n = (refl, refl)
chain_there (Mail d) o c x (Cell e) n = (refl, refl)
chain_there (Mail d) o c x (Mail e) n = (put_other x.post d o e (λ s. n (ap Mail s)), put_other x.post_cargo d c e (λ s. n (ap Mail s)))

-- by the worlds' parts, whichever slot it is
slot_world : (h : Heap) (x : World) (w : ℕ) (v : View) (y : Slot) (o : Option Chain) (c : Cargo) → Holding h (slot_of (with_chain y o c x)) (cargo_of (with_chain y o c x)) (put x.view w v) → Threads h (seen w v (with_chain y o c x))
slot_world h x w v (Cell d) o c r = r
slot_world h x w v (Mail a) o c r = r

-- ---- items

module _ (program : Program) (source : Data) (h : Heap) (x : World) (w : ℕ) (v : View) (h' : Heap) (r : Threads h x) (turn : known_of v.chains ≡ known_of (x.view w).chains) where
  abbrev u : View
  u = x.view w

  rested : Rests program source h u v h' → Threads h' (seen w v x)
  rested b = subst (λ (k : Heap). Threads k (seen w v x)) (sym b.heap) (all_stay h (slot_of x) (cargo_of x) x.view w v r (λ i. b.of.threads i ++ turn i))

  gone_on : (Is : Known → Change → Type 0) (b : Goes program source h u v Is h') → b.of.change.child ≡ None → IsLive b.of.change.own.standing → Threads h' (seen w v x)
  gone_on Is b none live =
      let e = b.of in
      let rest = e.below ++ known_of u.chains in
      subst (λ (k : Heap). Threads k (seen w v x)) (sym b.heap)
      (goes_on program source h (slot_of x) (cargo_of x) x.view w v r e.top rest e.change (ap (λ (l : List Known). l ++ known_of u.chains) e.is) (at_once program source h e.top e.change e.can) none live (λ i. e.threads i ++ turn i))

  ended : (c : ℕ) → Ends program source h c u v h' → Threads h' (seen w v x)
  ended c b =
      let e = b.of in
      let rest = e.below ++ known_of u.chains in
      subst (λ (k : Heap). Threads k (seen w v x)) (sym b.heap)
      (goes_out program source h (slot_of x) (cargo_of x) x.view w v r e.top rest (ending e.top.thread e.value) (ap (λ (l : List Known). l ++ known_of u.chains) e.is) (at_once program source h e.top (ending e.top.thread e.value) e.can) refl (λ no. no) (λ i. e.threads i ++ turn i))

  by_future : (b : Bool) (c : ℕ) → future_behind program source h b c u v h' → Threads h' (seen w v x)
  by_future true c e = ended c e
  by_future false c e = rested e

  by_counter : (b : Bool) (c : ℕ) → counter_behind program source h b c u v h' → Threads h' (seen w v x)
  by_counter true c e = let s = e.of.sort in gone_on (AddsTo u c) e s.child s.live
  by_counter false c e = rested e

  by_state : (b : Bool) (c new : ℕ) → state_behind program source h b c new u v h' → Threads h' (seen w v x)
  by_state true c new e = by_counter (head_in new == 0) c e
  by_state false c new e = by_future (new == full_word) c e

  by_change : (b : Bool) (c new : ℕ) → change_behind program source h b c new u v h' → Threads h' (seen w v x)
  by_change true c new e = by_state (counts_cell (owner_seen c u.owners)) c new e
  by_change false c new e = rested e

  by_owner : (b : Bool) (n : ℕ) → owner_behind program source h b n u v h' → Threads h' (seen w v x)
  by_owner true n e = let s = e.of.sort in gone_on (MakesCounter n) e s.child s.live
  by_owner false n e = rested e

  pub seen_after : (s : Step) (a : Answer) → IsOfNoSlot s → StepBehind program source h u s a v h' → Threads h' (seen w v x)
  seen_after (SlotTake slot) a other e = absurd other
  seen_after (SlotPut slot chain cargo) a other e = absurd other
  seen_after (CellChange c old new) (Number n) other e = by_change (n == old) c new e
  seen_after (CellStore c Owner n) a other e = by_owner (is_counter n) n e
  seen_after (OutStore i n) a other e = let s = e.of.sort in gone_on (PrintsWord i n) e s.child s.live
  seen_after _ a other e = rested e

-- ---- slots

does_chains : (u : View) (s : Step) (a : Answer) (v : View) → Does u s a v → v.chains ≡ (view_after u s a).chains
does_chains u s a v d = ap (λ (y : View). y.chains) d.1

kept_take : (program : Program) (source : Data) (h h' : Heap) (x : World) (w : ℕ) (slot : Slot) (o : Option Chain) (cargo : Cargo) (v : View) → Threads h x → o ≡ slot_of x slot → cargo ≡ cargo_of x slot → Does (x.view w) (SlotTake slot) (Took o cargo) v → Rests program source h (x.view w) v h' → Threads h' (world_after x w (SlotTake slot) (Took o cargo) v)
unfolding view_after
kept_take program source h h' x w slot None cargo v r is same d b =
    let x' = with_chain slot None no_cargo x in
    subst (λ (k : Heap). Threads k (seen w v x')) (sym b.heap) (slot_world h x w v slot None no_cargo
    (none_taken h (slot_of x) (slot_of x') (cargo_of x) (cargo_of x') x.view w v slot r (chain_there slot None no_cargo x) b.of.threads (sym is) (chain_here slot None no_cargo x).0
    (does_chains (x.view w) (SlotTake slot) (Took None cargo) v d)))
kept_take program source h h' x w slot (Some chain) cargo v r is same d b =
    let x' = with_chain slot None no_cargo x in
    subst (λ (k : Heap). Threads k (seen w v x')) (sym b.heap) (slot_world h x w v slot None no_cargo
    (taken h (slot_of x) (slot_of x') (cargo_of x) (cargo_of x') x.view w v slot r (chain_there slot None no_cargo x) b.of.threads chain (sym is) (chain_here slot None no_cargo x).0
    (does_chains (x.view w) (SlotTake slot) (Took (Some chain) cargo) v d ∙ (took_chains slot cargo (x.view w) ∙ ap (λ (c : Cargo). c.carried ∷ (x.view w).chains) same))))

kept_put : (program : Program) (source : Data) (h h' : Heap) (x : World) (w : ℕ) (slot : Slot) (chain : Chain) (cargo : Cargo) (v : View) → Threads h x → slot_of x slot ≡ None → AreSingle (x.view w) → MayCarry (x.view w) chain cargo → Does (x.view w) (SlotPut slot chain cargo) Done v → Rests program source h (x.view w) v h' → Threads h' (world_after x w (SlotPut slot chain cargo) Done v)
unfolding view_after
kept_put program source h h' x w slot chain cargo v r none single may d b =
    let x' = with_chain slot (Some chain) cargo x in
    let here = chain_here slot (Some chain) cargo x in
    let cell : cargo.carried.known.note.cell ≡ chain.cell = ap (λ (n : Note). n.cell) may.note ∙ may.cell in
    subst (λ (k : Heap). Threads k (seen w v x')) (sym b.heap) (slot_world h x w v slot (Some chain) cargo
    (given_out h (slot_of x) (slot_of x') (cargo_of x) (cargo_of x') x.view w v slot r (chain_there slot (Some chain) cargo x) b.of.threads chain cargo.carried none here.0 (ap (λ (c : Cargo). c.carried) here.1) may.carried single
    (does_chains (x.view w) (SlotPut slot chain cargo) Done v d ∙ (put_chains slot chain cargo (x.view w) ∙ ap (λ (c : ℕ). without_chain c (x.view w).chains) (sym cell)))))

-- ---- each step

kept_other : (program : Program) (source : Data) (h h' : Heap) (x : World) (w : ℕ) (s : Step) (a : Answer) (v : View) → IsOfNoSlot s → Threads h x → Does (x.view w) s a v → StepBehind program source h (x.view w) s a v h' → Threads h' (world_after x w s a v)
kept_other program source h h' x w s a v other r d b =
    let turn : known_of v.chains ≡ known_of (x.view w).chains = ap known_of (does_chains (x.view w) s a v d) ∙ same_after (x.view w) s a other in
    changed_world h' x w v s a other (seen_after program source h x w v h' r turn s a other b)

pub step_kept : (m : Meaning) → Kept m
step_kept m program source h h' x w (SlotTake slot) (Took o cargo) v r less can careful known f d b = kept_take program source h h' x w slot o cargo v r f.0 f.1 d b
step_kept m program source h h' x w (SlotPut slot chain cargo) Done v r less can careful known f d b = kept_put program source h h' x w slot chain cargo v r known.0 known.1 careful.puts.carries d b
step_kept m program source h h' x w (SlotTake slot) a v r less can careful known f d b = absurd f
step_kept m program source h h' x w (SlotPut slot chain cargo) a v r less can careful known f d b = absurd f
step_kept m program source h h' x w s a v r less can careful known f d b = kept_other program source h h' x w s a v tt r d b

-- ---- the heap

module _ (program : Program) (source : Data) (h : Heap) (x : World) (w : ℕ) (v : View) (r : Threads h x) where
  -- the heap before, or one step from there
  abbrev IsNext : Heap → Type 0
  IsNext h' = (h' ≡ h) ⊎ ((p : Path) × HStep program source h p h')

  abbrev before : View
  before = x.view w

  -- the top thread makes a change
  one_step : (top : Known) (rest : List Known) (c : Change) → before.threads ≡ top ∷ rest → next_move program source top ≡ Moves c → IsNext (heap_on h top c)
  one_step top rest c is can =
      inr (top.path, makes_step program source h (slot_of x) (cargo_of x) x.view w v r top (rest ++ known_of before.chains) c (ap (λ (l : List Known). l ++ known_of before.chains) is) (at_once program source h top c can))

  rests : NoItem before v → (h' : Heap) × Rests program source h before v h' × IsNext h'
  rests e = (h, record { of = e; heap = refl }, inl refl)

  goes : (Is : Known → Change → Type 0) → GoesOn program source before v Is → (h' : Heap) × Goes program source h before v Is h' × IsNext h'
  goes Is e = (heap_on h e.top e.change, record { of = e; heap = refl }, one_step e.top e.below e.change e.is e.can)

  ends : (c : ℕ) → EndsItem program source c before v → (h' : Heap) × Ends program source h c before v h' × IsNext h'
  ends c e =
      let change = ending e.top.thread e.value in
      (heap_on h e.top change, record { of = e; heap = refl }, one_step e.top e.below change e.is e.can)

  on_future : (b : Bool) (c : ℕ) → future_event program source b c before v → (h' : Heap) × future_behind program source h b c before v h' × IsNext h'
  on_future true c e = ends c e
  on_future false c e = rests e

  on_counter : (b : Bool) (c : ℕ) → counter_event program source b c before v → (h' : Heap) × counter_behind program source h b c before v h' × IsNext h'
  on_counter true c e = goes (AddsTo before c) e
  on_counter false c e = rests e

  on_state : (b : Bool) (c new : ℕ) → state_event program source b c new before v → (h' : Heap) × state_behind program source h b c new before v h' × IsNext h'
  on_state true c new e = on_counter (head_in new == 0) c e
  on_state false c new e = on_future (new == full_word) c e

  on_change : (b : Bool) (c new : ℕ) → change_event program source b c new before v → (h' : Heap) × change_behind program source h b c new before v h' × IsNext h'
  on_change true c new e = on_state (counts_cell (owner_seen c before.owners)) c new e
  on_change false c new e = rests e

  on_owner : (b : Bool) (n : ℕ) → owner_event program source b n before v → (h' : Heap) × owner_behind program source h b n before v h' × IsNext h'
  on_owner true n e = goes (MakesCounter n) e
  on_owner false n e = rests e

  step_goes : (s : Step) (a : Answer) → Event program source before s a v → (h' : Heap) × StepBehind program source h before s a v h' × IsNext h'
  step_goes (CellChange c old new) (Number n) e = on_change (n == old) c new e
  step_goes (CellStore c Owner n) a e = on_owner (is_counter n) n e
  step_goes (OutStore i n) a e = goes (PrintsWord i n) e
  step_goes _ a e = rests e

pub steps_go : StepGoes
steps_go program source h x w s a v r e = step_goes program source h x w v r s a e
