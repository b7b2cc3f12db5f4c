-- Each careful step keeps the names, with the heap after its item: step_kept.
use Rattle.std.proofs.Common.{◌≡◌, inl, inr, ℕ, Bool, true, false, refl, sym, ap, ◌∙◌, subst, ◌==◌, ◌&&◌}
use Rattle.st_base.specs.declared.chain.Chain.{Chain}
use Rattle.st_words.specs.declared.view.CellWord.{CellWord}
use Rattle.st_words.specs.declared.view.CellWord.TheVariants.{Owner, State, Value, Standing}
use Rattle.st_words.specs.declared.view.Slot.{Slot}
use Rattle.st_words.specs.declared.view.Cargo.{Cargo}
use Rattle.st_words.specs.declared.view.View.{View}
use Rattle.st_words.specs.Encodings.{is_counter, ready}
use Rattle.st_words.specs.Steps.{Step, CellStore, CellChange, StopSet, RequestChange, OutStore, SlotTake, SlotPut, Answer, Done, Number, Took, Can}
use Rattle.st_words.specs.Views.{Does, view_after, with_name, child_named, no_cargo, in_hand, owner_seen, counts_cell}
use Rattle.st_words.specs.Careful.{Meaning, Careful, Stores}
use Rattle.st_words.proofs.Lists.{same_true}
use Rattle.st_words.proofs.Safe.{counter_kind}
use Rattle.st_model.specs.declared.program.Program.{Program}
use Rattle.st_model.specs.Memory.{Data}
use Rattle.st_model.specs.Heap.{Heap}
use Rattle.st_made.specs.Items.{MeansItems}
use Rattle.st_made.specs.Runs.{known_of}
use Rattle.st_made.specs.Events.{PrintsWord}
use Rattle.st_made.proofs.MadeRuns.{at_once}
use Rattle.st_world.specs.Functions.{put}
use Rattle.st_world.specs.World.{World, seen, put_if, Finds, world_after}
use Rattle.st_threads.specs.Behind.{Rests, Goes, change_behind, owner_behind, StepBehind}
use Rattle.st_threads.specs.Holding.{Threads}
use Rattle.st_names.specs.Naming.{Named}
use Rattle.st_named.specs.Laws.{IsKnown, Kept}
use Rattle.st_names.proofs.Heaps.{stays_same}
use Rattle.st_names.proofs.Told.{child_cell}
use Rattle.st_named.proofs.ViewsAfter.{SameParts, IsSame, same_after}
use Rattle.st_named.proofs.Keeping.{calm, parts, parts_same, heap_same, item_kept}
use Rattle.st_named.proofs.Cells.{top_is, named_counter, named_child}
use Rattle.st_named.proofs.Words.{state_kept, value_kept}
use Rattle.st_named.proofs.Slots.{taken_kept, put_kept, readied_kept}

-- the step changes no word and no slot that names are read from, and makes no item
abbrev IsPlain : Step → Type 0
IsPlain (CellStore c Owner n) = ⊥
IsPlain (CellStore c State n) = ⊥
IsPlain (CellStore c Value n) = ⊥
IsPlain (CellStore c Standing n) = ⊥
IsPlain (CellChange c old new) = ⊥
IsPlain (OutStore i n) = ⊥
IsPlain (SlotTake slot) = ⊥
IsPlain (SlotPut slot chain cargo) = ⊥
IsPlain s = Prim.Unit

module _ (program : Program) (source : Data) (h : Heap) (x : World) (N : Named program source h x) (w : ℕ) (T : Threads h x) where
  abbrev u : View
  u = x.view w

  same_does : (s : Step) (a : Answer) (v : View) → IsSame s → Does u s a v → SameParts u v
  same_does s a v q d = subst (SameParts u) (sym d.1) (same_after u s a q)

  quiet : (s : Step) (a : Answer) (v : View) (g : Heap) → IsSame s → Does u s a v → Rests program source h u v g → Named program source g (seen w v x)
  quiet s a v g q d r =
      let same = same_does s a v q d in
      subst (λ k. Named program source k (seen w v x)) (sym r.heap)
      (calm program source h x N w h v (heap_same program source h x N w) (stays_same h) (λ c e. inl (same.2 ∙ e)) (parts_same program source h N.name x.value u v same r.of.threads (parts program source h x N w)))

  plain_world : (s : Step) (a : Answer) (v : View) (g : Heap) → IsPlain s → Named program source g (seen w v x) → Named program source g (world_after x w s a v)
  plain_world (CellStore c Owner n) a v g q K = absurd q
  plain_world (CellStore c State n) a v g q K = absurd q
  plain_world (CellStore c Value n) a v g q K = absurd q
  plain_world (CellStore c Standing n) a v g q K = absurd q
  plain_world (CellChange c old new) a v g q K = absurd q
  plain_world (OutStore i n) a v g q K = absurd q
  plain_world (SlotTake slot) a v g q K = absurd q
  plain_world (SlotPut slot chain cargo) a v g q K = absurd q
  plain_world (StopSet code) (Number n) v g q K = K
  plain_world (RequestChange at old new) (Number n) v g q K = K
  plain_world s a v g q K = K

  -- ---- by kind

  owner_kept : (m : Meaning) → MeansItems program source m → (c n : ℕ) (v : View) (g : Heap) (b : Bool) → is_counter n ≡ b → Stores m u (CellStore c Owner n) → IsKnown x u (CellStore c Owner n) → Does u (CellStore c Owner n) Done v → owner_behind program source h b n u v g → Named program source g (seen w v (record x { owner = put x.owner c n }))
  unfolding view_after
  owner_kept m means c n v g true e stores known d b =
      let o = b.of in
      subst (λ k. Named program source k (seen w v (record x { owner = put x.owner c n }))) (sym b.heap)
      (named_counter program source h x N w T c n v known.0 known.1 o.top o.below o.is (ap (λ (y : View). known_of y.chains) d.1) (ap (λ (y : View). y.valued) d.1) o.change o.can o.sort o.threads
      (ap (λ (y : View). y.names) d.1 ∙ (λ i. with_name (e i) c (o.is i) u.names))
      (ap (λ (y : View). child_cell y.child) d.1 ∙ ap (λ k. child_cell (child_named k c u.child)) e))
  owner_kept m means c n v g false e stores known d r =
      let t = top_is u.threads _ stores in
      subst (λ k. Named program source k (seen w v (record x { owner = put x.owner c n }))) (sym r.heap)
      (elim t.3 [
        | inl next ↦ named_child program source h x N w T c n v known.0 known.1 t.0 t.1 t.2 (ap (λ (y : View). known_of y.chains) d.1) (ap (λ (y : View). y.valued) d.1) (means.forks t.0 next.1) next.2 next.0 r.of.threads
            (ap (λ (y : View). y.names) d.1 ∙ (λ i. with_name (e i) c (t.2 i) u.names))
            (ap (λ (y : View). child_cell y.child) d.1 ∙ ap (λ k. child_cell (child_named k c u.child)) e)
        | inr next ↦ let k = ap is_counter next.0 ∙ counter_kind t.0.note.cell t.0.note.counters in let no : ⊥ = cc in absurd no
      ])

  stored_kept : (m : Meaning) → MeansItems program source m → (c n : ℕ) (v : View) (g : Heap) → Stores m u (CellStore c Value n) → Does u (CellStore c Value n) Done v → Rests program source h u v g → Named program source g (seen w v (record x { value = put x.value c n }))
  unfolding view_after
  stored_kept m means c n v g stores d r =
      let t = top_is u.threads _ stores in
      subst (λ k. Named program source k (seen w v (record x { value = put x.value c n }))) (sym r.heap)
      (value_kept program source h x N w T c n t.0 t.1 t.2 t.3.0 (means.ends t.0 n t.3.1) v (ap (λ (y : View). y.names) d.1) r.of.threads (ap (λ (y : View). y.chains) d.1) (ap (λ (y : View). y.child) d.1) (ap (λ (y : View). y.valued) d.1))

  change_kept : (c old new n : ℕ) (v : View) (g : Heap) (b : Bool) → (n == old) ≡ b → Can u (CellChange c old new) → IsKnown x u (CellChange c old new) → n ≡ x.state c → Does u (CellChange c old new) (Number n) v → change_behind program source h b c new u v g → Named program source g (seen w v (record x { state = put_if b x.state c new }))
  change_kept c old new n v g true e can known f d b = state_kept program source h x N w T c old new v (same_does (CellChange c old new) (Number n) v tt d) known.0 known.1 known.2 can.1 (sym f ∙ same_true n old e) (counts_cell (owner_seen c u.owners)) refl g b
  change_kept c old new n v g false e can known f d r = quiet (CellChange c old new) (Number n) v g tt d r

  printed_kept : (i n : ℕ) (a : Answer) (v : View) (g : Heap) → Does u (OutStore i n) a v → Goes program source h u v (PrintsWord i n) g → Named program source g (seen w v (record x { out = put x.out i n }))
  printed_kept i n a v g d b =
      let o = b.of in
      let k = o.sort in
      subst (λ z. Named program source z (seen w v (record x { out = put x.out i n }))) (sym b.heap)
      (item_kept program source h x N w T v o.top o.below o.change o.is o.threads (same_does (OutStore i n) a v tt d) (at_once program source h o.top o.change o.can) k.child k.added k.counters k.live)

  take_kept : (slot : Slot) (a : Answer) (v : View) (g : Heap) → Finds x w (SlotTake slot) a → Does u (SlotTake slot) a v → Rests program source h u v g → Named program source g (world_after x w (SlotTake slot) a v)
  unfolding view_after
  take_kept slot (Took o k) v g f d r =
      subst (λ z. Named program source z (world_after x w (SlotTake slot) (Took o k) v)) (sym r.heap)
      (subst (λ y. Named program source h (world_after x w (SlotTake slot) (Took o k) y)) (sym d.1) (taken_kept program source h x N w slot o k no_cargo d.0 (sym (ap (λ (y : View). y.threads) d.1) ∙ r.of.threads) f.0 f.1))
  take_kept slot a v g f d r = absurd f

  puts_kept : (m : Meaning) (slot : Slot) (chain : Chain) (cargo : Cargo) (a : Answer) (v : View) (g : Heap) → Careful m u (SlotPut slot chain cargo) → Finds x w (SlotPut slot chain cargo) a → Does u (SlotPut slot chain cargo) a v → Rests program source h u v g → Named program source g (world_after x w (SlotPut slot chain cargo) a v)
  unfolding view_after
  puts_kept m slot chain cargo Done v g careful f d r =
      let puts = careful.puts in
      subst (λ z. Named program source z (world_after x w (SlotPut slot chain cargo) Done v)) (sym r.heap)
      (subst (λ y. Named program source h (world_after x w (SlotPut slot chain cargo) Done y)) (sym d.1) (put_kept program source h x N w slot chain cargo d.0 (sym (ap (λ (y : View). y.threads) d.1) ∙ r.of.threads) puts.carries))
  puts_kept m slot chain cargo a v g careful f d r = absurd f

  is_done : (c : ℕ) (word : CellWord) (n : ℕ) (a : Answer) → Finds x w (CellStore c word n) a → a ≡ Done
  is_done c word n Done f = refl
  is_done c word n a f = absurd f

  pub by_step : (m : Meaning) → MeansItems program source m → (s : Step) (a : Answer) (v : View) (g : Heap) → Can u s → Careful m u s → IsKnown x u s → Finds x w s a → Does u s a v → StepBehind program source h u s a v g → Named program source g (world_after x w s a v)
  by_step m means (CellStore c Owner n) a v g can careful known f d b = owner_kept m means c n v g (is_counter n) refl careful.stores known (subst (λ k. Does u (CellStore c Owner n) k v) (is_done c Owner n a f) d) b
  by_step m means (CellStore c State n) a v g can careful known f d b = absurd can.1
  by_step m means (CellStore c Value n) a v g can careful known f d b = stored_kept m means c n v g careful.stores (subst (λ k. Does u (CellStore c Value n) k v) (is_done c Value n a f) d) b
  by_step m means (CellStore c Standing n) a v g can careful known f d b = readied_kept program source g (record x { standing = put x.standing c n }) ((n == ready) && in_hand c u.hand) c w v (quiet (CellStore c Standing n) a v g tt d b)
  by_step m means (CellChange c old new) (Number n) v g can careful known f d b = change_kept c old new n v g (n == old) refl can known f d b
  by_step m means (CellChange c old new) a v g can careful known f d b = absurd f
  by_step m means (OutStore i n) a v g can careful known f d b = printed_kept i n a v g d b
  by_step m means (SlotTake slot) a v g can careful known f d b = take_kept slot a v g f d b
  by_step m means (SlotPut slot chain cargo) a v g can careful known f d b = puts_kept m slot chain cargo a v g careful f d b
  by_step m means s a v g can careful known f d b = plain_world s a v g tt (quiet s a v g tt d b)

pub step_kept : (m : Meaning) → Kept m
step_kept m program source h h' x w s a v means T N less can careful known f d b = by_step program source h x N w T m means s a v h' can careful known f d b
