-- Each careful step keeps that the numbers of workers are within the run: step_kept.
use Rattle.std.proofs.Common.{◌⊎◌, inl, inr, ⊎_elim, ℕ, ◌<◌, ◌==◌, ◌&&◌, List, Option, Some, None, sym, ap, ◌∙◌, subst}
use Rattle.st_base.specs.declared.chain.Chain.{Chain}
use Rattle.st_base.specs.declared.limits.Limits.{Limits}
use Rattle.st_words.specs.declared.view.CellWord.TheVariants.{Owner, Standing}
use Rattle.st_words.specs.declared.view.Slot.{Slot}
use Rattle.st_words.specs.declared.view.Slot.TheVariants.{Cell, Mail}
use Rattle.st_words.specs.declared.view.Known.{Known}
use Rattle.st_words.specs.declared.view.Cargo.{Cargo}
use Rattle.st_words.specs.declared.view.View.{View}
use Rattle.st_words.specs.Encodings.{is_counter, ready}
use Rattle.st_words.specs.Steps.{Step, CellStore, CellChange, Draw, StopSet, RequestChange, OutStore, SlotTake, SlotPut, Answer, Done, Number, Looked, Took, Can}
use Rattle.st_words.specs.Views.{view_after, Does, in_hand, no_cargo}
use Rattle.st_words.specs.Plain.{stopped}
use Rattle.st_words.specs.Careful.{Meaning, TopIs, Careful}
use Rattle.st_model.specs.declared.program.Program.{Program}
use Rattle.st_model.specs.Memory.{Data}
use Rattle.st_model.specs.Heap.{Heap, IsNumbered}
use Rattle.st_world.specs.Functions.{put}
use Rattle.st_world.specs.World.{World, slot_of, cargo_of, with_chain, Finds, world_after}
use Rattle.st_made.specs.Items.{MeansItems, IsDrawing}
use Rattle.st_made.specs.Events.{PrintsWord}
use Rattle.st_made.specs.Runs.{known_of}
use Rattle.st_threads.specs.Behind.{Rests, owner_behind, StepBehind}
use Rattle.st_threads.specs.Holding.{Threads}
use Rattle.st_threads.proofs.ViewsAfter.{put_chains}
use Rattle.st_limits.specs.Stopping.{MeansLimits, Limiting, Within}
use Rattle.st_limits.specs.Laws.{IsKnown, Kept}
use Rattle.st_limits.proofs.ViewsAfter.{SameView, IsQuiet, pending_after, same_after}
use Rattle.st_limits.proofs.Parts.{top_case}
use Rattle.st_limits.proofs.Stops.{stop_means}
use Rattle.st_limits.proofs.Items.{rests, goes_quiet, by_change, by_owner, by_draw, by_stop, stopped_means}
use Rattle.st_limits.proofs.Chains.{by_standing, by_take, by_put}

module _ (program : Program) (source : Data) (limits : Limits) (h0 h h' : Heap) (x : World) (w : ℕ) (T : Threads h x) (L : Within program source limits h0 h x) where
  abbrev u : View
  u = x.view w

  abbrev On : Heap → (Slot → Option Chain) → (Slot → Cargo) → View → Type 0
  On k slot cargo v = Limiting program source limits h0 k x.workers x.cells x.drawn x.stop slot cargo (put x.view w v)

  abbrev After : View → Type 0
  After v = On h' (slot_of x) (cargo_of x) v

  took_view : (slot : Slot) (o : Option Chain) (cargo : Cargo) (v : View) → Finds x w (SlotTake slot) (Took o cargo) → Does u (SlotTake slot) (Took o cargo) v → Rests program source h u v h' → let y = with_chain slot None no_cargo x in On h' (slot_of y) (cargo_of y) v
  unfolding view_after
  took_view slot o cargo v f d b =
      let z = pending_after u (SlotTake slot) (Took o cargo) tt in
      by_take program source limits h0 h h' x w T L slot o cargo v f.0 f.1 (ap (λ (y : View). y.drawn) d.1 ∙ z.0) (ap (λ (y : View). y.child) d.1 ∙ z.1) (ap (λ (y : View). y.chains) d.1) b

  put_view : (m : Meaning) (slot : Slot) (chain : Chain) (cargo : Cargo) (v : View) → Careful m u (SlotPut slot chain cargo) → IsKnown x w u (SlotPut slot chain cargo) → Does u (SlotPut slot chain cargo) Done v → Rests program source h u v h' → let y = with_chain slot (Some chain) cargo x in On h' (slot_of y) (cargo_of y) v
  unfolding view_after
  put_view m slot chain cargo v careful known d b =
      let z = pending_after u (SlotPut slot chain cargo) Done tt in
      by_put program source limits h0 h h' x w T L slot chain cargo v known.0 known.1 careful.puts.carries (ap (λ (y : View). y.drawn) d.1 ∙ z.0) (ap (λ (y : View). y.child) d.1 ∙ z.1) (ap (λ (y : View). y.chains) d.1 ∙ put_chains slot chain cargo u) b

  draw_view : (m : Meaning) (n : ℕ) (v : View) → MeansItems program source m → Careful m u Draw → IsKnown x w u Draw → Does u Draw (Number n) v → Rests program source h u v h' → Within program source limits h0 h' (world_after x w Draw (Number n) v)
  unfolding view_after
  draw_view m n v means careful known d b =
      let c = careful.draws in
      let t = top_case (λ (t : Known). m.forks t ⊎ m.counts t) u.threads c.2 in
      let drawing : IsDrawing program source t.0 = ⊎_elim (λ f. inl (means.forks t.0 f)) (λ k. inr (means.counts t.0 k)) t.3 in
      subst (λ (k : ℕ). Limiting program source limits h0 h' x.workers x.cells k x.stop (slot_of x) (cargo_of x) (put x.view w v)) (sym known)
      (by_draw program source limits h0 h h' x w T L v n c.0 c.1 (subst (λ (ts : List Known). TopIs ts (IsDrawing program source)) (sym t.2) drawing) (ap (λ (y : View). y.drawn) d.1) (ap (λ (y : View). y.child) d.1) (ap (λ (y : View). known_of y.chains) d.1) b)

  owner_view : (c n : ℕ) (v : View) → Can u (CellStore c Owner n) → Does u (CellStore c Owner n) Done v → owner_behind program source h (is_counter n) n u v h' → After v
  unfolding view_after
  owner_view c n v can d b = by_owner program source limits h0 h h' x w T L (is_counter n) c n v (ap (λ (y : View). y.drawn) d.1) (ap (λ (y : View). y.child) d.1) (ap (λ (y : View). known_of y.chains) d.1) can.1.0 b

  stop_view : (m : Meaning) (code n : ℕ) (v : View) → MeansLimits program source limits m → IsNumbered h0 → w < x.workers → Careful m u (StopSet code) → IsKnown x w u (StopSet code) → SameView u v → Rests program source h u v h' → Within program source limits h0 h' (world_after x w (StopSet code) (Number n) v)
  stop_view m code n v means numbered less careful known s b =
      let may = ⊎_elim (λ k. inl (means u code k)) (λ k. inr k) careful.stops in
      by_stop program source limits h0 h h' x w T L v (stopped (n == 0) code x.stop) (rests program source limits h0 h h' x w T L v s b) (stopped_means program source limits h0 h h' x w T L (n == 0) code (stop_means program source limits h0 h x.workers x.cells x.drawn x.stop (slot_of x) (cargo_of x) x.view L T numbered w code less known.0 known.1 known.2 may))

  quiet : (s : Step) (a : Answer) (v : View) → IsQuiet s → Does u s a v → SameView u v
  quiet s a v q d = subst (SameView u) (sym d.1) (same_after u s a q)

  pub kept : (m : Meaning) (s : Step) (a : Answer) (v : View) → MeansItems program source m → MeansLimits program source limits m → IsNumbered h0 → w < x.workers → Can u s → Careful m u s → IsKnown x w u s → Finds x w s a → Does u s a v → StepBehind program source h u s a v h' → Within program source limits h0 h' (world_after x w s a v)
  kept m (CellChange c old new) (Number n) v items means numbered less can careful known f d b = by_change program source limits h0 h h' x w T L (n == old) c new v (quiet (CellChange c old new) (Number n) v tt d) b
  kept m (CellStore c Owner n) Done v items means numbered less can careful known f d b = owner_view c n v can d b
  kept m (CellStore c Owner n) (Number k) v items means numbered less can careful known f d b = absurd f
  kept m (CellStore c Owner n) (Looked k cargo) v items means numbered less can careful known f d b = absurd f
  kept m (CellStore c Owner n) (Took o cargo) v items means numbered less can careful known f d b = absurd f
  kept m (CellStore c Standing n) a v items means numbered less can careful known f d b = by_standing program source limits h0 h h' x w T L ((n == ready) && in_hand c u.hand) c n v (quiet (CellStore c Standing n) a v tt d) b
  kept m (OutStore i n) a v items means numbered less can careful known f d b = goes_quiet program source limits h0 h h' x w T L (PrintsWord i n) v (quiet (OutStore i n) a v tt d) b b.of.sort.child b.of.sort.counters
  kept m Draw (Number n) v items means numbered less can careful known f d b = draw_view m n v items careful known d b
  kept m Draw Done v items means numbered less can careful known f d b = absurd f
  kept m Draw (Looked k cargo) v items means numbered less can careful known f d b = absurd f
  kept m Draw (Took o cargo) v items means numbered less can careful known f d b = absurd f
  kept m (StopSet code) (Number n) v items means numbered less can careful known f d b = stop_view m code n v means numbered less careful known (quiet (StopSet code) (Number n) v tt d) b
  kept m (RequestChange at old new) (Number n) v items means numbered less can careful known f d b = rests program source limits h0 h h' x w T L v (quiet (RequestChange at old new) (Number n) v tt d) b
  kept m (SlotTake (Cell c)) (Took o cargo) v items means numbered less can careful known f d b = took_view (Cell c) o cargo v f d b
  kept m (SlotTake (Mail at)) (Took o cargo) v items means numbered less can careful known f d b = took_view (Mail at) o cargo v f d b
  kept m (SlotTake slot) Done v items means numbered less can careful known f d b = absurd f
  kept m (SlotTake slot) (Number k) v items means numbered less can careful known f d b = absurd f
  kept m (SlotTake slot) (Looked k cargo) v items means numbered less can careful known f d b = absurd f
  kept m (SlotPut (Cell c) chain cargo) Done v items means numbered less can careful known f d b = put_view m (Cell c) chain cargo v careful known d b
  kept m (SlotPut (Mail at) chain cargo) Done v items means numbered less can careful known f d b = put_view m (Mail at) chain cargo v careful known d b
  kept m (SlotPut slot chain cargo) (Number k) v items means numbered less can careful known f d b = absurd f
  kept m (SlotPut slot chain cargo) (Looked k load) v items means numbered less can careful known f d b = absurd f
  kept m (SlotPut slot chain cargo) (Took o load) v items means numbered less can careful known f d b = absurd f
  kept m s a v items means numbered less can careful known f d b = rests program source limits h0 h h' x w T L v (quiet s a v tt d) b

pub step_kept : (m : Meaning) → Kept m
step_kept m program source limits h0 h h' x w s a v items means numbered T L less can careful known f d b = kept program source limits h0 h h' x w T L m s a v items means numbered less can careful known f d b
