-- Steps of a worker without an item, and with one: stays and rests (no item is made), goes_quiet and by_change (an item that draws nothing), by_owner (a cell is named for a counter or a
-- child), by_draw (a number is drawn), by_stop (a stop code is written).
use Rattle.std.proofs.Common.{◌≡◌, ◌≢◌, inl, inr, ⊎_elim, ℕ, ◌+◌, Bool, true, false, cond, not, ◌==◌, List, [], ◌∷◌, ◌++◌, Option, None, refl, sym, ap, ◌∙◌, subst, arith, eq-eqb}
use Rattle.std.specs.List.{Contains}
use Rattle.st_base.specs.declared.chain.Chain.{Chain}
use Rattle.st_base.specs.declared.limits.Limits.{Limits}
use Rattle.st_words.specs.declared.view.Slot.{Slot}
use Rattle.st_words.specs.declared.view.Known.{Known}
use Rattle.st_words.specs.declared.view.Cargo.{Cargo}
use Rattle.st_words.specs.declared.view.View.{View}
use Rattle.st_words.specs.Encodings.{full_word, head_in}
use Rattle.st_words.specs.Views.{owner_seen, counts_cell, without_number, child_named}
use Rattle.st_words.specs.Plain.{stopped}
use Rattle.st_words.specs.Careful.{TopIs}
use Rattle.st_words.proofs.Lists.{contains_none, contains_later, contains_case}
use Rattle.st_model.specs.declared.program.Program.{Program}
use Rattle.st_model.specs.Memory.{Data}
use Rattle.st_model.specs.Heap.{Path, Heap, Change}
use Rattle.st_world.specs.Functions.{put}
use Rattle.st_world.specs.World.{World, slot_of, cargo_of}
use Rattle.st_made.specs.Items.{IsDrawing, went, ending}
use Rattle.st_made.specs.Events.{NoItem, AddsTo, MakesCounter, GoesOn}
use Rattle.st_made.specs.Runs.{all_known}
use Rattle.st_made.proofs.MadeRuns.{at_once}
use Rattle.st_threads.specs.Behind.{heap_on, Rests, Ends, Goes, future_behind, counter_behind, state_behind, change_behind, owner_behind}
use Rattle.st_threads.specs.Holding.{Threads}
use Rattle.st_threads.proofs.ViewsAfter.{SameTurn}
use Rattle.st_limits.specs.Stopping.{IsBegun, HasPending, DrawsFor, StopMeans, Limiting, Within}
use Rattle.st_limits.proofs.ViewsAfter.{SamePending, SameView}
use Rattle.st_limits.proofs.Changes as changes
use Rattle.st_limits.proofs.Parts.{top_case, begun_here, begun_else, not_drawing}

-- the one number goes out
without_one : (c d : ℕ) (ds : List ℕ) → ds ≡ d ∷ [] → Contains ds c → without_number c ds ≡ []
without_one c d ds e m =
    let same : d ≡ c = ⊎_elim (λ (s : d ≡ c). s) (λ n. absurd (contains_none c n)) (contains_case c d [] (subst (λ (xs : List ℕ). Contains xs c) e m)) in
    ap (without_number c) e ∙ ap (λ (b : Bool). cond (not b) (d ∷ []) []) (eq-eqb d c same)

module _ (program : Program) (source : Data) (limits : Limits) (h0 h h' : Heap) (x : World) (w : ℕ) (T : Threads h x) (L : Within program source limits h0 h x) where
  abbrev u : View
  u = x.view w

  abbrev On : Heap → (Slot → Option Chain) → (Slot → Cargo) → View → Type 0
  On k slot cargo v = Limiting program source limits h0 k x.workers x.cells x.drawn x.stop slot cargo (put x.view w v)

  abbrev After : View → Type 0
  After v = On h' (slot_of x) (cargo_of x) v

  abbrev Begun : View → Path → Type 0
  Begun v p = IsBegun program source (slot_of x) (cargo_of x) (put x.view w v) p

  -- ---- what is pending

  pending_back : (v : View) → SamePending u v → HasPending program source v → HasPending program source u
  pending_back v s p = ⊎_elim (λ d. inl (λ e. d (s.0 ∙ e))) (λ c. inr (λ e. c (s.1 e))) p

  pending_on : (v : View) → SamePending u v → HasPending program source u → HasPending program source v
  pending_on v s p = ⊎_elim (λ d. inl (λ e. d (sym s.0 ∙ e))) (λ c. inr (λ e. c (s.2 e))) p

  -- no item is made, and what is begun is where it was or has gone
  pub stays : (slot : Slot → Option Chain) (cargo : Slot → Cargo) (v : View) → SamePending u v → NoItem u v → ((p : Path) → IsBegun program source (slot_of x) (cargo_of x) x.view p → IsBegun program source slot cargo (put x.view w v) p) → On h slot cargo v
  stays slot cargo v s n begun =
      let z = L.numbers w in
      changes.still program source limits h0 h x.workers x.cells x.drawn x.stop (slot_of x) (cargo_of x) x.view L w slot cargo v
      record {
        items_same = n.items;
        bytes_same = n.bytes;
        begun = begun;
        turns = λ p some is. (pending_on v s some, subst (λ (ts : List Known). TopIs ts (DrawsFor program source p)) (sym n.threads) is);
        pending = λ some. subst (λ (ts : List Known). TopIs ts (IsDrawing program source)) (sym n.threads) (z.pending (pending_back v s some));
        one = ⊎_elim (λ d. inl (s.0 ∙ d)) (λ c. inr (c.0, s.0 ∙ c.1, s.1 c.2)) z.one;
      }

  same_known : (v : View) → SameTurn u v → NoItem u v → all_known v ≡ all_known u
  same_known v s n = λ i. n.threads i ++ s i

  pub begun_same : (v : View) → SameTurn u v → NoItem u v → (p : Path) → IsBegun program source (slot_of x) (cargo_of x) x.view p → Begun v p
  begun_same v s n p b = begun_else program source (slot_of x) (cargo_of x) x.view w v p (λ t m e flag. begun_here program source (slot_of x) (cargo_of x) x.view w v t (subst (λ (ts : List Known). Contains ts t) (sym (same_known v s n)) m) flag) b

  pub rests : (v : View) → SameView u v → Rests program source h u v h' → After v
  rests v s b = subst (λ (k : Heap). On k (slot_of x) (cargo_of x) v) (sym b.heap) (stays (slot_of x) (cargo_of x) v s.0 b.of (begun_same v s.1 b.of))

  -- ---- items

  was_drawing : (v : View) (top : Known) (below : List Known) → u.threads ≡ top ∷ below → SamePending u v → HasPending program source v → IsDrawing program source top
  was_drawing v top below is s some = subst (λ (ts : List Known). TopIs ts (IsDrawing program source)) is ((L.numbers w).pending (pending_back v s some))

  goes : (Is : Known → Change → Type 0) (v : View) → SameTurn u v → (b : GoesOn program source u v Is) → (HasPending program source v → ⊥) → On (heap_on h b.top b.change) (slot_of x) (cargo_of x) v
  goes Is v s b none =
      let bytes = b.bytes in
      changes.item program source limits h0 h x.workers x.cells x.drawn x.stop (slot_of x) (cargo_of x) x.view L w T b.top b.below b.is v b.change (at_once program source h b.top b.change b.can)
      (λ t m. subst (λ (ts : List Known). Contains ts t) (sym b.threads) (contains_later t (went b.top b.change.own) b.below m)) s b.items (omega arith) none

  pub goes_quiet : (Is : Known → Change → Type 0) (v : View) → SameView u v → (b : Goes program source h u v Is h') → b.of.change.child ≡ None → b.of.change.own.counters ≡ b.of.top.thread.counters → After v
  goes_quiet Is v s b child counters =
      let of = b.of in
      subst (λ (k : Heap). On k (slot_of x) (cargo_of x) v) (sym b.heap)
      (goes Is v s.1 of (λ some. not_drawing program source h of.top of.change (at_once program source h of.top of.change of.can) child counters (was_drawing v of.top of.below of.is s.0 some)))

  ends : (c : ℕ) (v : View) → SameView u v → Ends program source h c u v h' → After v
  ends c v s b =
      let of = b.of in
      let change : Change = ending of.top.thread of.value in
      let enabled = at_once program source h of.top change of.can in
      let bytes = of.bytes in
      subst (λ (k : Heap). On k (slot_of x) (cargo_of x) v) (sym b.heap)
      (changes.item program source limits h0 h x.workers x.cells x.drawn x.stop (slot_of x) (cargo_of x) x.view L w T of.top of.below of.is v change enabled
      (λ t m. subst (λ (ts : List Known). Contains ts t) (sym of.threads) m) s.1 of.items (omega arith)
      (λ some. not_drawing program source h of.top change enabled refl refl (was_drawing v of.top of.below of.is s.0 some)))

  by_future : (b : Bool) (c : ℕ) (v : View) → SameView u v → future_behind program source h b c u v h' → After v
  by_future true c v s b = ends c v s b
  by_future false c v s b = rests v s b

  by_counter : (b : Bool) (c : ℕ) (v : View) → SameView u v → counter_behind program source h b c u v h' → After v
  by_counter true c v s b = goes_quiet (AddsTo u c) v s b b.of.sort.child b.of.sort.counters
  by_counter false c v s b = rests v s b

  by_state : (b : Bool) (c new : ℕ) (v : View) → SameView u v → state_behind program source h b c new u v h' → After v
  by_state true c new v s b = by_counter (head_in new == 0) c v s b
  by_state false c new v s b = by_future (new == full_word) c v s b

  pub by_change : (b : Bool) (c new : ℕ) (v : View) → SameView u v → change_behind program source h b c new u v h' → After v
  by_change true c new v s b = by_state (counts_cell (owner_seen c u.owners)) c new v s b
  by_change false c new v s b = rests v s b

  -- ---- a cell is named

  -- the drawn number was the one
  left_one : (c : ℕ) → Contains u.drawn c → (without_number c u.drawn ≡ []) × (u.child ≡ None)
  left_one c m = ⊎_elim
      (λ (e : u.drawn ≡ []). absurd (contains_none c (subst (λ (ds : List ℕ). Contains ds c) e m)))
      (λ (d : (c : ℕ) × (u.drawn ≡ c ∷ []) × (u.child ≡ None)). (without_one c d.0 u.drawn d.1 m, d.2))
      (L.numbers w).one

  pub by_owner : (b : Bool) (c n : ℕ) (v : View) → v.drawn ≡ without_number c u.drawn → v.child ≡ child_named b c u.child → SameTurn u v → Contains u.drawn c → owner_behind program source h b n u v h' → After v
  by_owner true c n v drawn child s m b =
      let left = left_one c m in
      subst (λ (k : Heap). On k (slot_of x) (cargo_of x) v) (sym b.heap) (goes (MakesCounter n) v s b.of (λ some. ⊎_elim (λ d. d (drawn ∙ left.0)) (λ k. k (child ∙ left.1)) some))
  by_owner false c n v drawn child s m b =
      let z = L.numbers w in
      let e = b.of in
      let was : HasPending program source u = inl (λ none. contains_none c (subst (λ (ds : List ℕ). Contains ds c) none m)) in
      let on : (P : Known → Type 0) → TopIs u.threads P → TopIs v.threads P = λ P k. subst (λ (ts : List Known). TopIs ts P) (sym e.threads) k in
      subst (λ (k : Heap). On k (slot_of x) (cargo_of x) v) (sym b.heap)
      (changes.still program source limits h0 h x.workers x.cells x.drawn x.stop (slot_of x) (cargo_of x) x.view L w (slot_of x) (cargo_of x) v
      record {
        items_same = e.items;
        bytes_same = e.bytes;
        begun = begun_same v s e;
        turns = λ p some is. (inr (λ none. let no : ⊥ = cc in no), on (DrawsFor program source p) is);
        pending = λ some. on (IsDrawing program source) (z.pending was);
        one = inl (drawn ∙ (left_one c m).0);
      })

  -- ---- a number is drawn

  pub by_draw : (v : View) (n : ℕ) → u.drawn ≡ [] → u.child ≡ None → TopIs u.threads (IsDrawing program source) → v.drawn ≡ n ∷ u.drawn → v.child ≡ u.child → SameTurn u v → Rests program source h u v h' → Limiting program source limits h0 h' x.workers x.cells (x.drawn + 1) x.stop (slot_of x) (cargo_of x) (put x.view w v)
  by_draw v n none no_child top drew child s b =
      let t = top_case (IsDrawing program source) u.threads top in
      let e = b.of in
      subst (λ (k : Heap). Limiting program source limits h0 k x.workers x.cells (x.drawn + 1) x.stop (slot_of x) (cargo_of x) (put x.view w v)) (sym b.heap)
      (changes.draws program source limits h0 h x.workers x.cells x.drawn x.stop (slot_of x) (cargo_of x) x.view L w T t.0 t.1 t.2 v n none no_child t.3 e.threads e.items e.bytes s drew child)

  -- ---- a stop code is written, where none was found

  pub by_stop : (v : View) (stop : ℕ) → After v → (stop ≢ 0 → StopMeans program source limits h0 x.workers stop) → Limiting program source limits h0 h' x.workers x.cells x.drawn stop (slot_of x) (cargo_of x) (put x.view w v)
  by_stop v stop M means = record {
    steps = M.steps;
    run = M.run;
    begun = M.begun;
    drawing = M.drawing;
    sized = M.sized;
    are_begun = M.are_begun;
    are_drawing = M.are_drawing;
    numbers = M.numbers;
    draws = M.draws;
    stops = means;
  }

  pub stopped_means : (b : Bool) (code : ℕ) → StopMeans program source limits h0 x.workers code → stopped b code x.stop ≢ 0 → StopMeans program source limits h0 x.workers (stopped b code x.stop)
  stopped_means true code means some = means
  stopped_means false code means some = L.stops some
