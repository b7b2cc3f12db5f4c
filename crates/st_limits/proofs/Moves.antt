-- What a worker does between its steps keeps that its numbers are within the run: move_kept.
use Rattle.std.proofs.Common.{◌≡◌, inl, inr, ⊎_elim, ℕ, ◌+◌, List, [], ◌∷◌, ◌++◌, None, sym, ap, ◌∙◌, subst, arith}
use Rattle.std.specs.List.{Contains}
use Rattle.std.proofs.lemmas.List.{append_assoc}
use Rattle.std.proofs.lemmas.List.Elements.{Contains-append_left, Contains-append_right, Contains-append_cases}
use Rattle.st_base.specs.declared.limits.Limits.{Limits}
use Rattle.st_words.specs.declared.view.Known.{Known}
use Rattle.st_words.specs.declared.view.Carried.{Carried}
use Rattle.st_words.specs.declared.view.View.{View}
use Rattle.st_words.specs.Careful.{TopIs}
use Rattle.st_words.specs.Views.{without_chain}
use Rattle.st_words.proofs.Lists.{contains_here, contains_later, contains_case}
use Rattle.st_model.specs.declared.program.Program.{Program}
use Rattle.st_model.specs.Memory.{Data}
use Rattle.st_model.specs.Heap.{Heap}
use Rattle.st_model.specs.Limits.{frame_made}
use Rattle.st_world.specs.Functions.{put}
use Rattle.st_world.specs.World.{World, slot_of, cargo_of}
use Rattle.st_made.specs.Items.{next_move, IsDrawing, went, born, child_path}
use Rattle.st_made.specs.Moves.{Begins, MakesItem, MakesFork, Suspends, Gives, Restarts, Exports}
use Rattle.st_made.specs.Runs.{all_known, known_of, HasSeen}
use Rattle.st_made.proofs.MadeRuns.{at_once}
use Rattle.st_made.proofs.Running.{enough}
use Rattle.st_threads.specs.Behind.{heap_on, IsStill, MoveBehind}
use Rattle.st_threads.specs.Holding.{Threads}
use Rattle.st_threads.specs.Laws.{AreSingle}
use Rattle.st_limits.specs.Stopping.{HasPending, DrawsFor, Limiting, Within}
use Rattle.st_limits.specs.Laws.{MovesKept}
use Rattle.st_limits.proofs.Turns.{turn_case, top_above}
use Rattle.st_limits.proofs.Changes as changes
use Rattle.st_limits.proofs.Parts.{begun_here, begun_else, not_drawing}

module _ (program : Program) (source : Data) (limits : Limits) (h0 h : Heap) (x : World) (w : ℕ) (T : Threads h x) (L : Within program source limits h0 h x) where
  abbrev u : View
  u = x.view w

  abbrev After : Heap → View → Type 0
  After h' v = Limiting program source limits h0 h' x.workers x.cells x.drawn x.stop (slot_of x) (cargo_of x) (put x.view w v)

  -- ---- no item is made

  -- the threads go from one place of the view to another
  turned : (v : View) → v.items ≡ u.items → v.frame_bytes ≡ u.frame_bytes → v.drawn ≡ u.drawn → v.child ≡ u.child → ((t : Known) → Contains (all_known u) t → Contains (all_known v) t) → (HasPending program source u → (P : Known → Type 0) → TopIs u.threads P → TopIs v.threads P) → After h v
  turned v items bytes drawn child stay top =
      let z = L.numbers w in
      let back : HasPending program source v → HasPending program source u = λ p. ⊎_elim (λ d. inl (λ e. d (drawn ∙ e))) (λ c. inr (λ e. c (child ∙ e))) p in
      changes.still program source limits h0 h x.workers x.cells x.drawn x.stop (slot_of x) (cargo_of x) x.view L w (slot_of x) (cargo_of x) v
      record {
        items_same = items;
        bytes_same = bytes;
        begun = λ p b. begun_else program source (slot_of x) (cargo_of x) x.view w v p (λ t m e flag. begun_here program source (slot_of x) (cargo_of x) x.view w v t (stay t m) flag) b;
        turns = λ p some is. (⊎_elim (λ d. inl (λ e. d (sym drawn ∙ e))) (λ c. inr (λ e. c (sym child ∙ e))) some, top some (DrawsFor program source p) is);
        pending = λ some. top (back some) (IsDrawing program source) (z.pending (back some));
        one = ⊎_elim (λ d. inl (drawn ∙ d)) (λ c. inr (c.0, drawn ∙ c.1, child ∙ c.2)) z.one;
      }

  suspends : (v : View) → Suspends program source u v → After h v
  suspends v b =
      let f : View → List Known = λ (y : View). y.threads in
      let ks = known_of u.chains in
      let after = b.after in
      let is : all_known u ≡ (b.top ∷ b.rest) ++ ks = ap (λ (ts : List Known). ts ++ ks) b.may.is in
      let all : all_known v ≡ b.rest ++ b.top ∷ ks = ap all_known after in
      turned v (ap (λ (y : View). y.items) after) (ap (λ (y : View). y.frame_bytes) after) (ap (λ (y : View). y.drawn) after) (ap (λ (y : View). y.child) after)
      (λ t m. subst (λ (ts : List Known). Contains ts t) (sym all) (⊎_elim
      (λ (e : b.top ≡ t). Contains-append_right b.rest (b.top ∷ ks) t (subst (λ (y : Known). Contains (b.top ∷ ks) y) e (contains_here b.top ks)))
      (λ (n : Contains (b.rest ++ ks) t). ⊎_elim
      (λ k. Contains-append_left b.rest (b.top ∷ ks) t k)
      (λ k. Contains-append_right b.rest (b.top ∷ ks) t (contains_later t b.top ks k))
      (Contains-append_cases b.rest ks t n))
      (contains_case t b.top (b.rest ++ ks) (subst (λ (ts : List Known). Contains ts t) is m))))
      (λ some P k. absurd (⊎_elim (λ d. d b.may.none_drawn) (λ c. c b.may.no_child) some))

  gives : (v : View) → Gives program source u v → After h v
  gives v b =
      let ks = known_of u.chains in
      let after = b.after in
      let is : all_known u ≡ b.above ++ b.bottom ∷ ks = ap (λ (ts : List Known). ts ++ ks) b.may.is ∙ append_assoc b.above (b.bottom ∷ []) ks in
      let all : all_known v ≡ b.above ++ b.bottom ∷ ks = ap all_known after in
      let threads : v.threads ≡ b.above = ap (λ (y : View). y.threads) after in
      turned v (ap (λ (y : View). y.items) after) (ap (λ (y : View). y.frame_bytes) after) (ap (λ (y : View). y.drawn) after) (ap (λ (y : View). y.child) after)
      (λ t m. subst (λ (ts : List Known). Contains ts t) (is ∙ sym all) m)
      (λ some P k. subst (λ (ts : List Known). TopIs ts P) (sym threads) (top_above P b.above (b.bottom ∷ []) b.may.others (subst (λ (ts : List Known). TopIs ts P) b.may.is k)))

  restarts : (v : View) → AreSingle u → Restarts program source u v → After h v
  restarts v single b =
      let c = b.chain.known.note.cell in
      let left = known_of (without_chain c u.chains) in
      let after = b.after in
      let is : all_known u ≡ known_of u.chains = ap (λ (ts : List Known). ts ++ known_of u.chains) b.may.none in
      let all : all_known v ≡ b.chain.known ∷ left = ap all_known after in
      turned v (ap (λ (y : View). y.items) after) (ap (λ (y : View). y.frame_bytes) after) (ap (λ (y : View). y.drawn) after) (ap (λ (y : View). y.child) after)
      (λ t m. subst (λ (ts : List Known). Contains ts t) (sym all) (⊎_elim
      (λ (k : (y : Carried) × Contains u.chains y × (y.known ≡ t) × (y.known.note.cell ≡ c)).
      let same : y_known b.chain ≡ t = ap y_known (sym (single k.0 b.chain k.1 b.may.carried k.3)) ∙ k.2 in
      subst (λ (z : Known). Contains (b.chain.known ∷ left) z) same (contains_here b.chain.known left))
      (λ (n : Contains left t). contains_later t b.chain.known left n)
      (turn_case c u.chains t (subst (λ (ts : List Known). Contains ts t) is m))))
      (λ some P k. absurd (subst (λ (ts : List Known). TopIs ts P) b.may.none k))
    where
      y_known : Carried → Known
      y_known y = y.known

  exports : (v : View) → Exports program source u v → After h v
  exports v b =
      let after = b.after in
      let all : all_known v ≡ all_known u = ap all_known after in
      let threads : v.threads ≡ u.threads = ap (λ (y : View). y.threads) after in
      turned v (ap (λ (y : View). y.items) after) (ap (λ (y : View). y.frame_bytes) after) (ap (λ (y : View). y.drawn) after) (ap (λ (y : View). y.child) after)
      (λ t m. subst (λ (ts : List Known). Contains ts t) (sym all) m)
      (λ some P k. subst (λ (ts : List Known). TopIs ts P) (sym threads) k)

  begins : (v : View) → Begins program source u v → After h v
  begins v b = changes.begins program source limits h0 h x.workers x.cells x.drawn x.stop (slot_of x) (cargo_of x) x.view L w T b.top b.rest b.is v b.going b.not_yet b.after

  stills : (v : View) → AreSingle u → IsStill program source h u v → After h v
  stills v single (inl b) = begins v b
  stills v single (inr (inl b)) = suspends v b
  stills v single (inr (inr (inl b))) = gives v b
  stills v single (inr (inr (inr (inl b)))) = restarts v single b
  stills v single (inr (inr (inr (inr b)))) = exports v b

  -- ---- an item

  makes : (v : View) → HasSeen h u → (b : MakesItem program source u v) → After (heap_on h b.top b.change) v
  makes v seen b =
      let after = b.after in
      let enabled = enough h u (next_move program source b.top) b.change seen b.can in
      let threads : v.threads ≡ went b.top b.change.own ∷ b.rest = ap (λ (y : View). y.threads) after in
      let bytes : v.frame_bytes ≡ u.frame_bytes + frame_made program b.top.path b.top.thread = ap (λ (y : View). y.frame_bytes) after in
      let drawn : v.drawn ≡ u.drawn = ap (λ (y : View). y.drawn) after in
      let child : v.child ≡ u.child = ap (λ (y : View). y.child) after in
      changes.item program source limits h0 h x.workers x.cells x.drawn x.stop (slot_of x) (cargo_of x) x.view L w T b.top b.rest b.is v b.change enabled
      (λ t m. subst (λ (ts : List Known). Contains ts t) (sym threads) (contains_later t (went b.top b.change.own) b.rest m))
      (ap (λ (y : View). known_of y.chains) after) (ap (λ (y : View). y.items) after) (omega (arith, bytes))
      (λ some.
      let was : HasPending program source u = ⊎_elim (λ d. inl (λ e. d (drawn ∙ e))) (λ c. inr (λ e. c (child ∙ e))) some in
      not_drawing program source h b.top b.change enabled b.private.child b.private.counters (subst (λ (ts : List Known). TopIs ts (IsDrawing program source)) b.is ((L.numbers w).pending was)))

  forks : (v : View) → (b : MakesFork program source u v) → After (heap_on h b.top b.change) v
  forks v b =
      let after = b.after in
      let enabled = at_once program source h b.top b.change b.can in
      let bytes : v.frame_bytes ≡ u.frame_bytes = ap (λ (y : View). y.frame_bytes) after in
      let drawn : v.drawn ≡ u.drawn = ap (λ (y : View). y.drawn) after in
      let child : v.child ≡ None = ap (λ (y : View). y.child) after in
      changes.item program source limits h0 h x.workers x.cells x.drawn x.stop (slot_of x) (cargo_of x) x.view L w T b.top b.rest b.is v b.change enabled
      (λ t m. subst (λ (y : View). Contains y.threads t) (sym after) (contains_later t (born b.cell (child_path b.top) b.child) (went b.top b.change.own ∷ b.rest) (contains_later t (went b.top b.change.own) b.rest m)))
      (ap (λ (y : View). known_of y.chains) after) (ap (λ (y : View). y.items) after) (omega (arith, bytes))
      (λ some. ⊎_elim (λ d. d (drawn ∙ b.may.none_drawn)) (λ c. c child) some)

  pub moved : (h' : Heap) (v : View) → HasSeen h u → AreSingle u → MoveBehind program source h u v h' → After h' v
  moved h' v seen single (inl b) = subst (λ (k : Heap). After k v) (sym b.1) (stills v single b.0)
  moved h' v seen single (inr (inl b)) = subst (λ (k : Heap). After k v) (sym b.heap) (makes v seen b.of)
  moved h' v seen single (inr (inr b)) = subst (λ (k : Heap). After k v) (sym b.heap) (forks v b.of)

pub move_kept : MovesKept
move_kept program source limits h0 h h' x w u T L less seen single b = moved program source limits h0 h x w T L h' u seen single b
