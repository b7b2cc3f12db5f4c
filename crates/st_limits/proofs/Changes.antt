-- The numbers of workers are within the run after a change of one worker's view: still (no item is made), begins (the next item of its top thread is begun), draws (a number is
-- drawn), and item (an item of its top thread is made, and the run is one step longer).
use Rattle.std.proofs.Common.{◌≡◌, ◌≢◌, inl, inr, ⊎_elim, ℕ, ◌+◌, ◌≤◌, true, false, List, [], ◌∷◌, ◌++◌, length, length-append, Option, Some, None, refl, sym, ap, ◌∙◌, subst, arith}
use Rattle.std.specs.List.{Contains}
use Rattle.std.proofs.lemmas.List.Elements.{Contains-append_left, Contains-append_right, Contains-append_cases}
use mathlib.Core.Logic.{dite}
use native.Mathlib.Decide.{ℕ_discrete}
use Rattle.st_base.specs.declared.chain.Chain.{Chain}
use Rattle.st_base.specs.declared.limits.Limits.{Limits}
use Rattle.st_words.specs.declared.view.Slot.{Slot}
use Rattle.st_words.specs.declared.view.Known.{Known}
use Rattle.st_words.specs.declared.view.Cargo.{Cargo}
use Rattle.st_words.specs.declared.view.View.{View}
use Rattle.st_words.specs.Careful.{TopIs}
use Rattle.st_words.proofs.Lists.{contains_here, contains_later}
use Rattle.st_model.specs.declared.program.Program.{Program}
use Rattle.st_model.specs.Memory.{Data}
use Rattle.st_model.specs.Heap.{Path, Heap, Change, Enabled, HStep}
use Rattle.st_model.specs.Quiet.{IsGoing}
use Rattle.st_model.specs.Limits.{IsMember, IsUnfinished, total, frame_made, cells_drawn}
use Rattle.st_laws.proofs.HeapRuns.{other_stays}
use Rattle.st_world.specs.Functions.{put}
use Rattle.st_made.specs.Items.{next_move, IsDrawing}
use Rattle.st_made.specs.Runs.{all_known, known_of}
use Rattle.st_threads.specs.Behind.{heap_on}
use Rattle.st_threads.specs.Holding.{IsOf, Holding}
use Rattle.st_limits.specs.Stopping.{IsBegun, HasPending, DrawsFor, AreDrawing, IsOnePending, HasNumbers, Limiting}
use Rattle.st_limits.proofs.Paths.{fewer, run_on}
use Rattle.st_limits.proofs.Holders as holders
use Rattle.st_limits.proofs.Parts.{none_or, top_case, draws_one, begun_here, begun_else, drawer_here, drawer_else, numbers_else}

-- ---- the whole

module _ (program : Program) (source : Data) (limits : Limits) (h0 h : Heap) (workers cells drawn stop : ℕ) (slot : Slot → Option Chain) (cargo : Slot → Cargo) (view : ℕ → View) (L : Limiting program source limits h0 h workers cells drawn stop slot cargo view) (w : ℕ) where
  abbrev items : ℕ
  items = length L.steps + length L.begun

  abbrev frames : ℕ
  frames = total program source (frame_made program) h0 L.steps h L.run

  -- no item is made: what is begun stays so, and what is pending
  pub record Still (slot' : Slot → Option Chain) (cargo' : Slot → Cargo) (v : View) : Type 0 where
    pub items_same : v.items ≡ (view w).items
    pub bytes_same : v.frame_bytes ≡ (view w).frame_bytes
    pub begun : (p : Path) → IsBegun program source slot cargo view p → IsBegun program source slot' cargo' (put view w v) p
    pub turns : (p : Path) → HasPending program source (view w) → TopIs (view w).threads (DrawsFor program source p) → HasPending program source v × TopIs v.threads (DrawsFor program source p)
    pub pending : HasPending program source v → TopIs v.threads (IsDrawing program source)
    pub one : IsOnePending program source v

  still_numbers : (slot' : Slot → Option Chain) (cargo' : Slot → Cargo) (v : View) → Still slot' cargo' v → HasNumbers program source items frames v
  still_numbers slot' cargo' v s =
      let z = L.numbers w in
      let i = z.items_within in
      let f = z.bytes_within in
      let a = s.items_same in
      let b = s.bytes_same in
      record { items_within = omega (arith, i, a); bytes_within = omega (arith, f, b); pending = s.pending; one = s.one }

  pub still : (slot' : Slot → Option Chain) (cargo' : Slot → Cargo) (v : View) → Still slot' cargo' v → Limiting program source limits h0 h workers cells drawn stop slot' cargo' (put view w v)
  still slot' cargo' v s = record {
    steps = L.steps;
    run = L.run;
    begun = L.begun;
    drawing = L.drawing;
    sized = L.sized;
    are_begun = record { distinct = L.are_begun.distinct; unfinished = L.are_begun.unfinished; somewhere = λ p m. s.begun p (L.are_begun.somewhere p m) };
    are_drawing = record {
      distinct = L.are_drawing.distinct;
      somewhere = λ p m. drawer_else program source slot cargo view w v p (λ a b. let t = s.turns p a b in drawer_here program source slot cargo view w v p t.0 t.1) (L.are_drawing.somewhere p m);
    };
    numbers = numbers_else program source slot cargo view w v items frames items frames (omega arith) (omega arith) (still_numbers slot' cargo' v s) L.numbers;
    draws = L.draws;
    stops = L.stops;
  }

  module _ (T : Holding h slot cargo view) (top : Known) (below : List Known) (is : (view w).threads ≡ top ∷ below) where
    abbrev of : IsOf h top
    of = holders.top_is h slot cargo view T w top below is

    -- ---- the next item is begun

    not_begun : top.begun ≡ false → IsMember top.path L.begun → ⊥
    not_begun no_yet m = ⊎_elim
        (λ (k : (q : ℕ) × (t : Known) × Contains (all_known (view q)) t × (t.path ≡ top.path) × (t.begun ≡ true)).
        let here = holders.top_in h slot cargo view T w top below is in
        let e = holders.one_view h slot cargo view T k.0 w k.1 top k.2 here k.3 in
        let same = holders.same_top h slot cargo view T w top below is k.1 (subst (λ (q : ℕ). Contains (all_known (view q)) k.1) e k.2) k.3 in
        let flag : top.begun ≡ true = ap (λ (t : Known). t.begun) same ∙ k.4 in
        let no : ⊥ = cc in
        no)
        (λ (z : (y : Slot) × (b : Chain) × (slot y ≡ Some b) × ((cargo y).carried.known.path ≡ top.path) × ((cargo y).carried.known.begun ≡ true)).
        holders.not_slot h slot cargo view T w z.0 z.1 top (holders.top_in h slot cargo view T w top below is) z.2 (sym z.3))
        (L.are_begun.somewhere top.path m)

    pub begins : (v : View) → IsGoing top.thread.standing → top.begun ≡ false → v ≡ record (view w) { threads = record top { begun = true } ∷ below; items = (view w).items + 1 } → Limiting program source limits h0 h workers cells drawn stop slot cargo (put view w v)
    begins v going no_yet after =
        let t : Known = record top { begun = true } in
        let all : all_known v ≡ t ∷ (below ++ known_of (view w).chains) = ap all_known after in
        let here : Contains (all_known v) t = subst (λ (ts : List Known). Contains ts t) (sym all) (contains_here t (below ++ known_of (view w).chains)) in
        let threads : v.threads ≡ t ∷ below = ap (λ (y : View). y.threads) after in
        let drawn_same : v.drawn ≡ (view w).drawn = ap (λ (y : View). y.drawn) after in
        let child_same : v.child ≡ (view w).child = ap (λ (y : View). y.child) after in
        let was : IsBegun program source slot cargo (put view w v) top.path = begun_here program source slot cargo view w v t here refl in
        let z = L.numbers w in
        let a : v.items ≡ (view w).items + 1 = ap (λ (y : View). y.items) after in
        let b : v.frame_bytes ≡ (view w).frame_bytes = ap (λ (y : View). y.frame_bytes) after in
        let i = z.items_within in
        let f = z.bytes_within in
        let on : HasPending program source (view w) → HasPending program source v = λ p. ⊎_elim (λ d. inl (λ e. d (sym drawn_same ∙ e))) (λ c. inr (λ e. c (sym child_same ∙ e))) p in
        let back : HasPending program source v → HasPending program source (view w) = λ p. ⊎_elim (λ d. inl (λ e. d (drawn_same ∙ e))) (λ c. inr (λ e. c (child_same ∙ e))) p in
        let top_on : (P : Known → Type 0) → (P top → P t) → TopIs (view w).threads P → TopIs v.threads P = λ P go k. subst (λ (ts : List Known). TopIs ts P) (sym threads) (go (subst (λ (ts : List Known). TopIs ts P) is k)) in
        record {
          steps = L.steps;
          run = L.run;
          begun = top.path ∷ L.begun;
          drawing = L.drawing;
          sized = L.sized;
          are_begun = record {
            distinct = (not_begun no_yet, L.are_begun.distinct);
            unfinished = λ p m. ⊎_elim (λ (e : p ≡ top.path). subst (IsUnfinished h) (sym e) (top.thread, (of.there, going))) (λ k. L.are_begun.unfinished p k) m;
            somewhere = λ p m. ⊎_elim
                (λ (e : p ≡ top.path). subst (IsBegun program source slot cargo (put view w v)) (sym e) was)
                (λ k. begun_else program source slot cargo view w v p (λ s m' e b'. ⊎_elim
                (λ (same : top ≡ s). subst (λ (y : Known). IsBegun program source slot cargo (put view w v) y.path) same was)
                (λ n. begun_here program source slot cargo view w v s (subst (λ (ts : List Known). Contains ts s) (sym all) (contains_later s t (below ++ known_of (view w).chains) n)) b')
                (holders.top_or h slot cargo view T w top below is s m')) (L.are_begun.somewhere p k)) m;
          };
          are_drawing = record {
            distinct = L.are_drawing.distinct;
            somewhere = λ p m. drawer_else program source slot cargo view w v p (λ c d. drawer_here program source slot cargo view w v p (on c) (top_on (DrawsFor program source p) (λ k. k) d)) (L.are_drawing.somewhere p m);
          };
          numbers = numbers_else program source slot cargo view w v items frames (length L.steps + length (top.path ∷ L.begun)) frames (omega arith) (omega arith)
              (record {
                items_within = omega arith;
                bytes_within = omega arith;
                pending = λ p. top_on (IsDrawing program source) (λ k. k) (z.pending (back p));
                one = ⊎_elim (λ d. inl (drawn_same ∙ d)) (λ c. inr (c.0, drawn_same ∙ c.1, child_same ∙ c.2)) z.one;
              }) L.numbers;
          draws = L.draws;
          stops = L.stops;
        }

    -- ---- a number is drawn

    not_drawn : (view w).drawn ≡ [] → (view w).child ≡ None → IsMember top.path L.drawing → ⊥
    not_drawn none no_child m =
        let k = L.are_drawing.somewhere top.path m in
        let x = top_case (DrawsFor program source top.path) (view k.0).threads k.2 in
        let there = holders.top_in h slot cargo view T k.0 x.0 x.1 x.2 in
        let e = holders.one_view h slot cargo view T k.0 w x.0 top there (holders.top_in h slot cargo view T w top below is) x.3.0 in
        ⊎_elim (λ d. d none) (λ c. c no_child) (subst (λ (q : ℕ). HasPending program source (view q)) e k.1)

    pub draws : (v : View) (n : ℕ) → (view w).drawn ≡ [] → (view w).child ≡ None → IsDrawing program source top → v.threads ≡ (view w).threads → v.items ≡ (view w).items → v.frame_bytes ≡ (view w).frame_bytes → known_of v.chains ≡ known_of (view w).chains → v.drawn ≡ n ∷ (view w).drawn → v.child ≡ (view w).child → Limiting program source limits h0 h workers cells (drawn + 1) stop slot cargo (put view w v)
    draws v n none no_child drawing threads a b chains drew child =
        let now : v.threads ≡ top ∷ below = threads ∙ is in
        let all : all_known v ≡ all_known (view w) = λ i. threads i ++ chains i in
        let some : HasPending program source v = inl (λ e. let no : ⊥ = cc in no) in
        let top_on : (P : Known → Type 0) → P top → TopIs v.threads P = λ P k. subst (λ (ts : List Known). TopIs ts P) (sym now) k in
        let z = L.numbers w in
        let i = z.items_within in
        let f = z.bytes_within in
        let sum = L.draws in
        record {
          steps = L.steps;
          run = L.run;
          begun = L.begun;
          drawing = top.path ∷ L.drawing;
          sized = L.sized;
          are_begun = record {
            distinct = L.are_begun.distinct;
            unfinished = L.are_begun.unfinished;
            somewhere = λ p m. begun_else program source slot cargo view w v p (λ s m' e b'. begun_here program source slot cargo view w v s (subst (λ (ts : List Known). Contains ts s) (sym all) m') b') (L.are_begun.somewhere p m);
          };
          are_drawing = record {
            distinct = (not_drawn none no_child, L.are_drawing.distinct);
            somewhere = λ p m. ⊎_elim
                (λ (e : p ≡ top.path). drawer_here program source slot cargo view w v p some (top_on (DrawsFor program source p) (sym e, drawing)))
                (λ k. drawer_else program source slot cargo view w v p (λ c d. absurd (⊎_elim (λ x. x none) (λ x. x no_child) c)) (L.are_drawing.somewhere p k)) m;
          };
          numbers = numbers_else program source slot cargo view w v items frames items frames (omega arith) (omega arith)
              (record {
                items_within = omega arith;
                bytes_within = omega arith;
                pending = λ p. top_on (IsDrawing program source) drawing;
                one = inr (n, drew ∙ ap (λ (ds : List ℕ). n ∷ ds) none, child ∙ no_child);
              }) L.numbers;
          draws = omega arith;
          stops = L.stops;
        }

    -- ---- an item is made

    record Drawers (v : View) (more : ℕ) : Type 0 where
      paths : List Path
      are : AreDrawing program source (put view w v) paths
      count : length L.drawing ≤ length paths + more

    -- nothing is pending after it
    drawers : (v : View) → (HasPending program source v → ⊥) → Drawers v (cells_drawn program top.path top.thread)
    drawers v none = dite (ℕ_discrete (cells_drawn program top.path top.thread) 0)
        (λ (e : cells_drawn program top.path top.thread ≡ 0).
        let quiet : IsDrawing program source top → ⊥ = λ d. let one = (draws_one program source h top d).2 in omega (arith, one, e) in
        record {
          paths = L.drawing;
          are = record {
            distinct = L.are_drawing.distinct;
            somewhere = λ p m. drawer_else program source slot cargo view w v p (λ c d. absurd (quiet (subst (λ (ts : List Known). TopIs ts (DrawsFor program source p)) is d).1)) (L.are_drawing.somewhere p m);
          };
          count = omega arith;
        })
        (λ (ne : cells_drawn program top.path top.thread ≢ 0).
        let x = fewer top.path L.drawing L.are_drawing.distinct in
        let count = x.count in
        record {
          paths = x.paths;
          are = record {
            distinct = x.distinct;
            somewhere = λ p m.
                let y = x.were p m in
                drawer_else program source slot cargo view w v p (λ c d. absurd (y.1 (sym (subst (λ (ts : List Known). TopIs ts (DrawsFor program source p)) is d).0))) (L.are_drawing.somewhere p y.0);
          };
          count = omega (arith, count, ne);
        })

    pub item : (v : View) (c : Change) → Enabled h (next_move program source top) c → ((t : Known) → Contains below t → Contains v.threads t) → known_of v.chains ≡ known_of (view w).chains → v.items ≡ (view w).items → v.frame_bytes ≤ (view w).frame_bytes + frame_made program top.path top.thread → (HasPending program source v → ⊥) → Limiting program source limits h0 (heap_on h top c) workers cells drawn stop slot cargo (put view w v)
    item v c enabled stay chains a b none =
        let s : HStep program source h top.path (heap_on h top c) = record { thread = top.thread; change = c; here = of.there; enabled = enabled; next = refl } in
        let on = run_on program source h0 L.steps h top.path (heap_on h top c) L.run s in
        let left = fewer top.path L.begun L.are_begun.distinct in
        let drawing = drawers v none in
        let size = length-append L.steps (top.path ∷ []) in
        let frame_sum = on.1 (frame_made program) in
        let cell_sum = on.1 (cells_drawn program) in
        let fewer_begun = left.count in
        let fewer_drawing = drawing.count in
        let sum = L.draws in
        let z = L.numbers w in
        let i = z.items_within in
        let f = z.bytes_within in
        record {
          steps = L.steps ++ top.path ∷ [];
          run = on.0;
          begun = left.paths;
          drawing = drawing.paths;
          sized = L.sized;
          are_begun = record {
            distinct = left.distinct;
            unfinished = λ p m. let y = left.were p m in let u = L.are_begun.unfinished p y.0 in (u.0, (other_stays program source h p top.path (heap_on h top c) u.0 T.numbered u.1.0 y.1 s, u.1.1));
            somewhere = λ p m.
                let y = left.were p m in
                begun_else program source slot cargo view w v p (λ t m' e b'. ⊎_elim
                (λ (same : top ≡ t). absurd (y.1 (sym e ∙ ap (λ (k : Known). k.path) (sym same))))
                (λ n. begun_here program source slot cargo view w v t (⊎_elim
                (λ k. Contains-append_left v.threads (known_of v.chains) t (stay t k))
                (λ k. Contains-append_right v.threads (known_of v.chains) t (subst (λ (ts : List Known). Contains ts t) (sym chains) k))
                (Contains-append_cases below (known_of (view w).chains) t n)) b')
                (holders.top_or h slot cargo view T w top below is t m')) (L.are_begun.somewhere p y.0);
          };
          are_drawing = drawing.are;
          numbers = numbers_else program source slot cargo view w v items frames (length (L.steps ++ top.path ∷ []) + length left.paths) (total program source (frame_made program) h0 (L.steps ++ top.path ∷ []) (heap_on h top c) on.0) (omega arith) (omega arith)
              (record {
                items_within = omega arith;
                bytes_within = omega arith;
                pending = λ p. absurd (none p);
                one = inl (none_or v.drawn (λ d. none (inl d)));
              }) L.numbers;
          draws = omega arith;
          stops = L.stops;
        }
