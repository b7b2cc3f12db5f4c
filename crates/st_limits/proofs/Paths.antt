-- Lists of threads by their paths, and runs by one step more: fewer (a list without one path), run_on (every sum over a longer run), sum_all (a sum of ones).
use Rattle.std.proofs.Common.{◌≡◌, ◌≢◌, inl, inr, ⊎_elim, ℕ, ◌+◌, ◌≤◌, List, [], ◌∷◌, ◌++◌, length, Some, refl, sym, ap, ◌∙◌, subst, arith}
use Rattle.st_base.specs.declared.thread.Thread.{Thread}
use Rattle.st_model.specs.declared.program.Program.{Program}
use Rattle.st_model.specs.Memory.{Data}
use Rattle.st_model.specs.Heap.{Path, Heap, HStep, Run}
use Rattle.st_model.specs.Limits.{IsMember, AreDistinct, total, cells_drawn}
use Rattle.st_laws.specs.Begun.{sum_thread, sum_next}
use Rattle.st_laws.proofs.HeapSteps.{decide, same_thread}

-- ---- a list without one path

pub record Fewer (p : Path) (ps : List Path) : Type 0 where
  pub paths : List Path
  pub distinct : AreDistinct paths
  pub count : length ps ≤ length paths + 1
  pub were : (q : Path) → IsMember q paths → IsMember q ps × (q ≢ p)

pub fewer : (p : Path) (ps : List Path) → AreDistinct ps → Fewer p ps
fewer p [] d = record { paths = []; distinct = tt; count = omega arith; were = λ q m. absurd m }
fewer p (q ∷ qs) d =
    let more = fewer p qs d.1 in
    let count = more.count in
    ⊎_elim
    (λ (e : p ≡ q). record { paths = qs; distinct = d.1; count = omega arith; were = λ r m. (inr m, λ z. d.0 (subst (λ (y : Path). IsMember y qs) (z ∙ e) m)) })
    (λ (n : p ≢ q).
    record {
      paths = q ∷ more.paths;
      distinct = (λ m. d.0 (more.were q m).0, more.distinct);
      count = omega arith;
      were = λ r m. ⊎_elim
          (λ (same : r ≡ q). (inl same, λ z. n (sym z ∙ same)))
          (λ (rest : IsMember r more.paths). let y = more.were r rest in (inr y.0, y.1)) m;
    })
    (decide p q)

-- ---- a run with one step more

pub run_on : (program : Program) (source : Data) (h : Heap) (ps : List Path) (h' : Heap) (p : Path) (g : Heap) (run : Run program source h ps h') (s : HStep program source h' p g) → (longer : Run program source h (ps ++ p ∷ []) g) × ((of : Path → Thread → ℕ) → total program source of h (ps ++ p ∷ []) g longer ≡ total program source of h ps h' run + of p s.thread)
run_on program source h [] h' p g run s =
    let first : HStep program source h p g = subst (λ (x : Heap). HStep program source x p g) (sym run) s in
    let here : h'.thread p ≡ Some first.thread = subst (λ (x : Heap). x.thread p ≡ Some first.thread) run first.here in
    let same : first.thread ≡ s.thread = same_thread h' p first.thread s.thread here s.here in
    ((g, first, refl), λ of. let e : of p first.thread ≡ of p s.thread = ap (of p) same in omega arith)
run_on program source h (q ∷ ps) h' p g run s =
    let x = run_on program source run.0 ps h' p g run.2 s in
    ((run.0, run.1, x.0), λ of. let e = x.1 of in omega arith)

-- ---- threads that draw a cell each

pub sum_all : (program : Program) (h : Heap) (ps : List Path) → ((p : Path) → IsMember p ps → (t : Thread) × (h.thread p ≡ Some t) × (cells_drawn program p t ≡ 1)) → sum_next (cells_drawn program) h ps ≡ length ps
sum_all program h [] all = refl
sum_all program h (p ∷ ps) all =
    let x = all p (inl refl) in
    let one = x.2 in
    let a : sum_thread (cells_drawn program) p (h.thread p) ≡ cells_drawn program p x.0 = ap (sum_thread (cells_drawn program) p) x.1 in
    let more = sum_all program h ps (λ q m. all q (inr m)) in
    omega arith
