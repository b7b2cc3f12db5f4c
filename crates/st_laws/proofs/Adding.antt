-- Items that were begun add to the sums of a longer run: begun_add, begun_pass_sums. One step more adds its number: total_snoc.
use Rattle.std.proofs.Common.{◌≡◌, ◌≢◌, ℕ, ◌+◌, List, [], ◌∷◌, ◌++◌, Some, refl, sym, ap, subst, arith, inl, inr}
use Rattle.st_base.specs.declared.thread.Thread.{Thread}
use Rattle.st_model.specs.declared.program.Program.{Program}
use Rattle.st_model.specs.Memory.{Data}
use Rattle.st_model.specs.Heap.{Path, Heap, HStep, Run, IsNumbered}
use Rattle.st_model.specs.Limits.{frame_made, cells_drawn, IsMember, total}
use Rattle.st_laws.specs.Begun.{BegunAdd, BegunPassSums, sum_thread, sum_next}
use Rattle.st_laws.proofs.HeapSteps.{diamond, same_thread}
use Rattle.st_laws.proofs.Numbering.{numbered_run}
use Rattle.st_laws.proofs.HeapRuns.{other_stays}

pub total_snoc : (program : Program) (source : Data) (of : Path → Thread → ℕ) (h : Heap) (ps : List Path) (h' : Heap) (p : Path) (g : Heap) (run : Run program source h ps h') (s : HStep program source h' p g) → (longer : Run program source h (ps ++ p ∷ []) g) × (total program source of h (ps ++ p ∷ []) g longer ≡ total program source of h ps h' run + of p s.thread)
total_snoc program source of h [] h' p g run s =
    let s' : HStep program source h p g = subst (λ x. HStep program source x p g) (sym run) s in
    let here : h'.thread p ≡ Some s'.thread = subst (λ x. x.thread p ≡ Some s'.thread) run s'.here in
    let same : s'.thread ≡ s.thread = same_thread h' p s'.thread s.thread here s.here in
    let e : of p s'.thread ≡ of p s.thread = ap (of p) same in
    ((g, s', refl), omega arith)
total_snoc program source of h (q ∷ ps) h' p g run s =
    let x = total_snoc program source of run.0 ps h' p g run.2 s in
    let e = x.1 in
    ((run.0, run.1, x.0), omega arith)

-- threads that make no step have the same next items
sum_stays : (program : Program) (source : Data) (of : Path → Thread → ℕ) (h : Heap) (p : Path) (g : Heap) (begun : List Path) → IsNumbered h → HStep program source h p g → ((q : Path) → IsMember q begun → (q ≢ p) × ((t : Thread) × (h.thread q ≡ Some t))) → sum_next of h begun ≡ sum_next of g begun
sum_stays program source of h p g [] numbered s all = refl
sum_stays program source of h p g (q ∷ begun) numbered s all =
    let x = all q (inl refl) in
    let t = x.1.0 in
    let there = other_stays program source h q p g t numbered x.1.1 x.0 s in
    let a : sum_thread of q (h.thread q) ≡ of q t = ap (sum_thread of q) x.1.1 in
    let b : sum_thread of q (g.thread q) ≡ of q t = ap (sum_thread of q) there in
    let more = sum_stays program source of h p g begun numbered s (λ r m. all r (inr m)) in
    omega arith

pub begun_add : BegunAdd
begun_add program source of h h' ps [] run numbered distinct enabled = (ps, (h', (run, omega arith)))
begun_add program source of h h' ps (p ∷ begun) run numbered distinct enabled =
    let e = enabled p (inl refl) in
    let g = e.0 in
    let s = e.1 in
    let numbered' = numbered_run program source h ps h' numbered run in
    let x = total_snoc program source of h ps h' p g run s in
    let apart : (q : Path) → IsMember q begun → q ≢ p = λ q m y. distinct.0 (subst (λ r. IsMember r begun) y m) in
    let rest : (q : Path) → IsMember q begun → (k : Heap) × HStep program source g q k = λ q m.
    let other = enabled q (inr m) in
    let d = diamond program source h' p q g other.0 numbered' (λ y. apart q m (sym y)) s other.1 in
    (d.0, d.1) in
    let more = begun_add program source of h g (ps ++ p ∷ []) begun x.0 numbered distinct.1 rest in
    let same = sum_stays program source of h' p g begun numbered' s (λ q m. let other = enabled q (inr m) in (apart q m, (other.1.thread, other.1.here))) in
    let here : sum_thread of p (h'.thread p) ≡ of p s.thread = ap (sum_thread of p) s.here in
    let sum = x.1 in
    let le = more.1.1.1 in
    (more.0, (more.1.0, (more.1.1.0, omega arith)))

pub begun_pass_sums : BegunPassSums
begun_pass_sums program source h h' ps begun run limit numbered distinct enabled = (
  λ less.
      let x = begun_add program source (frame_made program) h h' ps begun run numbered distinct enabled in
      let le = x.1.1.1 in
      (x.0, (x.1.0, (x.1.1.0, omega arith))),
  λ less.
      let x = begun_add program source (cells_drawn program) h h' ps begun run numbered distinct enabled in
      let le = x.1.1.1 in
      (x.0, (x.1.0, (x.1.1.0, omega arith))),
)
