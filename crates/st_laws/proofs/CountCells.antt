-- A heap that a run reaches has no more threads and counters than the cells that the run has drawn: cells_are_counted. Lists that have all
-- threads and all counters (Covered) grow by no more than a step draws (cover_step).
use Rattle.std.proofs.Common.{◌≡◌, ◌≢◌, ℕ, zero, suc, ◌+◌, ◌≤◌, ◌<◌, List, [], ◌∷◌, ◌++◌, length, Option, Some, None, refl, sym, ap, subst, arith, inl, inr, ◌⊎◌}
use Rattle.st_base.specs.declared.thread.Thread.{Thread}
use Rattle.st_model.specs.declared.program.Program.{Program}
use Rattle.st_model.specs.Memory.{Data}
use Rattle.st_model.specs.Heap.{Path, Heap, Change, after, HStep, Run, first_heap}
use Rattle.st_model.specs.Limits.{total, cells_drawn, IsMember}
use Rattle.st_laws.specs.Changes.{one_if, IsNew, CellsAreCounted}
use Rattle.st_laws.proofs.Placing.{each_after}
use Rattle.st_laws.proofs.First.{alone_thread}
use Rattle.st_laws.proofs.Beginning.{distinct_within, member_steps}
use Rattle.st_laws.proofs.ItemChanges.{step_change}

-- ---- what a step adds
abbrev IsAdded : ℕ → ℕ → ℕ → Option Thread → Type 0
IsAdded n old new None = new ≡ old + n
IsAdded n old new (Some child) = (new ≡ old) × (child.counters ≡ 0) × (1 ≤ n)

added_by : (n old new : ℕ) (o : Option Thread) → new + one_if o ≡ old + n → IsNew o → (o ≢ None → new ≡ old) → IsAdded n old new o
added_by n old new None sum child fork = omega arith
added_by n old new (Some child) sum is fork = let same = fork (λ e. cc) in (same, is.2, omega arith)

-- at most one cell
few_by : (n : ℕ) → (n ≢ 0 → n ≡ 1) → n ≤ 1
few_by zero one = omega arith
few_by (suc n) one = let e = one (λ no'. cc) in omega arith

-- ---- lists that have all threads and counters
abbrev Counters : List Path → Path → Thread → Type 0
Counters cs p t = (n : ℕ) → n < t.counters → IsMember (p ++ n ∷ []) cs

record Covered (h : Heap) (us cs : List Path) : Type 0 where
  threads : (p : Path) (t : Thread) → h.thread p ≡ Some t → IsMember p us
  counters : (p : Path) (t : Thread) → h.thread p ≡ Some t → Counters cs p t

record More (h : Heap) (n : ℕ) (us cs : List Path) : Type 0 where
  us' : List Path
  cs' : List Path
  covered : Covered h us' cs'
  few : length us' + length cs' ≤ length us + length cs + n

last_or : (n k : ℕ) → n < k + 1 → (n < k) ⊎ (n ≡ k)
last_or zero zero l = inr refl
last_or zero (suc k) l = inl (omega arith)
last_or (suc n) zero l = absurd (omega arith)
last_or (suc n) (suc k) l = elim (last_or n k (omega arith)) [ inl x ↦ inl (omega arith) | inr x ↦ inr (ap suc x) ]

cover : (h : Heap) (p : Path) (t own : Thread) (o : Option Thread) (added : Option (Path × ℕ)) (printed : Option ℕ) (n : ℕ) (us cs : List Path) → h.thread p ≡ Some t → Covered h us cs → n ≤ 1 → IsAdded n t.counters own.counters o → More (after h p t record { own = own; child = o; added = added; printed = printed }) n us cs
cover h p t own None added printed zero us cs here c most same =
    let change : Change = record { own = own; child = None; added = added; printed = printed } in
    record {
      us' = us;
      cs' = cs;
      covered =
          record {
            threads = each_after (λ q u. IsMember q us) h p t change (c.threads p t here) tt (λ q u ne there. c.threads q u there);
            counters = each_after (Counters cs) h p t change (λ k l. c.counters p t here k (omega arith)) tt (λ q u ne there. c.counters q u there);
          };
      few = omega arith;
    }
cover h p t own None added printed (suc n) us cs here c most more =
    let change : Change = record { own = own; child = None; added = added; printed = printed } in
    let cs' = (p ++ t.counters ∷ []) ∷ cs in
    record {
      us' = us;
      cs' = cs';
      covered =
          record {
            threads = each_after (λ q u. IsMember q us) h p t change (c.threads p t here) tt (λ q u ne there. c.threads q u there);
            counters =
                each_after (Counters cs') h p t change
                (λ k l. elim (last_or k t.counters (omega arith)) [
                  | inl x ↦ inr (c.counters p t here k x)
                  | inr x ↦ inl (ap (λ j. p ++ j ∷ []) x)
                ]) tt (λ q u ne there k l. inr (c.counters q u there k l));
          };
      few = omega arith;
    }
cover h p t own (Some child) added printed n us cs here c most fit =
    let change : Change = record { own = own; child = Some child; added = added; printed = printed } in
    let same = fit.0 in
    let none = fit.1 in
    let cost = fit.2 in
    let us' = (p ++ t.forks ∷ []) ∷ us in
    record {
      us' = us';
      cs' = cs;
      covered =
          record {
            threads = each_after (λ q u. IsMember q us') h p t change (inr (c.threads p t here)) (inl refl) (λ q u ne there. inr (c.threads q u there));
            counters =
                each_after (Counters cs) h p t change (λ k l. c.counters p t here k (omega arith)) (λ k l. absurd (omega arith)) (λ q u ne there. c.counters q u there);
          };
      few = omega arith;
    }

cover_step : (program : Program) (source : Data) (h : Heap) (p : Path) (h' : Heap) (us cs : List Path) → Covered h us cs → (s : HStep program source h p h') → More h' (cells_drawn program p s.thread) us cs
cover_step program source h p h' us cs c s =
    let t = s.thread in
    let d = s.change in
    let n = cells_drawn program p t in
    let change = step_change program source h p h' s in
    subst (λ x. More x n us cs) s.next
    (cover h p t d.own d.child d.added d.printed n us cs s.here c (few_by n (λ some. (change.draws some).0))
    (added_by n t.counters d.own.counters d.child change.counters change.child change.fork))

cover_run : (program : Program) (source : Data) (h : Heap) (ps : List Path) (h' : Heap) (us cs : List Path) → Covered h us cs → (run : Run program source h ps h') → More h' (total program source (cells_drawn program) h ps h' run) us cs
cover_run program source h [] h' us cs c run = record { us' = us; cs' = cs; covered = subst (λ x. Covered x us cs) run c; few = omega arith }
cover_run program source h (p ∷ ps) h' us cs c run =
    let one = cover_step program source h p run.0 us cs c run.1 in
    let more = cover_run program source run.0 ps h' one.us' one.cs' one.covered run.2 in
    let a = one.few in
    let b = more.few in
    record { us' = more.us'; cs' = more.cs'; covered = more.covered; few = omega arith }

alone_covered : (first : Thread) → first.counters ≡ 0 → (h : Heap) → ((p : Path) (t : Thread) → h.thread p ≡ Some t → (p ≡ []) × (t ≡ first)) → Covered h ([] ∷ []) []
alone_covered first none h is =
    record {
      threads = λ p t there. inl (is p t there).0;
      counters = λ p t there n l. let x : t.counters ≡ first.counters = ap (λ y. y.counters) (is p t there).1 in absurd (omega arith);
    }

pub cells_are_counted : CellsAreCounted
cells_are_counted program source h threads counters r distinct there apart made =
    let c = alone_covered _ refl (first_heap r.first) (λ p t is. alone_thread _ p t is) in
    let x = cover_run program source (first_heap r.first) r.steps h ([] ∷ []) [] c r.run in
    let few = x.few in
    let a = distinct_within threads x.us' distinct (λ p m. let y = there p m in member_steps p x.us' (x.covered.threads p y.0 y.1)) in
    let b =
    distinct_within counters x.cs' apart
    (λ q m. let y = made q m in let z = y.1.1.1 in
    member_steps q x.cs' (subst (λ r. IsMember r x.cs') (sym y.1.1.0) (x.covered.counters y.0 z.0 z.1.0 y.1.0 z.1.1))) in
    omega arith
