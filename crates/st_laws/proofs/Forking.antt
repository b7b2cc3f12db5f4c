-- What a fork makes of the heap: fork_makes.
use Rattle.std.proofs.Common.{◌≡◌, ◌≢◌, ℕ, ◌+◌, List, [], ◌∷◌, ◌++◌, Option, Some, None, refl, ap, ◌∙◌, subst, arith}
use Rattle.st_base.specs.declared.thread.Thread.{Thread}
use Rattle.st_model.specs.declared.output.Printed.{Printed}
use Rattle.st_model.specs.Heap.{Path, Heap, Change, put_child, count_up, print, after}
use Rattle.st_model.specs.Limits.{cells_drawn}
use Rattle.st_laws.specs.Changes.{one_if, IsNew, IsDraw, ItemChange, AfterFork, ForkMakes}
use Rattle.st_laws.proofs.HeapSteps.{put_same, put_other, put_child_other}
use Rattle.st_laws.proofs.Numbering.{longer}
use Rattle.st_laws.proofs.Placing.{print_none}
use Rattle.st_laws.proofs.ItemChanges.{step_change}

count_none : (a : Option (Path × ℕ)) (f : Path → ℕ → ℕ) (q : Path) (n : ℕ) → a ≡ None → count_up a f q n ≡ f q n
count_none None f q n e = refl
count_none (Some a) f q n e = cc

out_none : (p : Path) (b : Option ℕ) (n : ℕ) (out : List Printed) → b ≡ None → print p b n out ≡ out
out_none p None n out e = print_none p n out
out_none p (Some b) n out e = cc

child_there : (h : Heap) (p : Path) (t : Thread) (c : Change) (child : Thread) → c.child ≡ Some child → (after h p t c).thread (p ++ t.forks ∷ []) ≡ Some child
child_there h p t c child made =
    let q = p ++ t.forks ∷ [] in
    put_other p q (Some c.own) (put_child q c.child h.thread) (longer p t.forks) ∙ ap (λ (o : Option Thread). put_child q o h.thread q) made ∙ put_same q (Some child) h.thread

fork_after : (h : Heap) (p : Path) (cells : ℕ) (t : Thread) (c : Change) (child : Thread) → ItemChange p cells t c → c.child ≡ Some child → AfterFork h p t c.own child (after h p t c)
fork_after h p cells t c child change made =
    let q' = p ++ t.forks ∷ [] in
    let some : c.child ≢ None = λ e. cc in
    let one : one_if c.child ≡ 1 = ap one_if made in
    let forks : c.own.forks ≡ t.forks + one_if c.child = change.forks in
    let same : c.own.counters ≡ t.counters = change.fork some in
    let counters : c.own.counters + one_if c.child ≡ t.counters + cells = change.counters in
    let draws : cells ≢ 0 = λ e. (let no : ⊥ = omega (arith, e) in no) in
    let draw : IsDraw cells c = change.draws draws in
    let printed : c.printed ≡ None = draw.3 in
    let bytes : c.own.bytes ≡ t.bytes + one_if c.printed = change.bytes in
    let none : one_if c.printed ≡ 0 = ap one_if printed in
    record {
      own_there = put_same p (Some c.own) (put_child q' c.child h.thread);
      going = draw.1;
      forks = omega arith;
      counters = same;
      bytes = omega arith;
      child_there = child_there h p t c child made;
      is_new = subst IsNew made change.child;
      others = λ q ne other. put_other p q (Some c.own) (put_child q' c.child h.thread) ne ∙ put_child_other q' q c.child h.thread other;
      counts = λ q n. count_none c.added h.count q n draw.2;
      out = out_none p c.printed t.forks h.out printed;
    }

pub fork_makes : ForkMakes
fork_makes program source h h' p child s made =
    subst (AfterFork h p s.thread s.change.own child) s.next
    (fork_after h p (cells_drawn program p s.thread) s.thread s.change child (step_change program source h p h' s) made)
