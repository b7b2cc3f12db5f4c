-- In a heap that a run leads to from the root alone, each child of a thread is there: reached_children.
use Rattle.std.proofs.Common.{◌≡◌, ℕ, ◌+◌, ◌<◌, ◌≤◌, ⊎_elim, List, [], ◌∷◌, ◌++◌, Option, Some, None, refl, sym, ap, subst, arith}
use Rattle.st_base.specs.declared.thread.Thread.{Thread}
use Rattle.st_model.specs.declared.program.Program.{Program}
use Rattle.st_model.specs.declared.ordinary.State.{State}
use Rattle.st_model.specs.Memory.{Data}
use Rattle.st_model.specs.Heap.{Path, Heap, after, HStep, Run, IsNumbered, Reached, first_heap, new_thread}
use Rattle.st_laws.specs.Names.{IsThread}
use Rattle.st_laws.specs.Changes.{one_if, IsNew}
use Rattle.st_laws.proofs.First.{alone_thread}
use Rattle.st_laws.proofs.Forking.{fork_makes}
use Rattle.st_laws.proofs.ItemChanges.{step_change}
use Rattle.st_laws.proofs.Later.{step_forks}
use Rattle.st_laws.proofs.Numbering.{numbered_after}
use Rattle.st_laws.proofs.Placing.{OfChild, each_after, le_or_less}
use Rattle.st_laws.proofs.Quieting.{first_stands}

-- the children of the thread have the numbers below its forks
abbrev ChildrenThere : Heap → Path → Thread → Type 0
ChildrenThere h p t = (k : ℕ) → k < t.forks → IsThread h (p ++ k ∷ [])

abbrev pub HasChildren : Heap → Type 0
HasChildren h = (p : Path) (t : Thread) → h.thread p ≡ Some t → ChildrenThere h p t

new_has_none : (h : Heap) (p : Path) (o : Option Thread) → IsNew o → OfChild (ChildrenThere h) p o
new_has_none h p None new = tt
new_has_none h p (Some child) new = λ k l. let none = new.1 in let no : ⊥ = omega (arith, none, l) in absurd no

module _ (program : Program) (source : Data) (h : Heap) (p : Path) (h' : Heap) (numbered : IsNumbered h) (has : HasChildren h) (s : HStep program source h p h') where
  stays : (q : Path) → IsThread h q → IsThread h' q
  stays q is = let later = step_forks program source h p q h' is.0 numbered is.1 s in (later.0, later.1)

  -- of the thread that stepped, which has a new child or none
  own_by : (o : Option Thread) → s.change.child ≡ o → s.change.own.forks ≡ s.thread.forks + one_if o → ChildrenThere h' p s.change.own
  own_by None e forks k l = stays (p ++ k ∷ []) (has p s.thread s.here k (omega (arith, forks, l)))
  own_by (Some child) e forks k l = ⊎_elim
      (λ (least : s.thread.forks ≤ k).
      let same : s.thread.forks ≡ k = omega (arith, forks, l, least) in
      subst (λ (n : ℕ). IsThread h' (p ++ n ∷ [])) same (child, (fork_makes program source h h' p child s e).child_there))
      (λ (less : k < s.thread.forks). stays (p ++ k ∷ []) (has p s.thread s.here k less))
      (le_or_less s.thread.forks k)

  step_children : HasChildren h'
  step_children q t there =
      let change = step_change program source h p h' s in
      let back : (after h p s.thread s.change).thread q ≡ Some t = subst (λ (y : Heap). y.thread q ≡ Some t) (sym s.next) there in
      each_after (ChildrenThere h') h p s.thread s.change
      (own_by s.change.child refl change.forks)
      (new_has_none h' (p ++ s.thread.forks ∷ []) s.change.child change.child)
      (λ r u ne is k l. stays (r ++ k ∷ []) (has r u is k l))
      q t back

run_children : (program : Program) (source : Data) (h : Heap) (ps : List Path) (h' : Heap) → IsNumbered h → HasChildren h → Run program source h ps h' → HasChildren h'
run_children program source h [] h' numbered has run = subst HasChildren run has
run_children program source h (p ∷ ps) h' numbered has run =
    run_children program source run.0 ps h' (numbered_after program source h p run.0 numbered run.1) (step_children program source h p run.0 numbered has run.1) run.2

first_children : (s : State) → HasChildren (first_heap s)
first_children s p t there k l =
    let root = (alone_thread (new_thread s.top s.registers) p t there).1 in
    let none : t.forks ≡ 0 = ap (λ (y : Thread). y.forks) root in
    let no : ⊥ = omega (arith, none, l) in
    absurd no

pub reached_children : (program : Program) (source : Data) (h : Heap) → Reached program source h → HasChildren h
reached_children program source h r = run_children program source (first_heap r.first) r.steps h (first_stands program source r.first r.is_first).1 (first_children r.first) r.run
