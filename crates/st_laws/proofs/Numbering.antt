-- A thread's children have the numbers below its forks, and a step keeps this: numbered_after, numbered_run.
use Rattle.std.proofs.Common.{◌≡◌, ◌≢◌, ℕ, ◌+◌, ◌≤◌, Bool, true, false, cond, List, [], ◌∷◌, ◌++◌, length, Option, Some, None, sym, ap, ◌∙◌, subst, arith, inl, inr}
use Rattle.std.proofs.lemmas.List.{same_from_push, length-append}
use Rattle.st_base.specs.declared.thread.Thread.{Thread}
use Rattle.st_model.specs.declared.program.Program.{Program}
use Rattle.st_model.specs.Heap.{Path, Heap, put, put_child, after, HStep, Run, IsNumbered}
use Rattle.st_laws.specs.Changes.{one_if, IsNew}
use Rattle.st_laws.proofs.ItemChanges.{step_change}
use Rattle.st_laws.proofs.HeapSteps.{put_same, put_other, put_child_other, decide}
use Rattle.st_model.specs.Memory.{Data}

-- ---- a step keeps the numbering
apart : (f : Path → Option Thread) (p s : Path) (t : Thread) → f p ≡ Some t → f s ≡ None → s ≢ p
apart f p s t a b e = let x : f p ≡ None = subst (λ r. f r ≡ None) e b in cc

pub longer : (p : Path) (k : ℕ) → p ++ k ∷ [] ≢ p
longer p k e = let l = ap length e in let m = length-append p (k ∷ []) in omega arith

-- the threads after a step
abbrev after_threads : Path → ℕ → Thread → Option Thread → (Path → Option Thread) → Path → Option Thread
after_threads p k own child f = put p (Some own) (put_child (p ++ k ∷ []) child f)

was_empty_by : (b : Bool) (child : Thread) (o : Option Thread) → cond b (Some child) o ≡ None → o ≡ None
was_empty_by true child o e = cc
was_empty_by false child o e = e

was_empty : (p : Path) (child : Option Thread) (f : Path → Option Thread) (r : Path) → put_child p child f r ≡ None → f r ≡ None
was_empty p None f r e = e
was_empty p (Some child) f r e = was_empty_by _ child (f r) e

-- a place that was empty, and is no new child
still_empty : (f : Path → Option Thread) (p : Path) (k : ℕ) (t own : Thread) (child : Option Thread) (s : Path) → f p ≡ Some t → f s ≡ None → s ≢ p ++ k ∷ [] → after_threads p k own child f s ≡ None
still_empty f p k t own child s here none ne =
    put_other p s (Some own) (put_child (p ++ k ∷ []) child f) (apart f p s t here none) ∙ put_child_other (p ++ k ∷ []) s child f ne ∙ none

no_child_of_others : (p r : Path) (j k : ℕ) → r ≢ p → r ++ k ∷ [] ≢ p ++ j ∷ []
no_child_of_others p r j k ne e = ne (same_from_push r p k j e).0

abbrev Free : (Path → Option Thread) → Type 0
Free f = (p : Path) (t : Thread) (k : ℕ) → f p ≡ Some t → t.forks ≤ k → f (p ++ k ∷ []) ≡ None

abbrev Orphan : (Path → Option Thread) → Type 0
Orphan f = (p : Path) (k : ℕ) → f p ≡ None → f (p ++ k ∷ []) ≡ None

free_none : (f : Path → Option Thread) (p : Path) (t own : Thread) → Free f → f p ≡ Some t → own.forks ≡ t.forks → Free (after_threads p t.forks own None f)
free_none f p t own free here fit r u k is le =
    elim (decide r p) [
      | inl e ↦
          let mine : after_threads p t.forks own None f p ≡ Some u = subst (λ x. after_threads p t.forks own None f x ≡ Some u) e is in
          let same : u ≡ own = let w = put_same p (Some own) f in cc in
          let forks : u.forks ≡ own.forks = ap (λ x. x.forks) same in
          let none : f (r ++ k ∷ []) ≡ None = subst (λ x. f (x ++ k ∷ []) ≡ None) (sym e) (free p t k here (omega arith)) in
          put_other p (r ++ k ∷ []) (Some own) f (apart f p (r ++ k ∷ []) t here none) ∙ none
      | inr ne ↦
          let there : f r ≡ Some u = sym (put_other p r (Some own) f ne) ∙ is in
          let none : f (r ++ k ∷ []) ≡ None = free r u k there le in
          put_other p (r ++ k ∷ []) (Some own) f (apart f p (r ++ k ∷ []) t here none) ∙ none
    ]

free_some : (f : Path → Option Thread) (p : Path) (t own child : Thread) → Free f → Orphan f → f p ≡ Some t → own.forks ≡ t.forks + 1 → child.forks ≡ 0 → Free (after_threads p t.forks own (Some child) f)
free_some f p t own child free orphan here fit new r u k is le =
    let p' = p ++ t.forks ∷ [] in
    let F = after_threads p t.forks own (Some child) f in
    elim (decide r p) [
      | inl e ↦
          let mine : F p ≡ Some u = subst (λ x. F x ≡ Some u) e is in
          let same : u ≡ own = let w = put_same p (Some own) (put_child p' (Some child) f) in cc in
          let forks : u.forks ≡ own.forks = ap (λ x. x.forks) same in
          let none : f (p ++ k ∷ []) ≡ None = free p t k here (omega arith) in
          let not_new : p ++ k ∷ [] ≢ p' = λ x. let y = (same_from_push p p k t.forks x).1 in omega arith in
          subst (λ x. F (x ++ k ∷ []) ≡ None) (sym e) (still_empty f p t.forks t own (Some child) (p ++ k ∷ []) here none not_new)
      | inr ne ↦
          let other : put_child p' (Some child) f r ≡ Some u = sym (put_other p r (Some own) (put_child p' (Some child) f) ne) ∙ is in
          elim (decide r p') [
            | inl e ↦
                let empty : f p' ≡ None = free p t t.forks here (omega arith) in
                let none : f (p' ++ k ∷ []) ≡ None = orphan p' k empty in
                subst (λ x. F (x ++ k ∷ []) ≡ None) (sym e) (still_empty f p t.forks t own (Some child) (p' ++ k ∷ []) here none (longer p' k))
            | inr ne' ↦
                let there : f r ≡ Some u = sym (put_other p' r (Some child) f ne') ∙ other in
                still_empty f p t.forks t own (Some child) (r ++ k ∷ []) here (free r u k there le) (no_child_of_others p r t.forks k ne)
          ]
    ]

orphan_after : (f : Path → Option Thread) (p : Path) (t own : Thread) (child : Option Thread) → Orphan f → f p ≡ Some t → Orphan (after_threads p t.forks own child f)
orphan_after f p t own child orphan here r k is =
    elim (decide r p) [
      | inl e ↦
          let mine = put_same p (Some own) (put_child (p ++ t.forks ∷ []) child f) in
          let none = subst (λ x. after_threads p t.forks own child f x ≡ None) e is in cc
      | inr ne ↦
          let other : put_child (p ++ t.forks ∷ []) child f r ≡ None = sym (put_other p r (Some own) (put_child (p ++ t.forks ∷ []) child f) ne) ∙ is in
          still_empty f p t.forks t own child (r ++ k ∷ []) here (orphan r k (was_empty (p ++ t.forks ∷ []) child f r other)) (no_child_of_others p r t.forks k ne)
    ]

free_after : (f : Path → Option Thread) (p : Path) (t own : Thread) (child : Option Thread) → Free f → Orphan f → f p ≡ Some t → own.forks ≡ t.forks + one_if child → IsNew child → Free (after_threads p t.forks own child f)
free_after f p t own None free orphan here forks new = free_none f p t own free here (omega arith)
free_after f p t own (Some child) free orphan here forks new = free_some f p t own child free orphan here forks new.1

pub numbered_after : (program : Program) (source : Data) (h : Heap) (p : Path) (h' : Heap) → IsNumbered h → HStep program source h p h' → IsNumbered h'
numbered_after program source h p h' numbered s =
    let change = step_change program source h p h' s in
    let now : IsNumbered (after h p s.thread s.change) =
    record {
      orphan = orphan_after h.thread p s.thread s.change.own s.change.child numbered.orphan s.here;
      free = free_after h.thread p s.thread s.change.own s.change.child numbered.free numbered.orphan s.here change.forks change.child;
    } in
    subst IsNumbered s.next now

pub numbered_run : (program : Program) (source : Data) (h : Heap) (ps : List Path) (h' : Heap) → IsNumbered h → Run program source h ps h' → IsNumbered h'
numbered_run program source h [] h' numbered s = subst IsNumbered s numbered
numbered_run program source h (p ∷ ps) h' numbered s = numbered_run program source s.0 ps h' (numbered_after program source h p s.0 numbered s.1) s.2
