-- In each reached heap the root has printed as many bytes as there are, no other thread any, and the root alone is full: bytes_are_counted.
-- For a run from any heap that is so: run_adds.
use Rattle.std.proofs.Common.{◌≡◌, ◌≢◌, ℕ, ◌+◌, List, [], ◌∷◌, ◌++◌, length, length-append, Option, Some, None, refl, sym, ap, ◌∙◌, subst, arith}
use Rattle.st_base.specs.declared.thread.Standing.TheVariants.{Going, Full}
use Rattle.st_base.specs.declared.thread.Thread.{Thread}
use Rattle.st_model.specs.declared.program.Program.{Program}
use Rattle.st_model.specs.declared.output.Printed.{Printed}
use Rattle.st_model.specs.Memory.{Data}
use Rattle.st_model.specs.Heap.{Path, Heap, put, print, HStep, Run}
use Rattle.st_laws.specs.Changes.{one_if, IsNew, BytesAreCounted}
use Rattle.st_laws.proofs.Placing.{OfChild, each_after}
use Rattle.st_laws.proofs.First.{no_child, alone_thread}
use Rattle.st_laws.proofs.ItemChanges.{step_change}

-- a thread of a heap with so many bytes
pub record HasBytes (out : ℕ) (p : Path) (t : Thread) : Type 0 where
  pub root : p ≡ [] → t.bytes ≡ out
  pub other : p ≢ [] → t.bytes ≡ 0
  pub full : t.standing ≡ Full → p ≡ []

abbrev pub AllHaveBytes : Heap → Type 0
AllHaveBytes h = (p : Path) (t : Thread) → h.thread p ≡ Some t → HasBytes (length h.out) p t

print_other : (p : Path) (b : Option ℕ) (n : ℕ) (out : List Printed) → p ≢ [] → print p b n out ≡ out
print_other [] b n out ne = absurd (ne refl)
print_other (k ∷ p) b n out ne = refl

cons_path : {k : ℕ} {p : Path} → (k ∷ p) ≡ [] → ⊥
cons_path e = cc

own_bytes : (p : Path) (old new : ℕ) (b : Option ℕ) (n : ℕ) (out : List Printed) → (p ≡ [] → old ≡ length out) → (p ≢ [] → old ≡ 0) → new ≡ old + one_if b → (b ≢ None → p ≡ []) → (p ≡ [] → new ≡ length (print p b n out)) × (p ≢ [] → new ≡ 0)
own_bytes [] old new None n out root other e prints = (λ is. let x = root is in omega arith, λ ne. absurd (ne refl))
own_bytes [] old new (Some b) n out root other e prints =
    (λ is. let x = root is in let l = length-append out (record { byte = b; forks = n } ∷ []) in omega arith, λ ne. absurd (ne refl))
own_bytes (k ∷ p) old new None n out root other e prints = (λ is. absurd (cons_path is), λ ne. let x = other ne in omega arith)
own_bytes (k ∷ p) old new (Some b) n out root other e prints = absurd (cons_path (prints (λ none. cc)))

child_bytes : (out : ℕ) (p : Path) (k : ℕ) (o : Option Thread) → IsNew o → OfChild (HasBytes out) (p ++ k ∷ []) o
child_bytes out p k None new = tt
child_bytes out p k (Some child) new =
    record {
      root = λ e. absurd (no_child p k e);
      other = λ ne. new.3;
      full = λ e. let x : Going ≡ Full = sym new.0 ∙ e in cc;
    }

step_bytes : (program : Program) (source : Data) (h : Heap) (p : Path) (h' : Heap) → AllHaveBytes h → HStep program source h p h' → AllHaveBytes h'
step_bytes program source h p h' all s =
    let t = s.thread in
    let c = s.change in
    let change = step_change program source h p h' s in
    let x = all p t s.here in
    let out = length (print p c.printed t.forks h.out) in
    let mine = own_bytes p t.bytes c.own.bytes c.printed t.forks h.out x.root x.other change.bytes change.prints in
    let own : HasBytes out p c.own = record { root = mine.0; other = mine.1; full = change.full } in
    let others : (q : Path) (u : Thread) → q ≢ p → h.thread q ≡ Some u → HasBytes out q u = λ q u ne there.
    let y = all q u there in
    record { root = λ e. y.root e ∙ ap length (sym (print_other p c.printed t.forks h.out (λ z. ne (e ∙ sym z)))); other = y.other; full = y.full } in
    subst AllHaveBytes s.next (each_after (HasBytes out) h p t c own (child_bytes out p t.forks c.child change.child) others)

run_bytes : (program : Program) (source : Data) (h : Heap) (ps : List Path) (h' : Heap) → AllHaveBytes h → Run program source h ps h' → AllHaveBytes h'
run_bytes program source h [] h' all run = subst AllHaveBytes run all
run_bytes program source h (p ∷ ps) h' all run = run_bytes program source run.0 ps h' (step_bytes program source h p run.0 all run.1) run.2

alone_bytes : (first t : Thread) (p : Path) → first.bytes ≡ 0 → first.standing ≡ Going → put [] (Some first) (λ q. None) p ≡ Some t → HasBytes 0 p t
alone_bytes first t p zero going is =
    let only = alone_thread first p t is in
    record {
      root = λ e. ap (λ x. x.bytes) only.1 ∙ zero;
      other = λ ne. absurd (ne only.0);
      full = λ e. only.0;
    }

-- all threads of a heap that a run reaches from the root alone
pub reached_bytes : (program : Program) (source : Data) (first : Thread) (ps : List Path) (h : Heap) → first.bytes ≡ 0 → first.standing ≡ Going → Run program source record { thread = put [] (Some first) (λ q. None); count = λ p k. 0; out = [] } ps h → AllHaveBytes h
reached_bytes program source first ps h zero going run = run_bytes program source _ ps h (λ p t is. alone_bytes first t p zero going is) run

pub bytes_are_counted : BytesAreCounted
bytes_are_counted program source h r =
    let all = reached_bytes program source _ r.steps h refl refl r.run in
    record {
      root = λ t is. (all [] t is).root refl;
      others = λ p t ne is. let x = all p t is in (x.other ne, λ e. ne (x.full e));
    }
