-- The root's bytes stand in the order of its forks: bytes_are_in_order.
use Rattle.std.proofs.Common.{◌≡◌, ℕ, ◌≤◌, List, [], ◌∷◌, ◌++◌, Option, Some, None, ap, subst, arith, refl, sym}
use Rattle.st_base.specs.declared.thread.Thread.{Thread}
use Rattle.st_model.specs.declared.program.Program.{Program}
use Rattle.st_model.specs.declared.output.Printed.{Printed}
use Rattle.st_model.specs.Memory.{Data}
use Rattle.st_model.specs.Heap.{Path, Heap, print, HStep, Run, IsNumbered, first_heap}
use Rattle.st_model.specs.Quiet.{AreFrom, AreInOrder}
use Rattle.st_laws.specs.Sequential.{AreEarly}
use Rattle.st_laws.specs.Steps.{BytesAreInOrder}
use Rattle.st_laws.proofs.HeapSteps.{put_same}
use Rattle.st_laws.proofs.Numbering.{numbered_after}
use Rattle.st_laws.proofs.Later.{step_forks}
use Rattle.st_laws.proofs.Placing.{early_more, early_push}
use Rattle.st_laws.proofs.Quieting.{first_stands}

-- the bytes are in order, and each was printed after at most so many forks
record ArePrinted (forks : ℕ) (out : List Printed) : Type 0 where
  order : AreFrom 0 out
  early : AreEarly forks out

from_push : (n f byte : ℕ) (out : List Printed) → n ≤ f → AreFrom n out → AreEarly f out → AreFrom n (out ++ record { byte = byte; forks = f } ∷ [])
from_push n f byte [] le from early = (le, tt)
from_push n f byte (b ∷ out) le from early = (from.0, from_push b.forks f byte out early.0 from.1 early.1)

-- of the root or of another thread that steps
print_order : (p : Path) (byte : Option ℕ) (f forks : ℕ) (out : List Printed) → (p ≡ [] → f ≡ forks) → ArePrinted forks out → ArePrinted forks (print p byte f out)
print_order (k ∷ p) byte f forks out same a = a
print_order [] None f forks out same a = a
print_order [] (Some byte) f forks out same a =
    let e = same refl in
    subst (λ n. ArePrinted forks (out ++ record { byte = byte; forks = n } ∷ [])) (sym e)
    record { order = from_push 0 forks byte out (omega arith) a.order a.early; early = early_push forks out byte a.early }

step_order : (program : Program) (source : Data) (h : Heap) (p : Path) (h' : Heap) (t : Thread) → IsNumbered h → h.thread [] ≡ Some t → ArePrinted t.forks h.out → HStep program source h p h' → (u : Thread) × (h'.thread [] ≡ Some u) × ArePrinted u.forks h'.out
step_order program source h p h' t numbered here a s =
    let more = step_forks program source h p [] h' t numbered here s in
    let same : p ≡ [] → s.thread.forks ≡ t.forks = λ e.
    let there : h.thread p ≡ Some t = subst (λ q. h.thread q ≡ Some t) (sym e) here in
    let one : s.thread ≡ t = let x = s.here in cc in
    ap (λ x. x.forks) one in
    let b = print_order p s.change.printed s.thread.forks t.forks h.out same a in
    let c : ArePrinted more.0.forks (print p s.change.printed s.thread.forks h.out) =
    record { order = b.order; early = early_more t.forks more.0.forks _ more.2 b.early } in
    (more.0, more.1, subst (λ x. ArePrinted more.0.forks x.out) s.next c)

run_order : (program : Program) (source : Data) (h : Heap) (ps : List Path) (h' : Heap) (t : Thread) → IsNumbered h → h.thread [] ≡ Some t → ArePrinted t.forks h.out → Run program source h ps h' → AreInOrder h'.out
run_order program source h [] h' t numbered here a run = subst (λ x. AreInOrder x.out) run a.order
run_order program source h (p ∷ ps) h' t numbered here a run =
    let one = step_order program source h p run.0 t numbered here a run.1 in
    run_order program source run.0 ps h' one.0 (numbered_after program source h p run.0 numbered run.1) one.1 one.2 run.2

pub bytes_are_in_order : BytesAreInOrder
bytes_are_in_order program source h r =
    run_order program source (first_heap r.first) r.steps h _ (first_stands program source r.first r.is_first).1 (put_same [] _ (λ q. None)) record { order = tt; early = tt } r.run
