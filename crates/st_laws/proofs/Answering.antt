-- The answer of a quiet heap is one, with its counted bytes: one_answer, by answer_one for a single heap. Two threads have different keys:
-- key_one.
use Rattle.std.proofs.Common.{◌≡◌, ◌≢◌, ℕ, ◌+◌, ◌*◌, true, List, [], ◌∷◌, Some, refl, sym, ap, ◌∙◌, subst, arith}
use Rattle.std.specs.Ordering.{nat_cmp, is_eq, ordering_reverse}
use Rattle.std.specs.declared.cmp.Ordering.{Ordering}
use Rattle.std.specs.declared.cmp.Ordering.TheVariants.{Less, Equal, Greater}
use Rattle.std.specs.Cmp.Lexicographic.{slice_cmp}
use Rattle.std.proofs.lemmas.Cmp.{nat_list_cmp_total}
use Rattle.std.proofs.lemmas.Map.Text.{is_eq-slice_cmp}
use Rattle.std.proofs.lemmas.Slice.Eq.{bytes_eq-Decides}
use Rattle.st_base.specs.EventKey.{event_key}
use Rattle.st_base.specs.declared.line.Line.{Line}
use Rattle.st_base.specs.declared.thread.TrapKind.{TrapKind}
use Rattle.st_base.specs.declared.thread.Standing.{Standing}
use Rattle.st_base.specs.declared.thread.Standing.TheVariants.{Trapped, Full}
use Rattle.st_base.specs.declared.thread.Thread.{Thread}
use Rattle.st_model.specs.declared.program.Program.{Program}
use Rattle.st_model.specs.Heap.{Path, Heap}
use Rattle.st_model.specs.Quiet.{IsEvent, IsGoing, key_of, IsLeast, Done as Finished, Trap, OutLimit, Deadlock, counted_bytes, line_at, QuietAnswer, IsAnswer}
use Rattle.st_laws.specs.Steps.{OneAnswer}
use Rattle.st_laws.proofs.HeapRuns.{one_quiet}

pub key_one : (p q : Path) (j k : ℕ) → event_key p j ≡ event_key q k → p ≡ q
key_one [] [] j k e = refl
key_one [] (y ∷ q) j k e = let x : 2 * j ≡ 2 * y + 1 = cc in absurd (omega arith)
key_one (x ∷ p) [] j k e = let z : 2 * x + 1 ≡ 2 * k = cc in absurd (omega arith)
key_one (x ∷ p) (y ∷ q) j k e =
    let first : 2 * x + 1 ≡ 2 * y + 1 = cc in
    let same : x ≡ y = omega arith in
    let rest : event_key p j ≡ event_key q k = cc in
    let paths = key_one p q j k rest in (λ i. same i ∷ paths i)

equal_by : (o r : Ordering) → o ≡ ordering_reverse r → o ≢ Greater → r ≢ Greater → is_eq o ≡ true
equal_by Less Less e a b = cc
equal_by Less Equal e a b = cc
equal_by Less Greater e a b = absurd (b refl)
equal_by Equal r e a b = refl
equal_by Greater r e a b = absurd (a refl)

-- two threads of least key are one
least_one : (h : Heap) (stands : Standing → Type 0) (p q : Path) (t u : Thread) → h.thread p ≡ Some t → h.thread q ≡ Some u → stands t.standing → stands u.standing → IsLeast stands h p t → IsLeast stands h q u → (p ≡ q) × (t ≡ u)
least_one h stands p q t u here there st su least_p least_q =
    let a = least_p q u there su in
    let b = least_q p t here st in
    let o = slice_cmp nat_cmp (key_of p t) (key_of q u) in
    let r = slice_cmp nat_cmp (key_of q u) (key_of p t) in
    let equal : is_eq o ≡ true = equal_by o r (nat_list_cmp_total.antisymm (key_of p t) (key_of q u)) a b in
    let keys : key_of p t ≡ key_of q u = (bytes_eq-Decides (key_of p t) (key_of q u)).0 (sym (is_eq-slice_cmp (key_of p t) (key_of q u)) ∙ equal) in
    let paths : p ≡ q = key_one p q t.forks u.forks keys in
    let at : h.thread q ≡ Some t = subst (λ x. h.thread x ≡ Some t) paths here in
    (paths, cc)

abbrev kind_or : Standing → TrapKind → TrapKind
kind_or (Trapped kind line) k = kind
kind_or _ k = k

abbrev line_or : Standing → Line → Line
line_or (Trapped kind line) l = line
line_or _ l = l

event : (s r : Standing) → s ≡ r → IsEvent r → IsEvent s
event s r e x = subst IsEvent (sym e) x

-- a heap has one answer at most
pub answer_one : (program : Program) (h : Heap) (a b : QuietAnswer) (out more : List ℕ) → IsAnswer program h a out → IsAnswer program h b more → (a ≡ b) × (out ≡ more)
answer_one program h Finished Finished out more a b = (refl, a.2 ∙ sym b.2)
answer_one program h Finished (Trap kind line p) out more a b = absurd (a.0 p b.0 b.1.0 (event b.0.standing _ b.1.1 tt))
answer_one program h Finished OutLimit out more a b = absurd (a.0 [] b.0 b.1.0 (event b.0.standing _ b.1.1 tt))
answer_one program h Finished (Deadlock line p) out more a b = absurd (a.1 p b.0 b.1.0 b.1.2)
answer_one program h (Trap kind line p) Finished out more a b = absurd (b.0 p a.0 a.1.0 (event a.0.standing _ a.1.1 tt))
answer_one program h (Trap kind line p) (Trap kind' line' q) out more a b =
    let x = least_one h IsEvent p q a.0 b.0 a.1.0 b.1.0 (event a.0.standing _ a.1.1 tt) (event b.0.standing _ b.1.1 tt) a.1.2 b.1.2 in
    let same : Trapped kind line ≡ Trapped kind' line' = sym a.1.1 ∙ ap (λ t. t.standing) x.1 ∙ b.1.1 in
    let kinds : kind ≡ kind' = ap (λ s. kind_or s kind) same in
    let lines : line ≡ line' = ap (λ s. line_or s line) same in
    (λ i. Trap (kinds i) (lines i) (x.0 i), a.1.3 ∙ (λ i. counted_bytes (x.0 i) (key_of (x.0 i) (x.1 i)) h.out) ∙ sym b.1.3)
answer_one program h (Trap kind line p) OutLimit out more a b =
    let x = least_one h IsEvent p [] a.0 b.0 a.1.0 b.1.0 (event a.0.standing _ a.1.1 tt) (event b.0.standing _ b.1.1 tt) a.1.2 b.1.2 in
    let same : Trapped kind line ≡ Full = sym a.1.1 ∙ ap (λ t. t.standing) x.1 ∙ b.1.1 in cc
answer_one program h (Trap kind line p) (Deadlock line' q) out more a b = absurd (b.1.1 p a.0 a.1.0 (event a.0.standing _ a.1.1 tt))
answer_one program h OutLimit Finished out more a b = absurd (b.0 [] a.0 a.1.0 (event a.0.standing _ a.1.1 tt))
answer_one program h OutLimit (Trap kind line p) out more a b =
    let x = least_one h IsEvent [] p a.0 b.0 a.1.0 b.1.0 (event a.0.standing _ a.1.1 tt) (event b.0.standing _ b.1.1 tt) a.1.2 b.1.2 in
    let same : Full ≡ Trapped kind line = sym a.1.1 ∙ ap (λ t. t.standing) x.1 ∙ b.1.1 in cc
answer_one program h OutLimit OutLimit out more a b = (refl, a.1.3 ∙ sym b.1.3)
answer_one program h OutLimit (Deadlock line q) out more a b = absurd (b.1.1 [] a.0 a.1.0 (event a.0.standing _ a.1.1 tt))
answer_one program h (Deadlock line p) Finished out more a b = absurd (b.1 p a.0 a.1.0 a.1.2)
answer_one program h (Deadlock line p) (Trap kind line' q) out more a b = absurd (a.1.1 q b.0 b.1.0 (event b.0.standing _ b.1.1 tt))
answer_one program h (Deadlock line p) OutLimit out more a b = absurd (a.1.1 [] b.0 b.1.0 (event b.0.standing _ b.1.1 tt))
answer_one program h (Deadlock line p) (Deadlock line' q) out more a b =
    let x = least_one h IsGoing p q a.0 b.0 a.1.0 b.1.0 a.1.2 b.1.2 a.1.4 b.1.4 in
    let same : Some line ≡ Some line' = sym a.1.3 ∙ ap (λ t. line_at program t.activations) x.1 ∙ b.1.3 in
    let lines : line ≡ line' = cc in
    (λ i. Deadlock (lines i) (x.0 i), a.1.5 ∙ sym b.1.5)

pub one_answer : OneAnswer
one_answer program source h ps qs a b answer other out more numbered s t quiet still x y =
    let same : a ≡ b = one_quiet program source h ps qs a b numbered s t quiet still in
    answer_one program b answer other out more (subst (λ z. IsAnswer program z answer out) same x) y
