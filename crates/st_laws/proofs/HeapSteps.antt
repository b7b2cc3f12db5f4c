-- Steps of the heap-frame machine. Of two threads' steps each can be made after the other, with one heap at the end: diamond. A step of
-- another leaves a thread as it is: thread_stays. A thread has one step at most: same_step. Paths are compared by decide, heaps by put_same,
-- put_other and put_child_other.
use Rattle.std.proofs.Common.{◌≡◌, ◌≢◌, ℕ, ◌≤◌, Bool, true, false, cond, List, [], ◌∷◌, ◌++◌, Option, Some, None, refl, sym, ap, ◌∙◌, subst, arith, ◌⊎◌, inl, inr}
use Rattle.std.proofs.Math.Path.{fun_ext}
use Rattle.std.specs.Str.{bytes_eq}
use Rattle.std.proofs.lemmas.Slice.Eq.{bytes_eq-Decides}
use Rattle.std.proofs.lemmas.List.{same_from_push}
use Rattle.std.proofs.lemmas.Bool.{false_from_ne_true, true≢false}
use Rattle.st_base.specs.declared.thread.Standing.{Standing}
use Rattle.st_base.specs.declared.thread.Standing.TheVariants.{Ended}
use Rattle.st_base.specs.declared.thread.Thread.{Thread}
use Rattle.st_model.specs.declared.program.Program.{Program}
use Rattle.st_model.specs.declared.output.Printed.{Printed}
use Rattle.st_model.specs.Heap.{Path, Heap, Change, Move, Stays, Moves, Touch, Join, move, move_standing, Enabled, put, put_child, count_up, print, after, HStep, IsNumbered}
use Rattle.st_model.specs.Ordinary.{counted}
use Rattle.st_laws.specs.Steps.{Diamond, OneStep}
use Rattle.st_model.specs.Memory.{Data}

decide_by : (b : Bool) (p q : Path) → bytes_eq p q ≡ b → (p ≡ q) ⊎ (p ≢ q)
decide_by true p q e = inl ((bytes_eq-Decides p q).0 e)
decide_by false p q e = inr (λ same. true≢false (sym ((bytes_eq-Decides p q).1 same) ∙ e))

pub decide : (p q : Path) → (p ≡ q) ⊎ (p ≢ q)
decide p q = decide_by (bytes_eq p q) p q refl

pub eq_same : (p : Path) → bytes_eq p p ≡ true
eq_same p = (bytes_eq-Decides p p).1 refl

pub eq_other : (p q : Path) → p ≢ q → bytes_eq p q ≡ false
eq_other p q ne = false_from_ne_true _ (λ e. ne ((bytes_eq-Decides p q).0 e))

pub put_same : {A : Type 0} (p : Path) (a : A) (f : Path → A) → put p a f p ≡ a
put_same p a f = ap (λ b. cond b a (f p)) (eq_same p)

pub put_other : {A : Type 0} (p q : Path) (a : A) (f : Path → A) → q ≢ p → put p a f q ≡ f q
put_other p q a f ne = ap (λ b. cond b a (f q)) (eq_other q p ne)

pub same_thread : (h : Heap) (p : Path) (t u : Thread) → h.thread p ≡ Some t → h.thread p ≡ Some u → t ≡ u
same_thread h p t u a b = cc

abbrev pub standing_or : Option Thread → Thread → Standing
standing_or None t = t.standing
standing_or (Some u) t = u.standing

-- of two tests that don't both hold, the order doesn't matter
cond_swap : {A : Type 0} (b c : Bool) (x y z : A) → (b ≡ true → c ≡ true → ⊥) → cond b x (cond c y z) ≡ cond c y (cond b x z)
cond_swap true true x y z apart = absurd (apart refl refl)
cond_swap true false x y z apart = refl
cond_swap false true x y z apart = refl
cond_swap false false x y z apart = refl

put_swap : {A : Type 0} (p q : Path) (a b : A) (f : Path → A) → p ≢ q → put p a (put q b f) ≡ put q b (put p a f)
put_swap p q a b f ne =
    fun_ext (λ r. cond_swap (bytes_eq r p) (bytes_eq r q) a b (f r) (λ x y. ne (sym ((bytes_eq-Decides r p).0 x) ∙ (bytes_eq-Decides r q).0 y)))

pub put_child_other : (p q : Path) (c : Option Thread) (f : Path → Option Thread) → q ≢ p → put_child p c f q ≡ f q
put_child_other p q None f ne = refl
put_child_other p q (Some c) f ne = put_other p q (Some c) f ne

put_child_swap : (p q : Path) (a : Option Thread) (c : Option Thread) (f : Path → Option Thread) → p ≢ q → put p a (put_child q c f) ≡ put_child q c (put p a f)
put_child_swap p q a None f ne = refl
put_child_swap p q a (Some c) f ne = put_swap p q a (Some c) f ne

children_swap : (p q : Path) (c d : Option Thread) (f : Path → Option Thread) → p ≢ q → put_child p c (put_child q d f) ≡ put_child q d (put_child p c f)
children_swap p q None d f ne = refl
children_swap p q (Some c) d f ne = put_child_swap p q (Some c) d f ne

bump_swap : (b c : Bool) (n : ℕ) → cond b (counted (cond c (counted n) n)) (cond c (counted n) n) ≡ cond c (counted (cond b (counted n) n)) (cond b (counted n) n)
bump_swap true true n = refl
bump_swap true false n = refl
bump_swap false true n = refl
bump_swap false false n = refl

-- two additions, in either order
count_swap : (a b : Option (Path × ℕ)) (f : Path → ℕ → ℕ) → count_up a (count_up b f) ≡ count_up b (count_up a f)
count_swap None None f = refl
count_swap None (Some b) f = refl
count_swap (Some a) None f = refl
count_swap (Some a) (Some b) f = fun_ext (λ q. fun_ext (λ k. bump_swap _ _ (f q k)))

bump_more : (b : Bool) (least n : ℕ) → least ≤ n → least ≤ cond b (counted n) n
bump_more true least n h = omega arith
bump_more false least n h = h

pub count_more : (a : Option (Path × ℕ)) (f : Path → ℕ → ℕ) (q : Path) (k least : ℕ) → least ≤ f q k → least ≤ count_up a f q k
count_more None f q k least h = h
count_more (Some a) f q k least h = bump_more _ least (f q k) h

print_swap : (p q : Path) (a b : Option ℕ) (m n : ℕ) (out : List Printed) → p ≢ q → print p a m (print q b n out) ≡ print q b n (print p a m out)
print_swap [] [] a b m n out ne = absurd (ne refl)
print_swap [] (k ∷ q) None b m n out ne = refl
print_swap [] (k ∷ q) (Some a) b m n out ne = refl
print_swap (k ∷ p) [] a None m n out ne = refl
print_swap (k ∷ p) [] a (Some b) m n out ne = refl
print_swap (j ∷ p) (k ∷ q) a b m n out ne = refl

-- a thread that is there is no new child
pub not_child : (h : Heap) (p q : Path) (t u : Thread) → IsNumbered h → h.thread p ≡ Some t → h.thread q ≡ Some u → q ≢ p ++ t.forks ∷ []
not_child h p q t u numbered here there e =
    let none : h.thread q ≡ None = subst (λ r. h.thread r ≡ None) (sym e) (numbered.free p t t.forks here (omega arith)) in cc

pub thread_stays : (h : Heap) (p q : Path) (t u : Thread) (c : Change) → IsNumbered h → h.thread p ≡ Some t → h.thread q ≡ Some u → q ≢ p → (after h p t c).thread q ≡ Some u
thread_stays h p q t u c numbered here there ne =
    put_other p q (Some c.own) (put_child (p ++ t.forks ∷ []) c.child h.thread) ne ∙ put_child_other (p ++ t.forks ∷ []) q c.child h.thread (not_child h p q t u numbered here there) ∙ there

-- a thread that has ended has no step
not_ended : (program : Program) (source : Data) (h : Heap) (p : Path) (t : Thread) (c : Change) (v : ℕ) → Enabled h (move program source p t) c → t.standing ≡ Ended v → ⊥
unfolding move
not_ended program source h p t c v enabled e = subst (λ s. Enabled h (move_standing program source p t s) c) e enabled

-- what a thread may do, it may still do after a step of another
enabled_after : (program : Program) (source : Data) (h : Heap) (p : Path) (t : Thread) (c : Change) (m : Move) (d : Change) → IsNumbered h → h.thread p ≡ Some t → Enabled h (move program source p t) c → Enabled h m d → Enabled (after h p t c) m d
enabled_after program source h p t c Stays d numbered here en e = e
enabled_after program source h p t c (Moves x) d numbered here en e = e
enabled_after program source h p t c (Touch r f) d numbered here en e =
    let other : r ≢ p = λ same. not_ended program source h p t c e.0 en (ap (λ o. standing_or o t) (sym here ∙ ap h.thread (sym same) ∙ e.1.1) ∙ e.1.2) in
    (e.0, (e.1.0, thread_stays h p r t e.1.0 c numbered here e.1.1 other, e.1.2), e.2)
enabled_after program source h p t c (Join r k least x) d numbered here en e = (count_more c.added h.count r k least e.0, e.1)

swapped : (h : Heap) (p q : Path) (t u : Thread) (c d : Change) → IsNumbered h → p ≢ q → h.thread p ≡ Some t → h.thread q ≡ Some u → after (after h q u d) p t c ≡ after (after h p t c) q u d
swapped h p q t u c d numbered ne here there =
    let p' = p ++ t.forks ∷ [] in
    let q' = q ++ u.forks ∷ [] in
    let ne_child : p' ≢ q' = λ e. ne (same_from_push p q t.forks u.forks e).0 in
    let p_not : p ≢ q' = not_child h q p u t numbered there here in
    let q_not : q ≢ p' = not_child h p q t u numbered here there in
    let one = ap (put p (Some c.own)) (sym (put_child_swap q p' (Some d.own) c.child (put_child q' d.child h.thread) q_not)) in
    let two = ap (λ f. put p (Some c.own) (put q (Some d.own) f)) (children_swap p' q' c.child d.child h.thread ne_child) in
    let three = put_swap p q (Some c.own) (Some d.own) (put_child q' d.child (put_child p' c.child h.thread)) ne in
    let four = ap (put q (Some d.own)) (put_child_swap p q' (Some c.own) d.child (put_child p' c.child h.thread) p_not) in
    let threads = one ∙ two ∙ three ∙ four in
    let counts = count_swap c.added d.added h.count in
    let outs = print_swap p q c.printed d.printed t.forks u.forks h.out ne in
    λ i. record { thread = threads i; count = counts i; out = outs i }

pub diamond : Diamond
diamond program source h p q hp hq numbered ne a b =
    let both = after (after h p a.thread a.change) q b.thread b.change in
    let first : HStep program source (after h p a.thread a.change) q both =
    record {
      thread = b.thread;
      change = b.change;
      here = thread_stays h p q a.thread b.thread a.change numbered a.here b.here (λ e. ne (sym e));
      enabled = enabled_after program source h p a.thread a.change (move program source q b.thread) b.change numbered a.here a.enabled b.enabled;
      next = refl;
    } in
    let second : HStep program source (after h q b.thread b.change) p both =
    record {
      thread = a.thread;
      change = a.change;
      here = thread_stays h q p b.thread a.thread b.change numbered b.here a.here ne;
      enabled = enabled_after program source h q b.thread b.change (move program source p a.thread) a.change numbered b.here b.enabled a.enabled;
      next = swapped h p q a.thread b.thread a.change b.change numbered ne a.here b.here;
    } in
    (both, subst (λ x. HStep program source x q both) a.next first, subst (λ x. HStep program source x p both) b.next second)

-- the same thread makes the same step
same_change : (h : Heap) (m : Move) (c d : Change) → Enabled h m c → Enabled h m d → c ≡ d
same_change h Stays c d a b = absurd a
same_change h (Moves x) c d a b = sym a ∙ b
same_change h (Touch q f) c d a b =
    let same : a.1.0 ≡ b.1.0 = cc (a.1.1, b.1.1) in
    let value : a.0 ≡ b.0 = cc (same, a.1.2, b.1.2) in
    sym a.2 ∙ ap f value ∙ b.2
same_change h (Join q n least x) c d a b = sym a.1 ∙ b.1

pub same_step : (program : Program) (source : Data) (h : Heap) (p : Path) (a b : Heap) → HStep program source h p a → HStep program source h p b → a ≡ b
same_step program source h p a b s t =
    let thread : s.thread ≡ t.thread = cc (s.here, t.here) in
    let enabled : Enabled h (move program source p t.thread) s.change = subst (λ x. Enabled h (move program source p x) s.change) thread s.enabled in
    let change : s.change ≡ t.change = same_change h (move program source p t.thread) s.change t.change enabled t.enabled in
    sym s.next ∙ (λ i. after h p (thread i) (change i)) ∙ t.next

pub one_step : OneStep
one_step program source h a b p s t = same_step program source h p a b s t
