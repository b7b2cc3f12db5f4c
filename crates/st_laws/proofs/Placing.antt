-- What a step makes of a heap's threads, bytes and counts, and of the values that the ordinary-call run records. each_after: what holds of the
-- stepping thread, of its child and of each other thread holds of all threads after the step.
use Rattle.std.proofs.Common.{◌≡◌, ◌≢◌, ℕ, zero, suc, ◌≤◌, ◌<◌, Bool, true, false, cond, ◌==◌, List, [], ◌∷◌, ◌++◌, Option, Some, None, refl, sym, ap, ◌∙◌, subst, arith, ◌⊎◌, inl, inr}
use Rattle.std.specs.Prelude.{◌&&◌}
use Rattle.std.specs.Str.{bytes_eq}
use Rattle.std.proofs.lemmas.Slice.Eq.{bytes_eq-Decides}
use Rattle.std.proofs.lemmas.Bool.Decides.{nat_tests}
use Rattle.st_base.specs.declared.thread.Thread.{Thread}
use Rattle.st_model.specs.declared.ordinary.Tallied.{Tallied}
use Rattle.st_model.specs.declared.ordinary.Rest.{Rest}
use Rattle.st_model.specs.declared.output.Printed.{Printed}
use Rattle.st_model.specs.Ordinary.{counted, is_counter, count_of, counted_up, value_of, is_root}
use Rattle.st_model.specs.Heap.{Path, Heap, Change, after, put, put_child, print}
use Rattle.st_model.specs.Quiet.{bytes_of}
use Rattle.st_laws.specs.Sequential.{Placed, AreEarly, last_print}
use Rattle.st_laws.proofs.HeapSteps.{put_same, put_other, decide, eq_same}
use Rattle.std.proofs.lemmas.List.{map-append}
use Rattle.st_model.specs.declared.ordinary.Ended.{Ended}

pub le_or_less : (a b : ℕ) → (a ≤ b) ⊎ (b < a)
le_or_less zero b = inl (omega arith)
le_or_less (suc a) zero = inr (omega arith)
le_or_less (suc a) (suc b) = elim (le_or_less a b) [ inl e ↦ inl (omega arith) | inr e ↦ inr (omega arith) ]

-- ---- threads
abbrev pub OfChild : (Path → Thread → Type 0) → Path → Option Thread → Type 0
OfChild Q p None = Unit {0}
OfChild Q p (Some child) = Q p child

of_child : (Q : Path → Thread → Type 0) (p : Path) (child : Option Thread) (f : Path → Option Thread) (q : Path) (u : Thread) → OfChild Q p child → (f q ≡ Some u → Q q u) → put_child p child f q ≡ Some u → Q q u
of_child Q p None f q u placed others is = others is
of_child Q p (Some child) f q u placed others is =
    elim (decide q p) [
      | inl e ↦
          let mine : put p (Some child) f p ≡ Some u = subst (λ x. put p (Some child) f x ≡ Some u) e is in
          let same : child ≡ u = let w = put_same p (Some child) f in cc in
          subst (λ x. Q x u) (sym e) (subst (Q p) same placed)
      | inr ne ↦ others (sym (put_other p q (Some child) f ne) ∙ is)
    ]

-- what holds of the thread that stepped, of its new child and of the others holds of each thread
pub each_after : (Q : Path → Thread → Type 0) (h : Heap) (p : Path) (t : Thread) (c : Change) → Q p c.own → OfChild Q (p ++ t.forks ∷ []) c.child → ((q : Path) (u : Thread) → q ≢ p → h.thread q ≡ Some u → Q q u) → (q : Path) (u : Thread) → (after h p t c).thread q ≡ Some u → Q q u
each_after Q h p t c own child others q u is =
    let p' = p ++ t.forks ∷ [] in
    let f = put_child p' c.child h.thread in
    elim (decide q p) [
      | inl e ↦
          let mine : put p (Some c.own) f p ≡ Some u = subst (λ x. put p (Some c.own) f x ≡ Some u) e is in
          let same : c.own ≡ u = let w = put_same p (Some c.own) f in cc in
          subst (λ x. Q x u) (sym e) (subst (Q p) same own)
      | inr ne ↦ of_child Q p' c.child h.thread q u child (others q u ne) (sym (put_other p q (Some c.own) f ne) ∙ is)
    ]

pub whole_after : (h : Heap) (p : Path) (t : Thread) (c : Change) (rest : Rest) → Placed rest p c.own → OfChild (Placed rest) (p ++ t.forks ∷ []) c.child → ((q : Path) (u : Thread) → q ≢ p → h.thread q ≡ Some u → Placed rest q u) → (q : Path) (u : Thread) → (after h p t c).thread q ≡ Some u → Placed rest q u
whole_after h p t c rest own child others = each_after (Placed rest) h p t c own child others

-- ---- bytes
pub print_none : (p : Path) (n : ℕ) (out : List Printed) → print p None n out ≡ out
print_none [] n out = refl
print_none (k ∷ p) n out = refl

pub early_more : (m n : ℕ) (out : List Printed) → m ≤ n → AreEarly m out → AreEarly n out
early_more m n [] le e = tt
early_more m n (b ∷ bs) le e = let x = e.0 in (omega arith, early_more m n bs le e.1)

pub early_push : (n : ℕ) (out : List Printed) (byte : ℕ) → AreEarly n out → AreEarly n (out ++ record { byte = byte; forks = n } ∷ [])
early_push n [] byte e = (omega arith, tt)
early_push n (b ∷ bs) byte e = (e.0, early_push n bs byte e.1)

-- ---- counts
pub same_counter : (p : Path) (n : ℕ) (q : Path) (k : ℕ) → (bytes_eq p q && (n == k)) ≡ true → (p ≡ q) × (n ≡ k)
same_counter p n q k is = let path : bytes_eq p q ≡ true = grind arith in let number : n ≡ k = grind (arith, nat_tests) in ((bytes_eq-Decides p q).0 path, number)

counter_same : (p : Path) (n : ℕ) (q : Path) (k : ℕ) → p ≡ q → n ≡ k → (bytes_eq p q && (n == k)) ≡ true
counter_same p n q k e f = let path : bytes_eq p q ≡ true = (bytes_eq-Decides p q).1 e in grind (arith, nat_tests)

bumped : (b d e : Bool) (x : Tallied) (p : Path) (n : ℕ) (rest more : ℕ) → (b ≡ true → d ≡ true → e ≡ true) → (b ≡ true → e ≡ true → d ≡ true) → (d ≡ true → e ≡ true → b ≡ true) → more ≡ cond e (counted rest) rest → cond b (cond d (counted x.count) rest) (cond d x.count more) ≡ cond e (counted (cond d x.count rest)) (cond d x.count rest)
bumped true true true x p n rest more h i j is = refl
bumped true true false x p n rest more h i j is = let w = h refl refl in cc
bumped true false true x p n rest more h i j is = let w = i refl refl in cc
bumped true false false x p n rest more h i j is = refl
bumped false true true x p n rest more h i j is = let w = j refl refl in cc
bumped false true false x p n rest more h i j is = refl
bumped false false true x p n rest more h i j is = is
bumped false false false x p n rest more h i j is = is

count_cond : (b : Bool) (x y : Tallied) (cs ds : List Tallied) (q : Path) (k : ℕ) → count_of (cond b (x ∷ cs) (y ∷ ds)) q k ≡ cond b (count_of (x ∷ cs) q k) (count_of (y ∷ ds) q k)
count_cond true x y cs ds q k = refl
count_cond false x y cs ds q k = refl

flipped : (b e : Bool) → (b ≡ true → e ≡ true) → (e ≡ true → b ≡ true) → cond b 1 0 ≡ cond e (counted 0) 0
flipped true true f g = refl
flipped true false f g = let w = f refl in cc
flipped false true f g = let w = g refl in cc
flipped false false f g = refl

-- when the counters of c and (p, n) are one, it is of (q, k) just where these two are one
first_is : (b d e : Bool) (x y rest : ℕ) → (b ≡ true → d ≡ e) → cond b (cond e x rest) y ≡ cond b (cond d x rest) y
first_is true d e x y rest h = ap (λ z. cond z x rest) (sym (h refl))
first_is false d e x y rest h = refl

both : (b c : Bool) → (b ≡ true → c ≡ true) → (c ≡ true → b ≡ true) → b ≡ c
both true true f g = refl
both true false f g = sym (f refl)
both false true f g = g refl
both false false f g = refl

pub count_up_of : (cs : List Tallied) (p : Path) (n : ℕ) (q : Path) (k : ℕ) → count_of (counted_up cs p n) q k ≡ cond (bytes_eq q p && (k == n)) (counted (count_of cs q k)) (count_of cs q k)
count_up_of [] p n q k =
    flipped (bytes_eq p q && (n == k)) (bytes_eq q p && (k == n))
    (λ t. let s = same_counter p n q k t in counter_same q k p n (sym s.0) (sym s.1))
    (λ t. let s = same_counter q k p n t in counter_same p n q k (sym s.0) (sym s.1))
count_up_of (c ∷ cs) p n q k =
    let b = is_counter c p n in
    let d = is_counter c q k in
    let e = bytes_eq q p && (k == n) in
    let d' = bytes_eq p q && (n == k) in
    let one : b ≡ true → d ≡ true → e ≡ true = λ s t. let x = same_counter c.maker c.number p n s in let y = same_counter c.maker c.number q k t in counter_same q k p n (sym y.0 ∙ x.0) (sym y.1 ∙ x.1) in
    let two : b ≡ true → e ≡ true → d ≡ true = λ s t. let x = same_counter c.maker c.number p n s in let y = same_counter q k p n t in counter_same c.maker c.number q k (x.0 ∙ sym y.0) (x.1 ∙ sym y.1) in
    let three : d ≡ true → e ≡ true → b ≡ true = λ s t. let x = same_counter c.maker c.number q k s in let y = same_counter q k p n t in counter_same c.maker c.number p n (x.0 ∙ y.0) (x.1 ∙ y.1) in
    let four : b ≡ true → d ≡ d' = λ s. let x = same_counter c.maker c.number p n s in
    both d d' (λ t. let y = same_counter c.maker c.number q k t in counter_same p n q k (sym x.0 ∙ y.0) (sym x.1 ∙ y.1))
    (λ t. let y = same_counter p n q k t in counter_same c.maker c.number q k (x.0 ∙ y.0) (x.1 ∙ y.1)) in
    count_cond b record { maker = p; number = n; count = counted c.count } c cs (counted_up cs p n) q k
    ∙ first_is b d d' (counted c.count) (cond d c.count (count_of (counted_up cs p n) q k)) (count_of cs q k) four
    ∙ bumped b d e c p n (count_of cs q k) (count_of (counted_up cs p n) q k) one two three (count_up_of cs p n q k)

count_last : (b : Bool) → let zero : ℕ = 0 in cond b zero zero ≡ zero
count_last true = refl
count_last false = refl

-- a new counter has count 0, as one that isn't there
pub count_new : (cs : List Tallied) (p : Path) (n : ℕ) (q : Path) (k : ℕ) → count_of (cs ++ record { maker = p; number = n; count = 0 } ∷ []) q k ≡ count_of cs q k
count_new [] p n q k = count_last (bytes_eq p q && (n == k))
count_new (c ∷ cs) p n q k = ap (cond (is_counter c q k) c.count) (count_new cs p n q k)

-- ---- the values of threads that have ended
value_of_last : (b : Bool) (e : Ended) (p : Path) (v : ℕ) → bytes_eq e.path p ≡ b → cond b (Some e.value) None ≡ Some v → (e.path ≡ p) × (e.value ≡ v)
value_of_last true e p v t is = ((bytes_eq-Decides e.path p).0 t, cc)
value_of_last false e p v t is = cc

value_of_more : (b : Bool) (x : ℕ) (o o' : Option ℕ) (v : ℕ) (Q : Type 0) → (o ≡ Some v → (o' ≡ Some v) ⊎ Q) → cond b (Some x) o ≡ Some v → (cond b (Some x) o' ≡ Some v) ⊎ Q
value_of_more true x o o' v Q more is = inl is
value_of_more false x o o' v Q more is = more is

pub value_of_push : (es : List Ended) (e : Ended) (p : Path) (v : ℕ) → value_of (es ++ e ∷ []) p ≡ Some v → (value_of es p ≡ Some v) ⊎ ((e.path ≡ p) × (e.value ≡ v))
value_of_push [] e p v is = inr (value_of_last (bytes_eq e.path p) e p v refl is)
value_of_push (x ∷ es) e p v is =
    value_of_more (bytes_eq x.path p) x.value (value_of (es ++ e ∷ []) p) (value_of es p) v ((e.path ≡ p) × (e.value ≡ v)) (value_of_push es e p v) is

value_of_new_by : (b : Bool) (x : Ended) (o o' : Option ℕ) (v : ℕ) → ((w : ℕ) → cond b (Some x.value) o ≡ Some w → ⊥) → (((w : ℕ) → o ≡ Some w → ⊥) → o' ≡ Some v) → cond b (Some x.value) o' ≡ Some v
value_of_new_by true x o o' v none more = absurd (none x.value refl)
value_of_new_by false x o o' v none more = more none

pub value_of_new : (es : List Ended) (e : Ended) → ((w : ℕ) → value_of es e.path ≡ Some w → ⊥) → value_of (es ++ e ∷ []) e.path ≡ Some e.value
value_of_new [] e none = ap (λ b. cond b (Some e.value) None) (eq_same e.path)
value_of_new (x ∷ es) e none =
    value_of_new_by (bytes_eq x.path e.path) x (value_of es e.path) (value_of (es ++ e ∷ []) e.path) e.value none (value_of_new es e)

value_of_old_by : (b : Bool) (x : Ended) (o o' : Option ℕ) (v : ℕ) → (o ≡ Some v → o' ≡ Some v) → cond b (Some x.value) o ≡ Some v → cond b (Some x.value) o' ≡ Some v
value_of_old_by true x o o' v more is = is
value_of_old_by false x o o' v more is = more is

pub value_of_old : (es : List Ended) (e : Ended) (p : Path) (v : ℕ) → value_of es p ≡ Some v → value_of (es ++ e ∷ []) p ≡ Some v
value_of_old [] e p v is = cc
value_of_old (x ∷ es) e p v is = value_of_old_by (bytes_eq x.path p) x (value_of es p) (value_of (es ++ e ∷ []) p) v (value_of_old es e p v) is

-- ---- when the root has printed
pub last_fork : (p : Path) (k : ℕ) → last_print p k ≤ last_print (p ++ k ∷ []) 0
last_fork [] k = omega arith
last_fork (j ∷ p) k = omega arith

pub last_return : (p : Path) (k n forks : ℕ) → k ≤ n → last_print (p ++ k ∷ []) forks ≤ last_print p n
last_return [] k n forks le = le
last_return (j ∷ p) k n forks le = omega arith

pub root_is : (p : Path) → is_root p ≡ true → p ≡ []
root_is [] e = refl
root_is (k ∷ p) e = cc

pub printed_early : (p : Path) (n byte : ℕ) (out : List Printed) → is_root p ≡ true → AreEarly (last_print p n) out → AreEarly (last_print p n) (print p (Some byte) n out)
printed_early [] n byte out root e = early_push n out byte e
printed_early (k ∷ p) n byte out root e = cc

pub printed_list : (p : Path) (n byte : ℕ) (out : List Printed) → is_root p ≡ true → bytes_of (print p (Some byte) n out) ≡ bytes_of out ++ byte ∷ []
printed_list [] n byte out root = map-append (λ b. b.byte) out (record { byte = byte; forks = n } ∷ [])
printed_list (k ∷ p) n byte out root = cc
