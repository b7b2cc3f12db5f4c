-- The threads of a view as the heap-frame machine has them: a step of the first one, which goes on, goes out or forks (goes_on, goes_out, forks), and
-- lists that are among one another, for the moves without a step (AreAmong, stays_in). What a view has seen stays (seen_on) and is enough (enough).
use Rattle.std.proofs.Common.{◌≡◌, ◌≢◌, ⊎_elim, ℕ, ◌≤◌, Bool, true, false, cond, not, ◌==◌, List, [], ◌∷◌, ◌++◌, Some, refl, sym, ap, ◌∙◌, subst, arith, eq-eqb, ne_eqb}
use Rattle.std.specs.List.{Contains}
use Rattle.std.proofs.lemmas.List.Elements.{Contains-append_left, Contains-append_right, Contains-append_cases}
use Rattle.std.proofs.lemmas.Bool.{cases_eq}
use Rattle.st_base.specs.declared.thread.Held.TheVariants.{Future, Counter}
use Rattle.st_base.specs.declared.thread.Thread.{Thread}
use Rattle.st_words.specs.declared.view.Known.{Known}
use Rattle.st_words.specs.declared.view.Carried.{Carried}
use Rattle.st_words.specs.declared.view.View.{View}
use Rattle.st_words.specs.Views.{without_chain}
use Rattle.st_words.proofs.Lists.{contains_here, contains_later, contains_none, contains_case}
use Rattle.st_model.specs.declared.program.Program.{Program}
use Rattle.st_model.specs.Memory.{Data}
use Rattle.st_model.specs.Heap.{Path, Heap, Change, Move, Stays, Moves, Touch, Join, Enabled, put_child, after, HStep, Run, IsNumbered, steps_of}
use Rattle.st_laws.proofs.HeapSteps.{decide, put_same, put_other, not_child}
use Rattle.st_laws.proofs.Staying.{ended_stays, counts_grow, other_stays}
use Rattle.st_made.specs.Items.{SeenEnough, went, born, child_path, next_move}
use Rattle.st_made.specs.Runs.{known_of, paths_of, AreIn, HasSeen, Onward}
use Rattle.st_made.proofs.Lists.{times_here, times_there, times_front, times_swap, times_back, later_more, known_here, known_of_path}

-- ---- without a step: the same threads, or fewer

pub record AreAmong (ts us : List Known) : Type 0 where
  pub times : (q : Path) → steps_of q (paths_of us) ≤ steps_of q (paths_of ts)
  pub each : (t : Known) → Contains us t → (s : Known) × Contains ts s × (s.path ≡ t.path) × (s.thread ≡ t.thread)

pub among_same : (ts : List Known) → AreAmong ts ts
among_same ts = record { times = λ q. omega arith; each = λ t m. (t, m, refl, refl) }

pub stays_in : (program : Program) (source : Data) (h : Heap) (ts us : List Known) → AreIn h ts → AreAmong ts us → Onward program source h ts us
stays_in program source h ts us is among = record {
  heap = h;
  steps = [];
  run = refl;
  are_in = record {
    each = λ t m. let x = among.each t m in ap h.thread (sym x.2) ∙ is.each x.0 x.1 ∙ ap Some x.3;
    once = λ p. let a = is.once p in let b = among.times p in omega arith;
  };
  others = λ q t there none. (there, (let a = among.times q in omega arith));
}

-- ---- a step of the first thread

step_of : (program : Program) (source : Data) (h : Heap) (top : Known) (c : Change) → h.thread top.path ≡ Some top.thread → Enabled h (next_move program source top) c → HStep program source h top.path (after h top.path top.thread c)
step_of program source h top c here enabled = record { thread = top.thread; change = c; here = here; enabled = enabled; next = refl }

pub own_after : (h : Heap) (p : Path) (t : Thread) (c : Change) → (after h p t c).thread p ≡ Some c.own
own_after h p t c = put_same p (Some c.own) (put_child (p ++ t.forks ∷ []) c.child h.thread)

-- no other thread of the list has the path of the first one
apart : (h : Heap) (top t : Known) (ts : List Known) → AreIn h (top ∷ ts) → Contains ts t → t.path ≢ top.path
apart h top t ts is m e =
    let a = known_here ts t m in
    let b = is.once t.path in
    let c = times_here t.path top.path (paths_of ts) e in
    omega arith

-- a path that isn't in the list isn't its first one's
not_first : (q : Path) (top : Known) (ts : List Known) → steps_of q (paths_of (top ∷ ts)) ≡ 0 → q ≢ top.path
not_first q top ts none e = let a = times_here q top.path (paths_of ts) e in omega arith

-- it goes on
pub goes_on : (program : Program) (source : Data) (h : Heap) (top : Known) (ts : List Known) (c : Change) → IsNumbered h → AreIn h (top ∷ ts) → Enabled h (next_move program source top) c → Onward program source h (top ∷ ts) (went top c.own ∷ ts)
goes_on program source h top ts c numbered is enabled =
    let here : h.thread top.path ≡ Some top.thread = is.each top (contains_here top ts) in
    let h' = after h top.path top.thread c in
    let s : HStep program source h top.path h' = step_of program source h top c here enabled in
    record {
      heap = h';
      steps = top.path ∷ [];
      run = (h', s, refl);
      are_in = record {
        each = λ t m. ⊎_elim
            (λ (e : went top c.own ≡ t). subst (λ (x : Known). h'.thread x.path ≡ Some x.thread) e (own_after h top.path top.thread c))
            (λ (n : Contains ts t). other_stays program source h h' t.path top.path t.thread numbered (is.each t (contains_later t top ts n)) (apart h top t ts is n) s)
            (contains_case t (went top c.own) ts m);
        once = λ p. is.once p;
      };
      others = λ q t there none. (other_stays program source h h' q top.path t numbered there (not_first q top ts none) s, none);
    }

-- it goes out
pub goes_out : (program : Program) (source : Data) (h : Heap) (top : Known) (ts : List Known) (c : Change) → IsNumbered h → AreIn h (top ∷ ts) → Enabled h (next_move program source top) c → Onward program source h (top ∷ ts) ts
goes_out program source h top ts c numbered is enabled =
    let here : h.thread top.path ≡ Some top.thread = is.each top (contains_here top ts) in
    let h' = after h top.path top.thread c in
    let s : HStep program source h top.path h' = step_of program source h top c here enabled in
    record {
      heap = h';
      steps = top.path ∷ [];
      run = (h', s, refl);
      are_in = record {
        each = λ t m. other_stays program source h h' t.path top.path t.thread numbered (is.each t (contains_later t top ts m)) (apart h top t ts is m) s;
        once = λ p. ⊎_elim
            (λ (e : p ≡ top.path). let a = times_here p top.path (paths_of ts) e in let b = is.once p in omega arith)
            (λ (n : p ≢ top.path). let a = times_there p top.path (paths_of ts) n in let b = is.once p in omega arith) (decide p top.path);
      };
      others = λ q t there none. (other_stays program source h h' q top.path t numbered there (not_first q top ts none) s, let a = times_there q top.path (paths_of ts) (not_first q top ts none) in omega arith);
    }

-- it forks
child_after : (h : Heap) (p : Path) (t child : Thread) (c : Change) → c.child ≡ Some child → p ++ t.forks ∷ [] ≢ p → (after h p t c).thread (p ++ t.forks ∷ []) ≡ Some child
child_after h p t child c made ne =
    put_other p (p ++ t.forks ∷ []) (Some c.own) (put_child (p ++ t.forks ∷ []) c.child h.thread) ne
    ∙ (ap (λ o. put_child (p ++ t.forks ∷ []) o h.thread (p ++ t.forks ∷ [])) made ∙ put_same (p ++ t.forks ∷ []) (Some child) h.thread)

pub forks : (program : Program) (source : Data) (h : Heap) (top : Known) (ts : List Known) (c : Change) (child : Thread) (cell : ℕ) → IsNumbered h → AreIn h (top ∷ ts) → Enabled h (next_move program source top) c → c.child ≡ Some child → Onward program source h (top ∷ ts) (born cell (child_path top) child ∷ went top c.own ∷ ts)
unfolding goes_on
forks program source h top ts c child cell numbered is enabled made =
    let on = goes_on program source h top ts c numbered is enabled in
    let here : h.thread top.path ≡ Some top.thread = is.each top (contains_here top ts) in
    let fresh : (q : Path) (t : Thread) → h.thread q ≡ Some t → q ≢ child_path top = λ q t there. not_child h top.path q top.thread t numbered here there in
    let ne : child_path top ≢ top.path = λ e. fresh top.path top.thread here (sym e) in
    record {
      heap = on.heap;
      steps = on.steps;
      run = on.run;
      are_in = record {
        each = λ t m. ⊎_elim
            (λ (e : born cell (child_path top) child ≡ t). subst (λ (x : Known). on.heap.thread x.path ≡ Some x.thread) e (child_after h top.path top.thread child c made ne))
            (λ (n : Contains (went top c.own ∷ ts) t). on.are_in.each t n)
            (contains_case t (born cell (child_path top) child) (went top c.own ∷ ts) m);
        once = λ p. ⊎_elim
            (λ (e : p ≡ child_path top).
            let a = times_here p (child_path top) (paths_of (went top c.own ∷ ts)) e in
            ⊎_elim (λ (none : steps_of p (paths_of (top ∷ ts)) ≡ 0). omega arith)
            (λ (some : steps_of p (paths_of (top ∷ ts)) ≢ 0).
            let x = known_of_path (top ∷ ts) p (omega arith) in
            absurd (fresh x.0.path x.0.thread (is.each x.0 x.1) (x.2 ∙ e)))
            (cases_eq (steps_of p (paths_of (top ∷ ts))) 0))
            (λ (n : p ≢ child_path top). let a = times_there p (child_path top) (paths_of (went top c.own ∷ ts)) n in let b = is.once p in omega arith)
            (decide p (child_path top));
      };
      others = λ q t there none. (
        (on.others q t there none).0,
        let a = times_there q (child_path top) (paths_of (went top c.own ∷ ts)) (fresh q t there) in let b = (on.others q t there none).1 in omega arith,
      );
    }

-- ---- what was seen

pub seen_on : (program : Program) (source : Data) (h h' : Heap) (ps : List Path) (v : View) → IsNumbered h → Run program source h ps h' → HasSeen h v → HasSeen h' v
seen_on program source h h' ps v numbered run seen = record {
  values = λ q cell n a b. ended_stays program source h h' ps q n numbered run (seen.values q cell n a b);
  counts = λ q i cell k a b. let x = seen.counts q i cell k a b in let y = counts_grow program source h h' ps q i run in omega arith;
}

pub seen_same : (h : Heap) (v u : View) → u.names ≡ v.names → u.values ≡ v.values → u.counts ≡ v.counts → HasSeen h v → HasSeen h u
seen_same h v u names values counts seen = record {
  values = λ q cell n a b. seen.values q cell n (subst (λ l. Contains l (Future q, cell)) names a) (subst (λ l. Contains l (cell, n)) values b);
  counts = λ q i cell k a b. seen.counts q i cell k (subst (λ l. Contains l (Counter q i, cell)) names a) (subst (λ l. Contains l (cell, k)) counts b);
}

-- what the view has seen is enough for the heap
pub enough : (h : Heap) (v : View) (m : Move) (c : Change) → HasSeen h v → SeenEnough v m c → Enabled h m c
enough h v Stays c seen e = e
enough h v (Moves d) c seen e = e
enough h v (Touch q f) c seen e = (e.1, seen.values q e.0 e.1 e.2 e.3, e.4)
enough h v (Join q i least d) c seen e = let a = seen.counts q i e.0 e.1 e.2 e.3 in let b : least ≤ e.1 = e.4 in (omega arith, e.5)

-- ---- the moves without an item

pub suspended_among : (top : Known) (rest ks : List Known) → AreAmong ((top ∷ rest) ++ ks) (rest ++ top ∷ ks)
suspended_among top rest ks = record {
  times = λ q. times_back q top rest ks;
  each = λ t m. ⊎_elim
      (λ (a : Contains rest t). (t, contains_later t top (rest ++ ks) (Contains-append_left rest ks t a), refl, refl))
      (λ (b : Contains (top ∷ ks) t). ⊎_elim
      (λ (e : top ≡ t). (t, subst (λ x. Contains (top ∷ (rest ++ ks)) x) e (contains_here top (rest ++ ks)), refl, refl))
      (λ (n : Contains ks t). (t, contains_later t top (rest ++ ks) (Contains-append_right rest ks t n), refl, refl))
      (contains_case t top ks b))
      (Contains-append_cases rest (top ∷ ks) t m);
}

pub begun_among : (top : Known) (rest : List Known) → AreAmong (top ∷ rest) (record top { begun = true } ∷ rest)
begun_among top rest = record {
  times = λ q. omega arith;
  each = λ t m. ⊎_elim
      (λ (e : record top { begun = true } ≡ t). (top, contains_here top rest, ap (λ (x : Known). x.path) e, ap (λ (x : Known). x.thread) e))
      (λ (n : Contains rest t). (t, contains_later t top rest n, refl, refl))
      (contains_case t (record top { begun = true }) rest m);
}

-- a chain of the turn, and the turn without the chains of its cell

known_in : (x : Carried) (xs : List Carried) → Contains xs x → Contains (known_of xs) x.known
known_in x [] m = absurd (contains_none x m)
known_in x (y ∷ ys) m = ⊎_elim
    (λ (e : y ≡ x). subst (λ (z : Carried). Contains (known_of (y ∷ ys)) z.known) e (contains_here y.known (known_of ys)))
    (λ (n : Contains ys x). contains_later x.known y.known (known_of ys) (known_in x ys n))
    (contains_case x y ys m)

abbrev kept_when : Bool → Carried → List Carried → List Carried
kept_when b y ys = cond b (y ∷ ys) ys

without_is : (c : ℕ) (y : Carried) (ys : List Carried) (b : Bool) → not (y.known.note.cell == c) ≡ b → without_chain c (y ∷ ys) ≡ kept_when b y (without_chain c ys)
without_is c y ys b e = ap (λ k. kept_when k y (without_chain c ys)) e

without_fewer : (c : ℕ) (q : Path) (xs : List Carried) → steps_of q (paths_of (known_of (without_chain c xs))) ≤ steps_of q (paths_of (known_of xs))
without_fewer c q [] = omega arith
without_fewer c q (y ∷ ys) =
    let more = without_fewer c q ys in
    ⊎_elim
    (λ (e : y.known.note.cell ≡ c).
    let a : steps_of q (paths_of (known_of (without_chain c (y ∷ ys)))) ≡ steps_of q (paths_of (known_of (without_chain c ys))) = ap (λ l. steps_of q (paths_of (known_of l))) (without_is c y ys false (ap not (eq-eqb y.known.note.cell c e))) in
    let b = times_front q y.known.path [] (paths_of (known_of ys)) (omega arith) in
    let d : steps_of q (paths_of (known_of ys)) ≤ steps_of q (paths_of (known_of (y ∷ ys))) = later_more q y.known.path (paths_of (known_of ys)) in
    omega arith)
    (λ (n : y.known.note.cell ≢ c).
    let a : steps_of q (paths_of (known_of (without_chain c (y ∷ ys)))) ≡ steps_of q (paths_of (known_of (y ∷ without_chain c ys))) = ap (λ l. steps_of q (paths_of (known_of l))) (without_is c y ys true (ap not (ne_eqb y.known.note.cell c n))) in
    let b = times_front q y.known.path (paths_of (known_of (without_chain c ys))) (paths_of (known_of ys)) more in
    omega arith)
    (cases_eq y.known.note.cell c)

restarted_fewer : (q : Path) (x : Carried) (xs : List Carried) → Contains xs x → steps_of q (paths_of (x.known ∷ known_of (without_chain x.known.note.cell xs))) ≤ steps_of q (paths_of (known_of xs))
restarted_fewer q x [] m = absurd (contains_none x m)
restarted_fewer q x (y ∷ ys) m =
    let c = x.known.note.cell in
    ⊎_elim
    (λ (e : y ≡ x).
    let cell : y.known.note.cell ≡ c = ap (λ (z : Carried). z.known.note.cell) e in
    let a : steps_of q (paths_of (x.known ∷ known_of (without_chain c (y ∷ ys)))) ≡ steps_of q (paths_of (x.known ∷ known_of (without_chain c ys))) = ap (λ l. steps_of q (paths_of (x.known ∷ known_of l))) (without_is c y ys false (ap not (eq-eqb y.known.note.cell c cell))) in
    let b = times_front q x.known.path (paths_of (known_of (without_chain c ys))) (paths_of (known_of ys)) (without_fewer c q ys) in
    let d : steps_of q (paths_of (x.known ∷ known_of ys)) ≡ steps_of q (paths_of (known_of (y ∷ ys))) = ap (λ (z : Carried). steps_of q (z.known.path ∷ paths_of (known_of ys))) (sym e) in
    omega arith)
    (λ (n : Contains ys x).
    let more = restarted_fewer q x ys n in
    ⊎_elim
    (λ (e : y.known.note.cell ≡ c).
    let a : steps_of q (paths_of (x.known ∷ known_of (without_chain c (y ∷ ys)))) ≡ steps_of q (paths_of (x.known ∷ known_of (without_chain c ys))) = ap (λ l. steps_of q (paths_of (x.known ∷ known_of l))) (without_is c y ys false (ap not (eq-eqb y.known.note.cell c e))) in
    let d = later_more q y.known.path (paths_of (known_of ys)) in
    omega arith)
    (λ (ne : y.known.note.cell ≢ c).
    let a : steps_of q (paths_of (x.known ∷ known_of (without_chain c (y ∷ ys)))) ≡ steps_of q (paths_of (x.known ∷ y.known ∷ known_of (without_chain c ys))) = ap (λ l. steps_of q (paths_of (x.known ∷ known_of l))) (without_is c y ys true (ap not (ne_eqb y.known.note.cell c ne))) in
    let b = times_swap q x.known.path y.known.path (paths_of (known_of (without_chain c ys))) in
    let d = times_front q y.known.path (paths_of (x.known ∷ known_of (without_chain c ys))) (paths_of (known_of ys)) more in
    omega arith)
    (cases_eq y.known.note.cell c))
    (contains_case x y ys m)

known_left : (c : ℕ) (t : Known) (xs : List Carried) → Contains (known_of (without_chain c xs)) t → Contains (known_of xs) t
known_left c t [] m = m
known_left c t (y ∷ ys) m = ⊎_elim
    (λ (e : y.known.note.cell ≡ c).
    contains_later t y.known (known_of ys) (known_left c t ys (subst (λ l. Contains (known_of l) t) (without_is c y ys false (ap not (eq-eqb y.known.note.cell c e))) m)))
    (λ (n : y.known.note.cell ≢ c). ⊎_elim
    (λ (e : y.known ≡ t). subst (λ z. Contains (known_of (y ∷ ys)) z) e (contains_here y.known (known_of ys)))
    (λ (k : Contains (known_of (without_chain c ys)) t). contains_later t y.known (known_of ys) (known_left c t ys k))
    (contains_case t y.known (known_of (without_chain c ys)) (subst (λ l. Contains (known_of l) t) (without_is c y ys true (ap not (ne_eqb y.known.note.cell c n))) m)))
    (cases_eq y.known.note.cell c)

pub restarted_among : (x : Carried) (xs : List Carried) → Contains xs x → AreAmong (known_of xs) (x.known ∷ known_of (without_chain x.known.note.cell xs))
restarted_among x xs m = record {
  times = λ q. restarted_fewer q x xs m;
  each = λ t k. ⊎_elim
      (λ (e : x.known ≡ t). (t, subst (λ z. Contains (known_of xs) z) e (known_in x xs m), refl, refl))
      (λ (n : Contains (known_of (without_chain x.known.note.cell xs)) t). (t, known_left x.known.note.cell t xs n, refl, refl))
      (contains_case t x.known (known_of (without_chain x.known.note.cell xs)) k);
}
