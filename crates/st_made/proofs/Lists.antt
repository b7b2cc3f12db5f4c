-- How often a path is in a list of threads: times_here, times_there, times_back, and known_here and known_of_path for the threads themselves.
use Rattle.std.proofs.Common.{◌≡◌, ◌≢◌, ⊎_elim, ◌+◌, ◌≤◌, true, cond, List, [], ◌∷◌, ◌++◌, sym, ap, subst, arith}
use Rattle.std.specs.List.{Contains}
use Rattle.std.specs.Str.{bytes_eq}
use Rattle.st_words.specs.declared.view.Known.{Known}
use Rattle.st_words.proofs.Lists.{contains_here, contains_later, contains_none, contains_case}
use Rattle.st_model.specs.Heap.{Path, steps_of}
use Rattle.st_laws.proofs.HeapSteps.{decide, eq_same, eq_other}
use Rattle.st_made.specs.Runs.{paths_of}

pub times_here : (p q : Path) (qs : List Path) → p ≡ q → steps_of p (q ∷ qs) ≡ steps_of p qs + 1
times_here p q qs e = ap (λ b. cond b (steps_of p qs + 1) (steps_of p qs)) (subst (λ x. bytes_eq p x ≡ true) e (eq_same p))

pub times_there : (p q : Path) (qs : List Path) → p ≢ q → steps_of p (q ∷ qs) ≡ steps_of p qs
times_there p q qs ne = ap (λ b. cond b (steps_of p qs + 1) (steps_of p qs)) (eq_other p q ne)

pub later_more : (p q : Path) (qs : List Path) → steps_of p qs ≤ steps_of p (q ∷ qs)
later_more p q qs = ⊎_elim
    (λ (e : p ≡ q). let a = times_here p q qs e in omega arith)
    (λ (n : p ≢ q). let a = times_there p q qs n in omega arith) (decide p q)

-- what is in front counts the same
pub times_front : (p q : Path) (xs ys : List Path) → steps_of p xs ≤ steps_of p ys → steps_of p (q ∷ xs) ≤ steps_of p (q ∷ ys)
times_front p q xs ys le = ⊎_elim
    (λ (e : p ≡ q). let a = times_here p q xs e in let b = times_here p q ys e in omega arith)
    (λ (n : p ≢ q). let a = times_there p q xs n in let b = times_there p q ys n in omega arith) (decide p q)

-- two in front may change places
pub times_swap : (p q r : Path) (xs : List Path) → steps_of p (q ∷ r ∷ xs) ≤ steps_of p (r ∷ q ∷ xs)
times_swap p q r xs = ⊎_elim
    (λ (e : p ≡ q). let a = times_here p q (r ∷ xs) e in let b = times_here p q xs e in ⊎_elim
    (λ (f : p ≡ r). let c = times_here p r xs f in let d = times_here p r (q ∷ xs) f in omega arith)
    (λ (n : p ≢ r). let c = times_there p r xs n in let d = times_there p r (q ∷ xs) n in omega arith) (decide p r))
    (λ (m : p ≢ q). let a = times_there p q (r ∷ xs) m in let b = times_there p q xs m in ⊎_elim
    (λ (f : p ≡ r). let c = times_here p r xs f in let d = times_here p r (q ∷ xs) f in omega arith)
    (λ (n : p ≢ r). let c = times_there p r xs n in let d = times_there p r (q ∷ xs) n in omega arith) (decide p r)) (decide p q)

-- a thread from the front to a place further back
pub times_back : (p : Path) (t : Known) (xs ys : List Known) → steps_of p (paths_of (xs ++ t ∷ ys)) ≤ steps_of p (paths_of (t ∷ (xs ++ ys)))
times_back p t [] ys = omega arith
times_back p t (x ∷ xs) ys =
    let a = times_front p x.path (paths_of (xs ++ t ∷ ys)) (paths_of (t ∷ (xs ++ ys))) (times_back p t xs ys) in
    let b = times_swap p x.path t.path (paths_of (xs ++ ys)) in
    omega arith

-- a thread of the list counts
pub known_here : (ts : List Known) (t : Known) → Contains ts t → 1 ≤ steps_of t.path (paths_of ts)
known_here [] t m = absurd (contains_none t m)
known_here (u ∷ ts) t m = ⊎_elim
    (λ (e : u ≡ t). let x = times_here t.path u.path (paths_of ts) (sym (ap (λ (y : Known). y.path) e)) in omega arith)
    (λ (n : Contains ts t). let more = known_here ts t n in
    ⊎_elim (λ (e : t.path ≡ u.path). let x = times_here t.path u.path (paths_of ts) e in omega arith)
    (λ (ne : t.path ≢ u.path). let x = times_there t.path u.path (paths_of ts) ne in omega arith) (decide t.path u.path)) (contains_case t u ts m)

-- a path that counts is of a thread of the list
pub known_of_path : (ts : List Known) (p : Path) → 1 ≤ steps_of p (paths_of ts) → (t : Known) × Contains ts t × (t.path ≡ p)
known_of_path [] p le = absurd (omega arith)
known_of_path (u ∷ ts) p le = ⊎_elim
    (λ (e : p ≡ u.path). (u, contains_here u ts, sym e))
    (λ (ne : p ≢ u.path). let x = times_there p u.path (paths_of ts) ne in let more = known_of_path ts p (omega arith) in (more.0, contains_later more.0 u ts more.1, more.2)) (decide p u.path)
