-- How often a path is in a list of threads, as equations: times_both (two lists), times_moved (a thread changes its place), and times_first (a chain of a turn goes to the front). Of members,
-- known_case and left_back tell where they come from.
use Rattle.std.proofs.Common.{◌≡◌, ◌≢◌, ⊎_elim, ℕ, ◌+◌, ◌≤◌, Bool, true, false, cond, not, ◌==◌, List, [], ◌∷◌, ◌++◌, refl, sym, ap, ◌∙◌, subst, arith, eq-eqb}
use Rattle.std.specs.Str.{bytes_eq}
use Rattle.std.specs.List.{Contains}
use Rattle.std.proofs.lemmas.Bool.{cases_eq}
use Rattle.st_words.specs.declared.view.Known.{Known}
use Rattle.st_words.specs.declared.view.Carried.{Carried}
use Rattle.st_words.specs.Views.{without_chain}
use Rattle.st_words.proofs.Lists.{contains_here, contains_later, contains_case, contains_none, filter_out, map_in, other_true}
use Rattle.st_model.specs.Heap.{Path, steps_of}
use Rattle.st_laws.proofs.HeapSteps.{decide}
use Rattle.st_made.specs.Runs.{known_of, paths_of}
use Rattle.st_made.proofs.Lists.{times_here, times_there}
use Rattle.st_made.proofs.Running.{restarted_among}

abbrev pub count : Path → List Known → ℕ
count p ts = steps_of p (paths_of ts)

-- ---- two lists

one_more : (b : Bool) (n m : ℕ) → cond b (n + m + 1) (n + m) ≡ cond b (n + 1) n + m
one_more true n m = omega arith
one_more false n m = refl

pub times_both : (p : Path) (ts us : List Known) → count p (ts ++ us) ≡ count p ts + count p us
times_both p [] us = omega arith
times_both p (t ∷ ts) us = ap (λ n. cond (bytes_eq p t.path) (n + 1) n) (times_both p ts us) ∙ one_more (bytes_eq p t.path) (count p ts) (count p us)

-- a thread changes its place
pub times_moved : (p : Path) (t : Known) (ts us : List Known) → count p (ts ++ t ∷ us) ≡ count p (t ∷ (ts ++ us))
times_moved p t ts us =
    let a = times_both p ts (t ∷ us) in
    let b = times_both p (t ∷ []) us in
    let c = times_both p (t ∷ []) (ts ++ us) in
    let d = times_both p ts us in
    omega arith

-- ---- a turn without the chains of one cell

pub known_case : (xs : List Carried) (t : Known) → Contains (known_of xs) t → (x : Carried) × Contains xs x × (x.known ≡ t)
known_case [] t m = absurd (contains_none t m)
known_case (x ∷ xs) t m = ⊎_elim
    (λ (e : x.known ≡ t). (x, contains_here x xs, e))
    (λ (more : Contains (known_of xs) t). let y = known_case xs t more in (y.0, contains_later y.0 x xs y.1, y.2))
    (contains_case t x.known (known_of xs) m)

pub known_in : (xs : List Carried) (x : Carried) → Contains xs x → Contains (known_of xs) x.known
known_in xs x m = map_in (λ (y : Carried). y.known) xs x m

pub left_back : (c : ℕ) (xs : List Carried) (t : Known) → Contains (known_of (without_chain c xs)) t → Contains (known_of xs) t
left_back c xs t m =
    let z = known_case (without_chain c xs) t m in
    let o = filter_out (λ (x : Carried). not (x.known.note.cell == c)) xs z.0 z.1 in
    subst (λ (k : Known). Contains (known_of xs) k) z.2 (known_in xs z.0 o.0)

-- a path that isn't of them stays as often
without_times : (p q : Path) (c : ℕ) (xs : List Carried) → q ≢ p → ((x : Carried) → Contains xs x → x.known.note.cell ≡ c → x.known.path ≡ p) → count q (known_of (without_chain c xs)) ≡ count q (known_of xs)
without_times p q c [] ne same = refl
without_times p q c (y ∷ ys) ne same =
    let more = without_times p q c ys ne (λ x m e. same x (contains_later x y ys m) e) in
    let by : (b : Bool) → not (y.known.note.cell == c) ≡ b → count q (known_of (without_chain c (y ∷ ys))) ≡ count q (known_of (cond b (y ∷ without_chain c ys) (without_chain c ys))) =
    λ b e. ap (λ k. count q (known_of (cond k (y ∷ without_chain c ys) (without_chain c ys)))) e in
    ⊎_elim
    (λ (e : y.known.note.cell ≡ c).
    let other : q ≢ y.known.path = λ z. ne (z ∙ same y (contains_here y ys) e) in
    by false (ap not (eq-eqb y.known.note.cell c e)) ∙ (more ∙ sym (times_there q y.known.path (paths_of (known_of ys)) other)))
    (λ (n : y.known.note.cell ≢ c). by true (other_true y.known.note.cell c n) ∙ ap (λ m. cond (bytes_eq q y.known.path) (m + 1) m) more)
    (cases_eq y.known.note.cell c)

-- of chains of a cell each, one goes to the front
pub times_first : (p : Path) (x : Carried) (xs : List Carried) → Contains xs x → ((y : Carried) → Contains xs y → y.known.note.cell ≡ x.known.note.cell → y ≡ x) → count x.known.path (known_of xs) ≤ 1 → count p (x.known ∷ known_of (without_chain x.known.note.cell xs)) ≡ count p (known_of xs)
times_first p x xs m single most =
    let c = x.known.note.cell in
    let q = x.known.path in
    let left = known_of (without_chain c xs) in
    ⊎_elim
    (λ (e : p ≡ q).
    let a = times_here p q (paths_of left) e in
    let b = (restarted_among x xs m).times p in
    let d : count p (known_of xs) ≡ count q (known_of xs) = ap (λ (k : Path). count k (known_of xs)) e in
    omega arith)
    (λ (n : p ≢ q). times_there p q (paths_of left) n ∙ without_times q p c xs n (λ y k s. ap (λ (z : Carried). z.known.path) (single y k s)))
    (decide p q)
