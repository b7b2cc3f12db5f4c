-- Numbers of lists, each once: map_out and map_only (an element of a list by its number), append_in, append_case and append_once (a list with one more at its
-- end), filter_numbers and filter_once (a list without a chain).
use Rattle.std.proofs.Common.{◌≡◌, ◌≢◌, ◌⊎◌, inl, inr, ⊎_elim, ℕ, Bool, true, false, cond, not, ◌==◌, List, [], ◌∷◌, ◌++◌, map, refl, sym, ap, ◌∙◌, subst}
use Rattle.std.specs.List.{Contains}
use Rattle.st_words.specs.declared.view.Known.{Known}
use Rattle.st_words.specs.declared.view.Carried.{Carried}
use Rattle.st_words.specs.Views.{without_chain}
use Rattle.st_words.proofs.Lists.{contains_here, contains_later, contains_case, contains_none, filter_in, filter_out, other_true, other_false, map_in}
use Rattle.st_seats.specs.Placing.{AreOnce, cells_of, chain_cells}

pub map_out : {X Y : Type 0} (f : X → Y) (xs : List X) (y : Y) → Contains (map f xs) y → (x : X) × Contains xs x × (f x ≡ y)
map_out {X} {Y} f [] y m = absurd (contains_none y m)
map_out {X} {Y} f (x ∷ xs) y m = ⊎_elim
    (λ (e : f x ≡ y). (x, contains_here x xs, e))
    (λ (n : Contains (map f xs) y). let r = map_out f xs y n in (r.0, contains_later r.0 x xs r.1, r.2)) (contains_case y (f x) (map f xs) m)

pub map_has : {X : Type 0} (f : X → ℕ) (xs : List X) (x : X) (c : ℕ) → Contains xs x → f x ≡ c → Contains (map f xs) c
map_has {X} f xs x c m e = subst (λ (d : ℕ). Contains (map f xs) d) e (map_in f xs x m)

-- an element is one by its number
pub map_only : {X : Type 0} (f : X → ℕ) (xs : List X) (x y : X) → AreOnce (map f xs) → Contains xs x → Contains xs y → f x ≡ f y → x ≡ y
map_only {X} f [] x y o m k e = absurd (contains_none x m)
map_only {X} f (z ∷ zs) x y o m k e = ⊎_elim
    (λ (a : z ≡ x). ⊎_elim
    (λ (b : z ≡ y). sym a ∙ b)
    (λ (q : Contains zs y). absurd (o.0 (map_has f zs y (f z) q (sym e ∙ ap f (sym a))))) (contains_case y z zs k))
    (λ (p : Contains zs x). ⊎_elim
    (λ (b : z ≡ y). absurd (o.0 (map_has f zs x (f z) p (e ∙ ap f (sym b)))))
    (λ (q : Contains zs y). map_only f zs x y o.1 p q e) (contains_case y z zs k)) (contains_case x z zs m)

-- ---- one more at the end

pub append_cells : (ts : List Known) (t : Known) → cells_of (ts ++ t ∷ []) ≡ cells_of ts ++ t.note.cell ∷ []
append_cells [] t = refl
append_cells (s ∷ ts) t = ap (λ (cs : List ℕ). s.note.cell ∷ cs) (append_cells ts t)

pub append_in : (cs : List ℕ) (c d : ℕ) → Contains cs d → Contains (cs ++ c ∷ []) d
append_in [] c d m = absurd (contains_none d m)
append_in (e ∷ cs) c d m = ⊎_elim
    (λ (s : e ≡ d). subst (λ (z : ℕ). Contains (z ∷ (cs ++ c ∷ [])) d) (sym s) (contains_here d (cs ++ c ∷ [])))
    (λ (n : Contains cs d). contains_later d e (cs ++ c ∷ []) (append_in cs c d n)) (contains_case d e cs m)

pub append_end : (cs : List ℕ) (c : ℕ) → Contains (cs ++ c ∷ []) c
append_end [] c = contains_here c []
append_end (e ∷ cs) c = contains_later c e (cs ++ c ∷ []) (append_end cs c)

pub append_case : (cs : List ℕ) (c d : ℕ) → Contains (cs ++ c ∷ []) d → (c ≡ d) ⊎ Contains cs d
append_case [] c d m = contains_case d c [] m
append_case (e ∷ cs) c d m = ⊎_elim
    (λ (s : e ≡ d). inr (subst (λ (z : ℕ). Contains (z ∷ cs) d) (sym s) (contains_here d cs)))
    (λ (n : Contains (cs ++ c ∷ []) d). ⊎_elim (λ (s : c ≡ d). inl s) (λ (p : Contains cs d). inr (contains_later d e cs p)) (append_case cs c d n)) (contains_case d e (cs ++ c ∷ []) m)

pub append_once : (cs : List ℕ) (c : ℕ) → AreOnce (cs ++ c ∷ []) → AreOnce cs × (Contains cs c → ⊥)
append_once [] c o = (tt, λ m. contains_none c m)
append_once (e ∷ cs) c o =
    let r = append_once cs c o.1 in
    ((λ m. o.0 (append_in cs c e m), r.0), λ m. ⊎_elim (λ (s : e ≡ c). o.0 (subst (λ (z : ℕ). Contains (cs ++ c ∷ []) z) (sym s) (append_end cs c))) r.1 (contains_case c e cs m))

-- ---- without a chain

pub filter_numbers : (c d : ℕ) (xs : List Carried) → Contains (chain_cells xs) d → d ≢ c → Contains (chain_cells (without_chain c xs)) d
filter_numbers c d xs m n =
    let r = map_out (λ (x : Carried). x.known.note.cell) xs d m in
    map_has (λ (x : Carried). x.known.note.cell) (without_chain c xs) r.0 d (filter_in (λ (x : Carried). not (x.known.note.cell == c)) xs r.0 r.1 (other_true r.0.known.note.cell c (λ e. n (sym r.2 ∙ e)))) r.2

pub filter_rest : (c : ℕ) (xs : List Carried) (x : Carried) → Contains (without_chain c xs) x → Contains xs x × (x.known.note.cell ≢ c)
filter_rest c xs x m = let r = filter_out (λ (x : Carried). not (x.known.note.cell == c)) xs x m in (r.0, other_false x.known.note.cell c r.1)

pub filter_once : (c : ℕ) (xs : List Carried) → AreOnce (chain_cells xs) → AreOnce (chain_cells (without_chain c xs))
filter_once c [] o = tt
filter_once c (x ∷ xs) o = by (not (x.known.note.cell == c)) (filter_once c xs o.1)
  where
    by : (b : Bool) → AreOnce (chain_cells (without_chain c xs)) → AreOnce (chain_cells (cond b (x ∷ without_chain c xs) (without_chain c xs)))
    by true r = (
      λ m. let q = map_out (λ (y : Carried). y.known.note.cell) (without_chain c xs) x.known.note.cell m in
          o.0 (map_has (λ (y : Carried). y.known.note.cell) xs q.0 x.known.note.cell (filter_rest c xs q.0 q.1).0 q.2),
      r,
    )
    by false r = r
