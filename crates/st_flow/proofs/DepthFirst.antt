-- What a search by depth keeps: its visits are of nodes (entered, noted), and each node is entered once (fewer_unseen).
use Rattle.std.proofs.Common.{◌≡◌, ℕ, ◌+◌, ◌<◌, ◌≤◌, Bool, true, false, cond, List, [], ◌∷◌, ◌++◌, length, get_or, Option, Some, None, sym, ap, ◌∙◌, subst, arith, inl, inr}
use Rattle.std.specs.Prelude.{slice_set, not, IfSome}
use Rattle.std.specs.List.{Contains}
use Rattle.std.proofs.lemmas.List.{length-append}
use Rattle.std.proofs.lemmas.List.Sums.{sum_by-set}
use Rattle.std.proofs.lemmas.List.Elements.{Contains-push, Contains-push_cases, Contains-append_left}
use Rattle.st_flow.specs.declared.order.Visit.{Visit}
use Rattle.st_flow.specs.declared.order.Visit.TheVariants.{Enter, Leave}
use Rattle.st_flow.specs.Search.{unseen}
use Rattle.st_flow.specs.Order.{node_of, AreVisits, AreNodes, Notes}

pub visits_push : (n : ℕ) (old new : List Visit) (v : Visit) → new ≡ old ++ v ∷ [] → node_of v < n → AreVisits n old → AreVisits n new
visits_push n old new v e lt h =
    subst (AreVisits n) (sym e) (λ x c. elim (Contains-push_cases old v x c) as (λ y. node_of x < n) [ inl a ↦ h x a | inr s ↦ subst (λ y. node_of y < n) s lt ])

pub nodes_push : (n : ℕ) (old new : List ℕ) (v : ℕ) → new ≡ old ++ v ∷ [] → v < n → AreNodes n old → AreNodes n new
nodes_push n old new v e lt h =
    subst (AreNodes n) (sym e) (λ x c. elim (Contains-push_cases old v x c) as (λ y. x < n) [ inl a ↦ h x a | inr s ↦ subst (λ y. y < n) s lt ])

pub visits_none : (n : ℕ) (stack : List Visit) → stack ≡ [] → AreVisits n stack
visits_none n stack e = λ v c. absurd (let d : Contains [] v = subst (λ l. Contains l v) e c in let lt = d.1 in omega arith)

pub nodes_none : (n : ℕ) (list : List ℕ) → list ≡ [] → AreNodes n list
nodes_none n list e = λ v c. absurd (let d : Contains [] v = subst (λ l. Contains l v) e c in let lt = d.1 in omega arith)

pub visit_last : (n : ℕ) (old rest : List Visit) (v : Visit) → old ≡ rest ++ v ∷ [] → AreVisits n old → node_of v < n
visit_last n old rest v e h = h v (subst (λ l. Contains l v) (sym e) (Contains-push rest v))

pub visits_rest : (n : ℕ) (old rest : List Visit) (v : Visit) → old ≡ rest ++ v ∷ [] → AreVisits n old → AreVisits n rest
visits_rest n old rest v e h = λ x c. h x (subst (λ l. Contains l x) (sym e) (Contains-append_left rest (v ∷ []) x c))

pub noted : (n : ℕ) (to : Option ℕ) (old new : List Visit) → Notes to old new → IfSome to (λ i. i < n) → AreVisits n old → AreVisits n new × (length new ≤ length old + 1)
noted n None old new e lt h = (subst (AreVisits n) (sym e) h, let l : length new ≡ length old = ap length e in omega arith)
noted n (Some i) old new e lt h = (visits_push n old new (Enter i) e lt h, let l : length new ≡ length old + 1 = ap length e ∙ length-append old (Enter i ∷ []) in omega arith)

-- a node's own visit, and those of its two edges
pub entered : (n : ℕ) (next to : Option ℕ) (old pushed mid new : List Visit) (j : ℕ) → pushed ≡ old ++ Leave j ∷ [] → j < n → IfSome next (λ i. i < n) → IfSome to (λ i. i < n) → Notes next pushed mid → Notes to mid new → AreVisits n old → AreVisits n new × (length new ≤ length old + 3)
entered n next to old pushed mid new j e lt a b f g h =
    let l : length pushed ≡ length old + 1 = ap length e ∙ length-append old (Leave j ∷ []) in
    let one = noted n next pushed mid f a (visits_push n old pushed (Leave j) e lt h) in
    let two = noted n to mid new g b one.0 in
    let p = one.1 in
    let q = two.1 in
    (two.0, omega arith)

pub fewer_unseen : (seen : List Bool) (i : ℕ) → i < length seen → get_or seen i false ≡ false → unseen (slice_set seen i true) + 1 ≡ unseen seen
fewer_unseen seen i lt is =
    let f : Bool → ℕ = λ b. cond (not b) 1 0 in
    let s = sum_by-set f seen i true false lt in
    let here : f (get_or seen i false) ≡ 1 = ap f is in
    omega arith
