-- The order in which threads came, by their paths (Came). Read came_own, came_next (the next fork's thread hasn't come), came_child and
-- came_parent (the order as the fork's thread sees it, and then as its parent does).
use Rattle.std.proofs.Common.{◌≡◌, ℕ, ◌<◌, List, [], ◌∷◌, ◌++◌, refl, subst, inl, inr, arith}
use Rattle.st_model.specs.declared.ordinary.Ended.{Ended}
use Rattle.st_model.specs.Ends.{Before, AllBefore, NoneOf}
use Rattle.st_plain.specs.Threads.{Came}

pub came_own : (q : List ℕ) (f : ℕ) → Came q q f
came_own [] f = tt
came_own (x ∷ q) f = inr (refl, came_own q f)

pub came_next : (q : List ℕ) (f : ℕ) → Came (q ++ f ∷ []) q f → ⊥
came_next [] f h = omega arith
came_next (x ∷ q) f (inl less) = omega arith
came_next (x ∷ q) f (inr both) = came_next q f both.1

pub came_child : (e q : List ℕ) (f : ℕ) → Came e q f → Came e (q ++ f ∷ []) 0
came_child [] q f h = tt
came_child (x ∷ e) [] f h = inl h
came_child (x ∷ e) (y ∷ q) f (inl less) = inl less
came_child (x ∷ e) (y ∷ q) f (inr both) = inr (both.0, came_child e q f both.1)

pub came_parent : (e p : List ℕ) (k f g : ℕ) → k < g → Came e (p ++ k ∷ []) f → Came e p g
came_parent [] p k f g less h = tt
came_parent (x ∷ e) [] k f g less (inl earlier) = omega arith
came_parent (x ∷ e) [] k f g less (inr both) = let same : x ≡ k = both.0 in omega arith
came_parent (x ∷ e) (y ∷ p) k f g less (inl earlier) = inl earlier
came_parent (x ∷ e) (y ∷ p) k f g less (inr both) = inr (both.0, came_parent e p k f g less both.1)

before_came : (e q : List ℕ) (f : ℕ) → Before e q f → Came e q f
before_came [] q f h = tt
before_came (x ∷ e) [] f h = h
before_came (x ∷ e) (y ∷ q) f (inl less) = inl less
before_came (x ∷ e) (y ∷ q) f (inr both) = inr (both.0, before_came e q f both.1)

-- the next fork's thread has not ended
pub none_next : (es : List Ended) (q : List ℕ) (f : ℕ) → AllBefore es q f → NoneOf es (q ++ f ∷ [])
none_next [] q f h = tt
none_next (e ∷ es) q f h = ((λ same. came_next q f (subst (λ x. Came x q f) same (before_came e.path q f h.0))), none_next es q f h.1)
