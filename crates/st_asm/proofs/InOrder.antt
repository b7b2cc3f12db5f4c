-- Lists in order: one holds another's elements in their order (HasInOrder). What holds of all, or of all pairs, of the first holds of the
-- second (all-in_order, pairs-in_order). Reach for in_order-append, in_order-skip and in_order-trans to put such lists together, for
-- pairs-append to join lists whose pairs are related, and for pairs-front, pairs-back and pairs-across to part them.
use Rattle.std.proofs.Common.{◌≡◌, suc, List, [], ◌∷◌, ◌++◌, ◌⊎◌, inl, inr, refl, subst, ◌∙◌, arith, All}
use Rattle.std.specs.Prelude.{AllPairs}
use Rattle.std.proofs.lemmas.List.Elements.{All-nil, All-cons, All-head, All-tail, All-append}
use Rattle.std.proofs.lemmas.List.Kept.{AllPairs-cons}

-- the first list has the elements of the second in their order, and maybe others between them
abbrev pub HasInOrder : {X : Type 0} → List X → List X → Type 0
HasInOrder [] [] = Unit {0}
HasInOrder [] (x ∷ xs) = ⊥
HasInOrder (y ∷ ys) [] = Unit {0}
HasInOrder (y ∷ ys) (x ∷ xs) = ((y ≡ x) × HasInOrder ys xs) ⊎ HasInOrder ys (x ∷ xs)

-- ---- lists that hold others

pub in_order-none : {X : Type 0} (ys : List X) → HasInOrder ys []
in_order-none [] = tt
in_order-none (y ∷ ys) = tt

pub in_order-skip : {X : Type 0} (y : X) (ys xs : List X) → HasInOrder ys xs → HasInOrder (y ∷ ys) xs
in_order-skip y ys [] h = tt
in_order-skip y ys (x ∷ xs) h = inr h

pub in_order-keep : {X : Type 0} (y : X) (ys xs : List X) → HasInOrder ys xs → HasInOrder (y ∷ ys) (y ∷ xs)
in_order-keep y ys xs h = inl (refl, h)

pub in_order-refl : {X : Type 0} (xs : List X) → HasInOrder xs xs
in_order-refl [] = tt
in_order-refl (x ∷ xs) = in_order-keep x xs xs (in_order-refl xs)

pub in_order-front : {X : Type 0} (xs ys : List X) → HasInOrder (xs ++ ys) xs
in_order-front [] ys = in_order-none ys
in_order-front (x ∷ xs) ys = in_order-keep x (xs ++ ys) xs (in_order-front xs ys)

pub in_order-append : {X : Type 0} (ys xs zs ws : List X) → HasInOrder ys xs → HasInOrder zs ws → HasInOrder (ys ++ zs) (xs ++ ws)
in_order-append [] [] zs ws h k = k
in_order-append [] (x ∷ xs) zs ws h k = absurd h
in_order-append (y ∷ ys) [] zs ws h k = in_order-skip y (ys ++ zs) ws (in_order-append ys [] zs ws (in_order-none ys) k)
in_order-append (y ∷ ys) (x ∷ xs) zs ws (inl h) k = inl (h.0, in_order-append ys xs zs ws h.1 k)
in_order-append (y ∷ ys) (x ∷ xs) zs ws (inr h) k = inr (in_order-append ys (x ∷ xs) zs ws h k)

pub in_order-trans : {X : Type 0} (zs ys xs : List X) → HasInOrder zs ys → HasInOrder ys xs → HasInOrder zs xs
in_order-trans [] [] xs h k = k
in_order-trans [] (y ∷ ys) xs h k = absurd h
in_order-trans (z ∷ zs) ys [] h k = tt
in_order-trans (z ∷ zs) [] (x ∷ xs) h k = absurd k
in_order-trans (z ∷ zs) (y ∷ ys) (x ∷ xs) (inl h) (inl k) = inl (h.0 ∙ k.0, in_order-trans zs ys xs h.1 k.1)
in_order-trans (z ∷ zs) (y ∷ ys) (x ∷ xs) (inl h) (inr k) = inr (in_order-trans zs ys (x ∷ xs) h.1 k)
in_order-trans (z ∷ zs) (y ∷ ys) (x ∷ xs) (inr h) k = inr (in_order-trans zs (y ∷ ys) (x ∷ xs) h k)

-- ---- pairs

pub pairs-none : {X : Type 0} (R : X → X → Type 0) → AllPairs R []
pairs-none R = λ i j d before inside. absurd (omega arith)

pub pairs-head : {X : Type 0} (R : X → X → Type 0) (x : X) (xs : List X) → AllPairs R (x ∷ xs) → All (R x) xs
pairs-head R x xs h = λ k d inside. h 0 (suc k) d (omega arith) (omega arith)

pub pairs-tail : {X : Type 0} (R : X → X → Type 0) (x : X) (xs : List X) → AllPairs R (x ∷ xs) → AllPairs R xs
pairs-tail R x xs h = λ i j d before inside. h (suc i) (suc j) d (omega arith) (omega arith)

pub all-in_order : {X : Type 0} (P : X → Type 0) (ys xs : List X) → HasInOrder ys xs → All P ys → All P xs
all-in_order P [] [] h all = all
all-in_order P [] (x ∷ xs) h all = absurd h
all-in_order P (y ∷ ys) [] h all = All-nil P
all-in_order P (y ∷ ys) (x ∷ xs) (inl h) all = All-cons P x xs (subst P h.0 (All-head P y ys all)) (all-in_order P ys xs h.1 (All-tail P y ys all))
all-in_order P (y ∷ ys) (x ∷ xs) (inr h) all = all-in_order P ys (x ∷ xs) h (All-tail P y ys all)

pub pairs-in_order : {X : Type 0} (R : X → X → Type 0) (ys xs : List X) → HasInOrder ys xs → AllPairs R ys → AllPairs R xs
pairs-in_order R [] [] h all = all
pairs-in_order R [] (x ∷ xs) h all = absurd h
pairs-in_order R (y ∷ ys) [] h all = pairs-none R
pairs-in_order R (y ∷ ys) (x ∷ xs) (inl h) all =
    AllPairs-cons R x xs (subst (λ z. All (R z) xs) h.0 (all-in_order (R y) ys xs h.1 (pairs-head R y ys all))) (pairs-in_order R ys xs h.1 (pairs-tail R y ys all))
pairs-in_order R (y ∷ ys) (x ∷ xs) (inr h) all = pairs-in_order R ys (x ∷ xs) h (pairs-tail R y ys all)

pub pairs-append : {X : Type 0} (R : X → X → Type 0) (xs ys : List X) → AllPairs R xs → AllPairs R ys → All (λ x. All (R x) ys) xs → AllPairs R (xs ++ ys)
pairs-append R [] ys h k across = k
pairs-append R (x ∷ xs) ys h k across =
    AllPairs-cons R x (xs ++ ys) (All-append (R x) xs ys (pairs-head R x xs h) (All-head (λ z. All (R z) ys) x xs across))
    (pairs-append R xs ys (pairs-tail R x xs h) k (All-tail (λ z. All (R z) ys) x xs across))

pub all-front : {X : Type 0} (P : X → Type 0) (xs ys : List X) → All P (xs ++ ys) → All P xs
all-front P [] ys all = All-nil P
all-front P (x ∷ xs) ys all = All-cons P x xs (All-head P x (xs ++ ys) all) (all-front P xs ys (All-tail P x (xs ++ ys) all))

pub all-back : {X : Type 0} (P : X → Type 0) (xs ys : List X) → All P (xs ++ ys) → All P ys
all-back P [] ys all = all
all-back P (x ∷ xs) ys all = all-back P xs ys (All-tail P x (xs ++ ys) all)

pub pairs-front : {X : Type 0} (R : X → X → Type 0) (xs ys : List X) → AllPairs R (xs ++ ys) → AllPairs R xs
pairs-front R [] ys all = pairs-none R
pairs-front R (x ∷ xs) ys all =
    AllPairs-cons R x xs (all-front (R x) xs ys (pairs-head R x (xs ++ ys) all)) (pairs-front R xs ys (pairs-tail R x (xs ++ ys) all))

pub pairs-back : {X : Type 0} (R : X → X → Type 0) (xs ys : List X) → AllPairs R (xs ++ ys) → AllPairs R ys
pairs-back R [] ys all = all
pairs-back R (x ∷ xs) ys all = pairs-back R xs ys (pairs-tail R x (xs ++ ys) all)

pub pairs-across : {X : Type 0} (R : X → X → Type 0) (xs ys : List X) → AllPairs R (xs ++ ys) → All (λ x. All (R x) ys) xs
pairs-across R [] ys all = All-nil (λ x. All (R x) ys)
pairs-across R (x ∷ xs) ys all =
    All-cons (λ z. All (R z) ys) x xs (all-back (R x) xs ys (pairs-head R x (xs ++ ys) all)) (pairs-across R xs ys (pairs-tail R x (xs ++ ys) all))
