-- Lists of frames: apart_of and apart_across (two frames of a list that is apart), are_apart (apart from each, so from all), in_both (no frame stands in
-- two parts of it) and two_parts (a list that is parted twice).
use Rattle.std.proofs.Common.{◌≡◌, ◌≢◌, ◌⊎◌, inl, inr, zero, suc, ◌<◌, List, [], ◌∷◌, ◌++◌, refl, sym, ◌∙◌, subst, arith}
use Rattle.std.specs.List.{Contains}
use Rattle.std.proofs.lemmas.List.Elements.{Contains-append_right}
use Rattle.st_base.specs.declared.chain.Frame.{Frame}
use Rattle.st_stack.specs.Exported.{Apart}
use Rattle.st_chain.specs.Seen.{AreApart}
use Rattle.st_chain.specs.Taking.{AllApart}
use Rattle.st_chain.proofs.Joining.{contains_here, contains_more, apart_at, turned, split_apart}

-- ---- members

pub in_none : (f : Frame) → Contains [] f → ⊥
in_none f (k, inside, is) = omega arith

pub first_or_later : (f g : Frame) (fs : List Frame) → Contains (f ∷ fs) g → (g ≡ f) ⊎ Contains fs g
first_or_later f g fs (zero, inside, is) = inl (sym is)
first_or_later f g fs (suc k, inside, is) = inr (k, omega arith, is)

-- ---- a list that is parted twice

-- one of the two parts goes further than the other
abbrev pub GoesFurther : List Frame → List Frame → List Frame → List Frame → Type 0
GoesFurther xs ys front back = (mid : List Frame) × (xs ≡ front ++ mid) × (back ≡ mid ++ ys)

longer : (x y : Frame) (xs ys front back : List Frame) → x ≡ y → GoesFurther xs ys front back → GoesFurther (x ∷ xs) ys (y ∷ front) back
longer x y xs ys front back same (mid, whole, left) = (mid, (λ i. same i ∷ whole i), left)

pub two_parts : (xs ys front back : List Frame) → xs ++ ys ≡ front ++ back → GoesFurther xs ys front back ⊎ GoesFurther front back xs ys
two_parts [] ys front back same = inr (front, refl, same)
two_parts (x ∷ xs) ys [] back same = inl (x ∷ xs, refl, sym same)
two_parts (x ∷ xs) ys (y ∷ front) back same =
    let first : x ≡ y = cc in
    let rest : xs ++ ys ≡ front ++ back = cc in
    elim (two_parts xs ys front back rest) [
      | inl further ↦ inl (longer x y xs ys front back first further)
      | inr further ↦ inr (longer y x front back xs ys (sym first) further)
    ]

-- ---- frames that are apart

-- apart from each, so from all
pub are_apart : (f : Frame) (gs : List Frame) → AllApart gs → ((g : Frame) → Contains gs g → Apart f g) → AreApart f gs
are_apart f [] all each = tt
are_apart f (g ∷ gs) all each = (each g (contains_here g gs), all.0, are_apart f gs all.2 (λ h there. each h (contains_more g h gs there)))

pub apart_of : (fs : List Frame) (f g : Frame) → AllApart fs → Contains fs f → Contains fs g → f ≢ g → Apart f g
apart_of [] f g all one two other = absurd (in_none f one)
apart_of (x ∷ xs) f g all one two other =
    elim (first_or_later x f xs one) [
      | inl is ↦ elim (first_or_later x g xs two) [
        | inl too ↦ absurd (other (is ∙ sym too))
        | inr there ↦ subst (λ (h : Frame). Apart h g) (sym is) (apart_at x g xs all.1 there)
      ]
      | inr here ↦ elim (first_or_later x g xs two) [
        | inl is ↦ subst (Apart f) (sym is) (turned x f (apart_at x f xs all.1 here))
        | inr there ↦ apart_of xs f g all.2 here there other
      ]
    ]

-- one of the first part and one of the second
pub apart_across : (xs ys : List Frame) (f g : Frame) → AllApart (xs ++ ys) → Contains xs f → Contains ys g → Apart f g
apart_across [] ys f g all one two = absurd (in_none f one)
apart_across (x ∷ xs) ys f g all one two =
    elim (first_or_later x f xs one) [
      | inl is ↦ subst (λ (h : Frame). Apart h g) (sym is) (apart_at x g (xs ++ ys) all.1 (Contains-append_right xs ys g two))
      | inr here ↦ apart_across xs ys f g all.2 here two
    ]

-- a part of it
pub all_front : (xs ys : List Frame) → AllApart (xs ++ ys) → AllApart xs
all_front [] ys all = tt
all_front (x ∷ xs) ys all = (all.0, (split_apart x xs ys all.1).0, all_front xs ys all.2)

-- no frame lies apart from itself
pub not_itself : (f : Frame) → f.low < f.base → Apart f f → ⊥
not_itself f some (inl under) = omega arith
not_itself f some (inr over) = omega arith
