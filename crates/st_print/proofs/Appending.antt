-- What a sink took in several puts. appends-none: nothing was put; appends-both: two puts, one after the other; longer-some: a text of
-- which some is left isn't empty.
use Rattle.std.proofs.Common.{◌≡◌, ℕ, ◌+◌, ◌<◌, ◌≤◌, List, [], ◌∷◌, ◌++◌, length, take, drop, Option, Some, None, sym, ap, ◌∙◌, append_assoc, subst, arith, inl, inr}
use Rattle.std.proofs.lemmas.List.{append-nil, take-append-drop, take-append-le, length-take}
use Rattle.std.proofs.Math.Seq.{take-add, take-append_seam, take-append-add}
use Rattle.st_base.specs.Outside.{Appends, HasRisen}

pub appends-none : (o : Option (List ℕ)) → Appends o o []
appends-none None = tt
appends-none (Some x) = sym (append-nil x)

pub appends-both : (a b c : Option (List ℕ)) (x y : List ℕ) → Appends a b x → Appends b c y → Appends a c (x ++ y)
appends-both a b None x y h k = tt
appends-both a None (Some z) x y h k = absurd k
appends-both None (Some w) (Some z) x y h k = absurd h
appends-both (Some v) (Some w) (Some z) x y h k = k ∙ ap (λ t. t ++ y) h ∙ append_assoc v x y

-- a put that took as much of what was left
pub appends-more : (a b c : Option (List ℕ)) (bytes : List ℕ) (m n : ℕ) → Appends a b (take m bytes) → Appends b c (take n (drop m bytes)) → Appends a c (take (m + n) bytes)
appends-more a b c bytes m n h k = subst (Appends a c) (sym (take-add m n bytes)) (appends-both a b c (take m bytes) (take n (drop m bytes)) h k)

pub longer-some : (n : ℕ) (bytes : List ℕ) → n < length bytes → bytes ≡ [] → ⊥
longer-some n [] h e = absurd (omega arith)
longer-some n (x ∷ bytes) h e = cc

pub risen-later : (a b c : ℕ) → HasRisen a b → b ≤ c → HasRisen a c
risen-later a b c (inl h) le = inl (omega (arith, h, le))
risen-later a b c (inr h) le = inr (omega (arith, h, le))

pub risen-earlier : (a b c : ℕ) → a ≤ b → HasRisen b c → HasRisen a c
risen-earlier a b c le (inl h) = inl (omega (arith, h, le))
risen-earlier a b c le (inr h) = inr h

prefix_within : (x : List ℕ) (n : ℕ) → take (length (take n x)) x ≡ take n x
prefix_within x n = ap (take (length (take n x))) (sym (take-append-drop n x)) ∙ take-append_seam (take n x) (drop n x)

-- a prefix of the front of a text
pub appends-front : (a b : Option (List ℕ)) (x y : List ℕ) → ((n : ℕ) × Appends a b (take n x)) → (m : ℕ) × Appends a b (take m (x ++ y))
appends-front a b x y h =
    let n = h.0 in
    let short : length (take n x) ≤ length x = let e = length-take n x in grind (arith, e) in
    (length (take n x), subst (Appends a b) (sym (take-append-le (length (take n x)) x y short ∙ prefix_within x n)) h.1)

-- the front of a text, and a prefix of the rest
pub appends-behind : (a b c : Option (List ℕ)) (x y : List ℕ) → Appends a b x → ((n : ℕ) × Appends b c (take n y)) → (m : ℕ) × Appends a c (take m (x ++ y))
appends-behind a b c x y h k = (length x + k.0, subst (Appends a c) (sym (take-append-add x y k.0)) (appends-both a b c x (take k.0 y) h k.1))

-- the same of a text that is a front and a rest
pub appends-front_of : (a b : Option (List ℕ)) (text x y : List ℕ) → text ≡ x ++ y → ((n : ℕ) × Appends a b (take n x)) → (m : ℕ) × Appends a b (take m text)
appends-front_of a b text x y e h = subst (λ t. (m : ℕ) × Appends a b (take m t)) (sym e) (appends-front a b x y h)

pub appends-behind_of : (a b c : Option (List ℕ)) (text x y : List ℕ) → text ≡ x ++ y → Appends a b x → ((n : ℕ) × Appends b c (take n y)) → (m : ℕ) × Appends a c (take m text)
appends-behind_of a b c text x y e h k = subst (λ t. (m : ℕ) × Appends a c (take m t)) (sym e) (appends-behind a b c x y h k)

pub ruleset appending = (appends-none, appends-more, longer-some, risen-later, risen-earlier)
