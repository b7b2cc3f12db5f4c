-- What one more place changes in the tables of labels. held-push: the places that are named; place-put, place-kept, offset-put,
-- offset-kept: the numbers; labels-push: the tables number one place more.
use Rattle.std.proofs.Common.{◌≡◌, ℕ, ◌+◌, Bool, true, false, ◌&&◌, ◌||◌, cond, List, [], ◌∷◌, ◌++◌, length, refl, Option, Some, None, sym, ap, ◌∙◌, arith, suc, nat_eq, add-zero, Less, Equal, Greater, is_some}
use Rattle.std.specs.declared.cmp.Ordering.{Ordering}
use Rattle.std.specs.Ordering.{nat_cmp, ordering_then, is_eq}
use Rattle.std.specs.BTreeMap as maps
use Rattle.std.specs.BTreeMap.{is_at}
use Rattle.std.specs.BTreeSet as sets
use Rattle.std.proofs.Math.Bool.{or-false}
use Rattle.std.proofs.lemmas.Bool.Decides.{nat_tests}
use Rattle.std.proofs.lemmas.List.{length-append}
use Rattle.st_line.specs.declared.source.Target.{Target}
use Rattle.st_line.specs.declared.source.Target.TheVariants as targets
use Rattle.st_print.specs.declared.spots.Named.{Named}
use Rattle.st_print.specs.declared.labels.Labels.{Labels}
use Rattle.st_print.specs.Spots.{is_spot, number_from, spot_number}
use Rattle.st_print.specs.Canonical.{names_data, is_in_data}
use Rattle.st_print.specs.Numbering.{place_cmp, is_held, number_of, AreLabels}

-- ---- keys and places

pub is_at-offset : (m n : ℕ) → is_at (nat_cmp m) n ≡ nat_eq n m
is_at-offset m n = grind (arith, nat_tests)

is_eq-then : (a b : Ordering) → is_eq (ordering_then a b) ≡ (is_eq a && is_eq b)
is_eq-then Less b = refl
is_eq-then Equal b = refl
is_eq-then Greater b = refl

pub is_at-place : (f i g j : ℕ) → is_at (place_cmp (f, i)) (g, j) ≡ is_spot (targets.Place g j) (targets.Place f i)
is_at-place f i g j = is_eq-then (nat_cmp f g) (nat_cmp i j) ∙ ap (λ t. t && is_eq (nat_cmp i j)) (is_at-offset f g) ∙ ap (λ t. nat_eq g f && t) (is_at-offset i j)

-- ---- the places that are named

or_added : (b x : Bool) → cond b true x ≡ (x || b)
or_added true true = refl
or_added true false = refl
or_added false x = sym (or-false x)

pub held-place : (old new : Named) (f i : ℕ) (to : Target) → to ≡ targets.Place f i → ((q : ℕ × ℕ) → sets.contains place_cmp new.places q ≡ cond (is_at (place_cmp (f, i)) q) true (sets.contains place_cmp old.places q)) → ((n : ℕ) → sets.contains nat_cmp new.offsets n ≡ sets.contains nat_cmp old.offsets n) → (spot : Target) → is_held new spot ≡ (is_held old spot || is_spot spot to)
held-place old new f i to e h k (targets.Place g j) =
    h (g, j) ∙ ap (λ b. cond b true (sets.contains place_cmp old.places (g, j))) (is_at-place f i g j) ∙ or_added (is_spot (targets.Place g j) (targets.Place f i)) (sets.contains place_cmp old.places (g, j)) ∙ ap (λ t. sets.contains place_cmp old.places (g, j) || is_spot (targets.Place g j) t) (sym e)
held-place old new f i to e h k (targets.Data n) = k n ∙ sym (or-false (sets.contains nat_cmp old.offsets n)) ∙ ap (λ t. sets.contains nat_cmp old.offsets n || is_spot (targets.Data n) t) (sym e)
held-place old new f i to e h k (targets.Name x) = refl

pub held-offset : (old new : Named) (m : ℕ) (to : Target) → to ≡ targets.Data m → ((q : ℕ × ℕ) → sets.contains place_cmp new.places q ≡ sets.contains place_cmp old.places q) → ((n : ℕ) → sets.contains nat_cmp new.offsets n ≡ cond (is_at (nat_cmp m) n) true (sets.contains nat_cmp old.offsets n)) → (spot : Target) → is_held new spot ≡ (is_held old spot || is_spot spot to)
held-offset old new m to e h k (targets.Place g j) = h (g, j) ∙ sym (or-false (sets.contains place_cmp old.places (g, j))) ∙ ap (λ t. sets.contains place_cmp old.places (g, j) || is_spot (targets.Place g j) t) (sym e)
held-offset old new m to e h k (targets.Data n) =
    k n ∙ ap (λ b. cond b true (sets.contains nat_cmp old.offsets n)) (is_at-offset m n) ∙ or_added (is_spot (targets.Data n) (targets.Data m)) (sets.contains nat_cmp old.offsets n) ∙ ap (λ t. sets.contains nat_cmp old.offsets n || is_spot (targets.Data n) t) (sym e)
held-offset old new m to e h k (targets.Name x) = refl

-- ---- numbers

-- the first number, or else the second
abbrev pub or_number : Option ℕ → Option ℕ → Option ℕ
or_number None b = b
or_number (Some k) b = Some k

or_none : (a : Option ℕ) → a ≡ or_number a None
or_none None = refl
or_none (Some k) = refl

number_from-push : (k : ℕ) (s t : Target) (spots : List Target) → number_from k s (spots ++ t ∷ []) ≡ or_number (number_from k s spots) (cond (is_spot s t) (Some (k + length spots)) None)
number_from-push k s t [] = ap (λ n. cond (is_spot s t) (Some n) None) (sym (add-zero k))
number_from-push k s t (x ∷ spots) =
    let same : (k + 1) + length spots ≡ k + suc (length spots) = omega arith in
    elim (is_spot s x) as (λ b. cond b (Some k) (number_from (k + 1) s (spots ++ t ∷ [])) ≡ or_number (cond b (Some k) (number_from (k + 1) s spots)) (cond (is_spot s t) (Some (k + suc (length spots))) None)) [
      | true ↦ refl
      | false ↦ number_from-push (k + 1) s t spots ∙ ap (λ n. or_number (number_from (k + 1) s spots) (cond (is_spot s t) (Some n) None)) same
    ]

names_data-push : (spots : List Target) (t : Target) → names_data (spots ++ t ∷ []) ≡ (names_data spots || is_in_data t)
names_data-push [] t = or-false (is_in_data t)
names_data-push (x ∷ spots) t =
    elim (is_in_data x) as (λ b. (b || names_data (spots ++ t ∷ [])) ≡ ((b || names_data spots) || is_in_data t)) [ true ↦ refl | false ↦ names_data-push spots t ]

-- the tables number one place more: the others keep their numbers, and a place that had one keeps it
pub labels-push : (old new : Labels) (t : Target) → ((s : Target) → number_of new s ≡ or_number (number_of old s) (cond (is_spot s t) (Some old.count) None)) → new.count ≡ old.count + 1 → new.in_data ≡ (old.in_data || is_in_data t) → (spots : List Target) → AreLabels old spots → AreLabels new (spots ++ t ∷ [])
labels-push old new t h c d spots are = record {
  numbers = λ s. h s ∙ ap (λ n. or_number n (cond (is_spot s t) (Some old.count) None)) (are.numbers s) ∙ ap (λ n. or_number (spot_number spots s) (cond (is_spot s t) (Some n) None)) (are.count ∙ omega arith) ∙ sym (number_from-push 0 s t spots);
  count = c ∙ ap (λ n. n + 1) are.count ∙ sym (length-append spots (t ∷ []));
  in_data = d ∙ ap (λ b. b || is_in_data t) are.in_data ∙ sym (names_data-push spots t);
}

-- a place that had no number gets one
chosen : (b : Bool) (o : Option ℕ) (n : ℕ) → (b ≡ true → o ≡ None) → cond b (Some n) o ≡ or_number o (cond b (Some n) None)
chosen true o n h = ap (λ t. or_number t (Some n)) (sym (h refl))
chosen false o n h = or_none o

-- a place that had a number keeps it
kept : (b : Bool) (o : Option ℕ) (n : ℕ) → (b ≡ true → is_some o ≡ true) → o ≡ or_number o (cond b (Some n) None)
kept true None n h = let no : false ≡ true = h refl in cc
kept true (Some k) n h = refl
kept false o n h = or_none o

none_of : (o : Option ℕ) → is_some o ≡ false → o ≡ None
none_of None h = refl
none_of (Some k) h = cc

same_place : (f i g j : ℕ) → is_spot (targets.Place g j) (targets.Place f i) ≡ true → (g ≡ f) × (j ≡ i)
same_place f i g j h = grind (arith, nat_tests)

pub place-put : (old new : Labels) (f i : ℕ) → is_some (maps.get place_cmp old.places (f, i)) ≡ false → ((q : ℕ × ℕ) → maps.get place_cmp new.places q ≡ cond (is_at (place_cmp (f, i)) q) (Some old.count) (maps.get place_cmp old.places q)) → ((n : ℕ) → maps.get nat_cmp new.offsets n ≡ maps.get nat_cmp old.offsets n) → (s : Target) → number_of new s ≡ or_number (number_of old s) (cond (is_spot s (targets.Place f i)) (Some old.count) None)
place-put old new f i none h k (targets.Place g j) =
    h (g, j)
    ∙ ap (λ b. cond b (Some old.count) (maps.get place_cmp old.places (g, j))) (is_at-place f i g j)
    ∙ chosen (is_spot (targets.Place g j) (targets.Place f i)) _ _ (λ e. let same = same_place f i g j e in ap (λ n. maps.get place_cmp old.places (n, j)) same.0 ∙ ap (λ n. maps.get place_cmp old.places (f, n)) same.1 ∙ none_of _ none)
place-put old new f i none h k (targets.Data n) = k n ∙ or_none _
place-put old new f i none h k (targets.Name x) = refl

pub place-kept : (old new : Labels) (f i : ℕ) → is_some (maps.get place_cmp old.places (f, i)) ≡ true → ((q : ℕ × ℕ) → maps.get place_cmp new.places q ≡ maps.get place_cmp old.places q) → ((n : ℕ) → maps.get nat_cmp new.offsets n ≡ maps.get nat_cmp old.offsets n) → (s : Target) → number_of new s ≡ or_number (number_of old s) (cond (is_spot s (targets.Place f i)) (Some old.count) None)
place-kept old new f i some h k (targets.Place g j) =
    h (g, j) ∙ kept (is_spot (targets.Place g j) (targets.Place f i)) _ _ (λ e. let same = same_place f i g j e in ap (λ n. is_some (maps.get place_cmp old.places (n, j))) same.0 ∙ ap (λ n. is_some (maps.get place_cmp old.places (f, n))) same.1 ∙ some)
place-kept old new f i some h k (targets.Data n) = k n ∙ or_none _
place-kept old new f i some h k (targets.Name x) = refl

same_offset : (m n : ℕ) → is_spot (targets.Data n) (targets.Data m) ≡ true → n ≡ m
same_offset m n h = grind (arith, nat_tests)

pub offset-put : (old new : Labels) (m : ℕ) → is_some (maps.get nat_cmp old.offsets m) ≡ false → ((q : ℕ × ℕ) → maps.get place_cmp new.places q ≡ maps.get place_cmp old.places q) → ((n : ℕ) → maps.get nat_cmp new.offsets n ≡ cond (is_at (nat_cmp m) n) (Some old.count) (maps.get nat_cmp old.offsets n)) → (s : Target) → number_of new s ≡ or_number (number_of old s) (cond (is_spot s (targets.Data m)) (Some old.count) None)
offset-put old new m none h k (targets.Place g j) = h (g, j) ∙ or_none _
offset-put old new m none h k (targets.Data n) =
    k n
    ∙ ap (λ b. cond b (Some old.count) (maps.get nat_cmp old.offsets n)) (is_at-offset m n)
    ∙ chosen (is_spot (targets.Data n) (targets.Data m)) _ _ (λ e. ap (λ x. maps.get nat_cmp old.offsets x) (same_offset m n e) ∙ none_of _ none)
offset-put old new m none h k (targets.Name x) = refl

pub offset-kept : (old new : Labels) (m : ℕ) → is_some (maps.get nat_cmp old.offsets m) ≡ true → ((q : ℕ × ℕ) → maps.get place_cmp new.places q ≡ maps.get place_cmp old.places q) → ((n : ℕ) → maps.get nat_cmp new.offsets n ≡ maps.get nat_cmp old.offsets n) → (s : Target) → number_of new s ≡ or_number (number_of old s) (cond (is_spot s (targets.Data m)) (Some old.count) None)
offset-kept old new m some h k (targets.Place g j) = h (g, j) ∙ or_none _
offset-kept old new m some h k (targets.Data n) =
    k n ∙ kept (is_spot (targets.Data n) (targets.Data m)) _ _ (λ e. ap (λ x. is_some (maps.get nat_cmp old.offsets x)) (same_offset m n e) ∙ some)
offset-kept old new m some h k (targets.Name x) = refl
