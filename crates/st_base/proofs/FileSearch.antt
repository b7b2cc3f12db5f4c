-- The first file of a name, looked for from a place on.
use Rattle.std.proofs.Common.{◌≡◌, ℕ, suc, ◌∷◌, ◌+◌, ◌<◌, ◌≤◌, List, length, map, get_or, drop, true, false, Some, None, refl, ap, sym, ◌∙◌, add-one, drop-cons}
use Rattle.std.proofs.lemmas.List.{drop_all}
use Rattle.std.specs.Prelude.{nat_eq}
use Rattle.std.specs.Cmp.Lexicographic.{pointwise}
use Rattle.st_base.specs.OutsideMemory.{file_named}

-- the rest of the files from a place on begins with the item there
rest_from : {A : Type 0} (view : A → List ℕ × List ℕ) (files : List A) (name : List ℕ) (i : ℕ) (item : A) → i < length files → item ≡ get_or files i item → file_named (map view (drop i files)) name ≡ file_named (map view (item ∷ drop (i + 1) files)) name
rest_from view files name i item h is =
    let first : get_or files i item ∷ drop (suc i) files ≡ item ∷ drop (suc i) files = ap (λ x. x ∷ drop (suc i) files) (sym is) in
    rw (add-one i) (ap (λ rest. file_named (map view rest) name) (drop-cons files i item h ∙ first))

pub file_here : {A : Type 0} (view : A → List ℕ × List ℕ) (files : List A) (name : List ℕ) (i : ℕ) (item : A) → i < length files → item ≡ get_or files i item → pointwise nat_eq (view item).0 name ≡ true → file_named (map view (drop i files)) name ≡ Some (view item).1
file_here view files name i item h is e = rest_from view files name i item h is ∙ rw e refl

pub file_later : {A : Type 0} (view : A → List ℕ × List ℕ) (files : List A) (name : List ℕ) (i : ℕ) (item : A) → i < length files → item ≡ get_or files i item → pointwise nat_eq (view item).0 name ≡ false → file_named (map view (drop i files)) name ≡ file_named (map view (drop (i + 1) files)) name
file_later view files name i item h is e = rest_from view files name i item h is ∙ rw e refl

pub file_none : {A : Type 0} (view : A → List ℕ × List ℕ) (files : List A) (name : List ℕ) (i : ℕ) → length files ≤ i → file_named (map view (drop i files)) name ≡ None
file_none view files name i h = rw (drop_all i files h) refl
